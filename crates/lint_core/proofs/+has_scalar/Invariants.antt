use Rattle.std.proofs.Common.{◌≡◌, drop}
use Rattle.std.specs.List.{list_any}
use Rattle.lint_core.specs.Naming.{has_scalar}
use Rattle.lint_core.proofs.+has_scalar.Given as goal

-- none so far has one
abbrev pub invariant-naming::some_has_scalar-loop-cond : goal.invariant-naming::some_has_scalar-loop-cond
invariant-naming::some_has_scalar-loop-cond l = list_any has_scalar (drop l.cond-index l.conds) ≡ list_any has_scalar l.conds
