use Rattle.std.proofs.Common.{◌≡◌, drop}
use Rattle.std.specs.List.{list_any}
use Rattle.lint_core.specs.inner.ScalarWithout.{has_scalar_without}
use Rattle.lint_core.proofs.+scalar_without.Given as goal

-- none so far has one
abbrev pub invariant-asked::some_has_scalar_without-loop-cond : goal.invariant-asked::some_has_scalar_without-loop-cond
invariant-asked::some_has_scalar_without-loop-cond l =
    list_any (has_scalar_without l.entry) (drop l.cond-index l.conds) ≡ list_any (has_scalar_without l.entry) l.conds
