use Rattle.std.proofs.Common.{◌≡◌, drop}
use Rattle.std.specs.List.{list_any}
use Rattle.lint_core.specs.Naming.{names}
use Rattle.lint_core.proofs.+names.Given as goal

-- none so far names the entry
abbrev pub invariant-naming::some_names-loop-cond : goal.invariant-naming::some_names-loop-cond
invariant-naming::some_names-loop-cond l = list_any (names l.entry) (drop l.cond-index l.conds) ≡ list_any (names l.entry) l.conds
