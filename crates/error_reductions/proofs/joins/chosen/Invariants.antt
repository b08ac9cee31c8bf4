use Rattle.std.proofs.Common.{◌≡◌, ◌++◌, drop}
use Rattle.std.specs.List.{filter}
use Rattle.sql_meaning.specs.Behind.{behind}
use Rattle.error_reductions.specs.inner.Parts.{is_chosen}
use Rattle.error_reductions.proofs.joins.chosen.Given as goal

abbrev pub invariant-loop-cond : goal.invariant-loop-cond
invariant-loop-cond l = behind l.found.items ++ filter (is_chosen l.entry l.named) (behind (drop l.cond-index l.conds)) ≡ filter (is_chosen l.entry l.named) (behind l.conds)
