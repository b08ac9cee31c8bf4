use Rattle.std.proofs.Common.{◌≡◌, ◌++◌, drop}
use Rattle.std.specs.List.{filter}
use Rattle.lint_core.specs.Naming.{names}
use Rattle.sql_meaning.specs.Behind.{behind}
use Rattle.sql_meaning.proofs.clauses.naming.Given as goal

abbrev pub invariant-loop-cond : goal.invariant-loop-cond
invariant-loop-cond l = behind l.found.items ++ filter (names l.entry) (behind (drop l.cond-index l.conds)) ≡ filter (names l.entry) (behind l.conds)
