use Rattle.std.proofs.Common.{◌≡◌, ◌++◌, drop}
use Rattle.std.specs.List.{filter}
use Rattle.std.specs.Prelude.{not}
use Rattle.lint_core.specs.Naming.{names}
use Rattle.sql_meaning.specs.Behind.{behind}
use Rattle.sql_meaning.proofs.clauses.not_naming.Given as goal

abbrev pub invariant-loop-cond : goal.invariant-loop-cond
invariant-loop-cond l = behind l.found.items ++ filter (λ c. not (names l.entry c)) (behind (drop l.cond-index l.conds)) ≡ filter (λ c. not (names l.entry c)) (behind l.conds)
