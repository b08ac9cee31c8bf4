use Rattle.std.proofs.Common.{◌≡◌, ℕ, drop, map, false}
use Rattle.lint_core.specs.Database.{below}
use Rattle.lint_core.specs.Evaluation.{Evaluated}
use Rattle.lint_core.specs.Question.{are_true_with}
use Rattle.std.specs.Prelude.{Bool}
use Rattle.sql_meaning.proofs.ClauseParts.{none_of}
use Rattle.sql_meaning.specs.Behind.{behind}
use Rattle.sql_meaning.proofs.clauses.Main.none_fits.Given as goal

abbrev pub invariant-loop-row : goal.invariant-loop-row
invariant-loop-row l =
    let at : ℕ → Evaluated Bool = λ row. are_true_with l.self.database.now l.self.query.now l.entry l.others row (behind l.conds) in
    none_of l.some (map at (drop l.row (below l.row-end))) ≡ none_of false (map at (below l.row-end))
