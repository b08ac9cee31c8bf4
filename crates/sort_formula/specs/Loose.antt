-- The loose interpretation of a question: points refute it loosely where its clause holds with 'the formula of the
-- condition holds' in place of 'the condition is true'. It is decided at all points. In databases of the domains it
-- agrees with the truths wherever those that the clause needs exist.
use Rattle.std.specs.Prelude.{ℕ, Bool, List, map}
use Rattle.std.specs.Prelude.{Ok}
use Rattle.std.specs.List.{zip}
use Rattle.lint_core.specs.declared.database.Database.{Database}
use Rattle.lint_core.specs.declared.database.Points.{Points}
use Rattle.lint_core.specs.declared.database.Value.{Value}
use Rattle.lint_core.specs.declared.query.Query.{Query}
use Rattle.lint_core.specs.declared.query.Question.{Question}
use Rattle.lint_core.specs.declared.schema.Table.{Table}
use Rattle.lint_core.specs.Database.{Place}
use Rattle.lint_core.specs.Question.{Interpretation, outcome_by, is_known_true}
use Rattle.lint_core.specs.Truth.{truth_of}
use Rattle.sort_formula.specs.Holds.{holds}
use Rattle.sort_formula.specs.Sides.{all_of, scope_of}
use Rattle.sort_formula.specs.Translation.{is_true_formula}

-- the rows of all entries, level by level
abbrev pub rows_at : List (List ℕ) → List (List ℕ) → List Place
rows_at tables binding = map (λ pair. record { table = pair.0; row = pair.1 }) (zip (all_of tables) (all_of binding))

abbrev pub by_formula : List Table → Database → Interpretation
by_formula schema db cond tables binding = Ok (truth_of (holds db (is_true_formula schema cond (scope_of tables)) (rows_at tables binding)))

abbrev pub refutes_loosely : List Table → Database → Query → Question → Value → Points → Bool
refutes_loosely schema db query question given points = is_known_true (outcome_by db query (by_formula schema db) question given points)
