-- Which row terms the leading Exists of a problem's first sentence ask for, and the points that their places make. A counter sentence
-- leads with one Exists for each row of the points. That of a needless join has, deeper in its body, two Exists more, for two rows of
-- the entry that fit; where the first of them is not taken, no row fits.
use Rattle.std.specs.Prelude.{◌≡◌, ℕ, true, List, length, map, Option, slice_get, option_and_then, unwrap_or}
use Rattle.lint_core.specs.declared.database.Counter.{Counter}
use Rattle.lint_core.specs.declared.database.Value.{Value}
use Rattle.lint_core.specs.declared.query.Query.{Query}
use Rattle.lint_core.specs.declared.query.Question.{Question}
use Rattle.lint_core.specs.declared.schema.Table.{Table}
use Rattle.lint_core.specs.Database.{below}
use Rattle.sort_formula.specs.CounterPoints.{are_there, points_of}
use Rattle.sort_formula.specs.Counters.{counter}
use Rattle.sorted_skolem.specs.declared.term.RowTerm.{RowTerm}
use Rattle.ground_theory.specs.declared.literal.Assignment.{Assignment}
use Rattle.instantiate.specs.declared.problem.Problem.{Problem}
use Rattle.instantiate.specs.Cases.{IsDatabaseOf}
use Rattle.instantiate.specs.Plain.{plain_row}

-- the place of a row term, if it has one
abbrev pub place_of : List (Option ℕ) → ℕ → Option ℕ
place_of places row = option_and_then (λ (o : Option ℕ). o) (slice_get places row)

-- and 0 of one that has none
abbrev pub place_for : List (Option ℕ) → ℕ → ℕ
place_for places row = unwrap_or (place_of places row) 0

-- those of the row terms for which the first nodes of the first sentence ask, so many
abbrev pub leading_places : List RowTerm → List (Option ℕ) → ℕ → List ℕ
leading_places terms places count = map (λ node. place_for places (plain_row terms 0 node)) (below count)

-- the database is that of the full case, and the points are made of the places of the leading row terms, for a needless join perhaps
-- with those of two rows of the entry
pub record IsCounterOf (schema : List Table) (query : Query) (question : Question) (given : Value) (problem : Problem) (choices : List (Option ℕ))
    (a : Assignment) (found : Counter) : Type 0 where
  pub places : List (Option ℕ)
  pub rows : IsDatabaseOf problem choices a found.database places
  pub fitting : Option (ℕ × ℕ)
  pub there : are_there query found.database question fitting ≡ true
  pub points : found.points ≡ points_of query question (leading_places problem.rows.terms places (length (counter schema query question given).lead)) fitting
