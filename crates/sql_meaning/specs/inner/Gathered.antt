-- What a subquery selects, row by row.
use Rattle.std.specs.Prelude.{ℕ, List, [], ◌∷◌, ◌++◌, length, Result, Ok, Err, if◌then◌else◌}
use Rattle.lint_core.specs.declared.condition.Term.{Term}
use Rattle.lint_core.specs.declared.database.Database.{Database}
use Rattle.lint_core.specs.declared.database.Value.{Value}
use Rattle.lint_core.specs.Condition.{Meaning, term_value}
use Rattle.lint_core.specs.Database.{rows_of, below}
use Rattle.lint_core.specs.Evaluation.{Evaluated, and_then, map_ok}
use Rattle.lint_core.specs.Truth.{is_true}
use Rattle.sql_meaning.specs.declared.stop.TruthStop.{TruthStop}

-- what an answer stands for
abbrev pub answer : {A B : Type 0} → (A → B) → Result A TruthStop → Result B TruthStop
answer f (Ok a) = Ok (f a)
answer f (Err stop) = Err stop

-- one list and then the other
abbrev pub joined : {A : Type 0} → Evaluated (List A) → Evaluated (List A) → Evaluated (List A)
joined first later = and_then (λ xs. map_ok (λ ys. xs ++ ys) later) first

-- those of each number in turn
abbrev pub gathered_over : (ℕ → Evaluated (List Value)) → List ℕ → Evaluated (List Value)
gathered_over at [] = Ok []
gathered_over at (row ∷ rows) = joined (at row) (gathered_over at rows)

-- of a term in a block, by the tables of all levels, the binding outside the block and the block's condition
module _ (db : Database) (item : Term) (tables binding : List (List ℕ)) (cond : Meaning) where
  -- at one list of row places
  abbrev pub gathered_at : List ℕ → Evaluated (List Value)
  gathered_at rows =
      map_ok (λ truth. if is_true truth then term_value db tables (binding ++ rows ∷ []) item ∷ [] else [])
      (cond tables (binding ++ rows ∷ []))

  -- at each list that begins with these row places, with one more for each of the other tables
  abbrev pub gathered : List ℕ → List ℕ → Evaluated (List Value)
  gathered rows [] = gathered_at rows
  gathered rows (table ∷ others) = gathered_over (λ row. gathered (rows ++ row ∷ []) others) (below (length (rows_of db table)))
