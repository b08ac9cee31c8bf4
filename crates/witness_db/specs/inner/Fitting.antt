-- How the points of a counter are found: how many rows lead, and for a needless join which two rows of the entry fit.
use Rattle.std.specs.Prelude.{◌≡◌, ℕ, suc, ◌+◌, sum, List, [], ◌∷◌, ◌++◌, length, map, remove, Option, None, slice_get}
use Rattle.std.specs.Option.{option_map, option_map_or}
use Rattle.lint_core.specs.declared.database.Points.{Points}
use Rattle.lint_core.specs.declared.database.Points.TheVariants.{One, Two}
use Rattle.lint_core.specs.declared.query.Query.{Query}
use Rattle.lint_core.specs.declared.query.Question.{Question}
use Rattle.lint_core.specs.declared.query.Question.TheVariants.{OneRow, Empty, NeedlessDistinct, Constant, Duplicate, NeedlessJoin, Implied, Impossible, SameRow, NullInNotIn}
use Rattle.lint_core.specs.declared.schema.Table.{Table}
use Rattle.lint_core.specs.Asked.{main_entries, scalars_of, not_ins_of}
use Rattle.lint_core.specs.Fits.{tables_of}
use Rattle.lint_core.specs.Subqueries.{Subquery}
use Rattle.sort_formula.specs.CounterPoints.{binding_of, second_binding, points_of}
use Rattle.sort_formula.specs.Counters.{last_level}
use Rattle.sort_formula.specs.Nodes.{nodes}
use Rattle.sort_formula.specs.Sides.{all_of}
use Rattle.counter_laws.specs.Joins.{no_row_formula, without_formulas}
use Rattle.sorted_skolem.specs.declared.term.RowTerm.{RowTerm}
use Rattle.instantiate.specs.Plain.{plain_row}
use Rattle.witness_db.specs.Leading.{leading_places, place_for, place_of}

abbrev pub two_bindings : List (List ℕ) → List ℕ → Points
two_bindings tables places = Two (binding_of tables places) (second_binding tables places)

abbrev pub one_binding : List (List ℕ) → List ℕ → Points
one_binding tables places = One (binding_of tables places)

module _ (query : Query) where
  abbrev pub own : List ℕ
  own = tables_of (main_entries query)

  -- the tables of the leading rows
  abbrev pub lead_of : Question → List ℕ
  lead_of (OneRow sub) = option_map_or (λ (s : Subquery). all_of s.tables ++ last_level s.tables) (slice_get (scalars_of query) sub) []
  lead_of Empty = own
  lead_of NeedlessDistinct = own ++ own
  lead_of (Constant item) = own
  lead_of (Duplicate item other) = own
  lead_of (NeedlessJoin entry) = remove own entry
  lead_of (Implied predicate) = own
  lead_of (Impossible predicate) = own
  lead_of (SameRow entry other) = own
  lead_of (NullInNotIn sub) = option_map_or (λ (s : Subquery). all_of s.tables) (slice_get (not_ins_of query) sub) []

  abbrev pub ArePoints : List RowTerm → List (Option ℕ) → Option (ℕ × ℕ) → Question → Points → Type 0
  ArePoints terms places fitting question points = points ≡ points_of query question (leading_places terms places (length (lead_of question))) fitting

-- the places of two rows, for which a node and the next one ask; none where there is no row of the first
abbrev pub two_places : List RowTerm → List (Option ℕ) → ℕ → Option (ℕ × ℕ)
two_places terms places node =
    option_map (λ (row : ℕ). (row, place_for places (plain_row terms 0 (suc node)))) (place_of places (plain_row terms 0 node))

module _ (schema : List Table) (query : Query) where
  -- the node of the two rows of the entry, behind that which says that no row fits
  abbrev pub pair_node : ℕ → ℕ
  pair_node entry =
      length (remove (own query) entry) + 2 + sum (map nodes (without_formulas schema query entry)) + sum (map nodes (no_row_formula schema query entry ∷ []))

  abbrev pub fitting_of : List RowTerm → List (Option ℕ) → Question → Option (ℕ × ℕ)
  fitting_of terms places (OneRow sub) = None
  fitting_of terms places Empty = None
  fitting_of terms places NeedlessDistinct = None
  fitting_of terms places (Constant item) = None
  fitting_of terms places (Duplicate item other) = None
  fitting_of terms places (NeedlessJoin entry) = two_places terms places (pair_node entry)
  fitting_of terms places (Implied predicate) = None
  fitting_of terms places (Impossible predicate) = None
  fitting_of terms places (SameRow entry other) = None
  fitting_of terms places (NullInNotIn sub) = None
