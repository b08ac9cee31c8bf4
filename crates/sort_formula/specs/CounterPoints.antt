-- The points that the leading rows of a counter sentence make, from the places of these rows: one for each table of
-- the lead, in order. A needless join has two kinds of points: where no row of the entry fits there is none more,
-- where two fit they are given.
use Rattle.std.specs.Prelude.{ℕ, Bool, true, ◌&&◌, not, nat_eq, nat_lt, List, [], ◌∷◌, ◌++◌, length, take, drop, Option, Some, None, slice_get, remove, insert}
use Rattle.std.specs.List.{list_any, zip}
use Rattle.std.specs.Option.{option_map_or}
use Rattle.lint_core.specs.declared.database.Binding.{Binding}
use Rattle.lint_core.specs.declared.database.Database.{Database}
use Rattle.lint_core.specs.declared.database.Points.{Points}
use Rattle.lint_core.specs.declared.database.Points.TheVariants.{One, Two, Without}
use Rattle.lint_core.specs.declared.query.Query.{Query}
use Rattle.lint_core.specs.declared.query.Question.{Question}
use Rattle.lint_core.specs.declared.query.Question.TheVariants.{OneRow, Empty, NeedlessDistinct, Constant, Duplicate, NeedlessJoin, Implied, Impossible, SameRow, NullInNotIn}
use Rattle.lint_core.specs.Asked.{main_entries, scalars_of, not_ins_of}
use Rattle.lint_core.specs.Database.{rows_of}
use Rattle.lint_core.specs.Fits.{main_tables, tables_of}
use Rattle.lint_core.specs.Question.{table_of}
use Rattle.lint_core.specs.Subqueries.{Subquery}
use Rattle.sort_formula.specs.Counters.{outer_levels, last_level}
use Rattle.sort_formula.specs.Sides.{all_of}

-- somewhere the two lists have other places
abbrev pub differ_somewhere : List ℕ → List ℕ → Bool
differ_somewhere rows others = list_any (λ pair. not (nat_eq pair.0 pair.1)) (zip rows others)

-- of two bindings, that the last levels differ
abbrev pub are_apart : Points → Bool
are_apart (One one) = true
are_apart (Two one two) = differ_somewhere (last_level one.levels) (last_level two.levels)
are_apart (Without one) = true

-- the places in levels as long as these, from the first place on
abbrev pub in_levels : List (List ℕ) → List ℕ → List (List ℕ)
in_levels [] places = []
in_levels (level ∷ levels) places = take (length level) places ∷ in_levels levels (drop (length level) places)

abbrev pub binding_of : List (List ℕ) → List ℕ → Binding
binding_of tables places = record { levels = in_levels tables places }

-- the same places outside, and in the last level those behind all of the first
abbrev pub second_binding : List (List ℕ) → List ℕ → Binding
second_binding tables places = record {
  levels = in_levels (outer_levels tables) places ++ take (length (last_level tables)) (drop (length (all_of tables)) places) ∷ [];
}

module _ (query : Query) where
  abbrev pub main_binding : List ℕ → Binding
  main_binding places = binding_of (main_tables query) places

  -- of all main entries but one, and with a row of that one
  abbrev pub others_binding : ℕ → List ℕ → Binding
  others_binding entry places = binding_of (remove (tables_of (main_entries query)) entry ∷ []) places

  abbrev pub joined_binding : ℕ → List ℕ → ℕ → Binding
  joined_binding entry places row = record { levels = insert places entry row ∷ [] }

  -- (no points are made of a subquery that is not there: a binding of no level stands in)
  abbrev pub points_of : Question → List ℕ → Option (ℕ × ℕ) → Points
  points_of (OneRow sub) places fitting =
      option_map_or (λ (s : Subquery). Two (binding_of s.tables places) (second_binding s.tables places)) (slice_get (scalars_of query) sub) (One (binding_of [] places))
  points_of Empty places fitting = One (main_binding places)
  points_of NeedlessDistinct places fitting = Two (main_binding places) (main_binding (drop (length (tables_of (main_entries query))) places))
  points_of (Constant item) places fitting = One (main_binding places)
  points_of (Duplicate item other) places fitting = One (main_binding places)
  points_of (NeedlessJoin entry) places None = Without (others_binding entry places)
  points_of (NeedlessJoin entry) places (Some rows) = Two (joined_binding entry places rows.0) (joined_binding entry places rows.1)
  points_of (Implied predicate) places fitting = One (main_binding places)
  points_of (Impossible predicate) places fitting = One (main_binding places)
  points_of (SameRow entry other) places fitting = One (main_binding places)
  points_of (NullInNotIn sub) places fitting = option_map_or (λ (s : Subquery). One (binding_of s.tables places)) (slice_get (not_ins_of query) sub) (One (binding_of [] places))

  -- rows of the entry of which two fit are there
  abbrev pub are_there : Database → Question → Option (ℕ × ℕ) → Bool
  are_there db (NeedlessJoin entry) (Some rows) =
      nat_lt rows.0 (length (rows_of db (table_of db query entry))) && nat_lt rows.1 (length (rows_of db (table_of db query entry)))
  are_there db question fitting = true
