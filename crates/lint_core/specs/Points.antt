-- The points at which a question may fail: one binding, two bindings, or one binding of all main
-- entries but one. A point exists
-- where each of its places has a row.
use Rattle.std.specs.Prelude.{ℕ, Bool, true, false, ◌&&◌, not, nat_eq, nat_lt, List, [], ◌∷◌, length, slice_get, unwrap_or}
use Rattle.std.specs.Prelude.{insert, remove}
use Rattle.std.specs.Cmp.Lexicographic.{pointwise}
use Rattle.lint_core.specs.declared.database.Database.{Database}
use Rattle.lint_core.specs.Fits.{at_entry}
use Rattle.lint_core.specs.Database.{rows_of}

-- one existing row of its table for each entry
abbrev pub are_rows : Database → List ℕ → List ℕ → Bool
are_rows db [] [] = true
are_rows db [] (row ∷ rows) = false
are_rows db (table ∷ tables) [] = false
are_rows db (table ∷ tables) (row ∷ rows) = nat_lt row (length (rows_of db table)) && are_rows db tables rows

-- alike for each level
abbrev pub is_binding : Database → List (List ℕ) → List (List ℕ) → Bool
is_binding db [] [] = true
is_binding db [] (rows ∷ levels) = false
is_binding db (tables ∷ more) [] = false
is_binding db (tables ∷ more) (rows ∷ levels) = are_rows db tables rows && is_binding db more levels

-- the same places
abbrev pub are_same_rows : List ℕ → List ℕ → Bool
are_same_rows rows others = pointwise nat_eq rows others

abbrev pub is_same_binding : List (List ℕ) → List (List ℕ) → Bool
is_same_binding binding other = pointwise are_same_rows binding other

-- the same levels but for the last, and another last one
abbrev pub differ_in_last_level : List (List ℕ) → List (List ℕ) → Bool
differ_in_last_level [] other = false
differ_in_last_level (rows ∷ levels) [] = false
differ_in_last_level (rows ∷ []) (others ∷ []) = not (are_same_rows rows others)
differ_in_last_level (rows ∷ []) (others ∷ more ∷ most) = false
differ_in_last_level (rows ∷ level ∷ levels) (others ∷ more) = are_same_rows rows others && differ_in_last_level (level ∷ levels) more

-- the places of the main entries
abbrev pub main_rows : List (List ℕ) → List ℕ
main_rows binding = unwrap_or (slice_get binding 0) []

-- the same places but for that of one main entry, and another there
abbrev pub differ_in_entry : ℕ → List (List ℕ) → List (List ℕ) → Bool
differ_in_entry entry binding other =
    are_same_rows (remove (main_rows binding) entry) (remove (main_rows other) entry)
    && not (are_same_rows (main_rows binding) (main_rows other))

-- the binding of all main entries, from the places of the others and that of one
abbrev pub with_row : ℕ → ℕ → List (List ℕ) → List (List ℕ)
with_row entry row binding = insert (main_rows binding) entry row ∷ []

-- two main entries have one place
abbrev pub is_same_row : List (List ℕ) → ℕ → ℕ → Bool
is_same_row binding entry other = nat_eq (unwrap_or (at_entry binding 0 entry) 0) (unwrap_or (at_entry binding 0 other) 0)
