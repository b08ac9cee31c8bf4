-- A condition stands at the numbered scope of its tables, with the rows of a binding of these tables.
use Rattle.std.proofs.Common.{◌≡◌, ◌∙◌, ◌+◌, sym, ap, ap₂, refl, ℕ, zero, suc, List, [], ◌∷◌, ◌++◌, length, map, arith}
use Rattle.std.proofs.lemmas.List.{append_assoc, length-append}
use Rattle.std.specs.List.{zip}
use Rattle.std.specs.Prelude.{slice_get, option_and_then}
use Rattle.lint_core.specs.declared.condition.Cond.{Cond}
use Rattle.lint_core.specs.declared.database.Database.{Database}
use Rattle.lint_core.specs.Condition.{place_of}
use Rattle.lint_core.specs.Fits.{at_entry}
use Rattle.lint_core.specs.Database.{Place}
use Rattle.sort_formula.specs.Loose.{rows_at}
use Rattle.sort_formula.specs.Sides.{from_number, numbered_from, all_of, scope_of}
use Rattle.sort_formula.specs.Standpoint.{StandsFor}
use Rattle.truth_laws.proofs.Inside.{is_there, place_for, place_there, more_rows, own_row, length_places}
use Rattle.truth_laws.proofs.Outside.{length_from}
use Rattle.truth_laws.proofs.Quantified.{place_in, places_in}

-- the rows of all entries, level after level
abbrev places_at : List (List ℕ) → List (List ℕ) → List Place
places_at [] binding = []
places_at (level ∷ tables) [] = []
places_at (level ∷ tables) (rows ∷ binding) = places_in level rows ++ places_at tables binding

abbrev placed : List ℕ → List ℕ → List Place
placed tables rows = map (λ pair. place_in pair.0 pair.1) (zip tables rows)

placed_more : (own rows tables binding : List ℕ) → length rows ≡ length own → placed (own ++ tables) (rows ++ binding) ≡ places_in own rows ++ placed tables binding
placed_more [] [] tables binding same = refl
placed_more [] (row ∷ rows) tables binding same = absurd (omega (arith, same))
placed_more (table ∷ own) [] tables binding same = absurd (omega (arith, same))
placed_more (table ∷ own) (row ∷ rows) tables binding same = ap (λ places. place_in table row ∷ places) (placed_more own rows tables binding (omega (arith, same)))

rows_are : (tables binding : List (List ℕ)) → map length binding ≡ map length tables → rows_at tables binding ≡ places_at tables binding
rows_are [] [] same = refl
rows_are [] (rows ∷ binding) same = cc
rows_are (level ∷ tables) [] same = cc
rows_are (level ∷ tables) (rows ∷ binding) same =
    let first : length rows ≡ length level = cc in
    let rest : map length binding ≡ map length tables = cc in
    placed_more level rows (all_of tables) (all_of binding) first ∙ ap (λ places. places_in level rows ++ places) (rows_are tables binding rest)

length_rows : (tables binding : List (List ℕ)) → map length binding ≡ map length tables → length (places_at tables binding) ≡ length (all_of tables)
length_rows [] [] same = refl
length_rows [] (rows ∷ binding) same = cc
length_rows (level ∷ tables) [] same = cc
length_rows (level ∷ tables) (rows ∷ binding) same =
    let first : length rows ≡ length level = cc in
    let rest : map length binding ≡ map length tables = cc in
    length-append (places_in level rows) (places_at tables binding)
    ∙ (ap₂ (λ m n. m + n) (length_places level rows first) (length_rows tables binding rest)
    ∙ sym (length-append level (all_of tables)))

length_numbered : (first : ℕ) (tables : List (List ℕ)) → map length (numbered_from first tables) ≡ map length tables
length_numbered first [] = refl
length_numbered first (level ∷ tables) = ap₂ (λ n ns. n ∷ ns) (length_from first (length level)) (length_numbered (first + length level) tables)

module _ (db : Database) where
  -- the variables from a number on have the rows that stand behind so many others
  row_is : (before : List Place) (first : ℕ) → length before ≡ first → (tables binding : List (List ℕ)) → map length binding ≡ map length tables → (level entry : ℕ) →
      option_and_then (slice_get (before ++ places_at tables binding)) (at_entry (numbered_from first tables) level entry) ≡ place_of db tables binding level entry
  row_is before first long [] [] same level entry = refl
  row_is before first long [] (rows ∷ binding) same level entry = cc
  row_is before first long (own ∷ tables) [] same level entry = cc
  row_is before first long (own ∷ tables) (rows ∷ binding) same zero entry =
      let here : length rows ≡ length own = cc in
      let variable = slice_get (from_number first (length own)) entry in
      ap (λ places. option_and_then (slice_get places) variable) (sym (append_assoc before (places_in own rows) (places_at tables binding)))
      ∙ more_rows variable (before ++ places_in own rows) (places_at tables binding) (place_for (slice_get own entry) (slice_get rows entry))
      (place_there (slice_get own entry) (slice_get rows entry) (is_there rows own entry here) ∙ is_there own (from_number first (length own)) entry (sym (length_from first (length own))))
      (ap (λ n. option_and_then (slice_get (before ++ places_in own rows)) (slice_get (from_number n (length own)) entry)) (sym long) ∙ own_row before own rows entry)
  row_is before first long (own ∷ tables) (rows ∷ binding) same (suc level) entry =
      let here : length rows ≡ length own = cc in
      let rest : map length binding ≡ map length tables = cc in
      ap (λ places. option_and_then (slice_get places) (at_entry (numbered_from (first + length own) tables) level entry)) (sym (append_assoc before (places_in own rows) (places_at tables binding)))
      ∙ row_is (before ++ places_in own rows) (first + length own) (length-append before (places_in own rows) ∙ ap₂ (λ m n. m + n) long (length_places own rows here)) tables binding rest level entry

  pub numbered_stands : (tables binding : List (List ℕ)) → map length binding ≡ map length tables → (cond : Cond) → StandsFor db (scope_of tables) binding (rows_at tables binding) cond
  numbered_stands tables binding same cond =
      let is_row = λ (level entry : ℕ). ap (λ places. option_and_then (slice_get places) (at_entry (numbered_from 0 tables) level entry)) (rows_are tables binding same) ∙ row_is [] 0 refl tables binding same level entry in
      record {
        depth = ap length (rows_are tables binding same) ∙ length_rows tables binding same;
        variables = length_numbered 0 tables;
        entries = same;
        main = λ entry named. is_row 0 entry;
        inner = λ level entry. is_row (suc level) entry;
      }
