-- A step into a block keeps where a condition stands: the inner scope's variables have the rows of the inner binding.
use Rattle.std.proofs.Common.{◌≡◌, ◌∙◌, ◌+◌, ◌<◌, ◌≤◌, sym, ap, ap₂, refl, ℕ, zero, suc, true, List, [], ◌∷◌, ◌++◌, length, map, inl, inr, arith}
use Rattle.std.proofs.lemmas.Bool.{cases_lt}
use Rattle.std.proofs.lemmas.List.{length-append}
use Rattle.std.proofs.lemmas.Option.{slice_get_past}
use Rattle.std.specs.Prelude.{Option, Some, None, slice_get, option_and_then, is_some, unwrap_or}
use Rattle.lint_core.specs.declared.condition.Cond.{Cond}
use Rattle.lint_core.specs.declared.condition.Term.{Term}
use Rattle.lint_core.specs.declared.condition.Term.TheVariants as term
use Rattle.lint_core.specs.declared.database.Database.{Database}
use Rattle.lint_core.specs.declared.database.Value.TheVariants.{Null}
use Rattle.lint_core.specs.declared.schema.Table.{Table}
use Rattle.lint_core.specs.Comparison.{plus}
use Rattle.lint_core.specs.Condition.{place_of, term_value}
use Rattle.lint_core.specs.Fits.{at_entry}
use Rattle.lint_core.specs.Database.{Place, value_at}
use Rattle.lint_core.specs.Fits.{cell_kind, term_kind}
use Rattle.lint_core.specs.Meets.{is_of_domains}
use Rattle.lint_core.specs.Naming.{names, term_names}
use Rattle.lint_core.specs.declared.scope.Scope.{Scope}
use Rattle.sort_formula.specs.Sides.{from_number}
use Rattle.sort_formula.specs.Standpoint.{IsRowOf, StandsFor}
use Rattle.sort_formula.specs.Translation.{inside}
use Rattle.lint_base.proofs.Lists.{slice_get_front, get_behind as get_after, get_before, slice_get_last}
use Rattle.truth_laws.proofs.Fits.{same_number}
use Rattle.truth_laws.proofs.Leaves.{TermStands}
use Rattle.truth_laws.proofs.Outside.{variable_at, variable_past, length_from, lengths_inside}
use Rattle.truth_laws.proofs.Quantified.{place_in, places_in}

-- ---- what stands at a level and an entry

module _ (levels : List (List ℕ)) (own : List ℕ) (level entry : ℕ) where
  pub at_outer : level < length levels → at_entry (levels ++ own ∷ []) level entry ≡ at_entry levels level entry
  at_outer low = ap (option_and_then (λ entries. slice_get entries entry)) (get_before levels (own ∷ []) level low)

  pub at_own : level ≡ length levels → at_entry (levels ++ own ∷ []) level entry ≡ slice_get own entry
  at_own same = ap (λ level. at_entry (levels ++ own ∷ []) level entry) same ∙ ap (option_and_then (λ entries. slice_get entries entry)) (slice_get_last levels own)

  pub at_past : length levels < level → at_entry (levels ++ own ∷ []) level entry ≡ None
  at_past far =
      let long : length (levels ++ own ∷ []) ≤ level = rw (length-append levels (own ∷ [])) (omega arith) in
      ap (option_and_then (λ entries. slice_get entries entry)) (slice_get_past (levels ++ own ∷ []) level long)

  at_beyond : length levels ≤ level → at_entry levels level entry ≡ None
  at_beyond far = ap (option_and_then (λ entries. slice_get entries entry)) (slice_get_past levels level far)

-- ---- levels of the same lengths

pub same_lengths : (xs ys : List (List ℕ)) → map length xs ≡ map length ys → length xs ≡ length ys
same_lengths [] [] same = refl
same_lengths [] (y ∷ ys) same = cc
same_lengths (x ∷ xs) [] same = cc
same_lengths (x ∷ xs) (y ∷ ys) same =
    let rest : map length xs ≡ map length ys = cc in
    ap suc (same_lengths xs ys rest)

pub is_there : (xs ys : List ℕ) (i : ℕ) → length xs ≡ length ys → is_some (slice_get xs i) ≡ is_some (slice_get ys i)
is_there [] [] i same = refl
is_there [] (y ∷ ys) i same = absurd (omega (arith, same))
is_there (x ∷ xs) [] i same = absurd (omega (arith, same))
is_there (x ∷ xs) (y ∷ ys) zero same = refl
is_there (x ∷ xs) (y ∷ ys) (suc i) same = is_there xs ys i (omega (arith, same))

pub same_entries : (xs ys : List (List ℕ)) → map length xs ≡ map length ys → (level entry : ℕ) → is_some (at_entry xs level entry) ≡ is_some (at_entry ys level entry)
same_entries [] [] same level entry = refl
same_entries [] (y ∷ ys) same level entry = cc
same_entries (x ∷ xs) [] same level entry = cc
same_entries (x ∷ xs) (y ∷ ys) same zero entry =
    let first : length x ≡ length y = cc in
    is_there x y entry first
same_entries (x ∷ xs) (y ∷ ys) same (suc level) entry =
    let rest : map length xs ≡ map length ys = cc in
    same_entries xs ys rest level entry

abbrev pub place_for : Option ℕ → Option ℕ → Option Place
place_for table row = option_and_then (λ table. option_and_then (λ row. Some (place_in table row)) row) table

pub place_there : (table row : Option ℕ) → is_some row ≡ is_some table → is_some (place_for table row) ≡ is_some table
place_there None row same = refl
place_there (Some table) None same = same
place_there (Some table) (Some row) same = refl

-- the same row, where more rows follow
pub more_rows : (variable : Option ℕ) (rows more : List Place) (place : Option Place) → is_some place ≡ is_some variable →
    option_and_then (slice_get rows) variable ≡ place → option_and_then (slice_get (rows ++ more)) variable ≡ place
more_rows None rows more place same at = at
more_rows (Some variable) rows more None same at = cc
more_rows (Some variable) rows more (Some place) same at = slice_get_front rows more variable place at

-- ---- the block's own entries

place_at : (own inner : List ℕ) (entry : ℕ) → slice_get (places_in own inner) entry ≡ place_for (slice_get own entry) (slice_get inner entry)
place_at [] inner entry = refl
place_at (table ∷ own) [] entry = elim (slice_get (table ∷ own) entry) as (λ t. None ≡ place_for t None) [ None ↦ refl | Some t ↦ refl ]
place_at (table ∷ own) (row ∷ inner) zero = refl
place_at (table ∷ own) (row ∷ inner) (suc entry) = place_at own inner entry

pub own_row : (rows : List Place) (own inner : List ℕ) (entry : ℕ) →
    option_and_then (slice_get (rows ++ places_in own inner)) (slice_get (from_number (length rows) (length own)) entry) ≡ place_for (slice_get own entry) (slice_get inner entry)
own_row rows own inner entry =
    elim (cases_lt entry (length own)) [
      | inl low ↦
          ap (option_and_then (slice_get (rows ++ places_in own inner))) (variable_at (length rows) (length own) entry low)
          ∙ (get_after rows (places_in own inner) entry ∙ place_at own inner entry)
      | inr high ↦
          ap (option_and_then (slice_get (rows ++ places_in own inner))) (variable_past (length rows) (length own) entry high)
          ∙ sym (ap (λ table. place_for table (slice_get inner entry)) (slice_get_past own entry high))
    ]

pub length_places : (own inner : List ℕ) → length inner ≡ length own → length (places_in own inner) ≡ length own
length_places [] inner same = refl
length_places (table ∷ own) [] same = same
length_places (table ∷ own) (row ∷ inner) same = ap suc (length_places own inner (omega (arith, same)))

-- ---- where a term stands

module _ (schema : List Table) (db : Database) (domains : is_of_domains schema db ≡ true) (scope : Scope) (binding : List (List ℕ)) (rows : List Place) where
  pub term_stands : (cond : Cond) → StandsFor db scope binding rows cond → (t : Term) → ((entry : ℕ) → term_names entry t ≡ true → names entry cond ≡ true) → TermStands schema db domains scope binding rows t
  term_stands cond stands (term.Cell zero entry column added) named = stands.main entry (named entry (same_number entry))
  term_stands cond stands (term.Cell (suc level) entry column added) named = stands.inner level entry
  term_stands cond stands (term.Number value unit) named = tt
  term_stands cond stands (term.Text text) named = tt
  term_stands cond stands term.Null named = tt

-- a condition that names no more stands there too
pub part_stands : (db : Database) (scope : Scope) (binding : List (List ℕ)) (rows : List Place) (cond part : Cond) → ((entry : ℕ) → names entry part ≡ true → names entry cond ≡ true) →
    StandsFor db scope binding rows cond → StandsFor db scope binding rows part
part_stands db scope binding rows cond part named stands = record {
  depth = stands.depth;
  variables = stands.variables;
  entries = stands.entries;
  main = λ entry is. stands.main entry (named entry is);
  inner = stands.inner;
}

-- ---- one level more

module _ (db : Database) (scope : Scope) (binding : List (List ℕ)) (rows : List Place) (own inner : List ℕ) (deep : length rows ≡ scope.depth)
    (variables : map length scope.levels ≡ map length scope.tables) (entries : map length binding ≡ map length scope.tables) where
  abbrev more : List Place
  more = rows ++ places_in own inner

  abbrev within : List (List ℕ)
  within = binding ++ inner ∷ []

  inside_row : (level entry : ℕ) → (level < length scope.tables → IsRowOf db scope binding rows level entry) → IsRowOf db (inside scope own) within more level entry
  inside_row level entry outer =
      let variables_long : length scope.levels ≡ length scope.tables = same_lengths scope.levels scope.tables variables in
      let binding_long : length binding ≡ length scope.tables = same_lengths binding scope.tables entries in
      let new = from_number scope.depth (length own) in
      elim (cases_lt level (length scope.tables)) [
        | inl low ↦
            let there : is_some (place_of db scope.tables binding level entry) ≡ is_some (at_entry scope.levels level entry) =
            place_there (at_entry scope.tables level entry) (at_entry binding level entry) (same_entries binding scope.tables entries level entry)
            ∙ sym (same_entries scope.levels scope.tables variables level entry) in
            ap (option_and_then (slice_get more)) (at_outer scope.levels new level entry (omega arith))
            ∙ (more_rows (at_entry scope.levels level entry) rows (places_in own inner) (place_of db scope.tables binding level entry) there (outer low)
            ∙ sym (ap₂ place_for (at_outer scope.tables own level entry low) (at_outer binding inner level entry (omega arith))))
        | inr high ↦
            elim (cases_lt (length scope.tables) level) [
              | inl far ↦
                  ap (option_and_then (slice_get more)) (at_past scope.levels new level entry (omega arith))
                  ∙ sym (ap (λ table. place_for table (at_entry within level entry)) (at_past scope.tables own level entry far))
              | inr near ↦
                  ap (option_and_then (slice_get more)) (at_own scope.levels new level entry (omega arith))
                  ∙ (ap (λ first. option_and_then (slice_get more) (slice_get (from_number first (length own)) entry)) (sym deep)
                  ∙ (own_row rows own inner entry
                  ∙ sym (ap₂ place_for (at_own scope.tables own level entry (omega arith)) (at_own binding inner level entry (omega arith)))))
            ]
      ]

pub inside_stands : (db : Database) (scope : Scope) (binding : List (List ℕ)) (rows : List Place) (cond : Cond) → StandsFor db scope binding rows cond →
    (own inner : List ℕ) → length inner ≡ length own → StandsFor db (inside scope own) (binding ++ inner ∷ []) (rows ++ places_in own inner) cond
inside_stands db scope binding rows cond stands own inner same = record {
  depth = length-append rows (places_in own inner) ∙ ap₂ (λ a b. a + b) stands.depth (length_places own inner same);
  variables = lengths_inside scope.levels scope.tables (from_number scope.depth (length own)) own stands.variables (length_from scope.depth (length own));
  entries = lengths_inside binding scope.tables inner own stands.entries same;
  main = λ entry named. inside_row db scope binding rows own inner stands.depth stands.variables stands.entries 0 entry (λ low. stands.main entry named);
  inner = λ level entry. inside_row db scope binding rows own inner stands.depth stands.variables stands.entries (suc level) entry (λ low. stands.inner level entry);
}

-- ---- a term of an outer level

module _ (schema : List Table) (db : Database) (tables binding : List (List ℕ)) (own inner : List ℕ) (entries : map length binding ≡ map length tables) where
  low_level : (level entry column : ℕ) (added : _) → is_some (cell_kind schema (at_entry tables level entry) column added) ≡ true → level < length tables
  low_level level entry column added is =
      elim (cases_lt level (length tables)) [
        | inl low ↦ low
        | inr high ↦
            let none : at_entry tables level entry ≡ None = at_beyond tables own level entry high in
            let not : is_some (cell_kind schema None column added) ≡ true = sym (ap (λ table. is_some (cell_kind schema table column added)) none) ∙ is in
            cc
      ]

  pub outer_value : (t : Term) → is_some (term_kind schema tables t) ≡ true → term_value db (tables ++ own ∷ []) (binding ++ inner ∷ []) t ≡ term_value db tables binding t
  outer_value (term.Cell level entry column added) is =
      let low : level < length tables = low_level level entry column added is in
      let long : length binding ≡ length tables = same_lengths binding tables entries in
      ap (λ place. plus (unwrap_or (option_and_then (λ place. value_at db place column) place) Null) added)
      (ap₂ place_for (at_outer tables own level entry low) (at_outer binding inner level entry (omega arith)))
  outer_value (term.Number value unit) is = refl
  outer_value (term.Text text) is = refl
  outer_value term.Null is = refl
