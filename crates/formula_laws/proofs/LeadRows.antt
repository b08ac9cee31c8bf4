-- Rows of the lead's tables, in levels, are bindings; two of them that differ somewhere are not the same.
use Rattle.std.proofs.Common.{◌≡◌, ◌∙◌, ◌<◌, ◌≤◌, sym, ap, ap₂, refl, ℕ, zero, suc, Bool, true, false, ◌&&◌, ◌||◌, not, List, [], ◌∷◌, ◌++◌, length, take, drop, nat_eq, nat_lt, arith}
use Rattle.std.proofs.lemmas.Bool.Decides.{nat_tests}
use Rattle.std.proofs.lemmas.List.{append-nil, append_assoc}
use Rattle.std.proofs.lemmas.List.Edits.{length-remove}
use Rattle.std.specs.Prelude.{insert, remove, slice_get, unwrap_or}
use Rattle.lint_base.proofs.Lists.{both_left, both_right}
use Rattle.lint_core.specs.declared.database.Database.{Database}
use Rattle.lint_core.specs.Database.{rows_of}
use Rattle.lint_core.specs.Points.{are_rows, is_binding, are_same_rows, differ_in_last_level, differ_in_entry}
use Rattle.sort_formula.specs.CounterPoints.{in_levels, differ_somewhere}
use Rattle.sort_formula.specs.Counters.{outer_levels, last_level}
use Rattle.sort_formula.specs.Sides.{all_of}

pub both : (a b : Bool) → a ≡ true → b ≡ true → (a && b) ≡ true
both a b first second = ap₂ (λ x y. x && y) first second

-- ---- places that differ

one_place : (n : ℕ) → nat_eq n n ≡ true
one_place n = grind (arith, nat_tests)

pub same_as_itself : (rows : List ℕ) → are_same_rows rows rows ≡ true
same_as_itself [] = refl
same_as_itself (row ∷ rows) = both (nat_eq row row) (are_same_rows rows rows) (one_place row) (same_as_itself rows)

pub not_the_same : (rows others : List ℕ) → differ_somewhere rows others ≡ true → are_same_rows rows others ≡ false
not_the_same [] others differ = cc
not_the_same (row ∷ rows) [] differ = cc
not_the_same (row ∷ rows) (other ∷ others) differ =
    elim (nat_eq row other) as (λ b. (not b || differ_somewhere rows others) ≡ true → (b && are_same_rows rows others) ≡ false) [
      | true ↦ λ later. not_the_same rows others later
      | false ↦ λ here. refl
    ] differ

-- ---- edits

pub removed : (rows : List ℕ) (entry row : ℕ) → entry ≤ length rows → remove (insert rows entry row) entry ≡ rows
removed rows zero row low = refl
removed [] (suc entry) row low = absurd (omega (arith, low))
removed (first ∷ rows) (suc entry) row low = ap (λ rest. first ∷ rest) (removed rows entry row (omega (arith, low)))

pub last_is : (levels : List (List ℕ)) (last : List ℕ) → last_level (levels ++ last ∷ []) ≡ last
last_is [] last = refl
last_is (level ∷ []) last = refl
last_is (level ∷ next ∷ levels) last = last_is (next ∷ levels) last

module _ (db : Database) where
  abbrev pub is_there : ℕ → ℕ → Bool
  is_there table row = nat_lt row (length (rows_of db table))

  pub as_many : (tables rows : List ℕ) → are_rows db tables rows ≡ true → length rows ≡ length tables
  as_many [] [] are = refl
  as_many [] (row ∷ rows) are = cc
  as_many (table ∷ tables) [] are = cc
  as_many (table ∷ tables) (row ∷ rows) are = ap suc (as_many tables rows (both_right (is_there table row) (are_rows db tables rows) are))

  pub rows_fall : (tables more rows : List ℕ) → are_rows db (tables ++ more) rows ≡ true →
      (are_rows db tables (take (length tables) rows) ≡ true) × (are_rows db more (drop (length tables) rows) ≡ true)
  rows_fall [] more rows are = (refl, are)
  rows_fall (table ∷ tables) more [] are = cc
  rows_fall (table ∷ tables) more (row ∷ rows) are =
      let rest = rows_fall tables more rows (both_right (is_there table row) (are_rows db (tables ++ more) rows) are) in
      (both (is_there table row) (are_rows db tables (take (length tables) rows)) (both_left (is_there table row) (are_rows db (tables ++ more) rows) are) rest.0, rest.1)

  pub binding_falls : (tables : List (List ℕ)) (more rows : List ℕ) → are_rows db (all_of tables ++ more) rows ≡ true → is_binding db tables (in_levels tables rows) ≡ true
  binding_falls [] more rows are = refl
  binding_falls (own ∷ tables) more rows are =
      let falls = rows_fall own (all_of tables ++ more) rows (ap (λ ts. are_rows db ts rows) (sym (append_assoc own (all_of tables) more)) ∙ are) in
      both (are_rows db own (take (length own) rows)) (is_binding db tables (in_levels tables (drop (length own) rows))) falls.0 (binding_falls tables more (drop (length own) rows) falls.1)

  pub whole_binding : (tables : List (List ℕ)) (rows : List ℕ) → are_rows db (all_of tables) rows ≡ true → is_binding db tables (in_levels tables rows) ≡ true
  whole_binding tables rows are = binding_falls tables [] rows (ap (λ ts. are_rows db ts rows) (append-nil (all_of tables)) ∙ are)

  -- a binding of one level
  pub one_level : (own rows : List ℕ) → are_rows db own rows ≡ true → is_binding db (own ∷ []) (in_levels (own ∷ []) rows) ≡ true
  one_level own rows are = whole_binding (own ∷ []) rows (ap (λ ts. are_rows db ts rows) (append-nil own) ∙ are)

  pub one_level_is : (own rows : List ℕ) → are_rows db own rows ≡ true → is_binding db (own ∷ []) (rows ∷ []) ≡ true
  one_level_is own rows are = both (are_rows db own rows) true are refl

  -- the second binding of two in the same rows outside
  pub second_falls : (tables : List (List ℕ)) (rows other : List ℕ) → is_binding db tables (in_levels tables rows) ≡ true → are_rows db (last_level tables) other ≡ true →
      differ_somewhere (last_level (in_levels tables rows)) other ≡ true →
      (is_binding db tables (in_levels (outer_levels tables) rows ++ other ∷ []) ≡ true)
      × (differ_in_last_level (in_levels tables rows) (in_levels (outer_levels tables) rows ++ other ∷ []) ≡ true)
  second_falls [] rows other first second differ = cc
  second_falls (own ∷ []) rows other first second differ =
      (one_level_is own other second, ap not (not_the_same (take (length own) rows) other differ))
  second_falls (own ∷ next ∷ tables) rows other first second differ =
      let here = take (length own) rows in
      let behind = drop (length own) rows in
      let start = are_rows db own here in
      let more = is_binding db (next ∷ tables) (in_levels (next ∷ tables) behind) in
      let rest = second_falls (next ∷ tables) behind other (both_right start more first) second differ in
      let levels = in_levels (outer_levels (next ∷ tables)) behind ++ other ∷ [] in (
        both start (is_binding db (next ∷ tables) levels) (both_left start more first) rest.0,
        both (are_same_rows here here) (differ_in_last_level (in_levels (next ∷ tables) behind) levels) (same_as_itself here) rest.1,
      )

  -- with a row of one more entry
  pub with_one : (tables : List ℕ) (entry : ℕ) (rows : List ℕ) (row : ℕ) → entry < length tables → are_rows db (remove tables entry) rows ≡ true →
      is_there (unwrap_or (slice_get tables entry) 0) row ≡ true → are_rows db tables (insert rows entry row) ≡ true
  with_one [] entry rows row low are there = absurd (omega (arith, low))
  with_one (table ∷ tables) zero rows row low are there = both (is_there table row) (are_rows db tables rows) there are
  with_one (table ∷ tables) (suc entry) [] row low are there = cc
  with_one (table ∷ tables) (suc entry) (first ∷ rows) row low are there =
      let start = is_there table first in
      let more = are_rows db (remove tables entry) rows in
      both start (are_rows db tables (insert rows entry row)) (both_left start more are) (with_one tables entry rows row (omega (arith, low)) (both_right start more are) there)

  -- two bindings that differ in one entry alone
  pub differ_in_one : (tables : List ℕ) (entry : ℕ) (rows : List ℕ) (row other : ℕ) → entry < length tables → are_rows db (remove tables entry) rows ≡ true →
      differ_somewhere (insert rows entry row) (insert rows entry other) ≡ true → differ_in_entry entry (insert rows entry row ∷ []) (insert rows entry other ∷ []) ≡ true
  differ_in_one tables entry rows row other low are differ =
      let one = insert rows entry row in
      let two = insert rows entry other in
      let long = as_many (remove tables entry) rows are in
      let fewer = length-remove tables entry low in
      let reaches : entry ≤ length rows = omega (arith, low, long, fewer) in
      both (are_same_rows (remove one entry) (remove two entry)) (not (are_same_rows one two))
      (ap₂ are_same_rows (removed rows entry row reaches) (removed rows entry other reaches) ∙ same_as_itself rows)
      (ap not (not_the_same one two differ))
