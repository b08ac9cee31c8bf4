-- Points that have the form of a question are those that some leading rows make.
use Rattle.std.proofs.Common.{◌≡◌, ◌∙◌, ◌<◌, refl, sym, ap, ap₂, ℕ, zero, suc, Bool, true, false, ◌&&◌, not, List, [], ◌∷◌, ◌++◌, length, map, nat_eq, nat_lt, take, drop, arith}
use Rattle.std.proofs.Math.Seq.{take-append_seam, drop-append_seam}
use Rattle.std.proofs.lemmas.Bool.Decides.{nat_tests}
use Rattle.std.proofs.lemmas.List.{append_assoc}
use Rattle.std.specs.Option.{option_map_or}
use Rattle.std.specs.Prelude.{slice_get, unwrap_or, insert, remove}
use Rattle.lint_base.proofs.Lists.{both_left, both_right}
use Rattle.lint_core.specs.declared.condition.Entry.{Entry}
use Rattle.lint_core.specs.declared.database.Database.{Database}
use Rattle.lint_core.specs.Database.{rows_of}
use Rattle.lint_core.specs.Fits.{tables_of}
use Rattle.lint_core.specs.Points.{are_rows, is_binding, are_same_rows, main_rows, differ_in_last_level, differ_in_entry}
use Rattle.sort_formula.specs.CounterPoints.{in_levels}
use Rattle.sort_formula.specs.Counters.{outer_levels, last_level}
use Rattle.sort_formula.specs.Sides.{all_of}
use Rattle.truth_laws.proofs.Fitting.{both_are}

never : (b : Bool) → (b && false) ≡ true → ⊥
never true is = cc
never false is = cc

-- ---- levels

-- levels of these lengths, with more behind them
pub levels_before : (shape levels : List (List ℕ)) (more : List ℕ) → map length levels ≡ map length shape → in_levels shape (all_of levels ++ more) ≡ levels
levels_before [] [] more same = refl
levels_before [] (rows ∷ levels) more same = cc
levels_before (level ∷ shape) [] more same = cc
levels_before (level ∷ shape) (rows ∷ levels) more same =
    let first : length rows ≡ length level = cc in
    let rest : map length levels ≡ map length shape = cc in
    ap (in_levels (level ∷ shape)) (append_assoc rows (all_of levels) more)
    ∙ ap₂ (λ (here : List ℕ) (others : List (List ℕ)). here ∷ others)
    (ap (λ n. take n (rows ++ (all_of levels ++ more))) (sym first) ∙ take-append_seam rows (all_of levels ++ more))
    (ap (λ n. in_levels shape (drop n (rows ++ (all_of levels ++ more)))) (sym first)
    ∙ (ap (in_levels shape) (drop-append_seam rows (all_of levels ++ more)) ∙ levels_before shape levels more rest))

-- all but the last
pub outer_before : (shape levels : List (List ℕ)) (more : List ℕ) → map length levels ≡ map length shape → in_levels (outer_levels shape) (all_of levels ++ more) ≡ outer_levels levels
outer_before [] [] more same = refl
outer_before [] (rows ∷ levels) more same = cc
outer_before (level ∷ shape) [] more same = cc
outer_before (level ∷ []) (rows ∷ []) more same = refl
outer_before (level ∷ []) (rows ∷ next ∷ levels) more same = cc
outer_before (level ∷ deep ∷ shape) (rows ∷ []) more same = cc
outer_before (level ∷ deep ∷ shape) (rows ∷ next ∷ levels) more same =
    let first : length rows ≡ length level = cc in
    let rest : map length (next ∷ levels) ≡ map length (deep ∷ shape) = cc in
    let behind = all_of (next ∷ levels) ++ more in
    ap (λ ps. in_levels (outer_levels (level ∷ deep ∷ shape)) ps) (append_assoc rows (all_of (next ∷ levels)) more)
    ∙ ap₂ (λ (here : List ℕ) (others : List (List ℕ)). here ∷ others)
    (ap (λ n. take n (rows ++ behind)) (sym first) ∙ take-append_seam rows behind)
    (ap (λ n. in_levels (outer_levels (deep ∷ shape)) (drop n (rows ++ behind))) (sym first)
    ∙ (ap (in_levels (outer_levels (deep ∷ shape))) (drop-append_seam rows behind) ∙ outer_before (deep ∷ shape) (next ∷ levels) more rest))

same_number : (a b : ℕ) → nat_eq a b ≡ true → a ≡ b
same_number a b same = grind (arith, nat_tests)

same_rows : (rows others : List ℕ) → are_same_rows rows others ≡ true → rows ≡ others
same_rows [] [] same = refl
same_rows [] (other ∷ others) same = cc
same_rows (row ∷ rows) [] same = cc
same_rows (row ∷ rows) (other ∷ others) same =
    ap₂ (λ (n : ℕ) (ns : List ℕ). n ∷ ns) (same_number row other (both_left (nat_eq row other) (are_same_rows rows others) same)) (same_rows rows others (both_right (nat_eq row other) (are_same_rows rows others) same))

-- the outer levels are those of the first
pub last_alone : (one two : List (List ℕ)) → differ_in_last_level one two ≡ true → two ≡ outer_levels one ++ last_level two ∷ []
last_alone [] two differ = cc
last_alone (rows ∷ levels) [] differ = cc
last_alone (rows ∷ []) (others ∷ []) differ = refl
last_alone (rows ∷ []) (others ∷ more ∷ most) differ = cc
last_alone (rows ∷ level ∷ levels) (others ∷ []) differ = absurd (never (are_same_rows rows others) differ)
last_alone (rows ∷ level ∷ levels) (others ∷ next ∷ more) differ =
    let here = are_same_rows rows others in
    let rest = differ_in_last_level (level ∷ levels) (next ∷ more) in
    ap₂ (λ (first : List ℕ) (last : List (List ℕ)). first ∷ last) (sym (same_rows rows others (both_left here rest differ))) (last_alone (level ∷ levels) (next ∷ more) (both_right here rest differ))

module _ (db : Database) where
  pub rows_join : (tables more rows others : List ℕ) → are_rows db tables rows ≡ true → are_rows db more others ≡ true → are_rows db (tables ++ more) (rows ++ others) ≡ true
  rows_join [] more [] others first second = second
  rows_join [] more (row ∷ rows) others first second = cc
  rows_join (table ∷ tables) more [] others first second = cc
  rows_join (table ∷ tables) more (row ∷ rows) others first second =
      let here = nat_lt row (length (rows_of db table)) in
      let rest = are_rows db tables rows in
      both_are here (are_rows db (tables ++ more) (rows ++ others)) (both_left here rest first) (rows_join tables more rows others (both_right here rest first) second)

  pub flat_rows : (tables levels : List (List ℕ)) → is_binding db tables levels ≡ true → are_rows db (all_of tables) (all_of levels) ≡ true
  flat_rows [] [] is = refl
  flat_rows [] (rows ∷ levels) is = cc
  flat_rows (own ∷ tables) [] is = cc
  flat_rows (own ∷ tables) (rows ∷ levels) is =
      let here = are_rows db own rows in
      let rest = is_binding db tables levels in
      rows_join own (all_of tables) rows (all_of levels) (both_left here rest is) (flat_rows tables levels (both_right here rest is))

  pub last_rows : (tables levels : List (List ℕ)) → is_binding db tables levels ≡ true → are_rows db (last_level tables) (last_level levels) ≡ true
  last_rows [] [] is = refl
  last_rows [] (rows ∷ levels) is = cc
  last_rows (own ∷ tables) [] is = cc
  last_rows (own ∷ []) (rows ∷ []) is = both_left (are_rows db own rows) true is
  last_rows (own ∷ []) (rows ∷ next ∷ levels) is = absurd (never (are_rows db own rows) is)
  last_rows (own ∷ deep ∷ tables) (rows ∷ []) is = absurd (never (are_rows db own rows) is)
  last_rows (own ∷ deep ∷ tables) (rows ∷ next ∷ levels) is = last_rows (deep ∷ tables) (next ∷ levels) (both_right (are_rows db own rows) (is_binding db (deep ∷ tables) (next ∷ levels)) is)

  -- a binding of one level
  pub one_level_of : (own : List ℕ) (levels : List (List ℕ)) → is_binding db (own ∷ []) levels ≡ true → (levels ≡ main_rows levels ∷ []) × (are_rows db own (main_rows levels) ≡ true)
  one_level_of own [] is = cc
  one_level_of own (rows ∷ []) is = (refl, both_left (are_rows db own rows) true is)
  one_level_of own (rows ∷ next ∷ levels) is = absurd (never (are_rows db own rows) is)

  -- ---- one entry

  pub others_are : (own rows : List ℕ) (entry : ℕ) → are_rows db own rows ≡ true → are_rows db (remove own entry) (remove rows entry) ≡ true
  others_are [] [] zero are = refl
  others_are [] [] (suc entry) are = refl
  others_are [] (row ∷ rows) entry are = cc
  others_are (table ∷ own) [] entry are = cc
  others_are (table ∷ own) (row ∷ rows) zero are = both_right (nat_lt row (length (rows_of db table))) (are_rows db own rows) are
  others_are (table ∷ own) (row ∷ rows) (suc entry) are =
      let here = nat_lt row (length (rows_of db table)) in
      let rest = are_rows db own rows in
      both_are here (are_rows db (remove own entry) (remove rows entry)) (both_left here rest are) (others_are own rows entry (both_right here rest are))

  pub entry_is : (own rows : List ℕ) (entry : ℕ) → entry < length own → are_rows db own rows ≡ true →
      nat_lt (unwrap_or (slice_get rows entry) 0) (length (rows_of db (unwrap_or (slice_get own entry) 0))) ≡ true
  entry_is [] rows entry low are = absurd (omega (arith, low))
  entry_is (table ∷ own) [] entry low are = cc
  entry_is (table ∷ own) (row ∷ rows) zero low are = both_left (nat_lt row (length (rows_of db table))) (are_rows db own rows) are
  entry_is (table ∷ own) (row ∷ rows) (suc entry) low are = entry_is own rows entry (omega (arith, low)) (both_right (nat_lt row (length (rows_of db table))) (are_rows db own rows) are)

pub put_back : (rows : List ℕ) (entry : ℕ) → entry < length rows → insert (remove rows entry) entry (unwrap_or (slice_get rows entry) 0) ≡ rows
put_back [] entry low = absurd (omega (arith, low))
put_back (row ∷ rows) zero low = refl
put_back (row ∷ rows) (suc entry) low = ap (λ rest. row ∷ rest) (put_back rows entry (omega (arith, low)))

pub table_is : (entries : List Entry) (entry : ℕ) → option_map_or (λ (e : Entry). e.table) (slice_get entries entry) 0 ≡ unwrap_or (slice_get (tables_of entries) entry) 0
table_is [] entry = refl
table_is (e ∷ entries) zero = refl
table_is (e ∷ entries) (suc entry) = table_is entries entry

pub others_same : (entry : ℕ) (one two : List (List ℕ)) → differ_in_entry entry one two ≡ true → remove (main_rows one) entry ≡ remove (main_rows two) entry
others_same entry one two differ =
    same_rows (remove (main_rows one) entry) (remove (main_rows two) entry)
    (both_left (are_same_rows (remove (main_rows one) entry) (remove (main_rows two) entry)) (not (are_same_rows (main_rows one) (main_rows two))) differ)
