-- A database that fits a schema meets it exactly where it violates nothing.
use Rattle.std.proofs.Common.{◌≡◌, ◌∙◌, zero-add, sym, ap, refl, ℕ, zero, suc, ◌+◌, ◌<◌, Bool, true, false, not, ◌&&◌, ◌||◌, List, [], ◌∷◌, ◌++◌, length, map, arith, inl, inr, if◌then◌else◌}
use Rattle.std.proofs.lemmas.Bool.{false≢true, ne_eqb, and_parts, and_from, cases_lt, cases_order, eq-eqb, lt-ltb, ltb-true, or_left, or_right, cases_Bool}
use Rattle.std.proofs.lemmas.Bool.Decides.{nat_tests}
use Rattle.std.proofs.lemmas.Cmp.{int_eq_equiv, nat_list_eq_equiv}
use Rattle.std.proofs.lemmas.List.{map-append}
use Rattle.std.proofs.lemmas.List.Folds.{list_all-append, list_all-map}
use Rattle.std.specs.Prelude.{Option, Some, slice_get, is_none, unwrap_or, option_and_then, nat_lt, nat_eq}
use Rattle.std.specs.List.{filter, flat_map, list_all, list_any}
use Rattle.lint_base.proofs.Lists.{all_at, not_not, same_tests}
use Rattle.lint_core.specs.declared.condition.Cond.{Cond}
use Rattle.lint_core.specs.declared.database.Database.{Database}
use Rattle.lint_core.specs.declared.database.Row.{Row}
use Rattle.lint_core.specs.declared.database.Value.{Value}
use Rattle.lint_core.specs.declared.database.Value.TheVariants as value
use Rattle.lint_core.specs.declared.database.Violation.{Violation}
use Rattle.lint_core.specs.declared.database.Violation.TheVariants.{Domain, Null, Twice, Check, Dangling}
use Rattle.lint_core.specs.declared.schema.Column.{Column}
use Rattle.lint_core.specs.declared.schema.ForeignKey.{ForeignKey}
use Rattle.lint_core.specs.declared.schema.Key.{Key}
use Rattle.lint_core.specs.declared.schema.Table.{Table}
use Rattle.lint_core.specs.Comparison.{are_equal, is_null}
use Rattle.lint_core.specs.Condition.{is_false_at}
use Rattle.lint_core.specs.Database.{Place, rows_of, places_of, below}
use Rattle.lint_core.specs.DatabaseFits.{rows_fit, tables_fit, database_fits}
use Rattle.lint_core.specs.Domain.{is_in_domain}
use Rattle.lint_core.specs.Meets.{value_in, agree, values_meet, rows_meet, tables_meet, no_nulls, key_met, check_met, foreign_met, constraints_met, all_constraints_met, meets}
use Rattle.lint_core.specs.Truth.{truth_of, is_true}
use Rattle.sql_meaning.specs.Violations.{numbered, place, row_numbers, at_rows, outside, nulls, is_twin, twice, false_checks, refers_to_nothing, dangling, table_violations, first_violation}

regroup : (a b c d : Bool) → ((a && b) && (c && d)) ≡ ((a && c) && (b && d))
regroup true true c d = refl
regroup true false true d = refl
regroup true false false d = refl
regroup false b c d = refl

not_neither : (a b : Bool) → not (not a && not b) ≡ (a || b)
not_neither true b = refl
not_neither false b = not_not b

nat_eq_symm : (m n : ℕ) → nat_eq m n ≡ nat_eq n m
nat_eq_symm m n = grind (arith, nat_tests)

five : {a b c d e a' b' c' d' e' : Bool} → a ≡ a' → b ≡ b' → c ≡ c' → d ≡ d' → e ≡ e' → ((((a && b) && c) && d) && e) ≡ (a' && (((b' && c') && d') && e'))
five {a' = a'} {b'} {c'} {d'} {e'} p q r s t =
    (λ i. (((p i && q i) && r i) && s i) && t i) ∙ past a' b' c' d' e'
  where
    past : (a b c d e : Bool) → ((((a && b) && c) && d) && e) ≡ (a && (((b && c) && d) && e))
    past true b c d e = refl
    past false b c d e = refl

-- whether nothing is in a list
abbrev is_empty : {A : Type 0} → List A → Bool
is_empty xs = is_none (slice_get xs 0)

empty_append : {A : Type 0} (xs ys : List A) → is_empty (xs ++ ys) ≡ (is_empty xs && is_empty ys)
empty_append [] ys = refl
empty_append (x ∷ xs) ys = refl

empty_five : {A : Type 0} (a b c d e : List A) → is_empty (a ++ b ++ c ++ d ++ e) ≡ ((((is_empty a && is_empty b) && is_empty c) && is_empty d) && is_empty e)
empty_five a b c d e =
    empty_append (a ++ b ++ c ++ d) e
    ∙ ap (λ t. t && is_empty e) (empty_append (a ++ b ++ c) d ∙ ap (λ t. t && is_empty d) (empty_append (a ++ b) c ∙ ap (λ t. t && is_empty c) (empty_append a b)))

-- lists of tests
module _ {A : Type 0} where
  all_same : (p q : A → Bool) → ((x : A) → p x ≡ q x) → (xs : List A) → list_all p xs ≡ list_all q xs
  all_same p q same [] = refl
  all_same p q same (x ∷ xs) = ap (λ b. b && list_all p xs) (same x) ∙ ap (λ b. q x && b) (all_same p q same xs)

  all_true : (xs : List A) → list_all (λ x. true) xs ≡ true
  all_true [] = refl
  all_true (x ∷ xs) = all_true xs

  all_both : (p q : A → Bool) (xs : List A) → list_all (λ x. p x && q x) xs ≡ (list_all p xs && list_all q xs)
  all_both p q [] = refl
  all_both p q (x ∷ xs) = ap (λ b. (p x && q x) && b) (all_both p q xs) ∙ regroup (p x) (q x) (list_all p xs) (list_all q xs)

  -- parts under their numbers
  abbrev all_numbered : (ℕ → A → Bool) → ℕ → List A → Bool
  all_numbered p i [] = true
  all_numbered p i (x ∷ xs) = p i x && all_numbered p (suc i) xs

  numbered_same : (p q : ℕ → A → Bool) → ((i : ℕ) (x : A) → p i x ≡ q i x) → (i : ℕ) (xs : List A) → all_numbered p i xs ≡ all_numbered q i xs
  numbered_same p q same i [] = refl
  numbered_same p q same i (x ∷ xs) = ap (λ b. b && all_numbered p (suc i) xs) (same i x) ∙ ap (λ b. q i x && b) (numbered_same p q same (suc i) xs)

  numbered_later : (p : ℕ → A → Bool) (i : ℕ) (xs : List A) → all_numbered p (suc i) xs ≡ all_numbered (λ k x. p (suc k) x) i xs
  numbered_later p i [] = refl
  numbered_later p i (x ∷ xs) = ap (λ b. p (suc i) x && b) (numbered_later p (suc i) xs)

  numbered_all : (p : A → Bool) (i : ℕ) (xs : List A) → all_numbered (λ k x. p x) i xs ≡ list_all p xs
  numbered_all p i [] = refl
  numbered_all p i (x ∷ xs) = ap (λ b. p x && b) (numbered_all p (suc i) xs)

-- each part at each row, or each row's parts
rows_first : {A R : Type 0} (test : R → ℕ → A → Bool) (rows : List R) (i : ℕ) (xs : List A) →
    all_numbered (λ k x. list_all (λ r. test r k x) rows) i xs ≡ list_all (λ r. all_numbered (test r) i xs) rows
rows_first test rows i [] = sym (all_true rows)
rows_first test rows i (x ∷ xs) =
    ap (λ b. list_all (λ r. test r i x) rows && b) (rows_first test rows (suc i) xs)
    ∙ sym (all_both (λ r. test r i x) (λ r. all_numbered (test r) (suc i) xs) rows)

-- what makes lists of violations empty
module _ {A : Type 0} where
  empty_filter : {B : Type 0} (f : A → B) (test : A → Bool) (xs : List A) → is_empty (map f (filter test xs)) ≡ list_all (λ x. not (test x)) xs
  empty_filter f test [] = refl
  empty_filter f test (x ∷ xs) =
      elim (cases_Bool (test x)) [
        | inl passes ↦
            ap (λ (b : Bool). is_empty (map f (if b then x ∷ filter test xs else filter test xs))) passes
            ∙ ap (λ b. not b && list_all (λ x. not (test x)) xs) (sym passes)
        | inr fails ↦
            ap (λ (b : Bool). is_empty (map f (if b then x ∷ filter test xs else filter test xs))) fails
            ∙ empty_filter f test xs
            ∙ ap (λ b. not b && list_all (λ x. not (test x)) xs) (sym fails)
      ]

  empty_flat : {B : Type 0} (f : A → List B) (xs : List A) → is_empty (flat_map f xs) ≡ list_all (λ x. is_empty (f x)) xs
  empty_flat f [] = refl
  empty_flat f (x ∷ xs) = empty_append (f x) (flat_map f xs) ∙ ap (λ b. is_empty (f x) && b) (empty_flat f xs)

  empty_numbered : (found : ℕ → A → List Violation) (i : ℕ) (xs : List A) → is_empty (numbered found i xs) ≡ all_numbered (λ k x. is_empty (found k x)) i xs
  empty_numbered found i [] = refl
  empty_numbered found i (x ∷ xs) = empty_append (found i x) (numbered found (suc i) xs) ∙ ap (λ b. is_empty (found i x) && b) (empty_numbered found (suc i) xs)

-- the numbers below n
below_left : (n : ℕ) → below (suc n) ≡ zero ∷ map suc (below n)
below_left zero = refl
below_left (suc n) =
    ap (λ numbers. numbers ++ suc n ∷ []) (below_left n)
    ∙ ap (λ numbers. zero ∷ numbers) (sym (map-append suc (below n) (n ∷ [])))

from_each_below : (p : ℕ → Bool) (n : ℕ) → ((i : ℕ) → i < n → p i ≡ true) → list_all p (below n) ≡ true
from_each_below p zero each = refl
from_each_below p (suc n) each =
    list_all-append p (below n) (n ∷ [])
    ∙ and_from (list_all p (below n)) (p n && true) (from_each_below p n (λ i low. each i (omega arith))) (and_from (p n) true (each n (omega arith)) refl)

each_below : (p : ℕ → Bool) (n i : ℕ) → list_all p (below n) ≡ true → i < n → p i ≡ true
each_below p zero i all low = absurd (omega arith)
each_below p (suc n) i all low =
    let parts = and_parts (list_all p (below n)) (p n && true) (sym (list_all-append p (below n) (n ∷ [])) ∙ all) in
    elim (cases_lt i n) [
      | inl less ↦ each_below p n i parts.0 less
      | inr more ↦
          let same : n ≡ i = omega arith in
          ap p (sym same) ∙ (and_parts (p n) true parts.1).0
    ]

-- a test of each row, or of each row's number
rows_by_number : {A : Type 0} (p : A → Bool) (q : ℕ → Bool) (rows : List A) → ((i : ℕ) (row : A) → slice_get rows i ≡ Some row → q i ≡ p row) →
    list_all q (below (length rows)) ≡ list_all p rows
rows_by_number p q [] same = refl
rows_by_number p q (row ∷ rows) same =
    ap (list_all q) (below_left (length rows))
    ∙ ap (λ b. b && list_all q (map suc (below (length rows)))) (same zero row refl)
    ∙ ap (λ b. p row && b) (list_all-map q suc (below (length rows)) ∙ rows_by_number p (λ i. q (suc i)) rows (λ i later at. same (suc i) later at))

-- a value for each of the columns
abbrev rows_fit_to : List Column → List Row → Bool
rows_fit_to columns rows = list_all (λ (row : Row). nat_eq (length row.values) (length columns)) rows

-- the value of a column in a row
abbrev value_of : List Value → ℕ → Value
value_of values column = unwrap_or (slice_get values column) value.Null

values_by_column : (columns : List Column) (values : List Value) → nat_eq (length values) (length columns) ≡ true →
    all_numbered (λ k (c : Column). not (not (is_in_domain c.domain (value_of values k)))) 0 columns ≡ values_meet columns values
values_by_column [] [] fit = refl
values_by_column [] (v ∷ vs) fit = absurd (grind (arith, nat_tests))
values_by_column (c ∷ cs) [] fit = absurd (grind (arith, nat_tests))
values_by_column (c ∷ cs) (v ∷ vs) fit =
    let test = λ (values : List Value) (k : ℕ) (c : Column). not (not (is_in_domain c.domain (value_of values k))) in
    ap (λ b. b && all_numbered (test (v ∷ vs)) 1 cs) (not_not (is_in_domain c.domain v))
    ∙ ap (λ b. is_in_domain c.domain v && b) (numbered_later (test (v ∷ vs)) 0 cs ∙ values_by_column cs vs (grind (arith, nat_tests)))

no_nulls_by_column : (columns : List Column) (values : List Value) → nat_eq (length values) (length columns) ≡ true →
    all_numbered (λ k (c : Column). not (c.not_null && is_null (value_of values k))) 0 columns ≡ no_nulls columns values
no_nulls_by_column [] [] fit = refl
no_nulls_by_column [] (v ∷ vs) fit = refl
no_nulls_by_column (c ∷ cs) [] fit = absurd (grind (arith, nat_tests))
no_nulls_by_column (c ∷ cs) (v ∷ vs) fit =
    let test = λ (values : List Value) (k : ℕ) (c : Column). not (c.not_null && is_null (value_of values k)) in
    ap (λ b. not (c.not_null && is_null v) && b) (numbered_later (test (v ∷ vs)) 0 cs ∙ no_nulls_by_column cs vs (grind (arith, nat_tests)))

-- equal values are so in either order
equal_symm : (a b : Value) → are_equal a b ≡ are_equal b a
equal_symm value.Null value.Null = refl
equal_symm value.Null (value.Int n) = refl
equal_symm value.Null (value.Text t) = refl
equal_symm (value.Int m) value.Null = refl
equal_symm (value.Int m) (value.Int n) = ap (λ b. is_true (truth_of b)) (int_eq_equiv.symm m n)
equal_symm (value.Int m) (value.Text t) = refl
equal_symm (value.Text s) value.Null = refl
equal_symm (value.Text s) (value.Int n) = refl
equal_symm (value.Text s) (value.Text t) = ap (λ b. is_true (truth_of b)) (nat_list_eq_equiv.symm s t)

module _ (db : Database) where
  agree_symm : (one other : Place) (columns : List ℕ) → agree db one columns other columns ≡ agree db other columns one columns
  agree_symm one other [] = refl
  agree_symm one other (c ∷ cs) =
      ap (λ b. b && agree db one cs other cs) (equal_symm (value_in db one c) (value_in db other c))
      ∙ ap (λ b. are_equal (value_in db other c) (value_in db one c) && b) (agree_symm one other cs)

  module _ (number : ℕ) where
    abbrev numbers : List ℕ
    numbers = row_numbers db number

    -- columns, by row
    by_rows : (test : Column → Value → Bool) (p : List Value → Bool) (columns : List Column) → rows_fit_to columns (rows_of db number) ≡ true →
        ((values : List Value) → nat_eq (length values) (length columns) ≡ true → all_numbered (λ k c. test c (value_of values k)) 0 columns ≡ p values) →
        all_numbered (λ k c. list_all (λ row. test c (value_in db (place db number row) k)) numbers) 0 columns ≡ list_all (λ (row : Row). p row.values) (rows_of db number)
    by_rows test p columns fit same =
        rows_first (λ row k c. test c (value_in db (place db number row) k)) numbers 0 columns
        ∙ rows_by_number (λ (row : Row). p row.values) (λ row. all_numbered (λ k c. test c (value_in db (place db number row) k)) 0 columns) (rows_of db number)
        (λ i row at.
        numbered_same (λ k c. test c (value_in db (place db number i) k)) (λ k c. test c (value_of row.values k))
        (λ k c. ap (λ (found : Option Row). test c (unwrap_or (option_and_then (λ (row : Row). slice_get row.values k) found) value.Null)) at) 0 columns
        ∙ same row.values (all_at (λ (row : Row). nat_eq (length row.values) (length columns)) (rows_of db number) i row fit at))

    module _ (table : Table) (fit : rows_fit table (rows_of db number) ≡ true) where
      domains_met : is_empty (numbered (outside db number) 0 table.columns) ≡ rows_meet table (rows_of db number)
      domains_met =
          empty_numbered (outside db number) 0 table.columns
          ∙ numbered_same (λ k c. is_empty (outside db number k c)) (λ k c. list_all (λ row. not (not (is_in_domain c.domain (value_in db (place db number row) k)))) numbers)
          (λ k c. empty_filter (λ row. Domain number row k) (λ row. not (is_in_domain c.domain (value_in db (place db number row) k))) numbers) 0 table.columns
          ∙ by_rows (λ c v. not (not (is_in_domain c.domain v))) (values_meet table.columns) table.columns fit (values_by_column table.columns)

      nulls_met : is_empty (numbered (nulls db number) 0 table.columns) ≡ list_all (λ (row : Row). no_nulls table.columns row.values) (rows_of db number)
      nulls_met =
          empty_numbered (nulls db number) 0 table.columns
          ∙ numbered_same (λ k c. is_empty (nulls db number k c)) (λ k c. list_all (λ row. not (c.not_null && is_null (value_in db (place db number row) k))) numbers)
          (λ k c. empty_filter (λ row. Null number row k) (λ row. c.not_null && is_null (value_in db (place db number row) k)) numbers) 0 table.columns
          ∙ by_rows (λ c v. not (c.not_null && is_null v)) (no_nulls table.columns) table.columns fit (no_nulls_by_column table.columns)

    module _ (key : Key) where
      abbrev alike : ℕ → ℕ → Bool
      alike row other = agree db (place db number row) key.columns (place db number other) key.columns

      -- one row, or rows that do not agree
      abbrev apart : ℕ → ℕ → Bool
      apart row other = nat_eq row other || not (alike row other)

      abbrev no_twin : ℕ → ℕ → Bool
      no_twin row other = not (is_twin db number key row other)

      key_by_number : key_met db number key ≡ list_all (λ row. list_all (apart row) numbers) numbers
      key_by_number =
          let differs = λ (one other : Place). nat_eq one.row other.row || not (agree db one key.columns other key.columns) in
          list_all-map (λ one. list_all (differs one) (places_of db number)) (place db number) numbers
          ∙ all_same (λ row. list_all (differs (place db number row)) (places_of db number)) (λ row. list_all (apart row) numbers)
          (λ row. list_all-map (differs (place db number row)) (place db number) numbers) numbers

      apart_after : (row other : ℕ) → no_twin row other ≡ true → row < other → apart row other ≡ true
      apart_after row other none less =
          or_right (nat_eq row other) (not (alike row other)) (ap (λ b. not (b && alike row other)) (sym (lt-ltb row other less)) ∙ none)

      apart_symm : (row other : ℕ) → apart other row ≡ true → apart row other ≡ true
      apart_symm row other is =
          ap (λ b. b || not (alike row other)) (nat_eq_symm row other)
          ∙ ap (λ b. nat_eq other row || not b) (agree_symm (place db number row) (place db number other) key.columns) ∙ is

      apart_from : (row other : ℕ) → no_twin row other ≡ true → no_twin other row ≡ true → apart row other ≡ true
      apart_from row other none none' =
          elim (cases_order row other) [
            | inl same ↦ or_left (nat_eq row other) (not (alike row other)) (eq-eqb row other same)
            | inr (inl less) ↦ apart_after row other none less
            | inr (inr more) ↦ apart_symm row other (apart_after other row none' more)
          ]

      twin_free : (row other : ℕ) → apart row other ≡ true → no_twin row other ≡ true
      twin_free row other is =
          elim (cases_Bool (nat_lt row other)) [
            | inl less ↦
                let unequal : nat_eq row other ≡ false = ne_eqb row other (λ same. omega (arith, ltb-true row other less)) in
                ap (λ b. not (b && alike row other)) less ∙ ap (λ b. b || not (alike row other)) (sym unequal) ∙ is
            | inr later ↦ ap (λ b. not (b && alike row other)) later
          ]

      each_pair : (p : ℕ → ℕ → Bool) → list_all (λ row. list_all (p row) numbers) numbers ≡ true → (row other : ℕ) → row < length (rows_of db number) → other < length (rows_of db number) → p row other ≡ true
      each_pair p all row other low low' =
          each_below (p row) (length (rows_of db number)) other (each_below (λ row. list_all (p row) numbers) (length (rows_of db number)) row all low) low'

      from_each_pair : (p : ℕ → ℕ → Bool) → ((row other : ℕ) → row < length (rows_of db number) → other < length (rows_of db number) → p row other ≡ true) → list_all (λ row. list_all (p row) numbers) numbers ≡ true
      from_each_pair p each =
          from_each_below (λ row. list_all (p row) numbers) (length (rows_of db number)) (λ row low.
          from_each_below (p row) (length (rows_of db number)) (λ other low'. each row other low low'))

      key_is_met : (k : ℕ) → is_empty (twice db number k key) ≡ key_met db number key
      key_is_met k =
          empty_flat (λ row. at_rows db number (is_twin db number key row) (λ other. Twice number k row other)) numbers
          ∙ all_same (λ row. is_empty (at_rows db number (is_twin db number key row) (λ other. Twice number k row other))) (λ row. list_all (no_twin row) numbers)
          (λ row. empty_filter (λ other. Twice number k row other) (is_twin db number key row) numbers) numbers
          ∙ same_tests (list_all (λ row. list_all (no_twin row) numbers) numbers) (list_all (λ row. list_all (apart row) numbers) numbers)
          (λ none. from_each_pair apart (λ row other low low'. apart_from row other (each_pair no_twin none row other low low') (each_pair no_twin none other row low' low)))
          (λ all. from_each_pair no_twin (λ row other low low'. twin_free row other (each_pair apart all row other low low')))
          ∙ sym key_by_number

    check_is_met : (k : ℕ) (check : Cond) → is_empty (false_checks db number k check) ≡ check_met db number check
    check_is_met k check =
        empty_filter (λ row. Check number k row) (λ row. is_false_at db check ((number ∷ []) ∷ []) ((row ∷ []) ∷ [])) numbers
        ∙ sym (list_all-map (λ (place : Place). not (is_false_at db check ((number ∷ []) ∷ []) ((place.row ∷ []) ∷ []))) (place db number) numbers)

    foreign_is_met : (k : ℕ) (foreign : ForeignKey) → is_empty (dangling db number k foreign) ≡ foreign_met db number foreign
    foreign_is_met k foreign =
        let has_null = λ (one : Place). list_any (λ column. is_null (value_in db one column)) foreign.columns in
        let has_target = λ (one : Place). list_any (λ (target : Place). agree db one foreign.columns target foreign.target_columns) (places_of db foreign.target) in
        empty_filter (λ row. Dangling number k row) (refers_to_nothing db number foreign) numbers
        ∙ all_same (λ row. not (refers_to_nothing db number foreign row)) (λ row. has_null (place db number row) || has_target (place db number row))
        (λ row. not_neither (has_null (place db number row)) (has_target (place db number row))) numbers
        ∙ sym (list_all-map (λ one. has_null one || has_target one) (place db number) numbers)

    -- parts of one kind
    parts_met : {A : Type 0} (found : ℕ → A → List Violation) (met : A → Bool) → ((k : ℕ) (x : A) → is_empty (found k x) ≡ met x) → (xs : List A) → is_empty (numbered found 0 xs) ≡ list_all met xs
    parts_met found met same xs = empty_numbered found 0 xs ∙ numbered_same (λ k x. is_empty (found k x)) (λ k x. met x) same 0 xs ∙ numbered_all met 0 xs

    table_met : (table : Table) → rows_fit table (rows_of db number) ≡ true →
        is_empty (table_violations db number table) ≡ (rows_meet table (rows_of db number) && constraints_met db number table)
    table_met table fit =
        let a = numbered (outside db number) 0 table.columns in
        let b = numbered (nulls db number) 0 table.columns in
        let c = numbered (twice db number) 0 table.keys in
        let d = numbered (false_checks db number) 0 table.checks in
        let e = numbered (dangling db number) 0 table.foreign in
        empty_five a b c d e
        ∙ five (domains_met table fit) (nulls_met table fit) (parts_met (twice db number) (key_met db number) (λ k key. key_is_met key k) table.keys)
        (parts_met (false_checks db number) (check_met db number) check_is_met table.checks) (parts_met (dangling db number) (foreign_met db number) foreign_is_met table.foreign)

  tables_met : (number : ℕ) (schema : List Table) (lists : List (List Row)) → ((i : ℕ) → slice_get db.tables (i + number) ≡ slice_get lists i) → tables_fit schema lists ≡ true →
      is_empty (numbered (table_violations db) number schema) ≡ (tables_meet schema lists && all_constraints_met db number schema)
  tables_met number [] [] there fit = refl
  tables_met number [] (rows ∷ lists) there fit = absurd (false≢true fit)
  tables_met number (table ∷ tables) [] there fit = absurd (false≢true fit)
  tables_met number (table ∷ tables) (rows ∷ lists) there fit =
      let fits = and_parts (rows_fit table rows) (tables_fit tables lists) fit in
      let own : rows_of db number ≡ rows = ap (λ k. unwrap_or (slice_get db.tables k) []) (sym (zero-add number)) ∙ ap (λ (o : Option (List Row)). unwrap_or o []) (there zero) in
      let later : (i : ℕ) → slice_get db.tables (i + suc number) ≡ slice_get lists i = λ i. ap (slice_get db.tables) (omega arith) ∙ there (suc i) in
      empty_append (table_violations db number table) (numbered (table_violations db) (suc number) tables)
      ∙ ap (λ b. b && is_empty (numbered (table_violations db) (suc number) tables)) (table_met number table (ap (rows_fit table) own ∙ fits.0))
      ∙ ap (λ b. (rows_meet table (rows_of db number) && constraints_met db number table) && b) (tables_met (suc number) tables lists later fits.1)
      ∙ ap (λ (own : List Row). (rows_meet table own && constraints_met db number table) && (tables_meet tables lists && all_constraints_met db (suc number) tables)) own
      ∙ regroup (rows_meet table rows) (constraints_met db number table) (tables_meet tables lists) (all_constraints_met db (suc number) tables)

pub none_violated : (schema : List Table) (db : Database) → database_fits schema db ≡ true → is_none (first_violation schema db) ≡ meets schema db
none_violated schema db fit = tables_met db 0 schema db.tables (λ i. ap (slice_get db.tables) (omega arith)) fit
