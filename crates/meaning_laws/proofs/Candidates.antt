-- Each question that is asked of a query is one of its candidates, and so stands in the list of its questions.
use Rattle.std.proofs.Common.{◌≡◌, ◌<◌, inl, inr, refl, ℕ, zero, suc, Bool, true, false, ◌&&◌, not, List, [], ◌∷◌, ◌++◌, length, map, nat_lt, arith}
use Rattle.std.proofs.lemmas.Bool.{and_parts, false≢true}
use Rattle.std.proofs.lemmas.Bool.Decides.{nat_tests}
use Rattle.std.specs.Prelude.{Option, Some, None, slice_get, Contains}
use Rattle.std.specs.List.{list_any}
use Rattle.std.specs.Option.{option_map_or}
use Rattle.lint_base.proofs.Lists.{below_true}
use Rattle.lint_core.specs.declared.query.Query.{Query}
use Rattle.lint_core.specs.declared.query.Question.{Question}
use Rattle.lint_core.specs.declared.query.Question.TheVariants.{OneRow, Empty, NeedlessDistinct, Constant, Duplicate, NeedlessJoin, Implied, Impossible, SameRow, NullInNotIn}
use Rattle.lint_core.specs.declared.schema.Table.{Table}
use Rattle.lint_core.specs.Asked.{main_condition, main_entries, scalars_of, not_ins_of, conjuncts_without, is_written_column, is_selected, test_two, are_comparable, are_of_one_table, is_asked, each_two, candidates, questions}
use Rattle.lint_core.specs.Database.{below}
use Rattle.lint_core.specs.Naming.{has_scalar}
use Rattle.lint_core.specs.Predicates.{predicates}
use Rattle.meaning_laws.proofs.Members.{Stands, stands_front, stands_behind, stands_map, stands_flat_map, stands_below, stands_filter, filter_passes, stands_contains, contains_stands}

-- where an element passes a test, it is there
is_there : {A : Type 0} (f : A → Bool) (xs : List A) (i : ℕ) → option_map_or f (slice_get xs i) false ≡ true → i < length xs
is_there f [] i h = absurd (false≢true h)
is_there f (x ∷ xs) zero h = omega arith
is_there f (x ∷ xs) (suc i) h = let low = is_there f xs i h in omega (arith, low)

second_there : {A : Type 0} (test : A → A → Bool) (xs : List A) (j : ℕ) (o : Option A) →
    option_map_or (λ x. option_map_or (test x) (slice_get xs j) false) o false ≡ true → j < length xs
second_there test xs j None h = absurd (false≢true h)
second_there test xs j (Some x) h = is_there (test x) xs j h

module _ (query : Query) where
  abbrev rows_of_subqueries : List Question
  rows_of_subqueries = map OneRow (below (length (scalars_of query)))

  abbrev constants : List Question
  constants = map Constant (below (length query.items))

  abbrev duplicates : List Question
  duplicates = each_two Duplicate (length query.items)

  abbrev joins : List Question
  joins = map NeedlessJoin (below (length (main_entries query)))

  abbrev implied : List Question
  implied = map Implied (below (length (predicates (main_condition query))))

  abbrev impossible : List Question
  impossible = map Impossible (below (length (predicates (main_condition query))))

  abbrev same_rows : List Question
  same_rows = each_two SameRow (length (main_entries query))

  abbrev nulls : List Question
  nulls = map NullInNotIn (below (length (not_ins_of query)))

  -- the candidates, up to each kind
  abbrev to_constant : List Question
  to_constant = rows_of_subqueries ++ Empty ∷ NeedlessDistinct ∷ constants

  abbrev to_duplicate : List Question
  to_duplicate = to_constant ++ duplicates

  abbrev to_join : List Question
  to_join = to_duplicate ++ joins

  abbrev to_implied : List Question
  to_implied = to_join ++ implied

  abbrev to_impossible : List Question
  to_impossible = to_implied ++ impossible

  abbrev to_same_row : List Question
  to_same_row = to_impossible ++ same_rows

  up_to_same_row : (q : Question) → Stands q to_same_row → Stands q (candidates query)
  up_to_same_row q here = stands_front q to_same_row nulls here

  up_to_impossible : (q : Question) → Stands q to_impossible → Stands q (candidates query)
  up_to_impossible q here = up_to_same_row q (stands_front q to_impossible same_rows here)

  up_to_implied : (q : Question) → Stands q to_implied → Stands q (candidates query)
  up_to_implied q here = up_to_impossible q (stands_front q to_implied impossible here)

  up_to_join : (q : Question) → Stands q to_join → Stands q (candidates query)
  up_to_join q here = up_to_implied q (stands_front q to_join implied here)

  up_to_duplicate : (q : Question) → Stands q to_duplicate → Stands q (candidates query)
  up_to_duplicate q here = up_to_join q (stands_front q to_duplicate joins here)

  up_to_constant : (q : Question) → Stands q to_constant → Stands q (candidates query)
  up_to_constant q here = up_to_duplicate q (stands_front q to_constant duplicates here)

  past_rows : (q : Question) → Stands q (Empty ∷ NeedlessDistinct ∷ constants) → Stands q (candidates query)
  past_rows q here = up_to_constant q (stands_behind q rows_of_subqueries (Empty ∷ NeedlessDistinct ∷ constants) here)

  -- one of each number below n, and of each two
  one_of : (question : ℕ → Question) (n k : ℕ) → k < n → Stands (question k) (map question (below n))
  one_of question n k low = stands_map question k (below n) (stands_below n k low)

  two_of : (question : ℕ → ℕ → Question) (n i j : ℕ) → i < n → j < n → Stands (question i j) (each_two question n)
  two_of question n i j low also =
      stands_flat_map (λ i. map (question i) (below n)) i (question i j) (below n) (stands_below n i low) (one_of (question i) n j also)

  module _ (schema : List Table) where
    asked_is_candidate : (q : Question) → is_asked schema query q ≡ true → Stands q (candidates query)
    asked_is_candidate (OneRow sub) h =
        let n = length (scalars_of query) in
        up_to_constant (OneRow sub) (stands_front (OneRow sub) rows_of_subqueries (Empty ∷ NeedlessDistinct ∷ constants) (one_of OneRow n sub (below_true sub n h)))
    asked_is_candidate Empty h = past_rows Empty (inl refl)
    asked_is_candidate NeedlessDistinct h = past_rows NeedlessDistinct (inr (inl refl))
    asked_is_candidate (Constant item) h =
        past_rows (Constant item) (inr (inr (one_of Constant (length query.items) item (is_there is_written_column query.items item h))))
    asked_is_candidate (Duplicate item other) h =
        let both = and_parts (nat_lt item other) (test_two (are_comparable schema query) query.items item other) h in
        let first = is_there (λ x. option_map_or (are_comparable schema query x) (slice_get query.items other) false) query.items item both.1 in
        let second = second_there (are_comparable schema query) query.items other (slice_get query.items item) both.1 in
        up_to_duplicate (Duplicate item other)
        (stands_behind (Duplicate item other) to_constant duplicates (two_of Duplicate (length query.items) item other first second))
    asked_is_candidate (NeedlessJoin entry) h =
        let n = length (main_entries query) in
        let plain = not (list_any has_scalar (conjuncts_without entry query)) in
        let unnamed = and_parts (nat_lt 1 n && nat_lt entry n && not (is_selected query entry)) plain h in
        let there = and_parts (nat_lt 1 n && nat_lt entry n) (not (is_selected query entry)) unnamed.0 in
        let within = and_parts (nat_lt 1 n) (nat_lt entry n) there.0 in
        up_to_join (NeedlessJoin entry) (stands_behind (NeedlessJoin entry) to_duplicate joins (one_of NeedlessJoin n entry (below_true entry n within.1)))
    asked_is_candidate (Implied predicate) h =
        let n = length (predicates (main_condition query)) in
        up_to_implied (Implied predicate) (stands_behind (Implied predicate) to_join implied (one_of Implied n predicate (below_true predicate n h)))
    asked_is_candidate (Impossible predicate) h =
        let n = length (predicates (main_condition query)) in
        up_to_impossible (Impossible predicate) (stands_behind (Impossible predicate) to_implied impossible (one_of Impossible n predicate (below_true predicate n h)))
    asked_is_candidate (SameRow entry other) h =
        let both = and_parts (nat_lt entry other) (test_two are_of_one_table (main_entries query) entry other) h in
        let first = is_there (λ x. option_map_or (are_of_one_table x) (slice_get (main_entries query) other) false) (main_entries query) entry both.1 in
        let second = second_there are_of_one_table (main_entries query) other (slice_get (main_entries query) entry) both.1 in
        up_to_same_row (SameRow entry other)
        (stands_behind (SameRow entry other) to_impossible same_rows (two_of SameRow (length (main_entries query)) entry other first second))
    asked_is_candidate (NullInNotIn sub) h =
        let n = length (not_ins_of query) in
        stands_behind (NullInNotIn sub) to_same_row nulls (one_of NullInNotIn n sub (below_true sub n h))

    pub asked_is_listed : (q : Question) → is_asked schema query q ≡ true → Contains (questions schema query) q
    asked_is_listed q h =
        stands_contains q (questions schema query) (stands_filter (is_asked schema query) q (candidates query) h (asked_is_candidate q h))

    pub listed_is_asked : (q : Question) → Contains (questions schema query) q → is_asked schema query q ≡ true
    listed_is_asked q at = filter_passes (is_asked schema query) q (candidates query) (contains_stands q (questions schema query) at.0 at.1 at.2)
