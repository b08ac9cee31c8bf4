-- The questions of a query, by one kind after the other.
use Rattle.std.proofs.Common.{◌≡◌, ◌∙◌, refl, sym, ap, ℕ, zero, suc, ◌-◌, ◌^◌, ◌≤◌, min, Bool, true, cond, ◌&&◌, List, [], ◌∷◌, ◌++◌, map, length, nat_lt, arith}
use Rattle.std.proofs.lemmas.List.{append_assoc, map-append}
use Rattle.std.proofs.lemmas.List.Elements.{filter-append}
use Rattle.std.specs.List.{filter, list_all}
use Rattle.lint_base.proofs.Lists.{true_below, all_append, both_left, both_right}
use Rattle.lint_core.specs.declared.query.Query.{Query}
use Rattle.lint_core.specs.declared.query.Question.{Question}
use Rattle.lint_core.specs.declared.query.Question.TheVariants.{OneRow, Empty, NeedlessDistinct, Constant, Duplicate, NeedlessJoin, Implied, Impossible, SameRow, NullInNotIn}
use Rattle.lint_core.specs.declared.schema.Table.{Table}
use Rattle.lint_core.specs.Asked.{main_condition, main_entries, scalars_of, not_ins_of, each_two, is_asked, questions}
use Rattle.lint_core.specs.Database.{below}
use Rattle.lint_core.specs.Fits.{count_conditions, query_fits, main_tables}
use Rattle.lint_core.specs.Predicates.{predicates}
use Rattle.lint_core.specs.inner.Counts.{count_scalars, count_not_ins, count_predicates}
use Rattle.lint_core.proofs.Counting.{scalars_counted, not_ins_counted, predicates_counted}
use Rattle.error_reductions.proofs.CountsWithin.{few_scalars, few_not_ins, few_predicates, few_conditions}

module _ (p : Question → Bool) where
  all_kept : (xs : List Question) → list_all p xs ≡ true → filter p xs ≡ xs
  all_kept [] all = refl
  all_kept (x ∷ xs) all =
      ap (λ b. cond b (x ∷ filter p xs) (filter p xs)) (both_left (p x) (list_all p xs) all)
      ∙ ap (λ ys. x ∷ ys) (all_kept xs (both_right (p x) (list_all p xs) all))

  all_asked : (f : ℕ → Question) (m n : ℕ) → m ≤ n → ((k : ℕ) → p (f k) ≡ nat_lt k n) → list_all p (map f (below m)) ≡ true
  all_asked f zero n low is = refl
  all_asked f (suc m) n low is =
      ap (list_all p) (map-append f (below m) (m ∷ []))
      ∙ all_append p (map f (below m)) (f m ∷ []) (all_asked f m n (omega arith) is) (ap (λ b. b && true) (is m ∙ true_below m n (omega arith)))

  -- a kind of which all numbers below a count are asked
  kept : (f : ℕ → Question) (n : ℕ) → ((k : ℕ) → p (f k) ≡ nat_lt k n) → filter p (map f (below n)) ≡ map f (below n)
  kept f n is = all_kept (map f (below n)) (all_asked f n n (omega arith) is)

  -- more questions behind those so far
  behind : (so_far now xs ys : List Question) → so_far ≡ filter p xs → now ≡ so_far ++ filter p ys → now ≡ filter p (xs ++ ys)
  behind so_far now xs ys was is = is ∙ (ap (λ zs. zs ++ filter p ys) was ∙ sym (filter-append p xs ys))

  behind_all : (f : ℕ → Question) (n m : ℕ) → ((k : ℕ) → p (f k) ≡ nat_lt k n) → m ≡ n → (so_far now xs : List Question) → so_far ≡ filter p xs →
      now ≡ so_far ++ map f (below m) → now ≡ filter p (xs ++ map f (below n))
  behind_all f n m asked same so_far now xs was is =
      behind so_far now xs (map f (below n)) was (is ∙ ap (λ zs. so_far ++ zs) (ap (λ k. map f (below k)) same ∙ sym (kept f n asked)))

-- two questions one by one, and a list
two_before : (xs ys : List Question) (q r : Question) → xs ++ q ∷ [] ++ r ∷ [] ++ ys ≡ xs ++ q ∷ r ∷ ys
two_before xs ys q r = append_assoc (xs ++ q ∷ []) (r ∷ []) ys ∙ append_assoc xs (q ∷ []) (r ∷ ys)

-- what each call adds to the list that it is given
pub record Added (schema : List Table) (query : Query) (scalars not_ins predicate_count : ℕ) (none rows empty distinct constants duplicates joins implied impossible same nulls : List Question) : Type 0 where
  pub first : none ≡ []
  pub add_rows : rows ≡ none ++ map OneRow (below scalars)
  pub add_empty : empty ≡ rows ++ filter (is_asked schema query) (Empty ∷ [])
  pub add_distinct : distinct ≡ empty ++ filter (is_asked schema query) (NeedlessDistinct ∷ [])
  pub add_constants : constants ≡ distinct ++ filter (is_asked schema query) (map Constant (below (length query.items)))
  pub add_duplicates : duplicates ≡ constants ++ filter (is_asked schema query) (each_two Duplicate (length query.items))
  pub add_joins : joins ≡ duplicates ++ filter (is_asked schema query) (map NeedlessJoin (below (length (main_entries query))))
  pub add_implied : implied ≡ joins ++ map Implied (below predicate_count)
  pub add_impossible : impossible ≡ implied ++ map Impossible (below predicate_count)
  pub add_same : same ≡ impossible ++ filter (is_asked schema query) (each_two SameRow (length (main_entries query)))
  pub add_nulls : nulls ≡ same ++ map NullInNotIn (below not_ins)

module _ (schema : List Table) (query : Query) (fits : query_fits schema query ≡ true) where
  abbrev p : Question → Bool
  p = is_asked schema query

  few : (n m : ℕ) → m ≤ n → n ≤ 65536 → min m (2 ^ 32 - 1) ≡ m
  few n m less most = omega arith

  conditions : count_conditions (main_condition query) ≤ 65536
  conditions = few_conditions schema query fits

  pub scalars_are : min (count_scalars (main_condition query)) (2 ^ 32 - 1) ≡ length (scalars_of query)
  scalars_are = few _ _ (few_scalars (main_condition query)) conditions ∙ sym (scalars_counted (main_condition query) (main_tables query))

  pub not_ins_are : min (count_not_ins (main_condition query)) (2 ^ 32 - 1) ≡ length (not_ins_of query)
  not_ins_are = few _ _ (few_not_ins (main_condition query)) conditions ∙ sym (not_ins_counted (main_condition query) (main_tables query))

  pub predicates_are : min (count_predicates (main_condition query)) (2 ^ 32 - 1) ≡ length (predicates (main_condition query))
  predicates_are = few _ _ (few_predicates (main_condition query)) conditions ∙ sym (predicates_counted (main_condition query))

  pub listed : (scalars not_ins predicate_count : ℕ) → scalars ≡ length (scalars_of query) → not_ins ≡ length (not_ins_of query) → predicate_count ≡ length (predicates (main_condition query)) →
      (none rows empty distinct constants duplicates joins implied impossible same nulls : List Question) →
      Added schema query scalars not_ins predicate_count none rows empty distinct constants duplicates joins implied impossible same nulls →
      nulls ≡ questions schema query
  listed scalars not_ins predicate_count scalars_same not_ins_same predicates_same none rows empty distinct constants duplicates joins implied impossible same nulls added =
      let n = length (predicates (main_condition query)) in
      let items = length query.items in
      let entries = length (main_entries query) in
      let first = map OneRow (below (length (scalars_of query))) in
      let with_constants = first ++ Empty ∷ NeedlessDistinct ∷ map Constant (below items) in
      let with_duplicates = with_constants ++ each_two Duplicate items in
      let with_joins = with_duplicates ++ map NeedlessJoin (below entries) in
      let with_implied = with_joins ++ map Implied (below n) in
      let with_impossible = with_implied ++ map Impossible (below n) in
      let with_same = with_impossible ++ each_two SameRow entries in
      let at_rows = behind_all p OneRow (length (scalars_of query)) scalars (λ k. refl) scalars_same none rows [] added.first added.add_rows in
      let at_empty = behind p rows empty first (Empty ∷ []) at_rows added.add_empty in
      let at_distinct = behind p empty distinct (first ++ Empty ∷ []) (NeedlessDistinct ∷ []) at_empty added.add_distinct in
      let at_constants =
      behind p distinct constants (first ++ Empty ∷ [] ++ NeedlessDistinct ∷ []) (map Constant (below items)) at_distinct added.add_constants
      ∙ ap (filter p) (two_before first (map Constant (below items)) Empty NeedlessDistinct)
      in
      let at_duplicates = behind p constants duplicates with_constants (each_two Duplicate items) at_constants added.add_duplicates in
      let at_joins = behind p duplicates joins with_duplicates (map NeedlessJoin (below entries)) at_duplicates added.add_joins in
      let at_implied = behind_all p Implied n predicate_count (λ k. refl) predicates_same joins implied with_joins at_joins added.add_implied in
      let at_impossible = behind_all p Impossible n predicate_count (λ k. refl) predicates_same implied impossible with_implied at_implied added.add_impossible in
      let at_same = behind p impossible same with_impossible (each_two SameRow entries) at_impossible added.add_same in
      behind_all p NullInNotIn (length (not_ins_of query)) not_ins (λ k. refl) not_ins_same same nulls with_same at_same added.add_nulls
