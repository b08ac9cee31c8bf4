-- The E9 of a query are its first questions, and each question that is asked of it stands behind those asked of before.
use Rattle.std.proofs.Common.{◌≡◌, ◌∙◌, sym, ap, refl, subst, ℕ, zero, suc, ◌<◌, ◌≤◌, ◌⊎◌, inl, inr, Bool, true, false, cond, List, [], ◌∷◌, ◌++◌, length, map, take, arith}
use Rattle.std.proofs.lemmas.List.Elements.{filter-append}
use Rattle.std.proofs.lemmas.List.{length-append}
use Rattle.std.proofs.lemmas.Option.{same_Some}
use Rattle.std.specs.Prelude.{Some, slice_get}
use Rattle.std.specs.List.{filter}
use Rattle.lint_base.proofs.Lists.{below_true, true_below}
use Rattle.lint_core.specs.declared.database.Database.{Database}
use Rattle.lint_core.specs.declared.query.Query.{Query}
use Rattle.lint_core.specs.declared.query.Question.{Question}
use Rattle.lint_core.specs.declared.query.Question.TheVariants.{OneRow, Empty, NeedlessDistinct, Constant, Duplicate, NeedlessJoin, Implied, Impossible, SameRow, NullInNotIn}
use Rattle.lint_core.specs.declared.schema.Table.{Table}
use Rattle.lint_core.specs.Asked.{scalars_of, main_entries, main_condition, not_ins_of, is_asked, candidates, questions, each_two}
use Rattle.lint_core.specs.Database.{below}
use Rattle.lint_core.specs.Predicates.{predicates}
use Rattle.lint_core.specs.Question.{scalars_before}

at_below : (n i : ℕ) → i < n → slice_get (below n) i ≡ Some i
at_below zero i low = absurd (omega arith)
at_below (suc n) i low = elim (which i n (omega arith)) [ inl less ↦ at_front (below n) (n ∷ []) i i (at_below n i less) | inr same ↦ subst (λ k. slice_get (below n ++ n ∷ []) k ≡ Some k) (sym same) (at_last (below n) n n (count n)) ]
  where
    which : (i n : ℕ) → i ≤ n → (i < n) ⊎ (i ≡ n)
    which i n low = grind arith

    count : (n : ℕ) → length (below n) ≡ n
    count zero = refl
    count (suc n) = let more = length-append (below n) (n ∷ []) in let rest = count n in omega arith

    at_front : (xs ys : List ℕ) (i x : ℕ) → slice_get xs i ≡ Some x → slice_get (xs ++ ys) i ≡ Some x
    at_front [] ys i x at = cc
    at_front (z ∷ zs) ys zero x at = at
    at_front (z ∷ zs) ys (suc i) x at = at_front zs ys i x at

    at_last : (xs : List ℕ) (x n : ℕ) → length xs ≡ n → slice_get (xs ++ x ∷ []) n ≡ Some x
    at_last [] x zero same = refl
    at_last [] x (suc n) same = absurd (omega arith)
    at_last (z ∷ zs) x zero same = absurd (omega arith)
    at_last (z ∷ zs) x (suc n) same = at_last zs x n (omega arith)

-- numbers of which the test says yes stay
kept : (p : Question → Bool) (f : ℕ → Question) (ns : List ℕ) (i n : ℕ) → ((k : ℕ) (m : ℕ) → slice_get ns k ≡ Some m → p (f m) ≡ true) → slice_get ns i ≡ Some n →
    slice_get (filter p (map f ns)) i ≡ Some (f n)
kept p f [] i n all at = cc
kept p f (m ∷ ms) zero n all at =
    ap (λ b. slice_get (cond b (f m ∷ filter p (map f ms)) (filter p (map f ms))) 0) (all 0 m refl) ∙ ap (λ k. Some (f k)) (same_Some m n at)
kept p f (m ∷ ms) (suc i) n all at =
    ap (λ b. slice_get (cond b (f m ∷ filter p (map f ms)) (filter p (map f ms))) (suc i)) (all 0 m refl)
    ∙ kept p f ms i n (λ k l there. all (suc k) l there) at

-- and stand in front of more
front : (p : Question → Bool) (xs ys : List Question) (i : ℕ) (q : Question) → slice_get (filter p xs) i ≡ Some q → slice_get (filter p (xs ++ ys)) i ≡ Some q
front p xs ys i q at = ap (λ zs. slice_get zs i) (filter-append p xs ys) ∙ behind (filter p xs) i at
  where
    behind : (zs : List Question) (i : ℕ) → slice_get zs i ≡ Some q → slice_get (zs ++ filter p ys) i ≡ Some q
    behind [] i at = cc
    behind (z ∷ zs) zero at = at
    behind (z ∷ zs) (suc i) at = behind zs i at

passes : (p : Question → Bool) (qs : List Question) (i : ℕ) (q : Question) → slice_get (filter p qs) i ≡ Some q → p q ≡ true
passes p [] i q at = cc
passes p (r ∷ rs) i q at = by (p r) refl i at (λ j there. passes p rs j q there)
  where
    by : (b : Bool) → p r ≡ b → (i : ℕ) → slice_get (cond b (r ∷ filter p rs) (filter p rs)) i ≡ Some q → ((j : ℕ) → slice_get (filter p rs) j ≡ Some q → p q ≡ true) → p q ≡ true
    by false is i at rest = rest i at
    by true is zero at rest = subst (λ s. p s ≡ true) (same_Some r q at) is
    by true is (suc i) at rest = rest i at

pub take_at : (qs : List Question) (n i : ℕ) (q : Question) → i < n → slice_get qs i ≡ Some q → slice_get (take n qs) i ≡ Some q
take_at qs zero i q low at = absurd (omega arith)
take_at [] (suc n) i q low at = cc
take_at (r ∷ rs) (suc n) zero q low at = at
take_at (r ∷ rs) (suc n) (suc i) q low at = take_at rs n i q (omega arith) at

module _ (schema : List Table) (query : Query) where
  abbrev pub count : ℕ
  count = length (scalars_of query)

  abbrev asked : Question → Bool
  asked = is_asked schema query

  abbrev rows : List Question
  rows = map OneRow (below count)

  abbrev with_items : List Question
  with_items = rows ++ Empty ∷ NeedlessDistinct ∷ map Constant (below (length query.items))

  abbrev with_pairs : List Question
  with_pairs = with_items ++ each_two Duplicate (length query.items)

  abbrev with_joins : List Question
  with_joins = with_pairs ++ map NeedlessJoin (below (length (main_entries query)))

  abbrev with_implied : List Question
  with_implied = with_joins ++ map Implied (below (length (predicates (main_condition query))))

  abbrev with_impossible : List Question
  with_impossible = with_implied ++ map Impossible (below (length (predicates (main_condition query))))

  abbrev with_same : List Question
  with_same = with_impossible ++ each_two SameRow (length (main_entries query))

  among : (n k m : ℕ) → slice_get (below n) k ≡ Some m → m < n
  among zero k m at = cc
  among (suc n) k m at = split (below n) k at (λ j there. among n j m there)
    where
      split : (xs : List ℕ) (k : ℕ) → slice_get (xs ++ n ∷ []) k ≡ Some m → ((k : ℕ) → slice_get xs k ≡ Some m → m < n) → m < suc n
      split [] zero at low = let same : n ≡ m = same_Some n m at in omega arith
      split [] (suc k) at low = cc
      split (x ∷ xs) zero at low = let less : m < n = low 0 at in omega arith
      split (x ∷ xs) (suc k) at low = split xs k at (λ j there. low (suc j) there)

  -- the first questions are the E9
  pub one_row_at : (sub : ℕ) → sub < count → slice_get (questions schema query) sub ≡ Some (OneRow sub)
  one_row_at sub low =
      front asked with_same (map NullInNotIn (below (length (not_ins_of query)))) sub (OneRow sub)
      (front asked with_impossible (each_two SameRow (length (main_entries query))) sub (OneRow sub)
      (front asked with_implied (map Impossible (below (length (predicates (main_condition query))))) sub (OneRow sub)
      (front asked with_joins (map Implied (below (length (predicates (main_condition query))))) sub (OneRow sub)
      (front asked with_pairs (map NeedlessJoin (below (length (main_entries query)))) sub (OneRow sub)
      (front asked with_items (each_two Duplicate (length query.items)) sub (OneRow sub)
      (front asked rows (Empty ∷ NeedlessDistinct ∷ map Constant (below (length query.items))) sub (OneRow sub)
      (kept asked OneRow (below count) sub sub (λ k m at. true_below m count (among count k m at)) (at_below count sub low))))))))

  pub passes_asked : (place : ℕ) (question : Question) → slice_get (questions schema query) place ≡ Some question → is_asked schema query question ≡ true
  passes_asked place question at = passes asked (candidates query) place question at

  -- what is asked of before stands before
  pub few_before : (db : Database) (question : Question) → is_asked schema query question ≡ true → scalars_before db query question ≤ count
  few_before db (OneRow sub) is = let low = below_true sub count is in omega arith
  few_before db Empty is = omega arith
  few_before db NeedlessDistinct is = omega arith
  few_before db (Constant item) is = omega arith
  few_before db (Duplicate item other) is = omega arith
  few_before db (NeedlessJoin entry) is = omega arith
  few_before db (Implied predicate) is = omega arith
  few_before db (Impossible predicate) is = omega arith
  few_before db (SameRow entry other) is = omega arith
  few_before db (NullInNotIn sub) is = omega arith

  pub stands_behind : (db : Database) (place : ℕ) (question : Question) → slice_get (questions schema query) place ≡ Some question → scalars_before db query question ≤ place
  stands_behind db place question at =
      elim (which place count) [
        | inl low ↦
            let same : OneRow place ≡ question = same_Some (OneRow place) question (sym (one_row_at place low) ∙ at) in
            let own : place ≡ scalars_before db query question = ap (scalars_before db query) same in
            omega arith
        | inr high ↦
            let most = few_before db question (passes_asked place question at) in
            omega arith
      ]
    where
      which : (m n : ℕ) → (m < n) ⊎ (n ≤ m)
      which m n = grind arith
