-- Where right answers block no more, each scalar subquery asked of before gives at most one row, in every database that meets the
-- schema; and then an answer of a question alone is right as it is.
use Rattle.std.proofs.Common.{◌≡◌, ◌∙◌, sym, ap, refl, subst, ℕ, zero, suc, ◌+◌, ◌<◌, ◌≤◌, ◌⊎◌, inl, inr, Bool, true, false, cond, not, List, [], ◌∷◌, ◌++◌, length, map, take, arith}
use Rattle.std.proofs.lemmas.List.Elements.{filter-append}
use Rattle.std.proofs.lemmas.List.{length-append}
use Rattle.std.proofs.lemmas.Option.{same_Some}
use Rattle.std.specs.Prelude.{Option, Some, None, slice_get, find}
use Rattle.std.specs.List.{filter}
use Rattle.std.specs.Option.{option_map, option_or}
use Rattle.lint_base.proofs.Lists.{below_true, true_below}
use Rattle.lint_core.specs.declared.certificate.Cert.{Cert}
use Rattle.lint_core.specs.declared.database.Database.{Database}
use Rattle.lint_core.specs.declared.database.Value.{Value}
use Rattle.lint_core.specs.declared.database.Value.TheVariants.{Null}
use Rattle.lint_core.specs.declared.query.Query.{Query}
use Rattle.lint_core.specs.declared.query.Question.{Question}
use Rattle.lint_core.specs.declared.query.Question.TheVariants.{OneRow, Empty, NeedlessDistinct, Constant, Duplicate, NeedlessJoin, Implied, Impossible, SameRow, NullInNotIn}
use Rattle.lint_core.specs.declared.run.Answer.{Answer}
use Rattle.lint_core.specs.declared.run.Answer.TheVariants.{Always, NotAlways, Moot, Blocked, CyclicKeys, CyclicNesting, Large, Spent}
use Rattle.lint_core.specs.declared.schema.Table.{Table}
use Rattle.lint_core.specs.Asked.{scalars_of, main_entries, main_condition, not_ins_of, is_asked, candidates, questions, each_two}
use Rattle.lint_core.specs.Database.{below}
use Rattle.lint_core.specs.Meets.{meets}
use Rattle.lint_core.specs.Predicates.{predicates}
use Rattle.lint_core.specs.Question.{HoldsAlways, EarlierHold, scalars_before}
use Rattle.lint_engine.specs.Asking.{Numbers, IsAskAnswer}
use Rattle.lint_engine.specs.AskingAll.{AreRightFrom, IsNext, IsByCause, IsOwnAnswer}
use Rattle.lint_engine.specs.Earlier.{Answered, answered, blocker, first_number, is_always, is_open_one_row, is_open_empty}
use Rattle.lint_engine.proofs.Going.{placed}

-- ---- what is answered of one question alone

module _ (schema : List Table) (query : Query) (question : Question) (given : Value) (numbers : Numbers) (budget : ℕ)
    (hold : (db : Database) → meets schema db ≡ true → EarlierHold db query question) where
  pub own : (answer : Answer) → IsAskAnswer schema query question given numbers budget answer → IsOwnAnswer schema query question given numbers budget answer
  own (Always cert) is = record { limits = is.limits; certificate = is.certificate; holds = λ db met. is.holds db met (hold db met) }
  own (NotAlways []) is = absurd is
  own (NotAlways (counter ∷ [])) is =
      record { limits = is.limits; counter_is = is.counter_is; fails = is.fails (hold counter.database is.counter_is.meets_schema) }
  own (NotAlways (counter ∷ other ∷ counters)) is = absurd is
  own Moot is = absurd is
  own (Blocked by) is = absurd is
  own (CyclicKeys cycle counter key) is = absurd is
  own (CyclicNesting cycle) is = is
  own (Large rows clauses) is = is
  own (Spent tried) is = is

-- ---- lists of questions

at_below : (n i : ℕ) → i < n → slice_get (below n) i ≡ Some i
at_below zero i low = absurd (omega arith)
at_below (suc n) i low = elim (which i n (omega arith)) [ inl less ↦ at_front (below n) (n ∷ []) i i (at_below n i less) | inr same ↦ subst (λ k. slice_get (below n ++ n ∷ []) k ≡ Some k) (sym same) (at_last (below n) n n (count n)) ]
  where
    which : (i n : ℕ) → i ≤ n → (i < n) ⊎ (i ≡ n)
    which i n low = grind arith

    count : (n : ℕ) → length (below n) ≡ n
    count zero = refl
    count (suc n) = let more = length-append (below n) (n ∷ []) in let rest = count n in omega arith

    at_front : (xs ys : List ℕ) (i x : ℕ) → slice_get xs i ≡ Some x → slice_get (xs ++ ys) i ≡ Some x
    at_front [] ys i x at = cc
    at_front (z ∷ zs) ys zero x at = at
    at_front (z ∷ zs) ys (suc i) x at = at_front zs ys i x at

    at_last : (xs : List ℕ) (x n : ℕ) → length xs ≡ n → slice_get (xs ++ x ∷ []) n ≡ Some x
    at_last [] x zero same = refl
    at_last [] x (suc n) same = absurd (omega arith)
    at_last (z ∷ zs) x zero same = absurd (omega arith)
    at_last (z ∷ zs) x (suc n) same = at_last zs x n (omega arith)

-- numbers of which the test says yes stay
kept : (p : Question → Bool) (f : ℕ → Question) (ns : List ℕ) (i n : ℕ) → ((k : ℕ) (m : ℕ) → slice_get ns k ≡ Some m → p (f m) ≡ true) → slice_get ns i ≡ Some n →
    slice_get (filter p (map f ns)) i ≡ Some (f n)
kept p f [] i n all at = cc
kept p f (m ∷ ms) zero n all at =
    ap (λ b. slice_get (cond b (f m ∷ filter p (map f ms)) (filter p (map f ms))) 0) (all 0 m refl) ∙ ap (λ k. Some (f k)) (same_Some m n at)
kept p f (m ∷ ms) (suc i) n all at =
    ap (λ b. slice_get (cond b (f m ∷ filter p (map f ms)) (filter p (map f ms))) (suc i)) (all 0 m refl)
    ∙ kept p f ms i n (λ k l there. all (suc k) l there) at

-- and stand in front of more
pub front : (p : Question → Bool) (xs ys : List Question) (i : ℕ) (q : Question) → slice_get (filter p xs) i ≡ Some q → slice_get (filter p (xs ++ ys)) i ≡ Some q
front p xs ys i q at = ap (λ zs. slice_get zs i) (filter-append p xs ys) ∙ behind (filter p xs) i at
  where
    behind : (zs : List Question) (i : ℕ) → slice_get zs i ≡ Some q → slice_get (zs ++ filter p ys) i ≡ Some q
    behind [] i at = cc
    behind (z ∷ zs) zero at = at
    behind (z ∷ zs) (suc i) at = behind zs i at

pub passes : (p : Question → Bool) (qs : List Question) (i : ℕ) (q : Question) → slice_get (filter p qs) i ≡ Some q → p q ≡ true
passes p [] i q at = cc
passes p (r ∷ rs) i q at = by (p r) refl i at (λ j there. passes p rs j q there)
  where
    by : (b : Bool) → p r ≡ b → (i : ℕ) → slice_get (cond b (r ∷ filter p rs) (filter p rs)) i ≡ Some q → ((j : ℕ) → slice_get (filter p rs) j ≡ Some q → p q ≡ true) → p q ≡ true
    by false is i at rest = rest i at
    by true is zero at rest = subst (λ s. p s ≡ true) (same_Some r q at) is
    by true is (suc i) at rest = rest i at

pub take_at : (qs : List Question) (n i : ℕ) (q : Question) → i < n → slice_get qs i ≡ Some q → slice_get (take n qs) i ≡ Some q
take_at qs zero i q low at = absurd (omega arith)
take_at [] (suc n) i q low at = cc
take_at (r ∷ rs) (suc n) zero q low at = at
take_at (r ∷ rs) (suc n) (suc i) q low at = take_at rs n i q (omega arith) at

module _ (schema : List Table) (query : Query) where
  abbrev pub count : ℕ
  count = length (scalars_of query)

  abbrev pub asked : Question → Bool
  asked = is_asked schema query

  abbrev pub rows : List Question
  rows = map OneRow (below count)

  abbrev pub with_items : List Question
  with_items = rows ++ Empty ∷ NeedlessDistinct ∷ map Constant (below (length query.items))

  abbrev pub with_pairs : List Question
  with_pairs = with_items ++ each_two Duplicate (length query.items)

  abbrev pub with_joins : List Question
  with_joins = with_pairs ++ map NeedlessJoin (below (length (main_entries query)))

  abbrev pub with_implied : List Question
  with_implied = with_joins ++ map Implied (below (length (predicates (main_condition query))))

  abbrev pub with_impossible : List Question
  with_impossible = with_implied ++ map Impossible (below (length (predicates (main_condition query))))

  abbrev pub with_same : List Question
  with_same = with_impossible ++ each_two SameRow (length (main_entries query))

  pub among : (n k m : ℕ) → slice_get (below n) k ≡ Some m → m < n
  among zero k m at = cc
  among (suc n) k m at = split (below n) k at (λ j there. among n j m there)
    where
      split : (xs : List ℕ) (k : ℕ) → slice_get (xs ++ n ∷ []) k ≡ Some m → ((k : ℕ) → slice_get xs k ≡ Some m → m < n) → m < suc n
      split [] zero at low = let same : n ≡ m = same_Some n m at in omega arith
      split [] (suc k) at low = cc
      split (x ∷ xs) zero at low = let less : m < n = low 0 at in omega arith
      split (x ∷ xs) (suc k) at low = split xs k at (λ j there. low (suc j) there)

  -- the first questions are the E9
  pub scalar_at : (sub : ℕ) → sub < count → slice_get (questions schema query) sub ≡ Some (OneRow sub)
  scalar_at sub low =
      front asked with_same (map NullInNotIn (below (length (not_ins_of query)))) sub (OneRow sub)
      (front asked with_impossible (each_two SameRow (length (main_entries query))) sub (OneRow sub)
      (front asked with_implied (map Impossible (below (length (predicates (main_condition query))))) sub (OneRow sub)
      (front asked with_joins (map Implied (below (length (predicates (main_condition query))))) sub (OneRow sub)
      (front asked with_pairs (map NeedlessJoin (below (length (main_entries query)))) sub (OneRow sub)
      (front asked with_items (each_two Duplicate (length query.items)) sub (OneRow sub)
      (front asked rows (Empty ∷ NeedlessDistinct ∷ map Constant (below (length query.items))) sub (OneRow sub)
      (kept asked OneRow (below count) sub sub (λ k m at. true_below m count (among count k m at)) (at_below count sub low))))))))

  -- what is asked of before stands before
  pub few_before : (db : Database) (question : Question) → is_asked schema query question ≡ true → scalars_before db query question ≤ count
  few_before db (OneRow sub) is = let low = below_true sub count is in omega arith
  few_before db Empty is = omega arith
  few_before db NeedlessDistinct is = omega arith
  few_before db (Constant item) is = omega arith
  few_before db (Duplicate item other) is = omega arith
  few_before db (NeedlessJoin entry) is = omega arith
  few_before db (Implied predicate) is = omega arith
  few_before db (Impossible predicate) is = omega arith
  few_before db (SameRow entry other) is = omega arith
  few_before db (NullInNotIn sub) is = omega arith

  pub stands_behind : (db : Database) (place : ℕ) (question : Question) → slice_get (questions schema query) place ≡ Some question → scalars_before db query question ≤ place
  stands_behind db place question at =
      elim (which place count) [
        | inl low ↦
            let same : OneRow place ≡ question = same_Some (OneRow place) question (sym (scalar_at place low) ∙ at) in
            let own : place ≡ scalars_before db query question = ap (scalars_before db query) same in
            omega arith
        | inr high ↦
            let most = few_before db question (passes (is_asked schema query) (candidates query) place question at) in
            omega arith
      ]
    where
      which : (m n : ℕ) → (m < n) ⊎ (n ≤ m)
      which m n = grind arith

-- ---- what answers that block nothing say

pub none_found : (test : Answered → Bool) (xs : List Answered) (i : ℕ) (x : Answered) → first_number test xs ≡ None → slice_get xs i ≡ Some x → test x ≡ false
none_found test [] i x none at = cc
none_found test (y ∷ ys) i x none at = by (test y) refl i none at (λ j rest there. none_found test ys j x rest there)
  where
    by : (b : Bool) → test y ≡ b → (i : ℕ) → option_map (λ (x : Answered). x.number) (cond b (Some y) (find test ys)) ≡ None → slice_get (y ∷ ys) i ≡ Some x →
        ((j : ℕ) → first_number test ys ≡ None → slice_get ys j ≡ Some x → test x ≡ false) → test x ≡ false
    by true is i none at rest = cc
    by false is zero none at rest = subst (λ z. test z ≡ false) (same_Some y x at) is
    by false is (suc i) none at rest = rest i none at

pub no_blocker : (earlier : List Answered) (question : Question) → blocker earlier question ≡ None → first_number is_open_one_row earlier ≡ None
no_blocker earlier (OneRow sub) none = none
no_blocker earlier Empty none = none
no_blocker earlier NeedlessDistinct none = none
no_blocker earlier (Constant item) none = by (first_number is_open_one_row earlier) refl none
  where
    by : (o : Option ℕ) → first_number is_open_one_row earlier ≡ o → option_or o (first_number is_open_empty earlier) ≡ None → first_number is_open_one_row earlier ≡ None
    by None is none = is
    by (Some n) is none = cc
no_blocker earlier (Duplicate item other) none = none
no_blocker earlier (NeedlessJoin entry) none = none
no_blocker earlier (Implied predicate) none = none
no_blocker earlier (Impossible predicate) none = none
no_blocker earlier (SameRow entry other) none = none
no_blocker earlier (NullInNotIn sub) none = none

module _ (schema : List Table) (query : Query) (number budget : ℕ) where
  -- an E9 that is answered Always holds always
  proved : (earlier : List Answered) (n sub : ℕ) (cert : Cert) → IsNext schema query number budget earlier (record { number = n; question = OneRow sub; answer = Always cert }) →
      HoldsAlways schema query (OneRow sub) Null
  proved earlier n sub cert is = by (blocker earlier (OneRow sub)) is
    where
      by : (o : Option ℕ) → IsByCause schema query number budget o false earlier (record { number = n; question = OneRow sub; answer = Always cert }) → HoldsAlways schema query (OneRow sub) Null
      by None is = is.holds
      by (Some k) is = cc

  closed_holds : (earlier : List Answered) (n sub : ℕ) (answer : Answer) → not (is_always answer) ≡ false → IsNext schema query number budget earlier (record { number = n; question = OneRow sub; answer = answer }) →
      HoldsAlways schema query (OneRow sub) Null
  closed_holds earlier n sub (Always cert) always is = proved earlier n sub cert is
  closed_holds earlier n sub (NotAlways counters) always is = cc
  closed_holds earlier n sub Moot always is = cc
  closed_holds earlier n sub (Blocked by) always is = cc
  closed_holds earlier n sub (CyclicKeys cycle counter key) always is = cc
  closed_holds earlier n sub (CyclicNesting cycle) always is = cc
  closed_holds earlier n sub (Large rows clauses) always is = cc
  closed_holds earlier n sub (Spent tried) always is = cc

  pub earlier_hold : (place : ℕ) (question : Question) (answers : List Answer) → slice_get (questions schema query) place ≡ Some question →
      AreRightFrom schema query number budget 1 [] (take place (questions schema query)) answers →
      blocker (answered 1 (take place (questions schema query)) answers) question ≡ None →
      (db : Database) → meets schema db ≡ true → EarlierHold db query question
  earlier_hold place question answers at are none db met sub low =
      let before = stands_behind schema query db place question at in
      let most = few_before schema query db question (passes (is_asked schema query) (candidates query) place question at) in
      let less : sub < scalars_before db query question = below_true sub (scalars_before db query question) low in
      let stands = take_at (questions schema query) place sub (OneRow sub) (omega arith) (scalar_at schema query sub (omega arith)) in
      let found = placed schema query number budget (take place (questions schema query)) answers 1 [] sub (OneRow sub) are stands in
      let shut = none_found is_open_one_row (answered 1 (take place (questions schema query)) answers) sub (record { number = 1 + sub; question = OneRow sub; answer = found.answer })
      (no_blocker (answered 1 (take place (questions schema query)) answers) question none) found.stands in
      closed_holds (take sub (answered 1 (take place (questions schema query)) answers)) (1 + sub) sub found.answer shut found.is db met
