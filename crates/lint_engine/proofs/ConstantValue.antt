-- Where a constant column is neither blocked nor moot, E1 stands before it and is answered with one database.
use Rattle.std.proofs.Common.{◌≡◌, ◌∙◌, sym, ap, refl, subst, ℕ, zero, suc, ◌+◌, ◌<◌, ◌≤◌, ◌⊎◌, inl, inr, Bool, true, false, cond, List, [], ◌∷◌, ◌++◌, length, map, take, arith}
use Rattle.std.proofs.lemmas.List.Elements.{filter-append}
use Rattle.std.proofs.lemmas.List.{length-map, length-append}
use Rattle.std.proofs.lemmas.Option.{same_Some}
use Rattle.std.specs.Prelude.{Option, Some, None, is_some, slice_get, find, option_and_then, Ok, if◌then◌else◌}
use Rattle.std.specs.List.{filter}
use Rattle.std.specs.Option.{option_map, option_or}
use Rattle.lint_base.proofs.Lists.{true_below}
use Rattle.lint_core.specs.declared.database.Binding.{Binding}
use Rattle.lint_core.specs.declared.database.Counter.{Counter}
use Rattle.lint_core.specs.declared.database.Database.{Database}
use Rattle.lint_core.specs.declared.database.Points.{Points}
use Rattle.lint_core.specs.declared.database.Points.TheVariants.{One, Two, Without}
use Rattle.lint_core.specs.declared.database.Value.TheVariants.{Null}
use Rattle.lint_core.specs.declared.query.Query.{Query}
use Rattle.lint_core.specs.declared.query.Question.{Question}
use Rattle.lint_core.specs.declared.query.Question.TheVariants.{OneRow, Empty, NeedlessDistinct, Constant, Duplicate, NeedlessJoin, Implied, Impossible, SameRow, NullInNotIn}
use Rattle.lint_core.specs.declared.run.Answer.{Answer}
use Rattle.lint_core.specs.declared.run.Answer.TheVariants.{Always, NotAlways, Moot, Blocked, CyclicKeys, CyclicNesting, Large, Spent}
use Rattle.lint_core.specs.declared.schema.Table.{Table}
use Rattle.lint_core.specs.Asked.{main_entries, main_condition, not_ins_of, questions, each_two}
use Rattle.lint_core.specs.Database.{below}
use Rattle.lint_core.specs.Forms.{have_form}
use Rattle.lint_core.specs.Predicates.{predicates}
use Rattle.lint_core.specs.Question.{is_known_true, refutes}
use Rattle.lint_engine.specs.AskingAll.{AreRightFrom, IsNext, IsByCause, IsRefuted}
use Rattle.lint_engine.specs.Earlier.{Answered, answered, blocker, is_moot, first_number, is_empty, is_open_one_row, is_open_empty, is_always_empty, counter_in, empty_counter}
use Rattle.lint_engine.proofs.EarlierHold.{front, count, asked, rows, with_items, with_pairs, with_joins, with_implied, with_impossible, with_same, among, scalar_at, stands_behind, take_at, none_found, no_blocker}
use Rattle.lint_engine.proofs.Going.{IsPlaced, placed}

-- ---- E1 among the questions

kept_all : (p : Question → Bool) (f : ℕ → Question) (ns : List ℕ) → ((k : ℕ) (m : ℕ) → slice_get ns k ≡ Some m → p (f m) ≡ true) → filter p (map f ns) ≡ map f ns
kept_all p f [] all = refl
kept_all p f (m ∷ ms) all =
    ap (λ b. cond b (f m ∷ filter p (map f ms)) (filter p (map f ms))) (all 0 m refl) ∙ ap (λ qs. f m ∷ qs) (kept_all p f ms (λ k l there. all (suc k) l there))

behind_all : (xs ys : List Question) (n : ℕ) (q : Question) → length xs ≡ n → slice_get (xs ++ q ∷ ys) n ≡ Some q
behind_all [] ys zero q same = refl
behind_all [] ys (suc n) q same = absurd (omega arith)
behind_all (x ∷ xs) ys zero q same = absurd (omega arith)
behind_all (x ∷ xs) ys (suc n) q same = behind_all xs ys n q (omega arith)

so_many : (n : ℕ) → length (below n) ≡ n
so_many zero = refl
so_many (suc n) = let more = length-append (below n) (n ∷ []) in let rest = so_many n in omega arith

module _ (schema : List Table) (query : Query) where
  abbrev more : List Question
  more = NeedlessDistinct ∷ map Constant (below (length query.items))

  empty_at : slice_get (questions schema query) (count schema query) ≡ Some Empty
  empty_at =
      front (asked schema query) (with_same schema query) (map NullInNotIn (below (length (not_ins_of query)))) (count schema query) Empty
      (front (asked schema query) (with_impossible schema query) (each_two SameRow (length (main_entries query))) (count schema query) Empty
      (front (asked schema query) (with_implied schema query) (map Impossible (below (length (predicates (main_condition query))))) (count schema query) Empty
      (front (asked schema query) (with_joins schema query) (map Implied (below (length (predicates (main_condition query))))) (count schema query) Empty
      (front (asked schema query) (with_pairs schema query) (map NeedlessJoin (below (length (main_entries query)))) (count schema query) Empty
      (front (asked schema query) (with_items schema query) (each_two Duplicate (length query.items)) (count schema query) Empty
      (ap (λ qs. slice_get qs (count schema query)) (filter-append (asked schema query) (rows schema query) (Empty ∷ more))
      ∙ behind_all (filter (asked schema query) (rows schema query)) (filter (asked schema query) more) (count schema query) Empty many))))))
    where
      many : length (filter (asked schema query) (rows schema query)) ≡ count schema query
      many =
          ap length (kept_all (asked schema query) OneRow (below (count schema query)) (λ k m at. true_below m (count schema query) (among schema query (count schema query) k m at)))
          ∙ (length-map (below (count schema query)) OneRow ∙ so_many (count schema query))

  -- a constant column stands behind E1
  behind_empty : (db : Database) (place item : ℕ) → slice_get (questions schema query) place ≡ Some (Constant item) → count schema query < place
  behind_empty db place item at =
      let low : count schema query ≤ place = stands_behind schema query db place (Constant item) at in
      elim (which (count schema query) place low) [
        | inl less ↦ less
        | inr same ↦
            let one : Empty ≡ Constant item = same_Some Empty (Constant item) (sym empty_at ∙ (ap (slice_get (questions schema query)) same ∙ at)) in
            cc
      ]
    where
      which : (m n : ℕ) → m ≤ n → (m < n) ⊎ (m ≡ n)
      which m n low = grind arith

-- ---- looking along answers

found_at : (test : Answered → Bool) (xs : List Answered) (i : ℕ) (x : Answered) → slice_get xs i ≡ Some x → test x ≡ true →
    ((j : ℕ) → j < i → (y : Answered) × (slice_get xs j ≡ Some y) × (test y ≡ false)) → find test xs ≡ Some x
found_at test [] i x at is before = cc
found_at test (y ∷ ys) zero x at is before =
    let same : y ≡ x = same_Some y x at in
    ap (λ b. cond b (Some y) (find test ys)) (ap test same ∙ is) ∙ ap Some same
found_at test (y ∷ ys) (suc i) x at is before =
    let first = before 0 (omega arith) in
    let no : test y ≡ false = ap test (same_Some y first.0 first.1) ∙ first.2 in
    ap (λ b. cond b (Some y) (find test ys)) no ∙ found_at test ys i x at is (λ j low. before (suc j) (omega arith))

never_found : (test : Answered → Bool) (xs : List Answered) (i : ℕ) (x : Answered) → is_some (find test xs) ≡ false → slice_get xs i ≡ Some x → test x ≡ false
never_found test xs i x none at = none_found test xs i x (by (find test xs) none) at
  where
    by : (o : Option Answered) → is_some o ≡ false → option_map (λ (x : Answered). x.number) o ≡ None
    by None none = refl
    by (Some y) none = cc

none_in_front : (test : Answered → Bool) (n : ℕ) (xs : List Answered) → first_number test xs ≡ None → first_number test (take n xs) ≡ None
none_in_front test zero xs none = refl
none_in_front test (suc n) [] none = refl
none_in_front test (suc n) (y ∷ ys) none = by (test y) none (none_in_front test n ys)
  where
    by : (b : Bool) → option_map (λ (x : Answered). x.number) (cond b (Some y) (find test ys)) ≡ None → (first_number test ys ≡ None → first_number test (take n ys) ≡ None) →
        option_map (λ (x : Answered). x.number) (cond b (Some y) (find test (take n ys))) ≡ None
    by true none rest = cc
    by false none rest = rest none

no_open_empty : (earlier : List Answered) (item : ℕ) → blocker earlier (Constant item) ≡ None → first_number is_open_empty earlier ≡ None
no_open_empty earlier item none = by (first_number is_open_one_row earlier) none
  where
    by : (o : Option ℕ) → option_or o (first_number is_open_empty earlier) ≡ None → first_number is_open_empty earlier ≡ None
    by None none = none
    by (Some n) none = cc

-- points that refute E1 are one binding
one_binding : (db : Database) (query : Query) (points : Points) → refutes db query Empty Null points ≡ true → (binding : Binding) × (points ≡ One binding)
one_binding db query (One binding) is = (binding, refl)
one_binding db query (Two one two) is = absurd (never (have_form db query Empty (Two one two)) is)
  where
    never : (b : Bool) → is_known_true (if b then Ok false else Ok false) ≡ true → ⊥
    never true is = cc
    never false is = cc
one_binding db query (Without binding) is = absurd (never (have_form db query Empty (Without binding)) is)
  where
    never : (b : Bool) → is_known_true (if b then Ok false else Ok false) ≡ true → ⊥
    never true is = cc
    never false is = cc

-- ---- E1's answer

module _ (schema : List Table) (query : Query) (number budget : ℕ) where
  record IsShown (answer : Answer) : Type 0 where
    counter : Counter
    only : counter_in answer ≡ Some counter
    refuted : IsRefuted schema query Empty Null counter

  shown : (earlier : List Answered) (n : ℕ) (answer : Answer) → first_number is_open_one_row earlier ≡ None → IsNext schema query number budget earlier (record { number = n; question = Empty; answer = answer }) →
      is_open_empty (record { number = n; question = Empty; answer = answer }) ≡ false → is_always_empty (record { number = n; question = Empty; answer = answer }) ≡ false → IsShown answer
  shown earlier n answer none is open_no always_no = by answer alone open_no always_no
    where
      alone : IsByCause schema query number budget None false earlier (record { number = n; question = Empty; answer = answer })
      alone = subst (λ o. IsByCause schema query number budget o false earlier (record { number = n; question = Empty; answer = answer })) none is

      by : (a : Answer) → IsByCause schema query number budget None false earlier (record { number = n; question = Empty; answer = a }) →
          is_open_empty (record { number = n; question = Empty; answer = a }) ≡ false → is_always_empty (record { number = n; question = Empty; answer = a }) ≡ false → IsShown a
      by (Always cert) is open_no always_no = cc
      by (NotAlways []) is open_no always_no = absurd is
      by (NotAlways (counter ∷ [])) is open_no always_no = record { counter = counter; only = refl; refuted = is }
      by (NotAlways (counter ∷ other ∷ counters)) is open_no always_no = absurd is
      by Moot is open_no always_no = cc
      by (Blocked k) is open_no always_no = absurd is
      by (CyclicKeys cycle counter key) is open_no always_no = cc
      by (CyclicNesting cycle) is open_no always_no = cc
      by (Large rows clauses) is open_no always_no = cc
      by (Spent tried) is open_no always_no = cc

  pub record HasValue (earlier : List Answered) : Type 0 where
    pub counter : Counter
    pub found : empty_counter earlier ≡ Some counter
    pub refuted : IsRefuted schema query Empty Null counter

  module _ (place item : ℕ) (answers : List Answer) (at : slice_get (questions schema query) place ≡ Some (Constant item))
      (are : AreRightFrom schema query number budget 1 [] (take place (questions schema query)) answers)
      (none : blocker (answered 1 (take place (questions schema query)) answers) (Constant item) ≡ None)
      (moot : is_moot (answered 1 (take place (questions schema query)) answers) (Constant item) ≡ false) where
    abbrev qs : List Question
    qs = take place (questions schema query)

    abbrev so_far : List Answered
    so_far = answered 1 qs answers

    any : Database
    any = record { tables = [] }

    low : count schema query < place
    low = behind_empty schema query any place item at

    empty_is : IsPlaced schema query number budget 1 [] qs answers (count schema query) Empty
    empty_is = placed schema query number budget qs answers 1 [] (count schema query) Empty are (take_at (questions schema query) place (count schema query) Empty low (empty_at schema query))

    abbrev here : Answered
    here = record { number = 1 + count schema query; question = Empty; answer = empty_is.answer }

    before : (j : ℕ) → j < count schema query → (y : Answered) × (slice_get so_far j ≡ Some y) × (is_empty y.question ≡ false)
    before j less =
        let room = low in
        let own = placed schema query number budget qs answers 1 [] j (OneRow j) are (take_at (questions schema query) place j (OneRow j) (omega arith) (scalar_at schema query j less)) in
        (record { number = 1 + j; question = OneRow j; answer = own.answer }, own.stands, refl)

    is_shown : IsShown empty_is.answer
    is_shown =
        shown (take (count schema query) so_far) (1 + count schema query) empty_is.answer (none_in_front is_open_one_row (count schema query) so_far (no_blocker so_far (Constant item) none)) empty_is.is
        (none_found is_open_empty so_far (count schema query) here (no_open_empty so_far item none) empty_is.stands)
        (never_found is_always_empty so_far (count schema query) here moot empty_is.stands)

    pub has_value : HasValue so_far
    has_value = record {
      counter = is_shown.counter;
      found =
          ap (option_and_then (λ (x : Answered). counter_in x.answer)) (found_at (λ (x : Answered). is_empty x.question) so_far (count schema query) here empty_is.stands refl before)
          ∙ is_shown.only;
      refuted = is_shown.refuted;
    }

  pub constant_value : (place item : ℕ) (answers : List Answer) → slice_get (questions schema query) place ≡ Some (Constant item) →
      AreRightFrom schema query number budget 1 [] (take place (questions schema query)) answers →
      blocker (answered 1 (take place (questions schema query)) answers) (Constant item) ≡ None →
      is_moot (answered 1 (take place (questions schema query)) answers) (Constant item) ≡ false →
      (counter : Counter) × (empty_counter (answered 1 (take place (questions schema query)) answers) ≡ Some counter)
      × IsRefuted schema query Empty Null counter × ((binding : Binding) × (counter.points ≡ One binding))
  constant_value place item answers at are none moot =
      let has = has_value place item answers at are none moot in
      (has.counter, has.found, has.refuted, one_binding has.counter.database query has.counter.points has.refuted.fails)
