-- One turn: the next question, and its answer.
use Rattle.std.proofs.Common.{◌≡◌, ◌∙◌, sym, ap, refl, subst, ℕ, ◌+◌, ◌-◌, ◌^◌, ◌<◌, true, false, List, [], ◌∷◌, ◌++◌, length, take, get_or, arith}
use Rattle.std.proofs.lemmas.List.{length-take-le, take_more}
use Rattle.std.proofs.lemmas.Option.{slice_get-get_or}
use Rattle.std.specs.Prelude.{Option, Some, None, slice_get}
use Rattle.std.specs.Option.{option_map_or}
use Rattle.lint_core.specs.declared.database.Counter.{Counter}
use Rattle.lint_core.specs.declared.database.Database.{Database}
use Rattle.lint_core.specs.declared.database.Value.{Value}
use Rattle.lint_core.specs.declared.database.Value.TheVariants.{Null}
use Rattle.lint_core.specs.declared.query.Query.{Query}
use Rattle.lint_core.specs.declared.query.Question.{Question}
use Rattle.lint_core.specs.declared.query.Question.TheVariants.{OneRow, Empty, NeedlessDistinct, Constant, Duplicate, NeedlessJoin, Implied, Impossible, SameRow, NullInNotIn}
use Rattle.lint_core.specs.declared.run.Answer.{Answer}
use Rattle.lint_core.specs.declared.run.Answer.TheVariants.{Always, NotAlways, Moot, Blocked, CyclicKeys, CyclicNesting, Large, Spent}
use Rattle.lint_core.specs.declared.schema.Table.{Table}
use Rattle.lint_core.specs.Asked.{candidates, is_asked, questions}
use Rattle.lint_core.specs.Meets.{meets}
use Rattle.lint_core.specs.Question.{EarlierHold}
use Rattle.lint_engine.specs.Asking.{Numbers, IsAskAnswer}
use Rattle.lint_engine.specs.AskingAll.{AreRightFrom, IsAlone, IsByCause, IsConstantAnswer, IsNext, IsOwnAnswer}
use Rattle.lint_engine.specs.Earlier.{Answered, answered, blocker, empty_counter, given_for, is_constant, is_moot, value_at}
use Rattle.lint_engine.specs.inner.Turns.{IsTurn}
use Rattle.lint_engine.proofs.ConstantValue.{constant_value}
use Rattle.lint_engine.proofs.EarlierHold.{earlier_hold, own, passes}
use Rattle.lint_engine.proofs.Going.{right_next}

module _ (schema : List Table) (query : Query) (number budget : ℕ) where
  abbrev qs : List Question
  qs = questions schema query

  -- ---- the next question

  pub turn : (place : ℕ) (q : Question) (answers : List Answer) → place < length qs → q ≡ get_or qs place q → length answers ≡ place → place < 2 ^ 32 - 1 →
      AreRightFrom schema query number budget 1 [] (take place qs) answers → IsTurn schema query number budget (take place qs) answers q
  turn place q answers low is many few right =
      let so_many : length (take place qs) ≡ place = length-take-le place qs (omega arith) in
      record {
        as_many = omega arith;
        few = omega arith;
        before = ap (λ n. take n qs) so_many;
        stands = ap (slice_get qs) so_many ∙ (slice_get-get_or qs place q low ∙ ap Some (sym is));
        right = right;
      }

  pub turn_more : (place : ℕ) (q : Question) (answers more : List Answer) (a : Answer) → place < length qs → q ≡ get_or qs place q → more ≡ answers ++ a ∷ [] →
      AreRightFrom schema query number budget 1 [] (take place qs) answers →
      IsNext schema query number budget (answered 1 (take place qs) answers) (record { number = 1 + length (take place qs); question = q; answer = a }) →
      AreRightFrom schema query number budget 1 [] (take (place + 1) qs) more
  turn_more place q answers more a low is more_is right next =
      subst (AreRightFrom schema query number budget 1 [] (take (place + 1) qs)) (sym more_is)
      (subst (λ (asked : List Question). AreRightFrom schema query number budget 1 [] asked (answers ++ a ∷ []))
      (sym (take_more qs place q low ∙ ap (λ (r : Question). take place qs ++ r ∷ []) (sym is)))
      (right_next schema query number budget (take place qs) answers q a right next))

  -- ---- what is answered

  pub by_blocker : (earlier : List Answered) (x : Answered) (n : ℕ) → blocker earlier x.question ≡ Some n → x.answer ≡ Blocked n → IsNext schema query number budget earlier x
  by_blocker earlier x n blocks is = subst (λ o. IsByCause schema query number budget o (is_moot earlier x.question) earlier x) (sym blocks) is

  pub by_moot : (earlier : List Answered) (x : Answered) → blocker earlier x.question ≡ None → is_moot earlier x.question ≡ true → x.answer ≡ Moot → IsNext schema query number budget earlier x
  by_moot earlier x none moot is =
      subst (λ o. IsByCause schema query number budget o (is_moot earlier x.question) earlier x) (sym none)
      (subst (λ b. IsByCause schema query number budget None b earlier x) (sym moot) is)

  pub by_itself : (earlier : List Answered) (x : Answered) → blocker earlier x.question ≡ None → is_moot earlier x.question ≡ false →
      IsAlone schema query number budget (is_constant x.question) earlier x → IsNext schema query number budget earlier x
  by_itself earlier x none worth is =
      subst (λ o. IsByCause schema query number budget o (is_moot earlier x.question) earlier x) (sym none)
      (subst (λ b. IsByCause schema query number budget None b earlier x) (sym worth) is)

  -- ---- a question that is judged

  module _ (asked : List Question) (answers : List Answer) (q : Question) (here : IsTurn schema query number budget asked answers q) where
    abbrev earlier : List Answered
    earlier = answered 1 asked answers

    pub next_is_asked : is_asked schema query q ≡ true
    next_is_asked = passes (is_asked schema query) (candidates query) (length asked) q here.stands

    pub hold : blocker earlier q ≡ None → (db : Database) → meets schema db ≡ true → EarlierHold db query q
    hold none =
        earlier_hold schema query number budget (length asked) q answers here.stands
        (subst (λ (those : List Question). AreRightFrom schema query number budget 1 [] those answers) (sym here.before) here.right)
        (subst (λ (those : List Question). blocker (answered 1 those answers) q ≡ None) (sym here.before) none)

    pub own_answer : blocker earlier q ≡ None → (given : Value) (numbers : Numbers) (answer : Answer) → IsAskAnswer schema query q given numbers budget answer →
        IsOwnAnswer schema query q given numbers budget answer
    own_answer none given numbers answer is = own schema query q given numbers budget (hold none) answer is

    -- with the value that it is to be asked of, and its number counted from the other side
    pub own_of : blocker earlier q ≡ None → (given : Value) → given ≡ given_for query earlier q → (answer : Answer) →
        IsAskAnswer schema query q given (record { query = number; question = length asked + 1 }) budget answer →
        IsOwnAnswer schema query q (given_for query earlier q) (record { query = number; question = 1 + length asked }) budget answer
    own_of none given same answer is =
        let one : length asked + 1 ≡ 1 + length asked = omega arith in
        subst (λ (v : Value). IsOwnAnswer schema query q v (record { query = number; question = 1 + length asked }) budget answer) same
        (subst (λ (n : ℕ). IsOwnAnswer schema query q given (record { query = number; question = n }) budget answer) one
        (own_answer none given (record { query = number; question = length asked + 1 }) answer is))

  pub first_there : (asked : List Question) (answers : List Answer) (item : ℕ) → IsTurn schema query number budget asked answers (Constant item) →
      blocker (answered 1 asked answers) (Constant item) ≡ None → is_moot (answered 1 asked answers) (Constant item) ≡ false → empty_counter (answered 1 asked answers) ≡ None → ⊥
  first_there asked answers item here none worth missing =
      let back = sym here.before in
      let has = constant_value schema query number budget (length asked) item answers here.stands
      (subst (λ (those : List Question). AreRightFrom schema query number budget 1 [] those answers) back here.right)
      (subst (λ (those : List Question). blocker (answered 1 those answers) (Constant item) ≡ None) back none)
      (subst (λ (those : List Question). is_moot (answered 1 those answers) (Constant item) ≡ false) back worth) in
      let found : empty_counter (answered 1 asked answers) ≡ Some has.0 = subst (λ (those : List Question). empty_counter (answered 1 those answers) ≡ Some has.0) here.before has.1 in
      cc

-- ---- constant columns

pub given_is : (query : Query) (earlier : List Answered) (item : ℕ) (first : Counter) → empty_counter earlier ≡ Some first →
    value_at first.database query item first.points ≡ given_for query earlier (Constant item)
given_is query earlier item first found = ap (λ (o : Option Counter). option_map_or (λ (c : Counter). value_at c.database query item c.points) o Null) (sym found)

pub given_other : (query : Query) (earlier : List Answered) (q : Question) → is_constant q ≡ false → Null ≡ given_for query earlier q
given_other query earlier (OneRow sub) is = refl
given_other query earlier Empty is = refl
given_other query earlier NeedlessDistinct is = refl
given_other query earlier (Constant item) is = cc
given_other query earlier (Duplicate item other) is = refl
given_other query earlier (NeedlessJoin entry) is = refl
given_other query earlier (Implied predicate) is = refl
given_other query earlier (Impossible predicate) is = refl
given_other query earlier (SameRow entry other) is = refl
given_other query earlier (NullInNotIn sub) is = refl

pub not_constant : (q : Question) → ((item : ℕ) → q ≡ Constant item → ⊥) → is_constant q ≡ false
not_constant (OneRow sub) other = refl
not_constant Empty other = refl
not_constant NeedlessDistinct other = refl
not_constant (Constant item) other = absurd (other item refl)
not_constant (Duplicate item second) other = refl
not_constant (NeedlessJoin entry) other = refl
not_constant (Implied predicate) other = refl
not_constant (Impossible predicate) other = refl
not_constant (SameRow entry second) other = refl
not_constant (NullInNotIn sub) other = refl

module _ (schema : List Table) (query : Query) (q : Question) (given : Value) (numbers : Numbers) (budget : ℕ) where
  pub constant_two : (found : Option Counter) (first : Counter) → found ≡ Some first → (others : List Counter) → IsOwnAnswer schema query q given numbers budget (NotAlways others) →
      IsConstantAnswer schema query q given found numbers budget (NotAlways (first ∷ others))
  constant_two found first is [] own = absurd own
  constant_two found first is (other ∷ []) own = (is, own)
  constant_two found first is (other ∷ third ∷ others) own = absurd own

  pub constant_else : (found : Option Counter) (answer : Answer) → ((counters : List Counter) → answer ≡ NotAlways counters → ⊥) → IsOwnAnswer schema query q given numbers budget answer →
      IsConstantAnswer schema query q given found numbers budget answer
  constant_else found (Always cert) other own = own
  constant_else found (NotAlways counters) other own = absurd (other counters refl)
  constant_else found Moot other own = own
  constant_else found (Blocked by) other own = own
  constant_else found (CyclicKeys cycle counter key) other own = own
  constant_else found (CyclicNesting cycle) other own = own
  constant_else found (Large rows clauses) other own = own
  constant_else found (Spent tried) other own = own
