-- Looking along questions and their answers.
use Rattle.std.proofs.Common.{◌≡◌, ◌∙◌, ap, refl, sym, ℕ, suc, ◌+◌, ◌<◌, ◌≤◌, Bool, true, false, cond, List, [], ◌∷◌, length, get_or, drop, drop-cons, arith}
use Rattle.std.proofs.lemmas.List.{drop_all}
use Rattle.std.specs.Prelude.{Option, Some, None, is_some, find, ◌||◌}
use Rattle.std.specs.Option.{option_map, option_or}
use Rattle.lint_core.specs.declared.query.Question.{Question}
use Rattle.lint_core.specs.declared.query.Question.TheVariants.{OneRow, Empty, NeedlessDistinct, Constant, Duplicate, NeedlessJoin, Implied, Impossible, SameRow, NullInNotIn}
use Rattle.lint_core.specs.declared.run.Answer.{Answer}
use Rattle.lint_engine.specs.Earlier.{Answered, answered, blocker, first_number, is_moot, is_one_row, is_empty, is_constant, is_open_one_row, is_open_empty, is_always_empty}

abbrev pub one : ℕ → Question → Answer → Answered
one n q a = record { number = n; question = q; answer = a }

none_behind : (n : ℕ) (qs : List Question) → answered n qs [] ≡ []
none_behind n [] = refl
none_behind n (q ∷ qs) = refl

-- those from a place on
abbrev pub rest : List Question → List Answer → ℕ → List Answered
rest qs answers k = answered (1 + k) (drop k qs) (drop k answers)

module _ (test : Answered → Bool) (qs : List Question) (answers : List Answer) (i : ℕ) where
  pub ended : length answers ≤ i → find test (rest qs answers i) ≡ None
  ended past = ap (find test) (ap (answered (1 + i) (drop i qs)) (drop_all i answers past) ∙ none_behind (1 + i) (drop i qs))

  module _ (q : Question) (a : Answer) (in_qs : i < length qs) (in_as : i < length answers) (q_is : q ≡ get_or qs i q) (a_is : a ≡ get_or answers i a) where
    pub next_is : rest qs answers i ≡ one (1 + i) q a ∷ rest qs answers (i + 1)
    next_is =
        let qs_are : drop i qs ≡ q ∷ drop (suc i) qs = drop-cons qs i q in_qs ∙ ap (λ (r : Question). r ∷ drop (suc i) qs) (sym q_is) in
        let as_are : drop i answers ≡ a ∷ drop (suc i) answers = drop-cons answers i a in_as ∙ ap (λ (b : Answer). b ∷ drop (suc i) answers) (sym a_is) in
        let more : suc i ≡ i + 1 = omega arith in
        let number : suc (1 + i) ≡ 1 + (i + 1) = omega arith in
        ap (λ (rs : List Question). answered (1 + i) rs (drop i answers)) qs_are
        ∙ (ap (answered (1 + i) (q ∷ drop (suc i) qs)) as_are
        ∙ (ap (λ (k : ℕ). one (1 + i) q a ∷ answered (suc (1 + i)) (drop k qs) (drop k answers)) more
        ∙ ap (λ (k : ℕ). one (1 + i) q a ∷ answered k (drop (i + 1) qs) (drop (i + 1) answers)) number))

    pub passed : test (one (1 + i) q a) ≡ false → find test (rest qs answers i) ≡ find test (rest qs answers (i + 1))
    passed fails = ap (find test) next_is ∙ ap (λ b. cond b (Some (one (1 + i) q a)) (find test (rest qs answers (i + 1)))) fails

    pub found : test (one (1 + i) q a) ≡ true → find test (rest qs answers i) ≡ Some (one (1 + i) q a)
    found holds = ap (find test) next_is ∙ ap (λ b. cond b (Some (one (1 + i) q a)) (find test (rest qs answers (i + 1)))) holds

-- ---- what blocks, and what is moot

pub blocker_of_constant : (earlier : List Answered) (question : Question) → is_constant question ≡ true → first_number is_open_one_row earlier ≡ None →
    blocker earlier question ≡ first_number is_open_empty earlier
blocker_of_constant earlier (OneRow sub) is none = cc
blocker_of_constant earlier Empty is none = cc
blocker_of_constant earlier NeedlessDistinct is none = cc
blocker_of_constant earlier (Constant item) is none = ap (λ (o : Option ℕ). option_or o (first_number is_open_empty earlier)) none
blocker_of_constant earlier (Duplicate item other) is none = cc
blocker_of_constant earlier (NeedlessJoin entry) is none = cc
blocker_of_constant earlier (Implied predicate) is none = cc
blocker_of_constant earlier (Impossible predicate) is none = cc
blocker_of_constant earlier (SameRow entry other) is none = cc
blocker_of_constant earlier (NullInNotIn sub) is none = cc

pub blocker_of_other : (earlier : List Answered) (question : Question) → is_constant question ≡ false → blocker earlier question ≡ first_number is_open_one_row earlier
blocker_of_other earlier (OneRow sub) is = refl
blocker_of_other earlier Empty is = refl
blocker_of_other earlier NeedlessDistinct is = refl
blocker_of_other earlier (Constant item) is = cc
blocker_of_other earlier (Duplicate item other) is = refl
blocker_of_other earlier (NeedlessJoin entry) is = refl
blocker_of_other earlier (Implied predicate) is = refl
blocker_of_other earlier (Impossible predicate) is = refl
blocker_of_other earlier (SameRow entry other) is = refl
blocker_of_other earlier (NullInNotIn sub) is = refl

-- the first E9 that is not Always blocks any
pub blocker_by_first : (earlier : List Answered) (question : Question) (n : ℕ) → first_number is_open_one_row earlier ≡ Some n → blocker earlier question ≡ Some n
blocker_by_first earlier question n first = by (is_constant question) refl
  where
    of_constant : (q : Question) → is_constant q ≡ true → blocker earlier q ≡ Some n
    of_constant (OneRow sub) is = cc
    of_constant Empty is = cc
    of_constant NeedlessDistinct is = cc
    of_constant (Constant item) is = ap (λ (o : Option ℕ). option_or o (first_number is_open_empty earlier)) first
    of_constant (Duplicate item other) is = cc
    of_constant (NeedlessJoin entry) is = cc
    of_constant (Implied predicate) is = cc
    of_constant (Impossible predicate) is = cc
    of_constant (SameRow entry other) is = cc
    of_constant (NullInNotIn sub) is = cc

    by : (b : Bool) → is_constant question ≡ b → blocker earlier question ≡ Some n
    by true is = of_constant question is
    by false is = blocker_of_other earlier question is ∙ first

pub moot_of_first : (earlier : List Answered) (question : Question) → (is_one_row question || is_empty question) ≡ true → is_moot earlier question ≡ false
moot_of_first earlier (OneRow sub) is = refl
moot_of_first earlier Empty is = refl
moot_of_first earlier NeedlessDistinct is = cc
moot_of_first earlier (Constant item) is = cc
moot_of_first earlier (Duplicate item other) is = cc
moot_of_first earlier (NeedlessJoin entry) is = cc
moot_of_first earlier (Implied predicate) is = cc
moot_of_first earlier (Impossible predicate) is = cc
moot_of_first earlier (SameRow entry other) is = cc
moot_of_first earlier (NullInNotIn sub) is = cc

pub moot_of_other : (earlier : List Answered) (question : Question) → is_one_row question ≡ false → is_empty question ≡ false →
    is_moot earlier question ≡ is_some (first_number is_always_empty earlier)
moot_of_other earlier question not_rows not_empty = of question not_rows not_empty ∙ told (find is_always_empty earlier)
  where
    told : (o : Option Answered) → is_some o ≡ is_some (option_map (λ (x : Answered). x.number) o)
    told None = refl
    told (Some x) = refl

    of : (q : Question) → is_one_row q ≡ false → is_empty q ≡ false → is_moot earlier q ≡ is_some (find is_always_empty earlier)
    of (OneRow sub) rows empty = cc
    of Empty rows empty = cc
    of NeedlessDistinct rows empty = refl
    of (Constant item) rows empty = refl
    of (Duplicate item other) rows empty = refl
    of (NeedlessJoin entry) rows empty = refl
    of (Implied predicate) rows empty = refl
    of (Impossible predicate) rows empty = refl
    of (SameRow entry other) rows empty = refl
    of (NullInNotIn sub) rows empty = refl
