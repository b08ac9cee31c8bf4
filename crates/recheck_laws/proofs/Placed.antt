-- Right answers at places: each has its question, and before one that is always each E9 is always.
use Rattle.std.proofs.Common.{◌≡◌, ◌∙◌, refl, sym, ap, subst, ℕ, zero, suc, ◌+◌, ◌<◌, Bool, true, false, not, ◌&&◌, List, [], ◌∷◌, ◌++◌, take, arith}
use Rattle.std.proofs.lemmas.Option.{same_Some}
use Rattle.std.specs.Prelude.{Option, Some, None, slice_get, if◌then◌else◌}
use Rattle.cert_checks.specs.Checks.{first_lacking, is_one_row}
use Rattle.lint_core.specs.declared.certificate.Cert.{Cert}
use Rattle.lint_core.specs.declared.query.Query.{Query}
use Rattle.lint_core.specs.declared.query.Question.{Question}
use Rattle.lint_core.specs.declared.query.Question.TheVariants.{OneRow, Empty, NeedlessDistinct, Constant, Duplicate, NeedlessJoin, Implied, Impossible, SameRow, NullInNotIn}
use Rattle.lint_core.specs.declared.run.Answer.{Answer}
use Rattle.lint_core.specs.declared.run.Answer.TheVariants.{Always, NotAlways, Moot, Blocked, CyclicKeys, CyclicNesting, Large, Spent}
use Rattle.lint_core.specs.declared.schema.Table.{Table}
use Rattle.lint_core.specs.Asked.{questions}
use Rattle.lint_engine.specs.AskingAll.{AreRightFrom, AreRightAnswers, IsByCause, IsNext}
use Rattle.lint_engine.specs.Earlier.{Answered, answered, blocker, first_number, is_always, is_moot, is_open_one_row}
use Rattle.lint_engine.proofs.EarlierHold.{no_blocker, none_found}
use Rattle.lint_engine.proofs.Going.{placed}
use Rattle.verdict_laws.proofs.Fronts.{answer_of}
use Rattle.recheck_laws.proofs.Members.{taken_at}

-- nothing lacks where each E9 has a certificate
pub nothing_lacks : (has : ℕ → Bool) (next : ℕ) (qs : List Question) → ((i : ℕ) (q : Question) → slice_get qs i ≡ Some q → is_one_row q ≡ true → has (next + i) ≡ true) →
    first_lacking has next qs ≡ None
nothing_lacks has next [] each = refl
nothing_lacks has next (q ∷ qs) each =
    by (is_one_row q) (has next) (first_lacking has (suc next) qs)
    (λ is. let plain : next + 0 ≡ next = omega arith in ap has (sym plain) ∙ each 0 q refl is)
    (nothing_lacks has (suc next) qs
    (λ i r at is. let same : suc next + i ≡ next + suc i = omega arith in ap has same ∙ each (suc i) r at is))
  where
    by : (one has : Bool) (rest : Option ℕ) → (one ≡ true → has ≡ true) → rest ≡ None → (if one && not has then Some next else rest) ≡ None
    by true true rest so none = none
    by true false rest so none = let never = so refl in cc
    by false has rest so none = none

abbrev one : ℕ → Question → Answer → Answered
one n q a = record { number = n; question = q; answer = a }

scalar : (q : Question) → is_one_row q ≡ true → (sub : ℕ) × (q ≡ OneRow sub)
scalar (OneRow sub) is = (sub, refl)
scalar Empty is = cc
scalar NeedlessDistinct is = cc
scalar (Constant item) is = cc
scalar (Duplicate item other) is = cc
scalar (NeedlessJoin entry) is = cc
scalar (Implied predicate) is = cc
scalar (Impossible predicate) is = cc
scalar (SameRow entry other) is = cc
scalar (NullInNotIn sub) is = cc

shut_always : (a : Answer) → not (is_always a) ≡ false → (cert : Cert) × (a ≡ Always cert)
shut_always (Always cert) is = (cert, refl)
shut_always (NotAlways counters) is = cc
shut_always Moot is = cc
shut_always (Blocked by) is = cc
shut_always (CyclicKeys cycle counter key) is = cc
shut_always (CyclicNesting cycle) is = cc
shut_always (Large rows clauses) is = cc
shut_always (Spent tried) is = cc

module _ (schema : List Table) (query : Query) (number budget : ℕ) where
  -- each answer has its question
  has_question : (next : ℕ) (earlier : List Answered) (qs : List Question) (given : List Answer) (place : ℕ) (a : Answer) →
      AreRightFrom schema query number budget next earlier qs given → slice_get given place ≡ Some a → (q : Question) × (slice_get qs place ≡ Some q)
  has_question next earlier qs [] place a are at = cc
  has_question next earlier [] (b ∷ bs) place a are at = absurd are
  has_question next earlier (q ∷ qs) (b ∷ bs) zero a are at = (q, refl)
  has_question next earlier (q ∷ qs) (b ∷ bs) (suc place) a are at = has_question (suc next) (earlier ++ one next q b ∷ []) qs bs place a are.1 at

  -- what is always is not blocked
  unblocked : (earlier : List Answered) (n : ℕ) (question : Question) (cert : Cert) → IsNext schema query number budget earlier (one n question (Always cert)) → blocker earlier question ≡ None
  unblocked earlier n question cert is = by (blocker earlier question) (is_moot earlier question) is
    where
      by : (o : Option ℕ) (moot : Bool) → IsByCause schema query number budget o moot earlier (one n question (Always cert)) → o ≡ None
      by (Some k) moot is = cc
      by None moot is = refl

  module _ (answers : List Answer) (are : AreRightAnswers schema query number budget answers) where
    abbrev all : List Answered
    all = answered 1 (questions schema query) answers

    pub asked_at : (place : ℕ) (a : Answer) → slice_get answers place ≡ Some a → (q : Question) × (slice_get (questions schema query) place ≡ Some q)
    asked_at place a told = has_question 1 [] (questions schema query) answers place a are told

    none_open : (place : ℕ) (question : Question) (cert : Cert) → slice_get (questions schema query) place ≡ Some question → slice_get answers place ≡ Some (Always cert) →
        first_number is_open_one_row (take place all) ≡ None
    none_open place question cert at told =
        let own = placed schema query number budget (questions schema query) answers 1 [] place question are at in
        let same : own.answer ≡ Always cert =
        same_Some own.answer (Always cert) (sym (answer_of (questions schema query) answers 1 place (one (1 + place) question own.answer) own.stands) ∙ told) in
        no_blocker (take place all) question
        (unblocked (take place all) (1 + place) question cert (subst (λ a. IsNext schema query number budget (take place all) (one (1 + place) question a)) same own.is))

    -- each E9 before one that is always is always
    pub earlier_always : (place : ℕ) (cert : Cert) → slice_get answers place ≡ Some (Always cert) → (i : ℕ) (q : Question) → i < place → slice_get (questions schema query) i ≡ Some q →
        is_one_row q ≡ true → (other : Cert) × (slice_get answers i ≡ Some (Always other))
    earlier_always place cert told i q low at is =
        let own_question = asked_at place (Always cert) told in
        let form = scalar q is in
        let own = placed schema query number budget (questions schema query) answers 1 [] i (OneRow form.0) are (at ∙ ap (λ q. Some q) form.1) in
        let x : Answered = one (1 + i) (OneRow form.0) own.answer in
        let shut : not (is_always own.answer) ≡ false =
        none_found is_open_one_row (take place all) i x (none_open place own_question.0 cert own_question.1 told) (taken_at all place i x low own.stands) in
        let found = shut_always own.answer shut in
        (found.0, answer_of (questions schema query) answers 1 i x own.stands ∙ ap (λ a. Some a) found.1)
