-- What is answered of all questions of a query: one answer for each, in order. A question is blocked, or else moot, exactly where
-- earlier answers say so; else it is answered as if it were asked alone. All E9 before it hold always then, so nothing is
-- said under a condition any more.
use Rattle.std.specs.Prelude.{◌≡◌, ℕ, suc, Bool, true, false, List, [], ◌∷◌, ◌++◌, Option, Some, None}
use Rattle.lint_core.specs.declared.certificate.Cert.{Cert}
use Rattle.lint_core.specs.declared.database.Counter.{Counter}
use Rattle.lint_core.specs.declared.database.Value.{Value}
use Rattle.lint_core.specs.declared.query.Query.{Query}
use Rattle.lint_core.specs.declared.query.Question.{Question}
use Rattle.lint_core.specs.declared.run.Answer.{Answer}
use Rattle.lint_core.specs.declared.run.Answer.TheVariants.{Always, NotAlways, Moot, Blocked}
use Rattle.lint_core.specs.declared.schema.Table.{Table}
use Rattle.lint_core.specs.Asked.{questions}
use Rattle.lint_core.specs.Question.{refutes, HoldsAlways}
use Rattle.lint_engine.specs.Asking.{Numbers, IsCertificate, IsCounter, IsWithinLimits, InOrder, IsAskAnswer}
use Rattle.lint_engine.specs.Earlier.{Answered, blocker, is_moot, is_constant, empty_counter, given_for}

module _ (schema : List Table) (query : Query) (question : Question) (given : Value) where
  -- the certificate is right, and the question holds in every database that meets the schema
  pub record IsProved (numbers : Numbers) (cert : Cert) : Type 0 where
    pub limits : InOrder schema query question given (IsWithinLimits schema query question given)
    pub certificate : IsCertificate schema query question given numbers cert
    pub holds : HoldsAlways schema query question given

  -- the database meets the schema, and the points refute the question there
  pub record IsRefuted (counter : Counter) : Type 0 where
    pub limits : InOrder schema query question given (IsWithinLimits schema query question given)
    pub counter_is : IsCounter schema query question given counter
    pub fails : refutes counter.database query question given counter.points ≡ true

  -- as if it were asked alone
  abbrev pub IsOwnAnswer : Numbers → ℕ → Answer → Type 0
  IsOwnAnswer numbers budget (Always cert) = IsProved numbers cert
  IsOwnAnswer numbers budget (NotAlways []) = ⊥
  IsOwnAnswer numbers budget (NotAlways (counter ∷ [])) = IsRefuted counter
  IsOwnAnswer numbers budget (NotAlways (counter ∷ other ∷ counters)) = ⊥
  IsOwnAnswer numbers budget answer = IsAskAnswer schema query question given numbers budget answer

  -- of a constant column two databases show that it has two values: E1's, in which it has the given one, and another
  abbrev pub IsConstantAnswer : Option Counter → Numbers → ℕ → Answer → Type 0
  IsConstantAnswer first numbers budget (NotAlways []) = ⊥
  IsConstantAnswer first numbers budget (NotAlways (counter ∷ [])) = ⊥
  IsConstantAnswer first numbers budget (NotAlways (counter ∷ other ∷ [])) = (first ≡ Some counter) × IsRefuted other
  IsConstantAnswer first numbers budget (NotAlways (counter ∷ other ∷ third ∷ counters)) = ⊥
  IsConstantAnswer first numbers budget answer = IsOwnAnswer numbers budget answer

module _ (schema : List Table) (query : Query) (number budget : ℕ) where
  abbrev pub IsAlone : Bool → List Answered → Answered → Type 0
  IsAlone true earlier x =
      IsConstantAnswer schema query x.question (given_for query earlier x.question) (empty_counter earlier) (record { query = number; question = x.number }) budget x.answer
  IsAlone false earlier x = IsOwnAnswer schema query x.question (given_for query earlier x.question) (record { query = number; question = x.number }) budget x.answer

  abbrev pub IsByCause : Option ℕ → Bool → List Answered → Answered → Type 0
  IsByCause (Some by) moot earlier x = x.answer ≡ Blocked by
  IsByCause None true earlier x = x.answer ≡ Moot
  IsByCause None false earlier x = IsAlone (is_constant x.question) earlier x

  -- the answer behind the earlier ones is right
  abbrev pub IsNext : List Answered → Answered → Type 0
  IsNext earlier x = IsByCause (blocker earlier x.question) (is_moot earlier x.question) earlier x

  -- one for each question, behind earlier ones; the first has this number
  abbrev pub AreRightFrom : ℕ → List Answered → List Question → List Answer → Type 0
  AreRightFrom next earlier [] [] = Unit {0}
  AreRightFrom next earlier [] (a ∷ answers) = ⊥
  AreRightFrom next earlier (q ∷ qs) [] = ⊥
  AreRightFrom next earlier (q ∷ qs) (a ∷ answers) =
      let here : Answered = record { number = next; question = q; answer = a } in
      IsNext earlier here × AreRightFrom (suc next) (earlier ++ here ∷ []) qs answers

  abbrev pub AreRightAnswers : List Answer → Type 0
  AreRightAnswers answers = AreRightFrom 1 [] (questions schema query) answers
