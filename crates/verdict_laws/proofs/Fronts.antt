-- The first of the questions and their answers.
use Rattle.std.proofs.Common.{◌≡◌, ap, refl, ℕ, zero, suc, List, [], ◌∷◌, ◌++◌, take}
use Rattle.std.specs.Prelude.{Option, Some, slice_get}
use Rattle.std.specs.Option.{option_map}
use Rattle.lint_core.specs.declared.query.Query.{Query}
use Rattle.lint_core.specs.declared.query.Question.{Question}
use Rattle.lint_core.specs.declared.run.Answer.{Answer}
use Rattle.lint_core.specs.declared.schema.Table.{Table}
use Rattle.lint_engine.specs.AskingAll.{AreRightFrom}
use Rattle.lint_engine.specs.Earlier.{Answered, answered}

-- the answer that stands there is the one of that place
pub answer_of : (qs : List Question) (given : List Answer) (n place : ℕ) (x : Answered) → slice_get (answered n qs given) place ≡ Some x → slice_get given place ≡ Some x.answer
answer_of [] given n place x at = cc
answer_of (q ∷ qs) [] n place x at = cc
answer_of (q ∷ qs) (a ∷ given) n zero x at = ap (λ (o : Option Answered). option_map (λ (x : Answered). x.answer) o) at
answer_of (q ∷ qs) (a ∷ given) n (suc place) x at = answer_of qs given (suc n) place x at

pub answered_front : (place : ℕ) (qs : List Question) (given : List Answer) (n : ℕ) → answered n (take place qs) (take place given) ≡ take place (answered n qs given)
answered_front zero qs given n = refl
answered_front (suc place) [] given n = refl
answered_front (suc place) (q ∷ qs) [] n = refl
answered_front (suc place) (q ∷ qs) (a ∷ given) n = ap (λ (xs : List Answered). record { number = n; question = q; answer = a } ∷ xs) (answered_front place qs given (suc n))

-- the first right answers are right
pub right_front : (schema : List Table) (query : Query) (number budget place : ℕ) (qs : List Question) (given : List Answer) (n : ℕ) (earlier : List Answered) →
    AreRightFrom schema query number budget n earlier qs given → AreRightFrom schema query number budget n earlier (take place qs) (take place given)
right_front schema query number budget zero qs given n earlier are = tt
right_front schema query number budget (suc place) [] [] n earlier are = tt
right_front schema query number budget (suc place) [] (a ∷ given) n earlier are = absurd are
right_front schema query number budget (suc place) (q ∷ qs) [] n earlier are = absurd are
right_front schema query number budget (suc place) (q ∷ qs) (a ∷ given) n earlier are =
    (are.0, right_front schema query number budget place qs given (suc n) (earlier ++ record { number = n; question = q; answer = a } ∷ []) are.1)
