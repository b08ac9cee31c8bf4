-- Right answers, one after the other.
use Rattle.std.proofs.Common.{◌≡◌, ◌∙◌, sym, ap, subst, ℕ, zero, suc, ◌+◌, List, [], ◌∷◌, ◌++◌, length, take, append_assoc, append-nil, arith}
use Rattle.std.proofs.lemmas.Option.{same_Some}
use Rattle.std.specs.Prelude.{Some, slice_get}
use Rattle.lint_core.specs.declared.query.Query.{Query}
use Rattle.lint_core.specs.declared.query.Question.{Question}
use Rattle.lint_core.specs.declared.run.Answer.{Answer}
use Rattle.lint_core.specs.declared.schema.Table.{Table}
use Rattle.lint_engine.specs.AskingAll.{AreRightFrom, IsNext}
use Rattle.lint_engine.specs.Earlier.{Answered, answered}

module _ (schema : List Table) (query : Query) (number budget : ℕ) where
  abbrev Next : List Answered → Answered → Type 0
  Next = IsNext schema query number budget

  abbrev AreRight : ℕ → List Answered → List Question → List Answer → Type 0
  AreRight = AreRightFrom schema query number budget

  abbrev one : ℕ → Question → Answer → Answered
  one next q a = record { number = next; question = q; answer = a }

  -- one more
  right_more : (qs : List Question) (given : List Answer) (next : ℕ) (earlier : List Answered) (q : Question) (a : Answer) → AreRight next earlier qs given →
      Next (earlier ++ answered next qs given) (one (next + length qs) q a) → AreRight next earlier (qs ++ q ∷ []) (given ++ a ∷ [])
  right_more [] [] next earlier q a are is =
      let same : next + 0 ≡ next = omega arith in
      (subst (λ n. Next earlier (one n q a)) same (subst (λ xs. Next xs (one (next + 0) q a)) (append-nil earlier) is), tt)
  right_more [] (b ∷ bs) next earlier q a are is = absurd are
  right_more (r ∷ rs) [] next earlier q a are is = absurd are
  right_more (r ∷ rs) (b ∷ bs) next earlier q a are is =
      let same : next + suc (length rs) ≡ suc next + length rs = omega arith in (
        are.0,
        right_more rs bs (suc next) (earlier ++ one next r b ∷ []) q a are.1
            (subst (λ n. Next ((earlier ++ one next r b ∷ []) ++ answered (suc next) rs bs) (one n q a)) same
            (subst (λ xs. Next xs (one (next + suc (length rs)) q a)) (sym (append_assoc earlier (one next r b ∷ []) (answered (suc next) rs bs))) is)),
      )

  pub right_next : (qs : List Question) (given : List Answer) (q : Question) (a : Answer) → AreRight 1 [] qs given → Next (answered 1 qs given) (one (1 + length qs) q a) →
      AreRight 1 [] (qs ++ q ∷ []) (given ++ a ∷ [])
  right_next qs given q a are is = right_more qs given 1 [] q a are is

  -- each answer is right behind those before it, at the place of its question
  pub record IsPlaced (next : ℕ) (earlier : List Answered) (qs : List Question) (given : List Answer) (place : ℕ) (q : Question) : Type 0 where
    pub answer : Answer
    pub stands : slice_get (answered next qs given) place ≡ Some (one (next + place) q answer)
    pub is : Next (earlier ++ take place (answered next qs given)) (one (next + place) q answer)

  pub placed : (qs : List Question) (given : List Answer) (next : ℕ) (earlier : List Answered) (place : ℕ) (q : Question) → AreRight next earlier qs given → slice_get qs place ≡ Some q →
      IsPlaced next earlier qs given place q
  placed [] given next earlier place q are at = cc
  placed (r ∷ rs) [] next earlier place q are at = absurd are
  placed (r ∷ rs) (b ∷ bs) next earlier zero q are at =
      let same : r ≡ q = same_Some r q at in
      let plain : next ≡ next + 0 = omega arith in
      record {
        answer = b;
        stands = ap (λ r. Some (one next r b)) same ∙ ap (λ n. Some (one n q b)) plain;
        is = subst (λ xs. Next xs (one (next + 0) q b)) (sym (append-nil earlier)) (subst (λ n. Next earlier (one n q b)) plain (subst (λ r. Next earlier (one next r b)) same are.0));
      }
  placed (r ∷ rs) (b ∷ bs) next earlier (suc place) q are at =
      let rest = placed rs bs (suc next) (earlier ++ one next r b ∷ []) place q are.1 at in
      let same : suc next + place ≡ next + suc place = omega arith in
      record {
        answer = rest.answer;
        stands = rest.stands ∙ ap (λ n. Some (one n q rest.answer)) same;
        is =
            subst (λ xs. Next xs (one (next + suc place) q rest.answer)) (append_assoc earlier (one next r b ∷ []) (take place (answered (suc next) rs bs)))
            (subst (λ n. Next ((earlier ++ one next r b ∷ []) ++ take place (answered (suc next) rs bs)) (one n q rest.answer)) same rest.is);
      }
