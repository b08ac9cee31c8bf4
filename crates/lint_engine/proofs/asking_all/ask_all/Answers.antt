use Rattle.std.proofs.Common.{◌≡◌, ◌∙◌, ap, sym, subst, ℕ, ◌+◌, ◌<◌, List, [], ◌∷◌, ◌++◌, length, take, get_or}
use Rattle.std.proofs.lemmas.List.{length-append}
use Rattle.std.proofs.lemmas.Option.{get_or_from_slice_get, slice_get-get_or}
use Rattle.lint_core.specs.declared.query.Question.{Question}
use Rattle.lint_core.specs.declared.query.Question.TheVariants.{OneRow}
use Rattle.lint_core.specs.declared.run.Answer.{Answer}
use Rattle.lint_core.specs.Asked.{questions}
use Rattle.lint_engine.specs.AskingAll.{IsNext}
use Rattle.lint_engine.specs.Earlier.{answered}
use Rattle.lint_engine.proofs.Turns.{turn_more}
use Rattle.lint_engine.proofs.asking_all.ask_all.Goals as goal

pub loop-place-preserved : goal.loop-place-preserved
loop-place-preserved c =
    let schema = c.args.schema.now in
    let query = c.args.query.now in
    let place : ℕ = c.loop-place.place in
    let those : List Question = c.as_slice-asked.result.now in
    let all : List Question = questions schema query in
    let those_are : those ≡ all = c.as_slice-asked.ensures ∙ c.in_ok-questions.ensures in
    let answers : List Answer = c.loop-place.answers in
    let answer : Answer = c.in_ok-answer.answer in
    let more : c.push.new.self ≡ answers ++ answer ∷ [] = c.in_ok-push.ensures.ok in
    let low : place < length those = c.loop-place-test.true in
    let q : Question = get_or those place (OneRow 0) in
    let q_is : q ≡ get_or those place q = sym (get_or_from_slice_get those place q q (slice_get-get_or those place (OneRow 0) low)) in
    let said : IsNext schema query c.args.number c.args.budget (answered 1 (take place those) c.as_slice.result.now) (record { number = 1 + length (take place those); question = q; answer = answer }) = c.in_ok-answer.ensures in
    let next : IsNext schema query c.args.number c.args.budget (answered 1 (take place all) answers) (record { number = 1 + length (take place all); question = q; answer = answer }) =
    subst (λ (qs : List Question). IsNext schema query c.args.number c.args.budget (answered 1 (take place qs) answers) (record { number = 1 + length (take place qs); question = q; answer = answer })) those_are
    (subst (λ (as_ : List Answer). IsNext schema query c.args.number c.args.budget (answered 1 (take place those) as_) (record { number = 1 + length (take place those); question = q; answer = answer })) c.as_slice.ensures said) in
    let many : length answers ≡ place = c.loop-place.invariant.as_many in
    record {
      as_many = ap length more ∙ (length-append answers (answer ∷ []) ∙ ap (λ n. n + 1) many);
      right = turn_more schema query c.args.number c.args.budget place q answers c.push.new.self answer
          (subst (λ (qs : List Question). place < length qs) those_are low) (subst (λ (qs : List Question). q ≡ get_or qs place q) those_are q_is) more c.loop-place.invariant.right next;
    }
