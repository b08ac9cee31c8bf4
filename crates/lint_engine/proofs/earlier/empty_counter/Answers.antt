use Rattle.std.proofs.Common.{◌≡◌, ◌∙◌, sym, ℕ, ◌<◌, arith, length, get_or}
use Rattle.std.proofs.lemmas.Option.{get_or_from_slice_get, slice_get-get_or}
use Rattle.lint_core.specs.declared.query.Question.{Question}
use Rattle.lint_core.specs.declared.query.Question.TheVariants.{OneRow}
use Rattle.lint_core.specs.declared.run.Answer.{Answer}
use Rattle.lint_core.specs.declared.run.Answer.TheVariants.{Moot}
use Rattle.lint_engine.specs.Earlier.{Answered, is_empty}
use Rattle.lint_engine.proofs.Looking.{passed}
use Rattle.lint_engine.proofs.earlier.empty_counter.Goals as goal

pub loop-place-preserved : goal.loop-place-preserved
loop-place-preserved c =
    let i : ℕ = c.loop-place.place in
    let asked = c.args.asked.now in
    let answers = c.args.answers.now in
    let same : length asked ≡ length answers = c.requires in
    let in_as : i < length answers = c.loop-place-test.true in
    let in_qs : i < length asked = omega arith in
    let q : Question = get_or asked i (OneRow 0) in
    let q_is : q ≡ get_or asked i q = sym (get_or_from_slice_get asked i q q (slice_get-get_or asked i (OneRow 0) in_qs)) in
    let a : Answer = get_or answers i Moot in
    let a_is : a ≡ get_or answers i a = sym (get_or_from_slice_get answers i a a (slice_get-get_or answers i Moot in_as)) in
    sym (passed (λ (x : Answered). is_empty x.question) asked answers i q a in_qs in_as q_is a_is (sym c.is_empty.ensures ∙ c.if-is_empty.false)) ∙ c.loop-place.invariant
