use Rattle.std.proofs.Common.{◌≡◌, ◌∙◌, ap, sym, ℕ, ◌+◌, ◌<◌, arith, length, get_or}
use Rattle.std.proofs.lemmas.Option.{get_or_from_slice_get, slice_get-get_or}
use Rattle.std.specs.Prelude.{Some, find}
use Rattle.std.specs.Option.{option_map}
use Rattle.lint_core.specs.declared.query.Question.{Question}
use Rattle.lint_core.specs.declared.query.Question.TheVariants.{OneRow}
use Rattle.lint_engine.specs.Earlier.{Answered}
use Rattle.lint_engine.specs.inner.Sought.{is_sought}
use Rattle.lint_engine.proofs.Looking.{one, rest, found, passed}
use Rattle.lint_engine.proofs.earlier.first_number.Goals as goal

abbrev number_in : Answered → ℕ
number_in x = x.number

pub returns-then-is : goal.returns-then-is
returns-then-is c =
    let i : ℕ = c.loop-place.place in
    let asked = c.args.asked.now in
    let answers = c.args.answers.now in
    let same : length asked ≡ length answers = c.requires.as_many in
    let in_as : i < length answers = c.loop-place-test.true in
    let in_qs : i < length asked = omega arith in
    let q : Question = get_or asked i (OneRow 0) in
    let q_is : q ≡ get_or asked i q = sym (get_or_from_slice_get asked i q q (slice_get-get_or asked i (OneRow 0) in_qs)) in
    let here : find (is_sought c.args.sought) (rest asked answers i) ≡ Some (one (1 + i) q c.index-answers-place.result) =
    found (is_sought c.args.sought) asked answers i q c.index-answers-place.result in_qs in_as q_is c.index-answers-place.is (sym (c.is.ensures (1 + i)) ∙ c.if-is.true) in
    let number : i + 1 ≡ 1 + i = omega arith in
    ap Some number ∙ sym (ap (option_map number_in) (sym c.loop-place.invariant ∙ here))

pub loop-place-preserved : goal.loop-place-preserved
loop-place-preserved c =
    let i : ℕ = c.loop-place.place in
    let asked = c.args.asked.now in
    let answers = c.args.answers.now in
    let same : length asked ≡ length answers = c.requires.as_many in
    let in_as : i < length answers = c.loop-place-test.true in
    let in_qs : i < length asked = omega arith in
    let q : Question = get_or asked i (OneRow 0) in
    let q_is : q ≡ get_or asked i q = sym (get_or_from_slice_get asked i q q (slice_get-get_or asked i (OneRow 0) in_qs)) in
    sym (passed (is_sought c.args.sought) asked answers i q c.index-answers-place.result in_qs in_as q_is c.index-answers-place.is (sym (c.is.ensures (1 + i)) ∙ c.if-is.false)) ∙ c.loop-place.invariant
