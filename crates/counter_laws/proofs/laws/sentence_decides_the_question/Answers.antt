use Rattle.std.proofs.Common.{◌≡◌, ◌∙◌, sym, true, false, []}
use Rattle.lint_base.proofs.Lists.{false_unless}
use Rattle.lint_core.specs.Question.{refutes}
use Rattle.sort_formula.specs.Counters.{counter_sentence}
use Rattle.sort_formula.specs.Holds.{holds}
use Rattle.counter_laws.proofs.laws.sentence_decides_the_question.Goals as goal

pub returns-clause-points : goal.returns-clause-points
returns-clause-points c schema db domains query fits question asked earlier given holding =
    let found = c.sentence_says_that_points_refute.ensures.points schema db domains query fits question asked given holding in
    (found.0, c.loosely_is_truly.ensures schema db domains query fits question asked earlier given found.0 ∙ found.1)

pub returns-clause-sentence : goal.returns-clause-sentence
returns-clause-sentence c schema db domains query fits question asked earlier given points refuted =
    c.sentence_says_that_points_refute.ensures.sentence schema db domains query fits question asked given points
    (sym (c.loosely_is_truly.ensures schema db domains query fits question asked earlier given points) ∙ refuted)

both : true ≡ false → ⊥
both same = cc

pub returns-clause-question : goal.returns-clause-question
returns-clause-question c schema db domains query fits question asked earlier given = (
  λ always. false_unless (holds db (counter_sentence schema query question given) [])
      (λ holding.
      let found = c.sentence_says_that_points_refute.ensures.points schema db domains query fits question asked given holding in
      both (sym (c.loosely_is_truly.ensures schema db domains query fits question asked earlier given found.0 ∙ found.1) ∙ always found.0)),
  λ never points. false_unless (refutes db query question given points)
      (λ refuted.
      both (sym (c.sentence_says_that_points_refute.ensures.sentence schema db domains query fits question asked given points
      (sym (c.loosely_is_truly.ensures schema db domains query fits question asked earlier given points) ∙ refuted)) ∙ never)),
)
