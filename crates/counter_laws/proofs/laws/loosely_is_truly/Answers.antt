use Rattle.std.proofs.Common.{◌∙◌, sym, ap}
use Rattle.lint_core.specs.Question.{is_known_true}
use Rattle.counter_laws.proofs.laws.loosely_is_truly.Goals as goal

pub returns : goal.returns
returns c schema db domains query fits question asked earlier given points =
    let decided = c.outcomes_are_decided_where_earlier_questions_hold.ensures schema db query question given points asked earlier in
    ap is_known_true
    (decided.1 ∙ sym (c.loose_interpretation_agrees.ensures schema db domains query fits question asked given points decided.0 decided.1))
