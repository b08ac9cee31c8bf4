use Rattle.std.proofs.Common.{◌∙◌, ◌^◌, [], ap}
use Rattle.sort_formula.specs.Bounds.{is_within}
use Rattle.cert_checker.proofs.Moderate.{sentence_is_within}
use Rattle.cert_checker.proofs.checking.first_facts.Goals as goal

pub new-requires-2 : goal.new-requires-2
new-requires-2 c = ap (is_within (2 ^ 66)) c.formula.ensures.formula ∙ sentence_is_within c.args.sentence.now [] c.formula.ensures.sentence

pub new-requires-in-loop-axiom-2 : goal.new-requires-in-loop-axiom-2
new-requires-in-loop-axiom-2 c =
    ap (is_within (2 ^ 66)) c.formula-in-loop-axiom.ensures.formula
    ∙ sentence_is_within c.axiom-item.result.sentence [] c.formula-in-loop-axiom.ensures.sentence
