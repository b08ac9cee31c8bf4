use Rattle.std.proofs.Common.{◌∙◌, [], ap}
use Rattle.sort_formula.specs.Sentences.{is_sentence}
use Rattle.constraint_axioms.proofs.Bounds.{foreign_is_sentence}
use Rattle.constraint_axioms.proofs.reference.foreign_axiom.Goals as goal

pub sentence_of-requires : goal.sentence_of-requires
sentence_of-requires c = ap is_sentence c.in_ok-formula.ensures ∙ foreign_is_sentence [] c.args.name.table c.args.table.now c.args.key.now
