use Rattle.std.proofs.Common.{◌∙◌, [], ap}
use Rattle.sort_formula.specs.declared.formula.Formula.TheVariants as f
use Rattle.sort_formula.specs.Sentences.{is_sentence}
use Rattle.constraint_axioms.proofs.Bounds.{key_sentence}
use Rattle.constraint_axioms.proofs.uniqueness.key_axiom.Goals as goal

pub plain-requires : goal.plain-requires
plain-requires c =
    let number = c.args.number in
    let inner = c.in_ok-inner.ensures ∙ ap (f.Forall number) c.in_ok-one_or_apart.ensures in
    ap is_sentence (c.in_ok-for_all.ensures ∙ ap (f.Forall number) inner) ∙ key_sentence [] number c.args.table.now c.args.key.now
