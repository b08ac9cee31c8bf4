use Rattle.sort_formula.specs.declared.formula.Formula.TheVariants as f
use Rattle.worked_laws.proofs.formulas.worked_steps.Goals as goal

pub returns-clause-key : goal.returns-clause-key
returns-clause-key c = simp (f.outs-Exists, f.outs-Forall, f.outs-And, f.outs-Or, f.outs-Atom)

pub returns-clause-misnamed : goal.returns-clause-misnamed
returns-clause-misnamed c = simp (f.outs-Exists, f.outs-Forall, f.outs-And, f.outs-Or, f.outs-Atom)

pub returns-clause-two_texts : goal.returns-clause-two_texts
returns-clause-two_texts c = simp (f.outs-Exists, f.outs-And, f.outs-Atom)

pub returns-clause-one_text : goal.returns-clause-one_text
returns-clause-one_text c = simp (f.outs-Exists, f.outs-And, f.outs-Atom)
