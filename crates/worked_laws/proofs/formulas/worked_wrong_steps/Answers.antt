use Rattle.sort_formula.specs.declared.formula.Formula.TheVariants as f
use Rattle.worked_laws.proofs.formulas.worked_wrong_steps.Goals as goal

pub returns-clause-accepted : goal.returns-clause-accepted
returns-clause-accepted c = simp (f.outs-Exists, f.outs-Forall, f.outs-And, f.outs-Or, f.outs-Atom)

pub returns-clause-misnamed : goal.returns-clause-misnamed
returns-clause-misnamed c = simp (f.outs-Exists, f.outs-Forall, f.outs-And, f.outs-Or, f.outs-Atom)

pub returns-clause-last_missing : goal.returns-clause-last_missing
returns-clause-last_missing c = simp (f.outs-Exists, f.outs-And)

pub returns-clause-left_over : goal.returns-clause-left_over
returns-clause-left_over c = simp (f.outs-Exists, f.outs-And, f.outs-Atom)

pub returns-clause-one_text : goal.returns-clause-one_text
returns-clause-one_text c = simp (f.outs-Exists, f.outs-And, f.outs-Atom)
