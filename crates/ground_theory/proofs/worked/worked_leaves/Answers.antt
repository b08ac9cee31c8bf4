use Rattle.std.proofs.Common.{refl}
use Rattle.sort_formula.specs.declared.formula.Formula.TheVariants as f
use Rattle.ground_theory.proofs.worked.worked_leaves.Goals as goal

pub returns-clause-low_fits : goal.returns-clause-low_fits
returns-clause-low_fits c = refl

pub returns-clause-low_edges : goal.returns-clause-low_edges
returns-clause-low_edges c = refl

pub returns-clause-low_leaf : goal.returns-clause-low_leaf
returns-clause-low_leaf c = simp f.outs-Atom refl

pub returns-clause-low_right : goal.returns-clause-low_right
returns-clause-low_right c = simp f.outs-Atom refl

pub returns-clause-low_elsewhere : goal.returns-clause-low_elsewhere
returns-clause-low_elsewhere c = refl

pub returns-clause-high_leaf : goal.returns-clause-high_leaf
returns-clause-high_leaf c = simp f.outs-Atom refl

pub returns-clause-high_right : goal.returns-clause-high_right
returns-clause-high_right c = simp f.outs-Atom refl

pub returns-clause-loop_leaf : goal.returns-clause-loop_leaf
returns-clause-loop_leaf c = simp f.outs-Atom refl

pub returns-clause-text_edges : goal.returns-clause-text_edges
returns-clause-text_edges c = refl

pub returns-clause-text_leaf : goal.returns-clause-text_leaf
returns-clause-text_leaf c = refl

pub returns-clause-text_right : goal.returns-clause-text_right
returns-clause-text_right c = simp f.outs-Atom refl
