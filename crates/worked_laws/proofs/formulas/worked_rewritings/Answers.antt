use Rattle.std.proofs.Common.{pos, neg_ℤ, [], ◌∷◌}
use Rattle.sort_formula.specs.declared.formula.Side.TheVariants as side
use Rattle.sort_formula.specs.declared.formula.Atom.TheVariants as atom
use Rattle.sort_formula.proofs.Holding.{negated_of_atom, placed_of_atom}
use Rattle.worked_laws.proofs.formulas.worked_rewritings.Goals as goal

pub returns-clause-greatest : goal.returns-clause-greatest
returns-clause-greatest c = negated_of_atom (atom.Le (side.Cell 0 0) side.Zero (pos 170141183460469231731687303715884105727))

pub returns-clause-least : goal.returns-clause-least
returns-clause-least c = negated_of_atom (atom.Le (side.Cell 0 0) side.Zero (neg_ℤ (pos 170141183460469231731687303715884105728)))

pub returns-clause-renamed : goal.returns-clause-renamed
returns-clause-renamed c = placed_of_atom (2 ∷ 0 ∷ []) 3 (atom.Same 0 1)
