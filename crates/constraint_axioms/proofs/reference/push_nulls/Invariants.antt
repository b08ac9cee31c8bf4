use Rattle.std.proofs.Common.{◌≡◌, ◌++◌, map, take}
use Rattle.sort_formula.specs.declared.formula.Atom.TheVariants as atom
use Rattle.sort_formula.specs.declared.formula.Formula.TheVariants as f
use Rattle.constraint_axioms.proofs.reference.push_nulls.Given as goal

abbrev pub invariant-loop-column : goal.invariant-loop-column
invariant-loop-column l = l.ways ≡ l.initial.ways ++ map (λ column. f.Atom (atom.IsNull 0 column)) (take l.column-index l.columns)
