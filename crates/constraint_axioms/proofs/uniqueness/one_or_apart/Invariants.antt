use Rattle.std.proofs.Common.{◌≡◌, ◌++◌, ◌∷◌, [], drop}
use Rattle.std.specs.List.{flat_map}
use Rattle.sort_formula.specs.Axioms.{key_column}
use Rattle.sort_formula.specs.declared.formula.Atom.TheVariants as atom
use Rattle.sort_formula.specs.declared.formula.Formula.TheVariants as f
use Rattle.constraint_axioms.proofs.uniqueness.one_or_apart.Given as goal

abbrev pub invariant-loop-column : goal.invariant-loop-column
invariant-loop-column l =
    l.ways ++ flat_map (key_column [] 0 l.table) (drop l.column-index l.key.columns)
    ≡ f.Atom (atom.Same 0 1) ∷ flat_map (key_column [] 0 l.table) l.key.columns
