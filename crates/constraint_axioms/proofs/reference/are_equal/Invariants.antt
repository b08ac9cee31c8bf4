use Rattle.std.proofs.Common.{◌≡◌, ◌++◌, [], drop, length}
use Rattle.std.specs.List.{flat_map, zip}
use Rattle.sort_formula.specs.Axioms.{pair_equal}
use Rattle.constraint_axioms.proofs.reference.are_equal.Given as goal

abbrev pub invariant-loop-column : goal.invariant-loop-column
invariant-loop-column l =
    l.parts ++ flat_map (pair_equal [] 0 l.table) (zip (drop (length l.yielded) l.key.columns) (drop (length l.yielded) l.key.target_columns))
    ≡ flat_map (pair_equal [] 0 l.table) (zip l.key.columns l.key.target_columns)
