use Rattle.std.proofs.Common.{[], ap}
use Rattle.std.proofs.lemmas.Slice.Zip.{zip_end}
use Rattle.std.specs.List.{flat_map, zip}
use Rattle.sort_formula.specs.Axioms.{pair_equal}
use Rattle.sort_formula.specs.declared.formula.Formula.TheVariants as f
use Rattle.constraint_axioms.proofs.Pairs.{all_paired}
use Rattle.constraint_axioms.proofs.reference.are_equal.Goals as goal

pub returns : goal.returns
returns c =
    let own = c.args.key.now.columns in
    let target = c.args.key.now.target_columns in
    let end = zip_end own target c.loop-column.yielded _ _ c.next.new.self _ (cc) (cc) c.loop-column.yielded_by c.in-None.is c.next.ensures.steps in
    let equal = pair_equal [] 0 c.args.table.now in
    ap f.And (all_paired equal own target _ end c.loop-column.parts (flat_map equal (zip own target)) c.loop-column.invariant)
