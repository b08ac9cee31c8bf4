use Rattle.std.proofs.Common.{◌≡◌, length, subst}
use Rattle.std.proofs.lemmas.List.Elements.{All-from_get_or}
use Rattle.diff_bounds.specs.System.{Holds, value_in}
use Rattle.diff_bounds.specs.inner.Relaxing.{AllEnd}
use Rattle.diff_bounds.proofs.Chains.{all_above}
use Rattle.diff_bounds.proofs.relaxing.solve.Goals as goal

pub loop-alloc-init : goal.loop-alloc-init
loop-alloc-init c = record { sound = c.in_ok-search.ensures.sound c.args.edges.now; ends = c.in_ok-search.ensures.ends c.args.edges.now }

pub relax_all-requires-clause-above : goal.relax_all-requires-clause-above
relax_all-requires-clause-above c =
    all_above _ _ _ _ c.loop-alloc.invariant.sound c.requires.moderate c.requires.variables c.loop-alloc.invariant.ends

pub loop-alloc-preserved : goal.loop-alloc-preserved
loop-alloc-preserved c =
    let count : length c.loop-alloc.search.values.items ≡ c.args.vars = c.loop-alloc.invariant.sound.values_length in
    let none = rw c.in_default.is at c.in_ok-ring.ensures in
    record {
      sound = rw count at c.relax_all.ensures.sound;
      ends = subst (AllEnd c.args.edges.now) c.deref.ensures.value none;
    }

pub returns-clause-satisfied : goal.returns-clause-satisfied
returns-clause-satisfied c =
    let all = c.loop-alloc-test.ensures.done in
    rw c.from_vec-2.ensures (All-from_get_or (Holds (value_in c.relax_all.new.self.values.items)) c.args.edges.now _ all.1)
