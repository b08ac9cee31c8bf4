use Rattle.std.proofs.Common.{◌≡◌, ◌<◌, sym, length, get_or}
use Rattle.ground_theory.specs.inner.Sifting.{same_of, other_of, null_of, firm_of, bound_of}
use Rattle.ground_theory.proofs.Gathering.{gathered_more}
use Rattle.ground_theory.proofs.sifting.sift.Goals as goal

pub loop-number-preserved : goal.loop-number-preserved
loop-number-preserved c =
    let a = c.in_ok-add.ensures in
    let inv = c.loop-number.invariant in
    let here : c.loop-number.number < length c.args.literals.now = c.loop-number-test.true in
    let l = c.index-literals-number.result in
    let is : get_or c.args.literals.now c.loop-number.number l ≡ l = sym c.index-literals-number.is in
    record {
      sames = gathered_more same_of c.loop-number.sifted.sames.items _ c.add.new.self.sames.items c.args.literals.now c.loop-number.number l l here is inv.sames a.sames;
      others = gathered_more other_of c.loop-number.sifted.others.items _ c.add.new.self.others.items c.args.literals.now c.loop-number.number l l here is inv.others a.others;
      nulls = gathered_more null_of c.loop-number.sifted.nulls.items _ c.add.new.self.nulls.items c.args.literals.now c.loop-number.number l l here is inv.nulls a.nulls;
      firms = gathered_more firm_of c.loop-number.sifted.firms.items _ c.add.new.self.firms.items c.args.literals.now c.loop-number.number l l here is inv.firms a.firms;
      bounds = gathered_more bound_of c.loop-number.sifted.bounds.items _ c.add.new.self.bounds.items c.args.literals.now c.loop-number.number l l here is inv.bounds a.bounds;
    }
