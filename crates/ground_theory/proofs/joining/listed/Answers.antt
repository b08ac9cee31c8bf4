use Rattle.std.proofs.Common.{◌≡◌, ◌+◌, ℕ, subst, sym, length, arith, Vec, Global}
use Rattle.ground_theory.specs.declared.joining.Join.{Join}
use Rattle.ground_theory.specs.inner.Joining.{AreThere}
use Rattle.ground_theory.proofs.Relabelling.{there_more, there_passed}
use Rattle.ground_theory.proofs.joining.listed.Goals as goal
use Rattle.ground_theory.proofs.joining.listed.Goals.{in-Some+in_ok-push, in_default}

pub loop-place-preserved : goal.loop-place-preserved
loop-place-preserved c = elim c.match-place.branch [
  | in-Some+in_ok-push w ↦
      let more = subst (AreThere c.args.by.now (c.loop-place.place-index + 1)) (sym w.in_ok-push.ensures.items) (there_more c.args.by.now c.loop-place.place-index c.loop-place.all.items c.loop-place.invariant w.in-Some.join w.in-Some.is) in
      subst (λ (v : Vec Join Global). AreThere c.args.by.now (c.loop-place.place-index + 1) v.items) (sym w.all-is) more
  | in_default w ↦ subst (λ (v : Vec Join Global). AreThere c.args.by.now (c.loop-place.place-index + 1) v.items) (sym w.all-is) (there_passed c.args.by.now c.loop-place.place-index c.loop-place.all.items c.loop-place.invariant w.in_default.is)
]

pub returns : goal.returns
returns c =
    let end : c.loop-place.place-index ≡ length c.args.by.now = (let f = c.loop-place-test.false in omega arith) in
    subst (λ (n : ℕ). AreThere c.args.by.now n c.loop-place.all.items) end c.loop-place.invariant
