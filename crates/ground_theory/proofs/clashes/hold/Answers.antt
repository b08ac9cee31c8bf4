use Rattle.std.proofs.Common.{◌≡◌, ℕ, subst, length, arith}
use Rattle.ground_theory.specs.inner.Clashes.{AreNulls}
use Rattle.ground_theory.proofs.Nulls.{nulls_none, nulls_more}
use Rattle.ground_theory.proofs.clashes.hold.Goals as goal

pub loop-null-init : goal.loop-null-init
loop-null-init c = nulls_none c.args.labels.now c.args.nulls.now c.in_ok-held.held.items c.in_ok-held.ensures

pub loop-null-preserved : goal.loop-null-preserved
loop-null-preserved c =
    nulls_more c.args.labels.now c.args.nulls.now c.loop-null.null-index c.loop-null.held.items c.loop-null.invariant c.requires.nulls c.requires.labels c.loop-null-test.true

pub returns : goal.returns
returns c =
    let end : c.loop-null.null-index ≡ length c.args.nulls.now = (let f = c.loop-null-test.false in omega arith) in
    subst (λ (n : ℕ). AreNulls c.args.labels.now c.args.nulls.now n c.loop-null.held.items) end c.loop-null.invariant
