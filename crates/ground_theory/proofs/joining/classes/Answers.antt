use Rattle.std.proofs.Common.{◌≡◌, refl, subst, length, List, Option, arith}
use Rattle.ground_theory.specs.declared.joining.Join.{Join}
use Rattle.ground_theory.specs.inner.Joining.{AreThere}
use Rattle.ground_theory.proofs.Relabelling.{folded_more, folded_all}
use Rattle.ground_theory.proofs.joining.classes.Goals as goal

pub loop-same-preserved : goal.loop-same-preserved
loop-same-preserved c =
    let test = c.loop-same-test.true in
    folded_more c.args.rows c.args.sames.now c.loop-same.same-index c.loop-same.joining.labels.items c.loop-same.joining.by.items c.loop-same.invariant c.requires test
    _ refl c.join.new.self.labels.items c.join.new.self.by.items c.join.ensures

pub returns : goal.returns
returns c =
    let end : c.loop-same.same-index ≡ length c.args.sames.now = (let f = c.loop-same-test.false in omega arith) in
    let by = c.loop-same.joining.by.items in
    let are = subst (λ (xs : List (Option Join)). AreThere xs (length xs) c.in_ok-listed.field-0.items) c.deref.ensures.value c.in_ok-listed.ensures in
    folded_all c.args.rows c.args.sames.now c.loop-same.joining.labels.items c.loop-same.joining.by.items c.in_ok-listed.field-0.items c.loop-same.same-index end c.loop-same.invariant are
