use Rattle.std.proofs.Common.{◌≡◌, ◌<◌, ◌∷◌, [], length, Some, ◌∙◌, ap, arith}
use Rattle.std.proofs.lemmas.List.{length-set}
use Rattle.diff_bounds.proofs.Marking.{marked, one_on, settles, closing}
use Rattle.diff_bounds.proofs.relaxing.mark.Goals as goal

pub returns-in_default : goal.returns-in_default
returns-in_default c =
    let count : length c.loop-at.marks ≡ length c.args.reasons.now = c.loop-at.invariant.count in
    let within : c.loop-at.at < length c.args.reasons.now = c.loop-at.invariant.within in
    settles _ _ _ _ _ [] c.in_default.is (marked _ _ _ _ _ (omega arith) c.loop-at.invariant.known)

pub bounds-edges-number : goal.bounds-edges-number
bounds-edges-number c = (c.requires.reasons.1.lowered c.loop-at.at c.in-Some.number c.in-Some.is).number

pub returns-then-other-root : goal.returns-then-other-root
returns-then-other-root c =
    let count : length c.loop-at.marks ≡ length c.args.reasons.now = c.loop-at.invariant.count in
    let within : c.loop-at.at < length c.args.reasons.now = c.loop-at.invariant.within in
    closing _ _ _ _ _ _ (c.requires.reasons.1.lowered c.loop-at.at c.in-Some.number c.in-Some.is).starts c.in-Some.is
    (marked _ _ _ _ _ (omega arith) c.loop-at.invariant.known) (c.in-Some-marks.is ∙ ap Some c.if-other-root.true)

-- the chain comes to one that is known to end
pub returns-else-other-root : goal.returns-else-other-root
returns-else-other-root c =
    let count : length c.loop-at.marks ≡ length c.args.reasons.now = c.loop-at.invariant.count in
    let within : c.loop-at.at < length c.args.reasons.now = c.loop-at.invariant.within in
    let known = marked c.args.edges.now c.args.reasons.now c.args.root c.loop-at.at c.loop-at.marks (omega arith) c.loop-at.invariant.known in
    let rest = known.others _ c.in-Some-marks.other c.in-Some-marks.is c.if-other-root.false in
    settles _ _ _ _ _ (c.in-Some.number ∷ rest.1.0) (c.in-Some.is, rest.1.1) known

pub loop-at-preserved : goal.loop-at-preserved
loop-at-preserved c =
    let count : length c.loop-at.marks ≡ length c.args.reasons.now = c.loop-at.invariant.count in
    let within : c.loop-at.at < length c.args.reasons.now = c.loop-at.invariant.within in
    record {
      within = (c.requires.ends c.in-Some.number _ (c.requires.reasons.1.lowered c.loop-at.at c.in-Some.number c.in-Some.is).number).right;
      count = length-set c.loop-at.marks c.loop-at.at (Some c.args.root) ∙ count;
      free = c.in_default-marks.is;
      known = one_on _ _ _ _ _ _ c.in-Some.is (marked _ _ _ _ _ (omega arith) c.loop-at.invariant.known);
    }
