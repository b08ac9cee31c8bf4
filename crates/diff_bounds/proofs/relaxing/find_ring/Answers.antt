use Rattle.std.proofs.Common.{◌≡◌, ◌+◌, ◌∷◌, ◌++◌, [], List, ℕ, length, subst, sym, ◌∙◌, ap, arith}
use Rattle.diff_bounds.specs.inner.Relaxing.{IsSettled}
use Rattle.diff_bounds.proofs.Closing.{closes}
use Rattle.diff_bounds.proofs.Marking.{settled_more, ends_more, marked_ends, all_end, written_back}
use Rattle.diff_bounds.proofs.relaxing.find_ring.Goals as goal

pub loop-root-preserved-then-is_some : goal.loop-root-preserved-then-is_some
loop-root-preserved-then-is_some c =
    let count : length c.loop-root.marks.items ≡ length c.args.reasons.now = c.loop-root.invariant.count in
    let here = marked_ends c.args.edges.now c.args.reasons.now c.loop-root.root c.loop-root.marks.items c.index.result.now c.loop-root.invariant.settled (omega arith) c.index.ensures (sym c.if-is_some.ensures) in
    record {
      count = count;
      settled = settled_more _ _ _ _ c.loop-root.invariant.settled;
      ends = ends_more _ _ _ c.loop-root.invariant.ends here;
    }

pub bounds-edges-number : goal.bounds-edges-number
bounds-edges-number c = (c.requires.reasons.1.lowered _ c.in-Some.number c.in-Some.ensures.reason).number

pub returns-in-Some : goal.returns-in-Some
returns-in-Some c =
    let back = c.in_ok-trace.ensures in
    let pushed = c.in_ok-push.ensures.items in
    let empty = c.new-ring.ensures.items in
    let is : c.trace.new.chain.items ≡ c.in-Some.number ∷ back.0 = back.1 ∙ ap (λ (xs : List ℕ). xs ++ back.0) (pushed ∙ ap (λ (xs : List ℕ). xs ++ c.in-Some.number ∷ []) empty) in
    rw is (closes _ _ _ _ c.requires.reasons.1 c.requires.ends c.in-Some.number back.0 c.in-Some.ensures.reason back.2)

pub loop-root-preserved : goal.loop-root-preserved
loop-root-preserved c =
    let kept : length c.mark.new.marks ≡ length c.loop-root.marks.items = c.mark.auto.marks ∙ ap length c.deref_mut.ensures.value in
    let back = written_back c.mark.new.marks c.loop-root.marks.items c.loop-root.marks.len (kept ∙ sym c.loop-root.marks.ok.0) in
    record {
      count = ap length back ∙ kept ∙ c.loop-root.invariant.count;
      settled = subst (IsSettled c.args.edges.now c.args.reasons.now (c.loop-root.root + 1)) (sym back) c.in_default.ensures.settled;
      ends = ends_more _ _ _ c.loop-root.invariant.ends c.in_default.ensures.ends;
    }

pub returns : goal.returns
returns c = all_end c.args.edges.now c.args.reasons.now (λ at within. c.loop-root.invariant.ends at (let last = c.loop-root-test.false in omega arith))
