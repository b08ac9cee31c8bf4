use Rattle.std.proofs.Common.{◌≡◌, ℕ, ◌≤◌, ◌+◌, List, [], ◌∷◌, ◌++◌, length, arith, ◌∙◌, ap}
use Rattle.std.proofs.lemmas.List.{append_assoc, length-append}
use Rattle.diff_bounds.specs.inner.Relaxing.{ComesTo}
use Rattle.diff_bounds.proofs.Chains.{held_starts}
use Rattle.diff_bounds.proofs.Closing.{reaches_more, reaches_comes, comes_on, comes_there, comes_short}
use Rattle.diff_bounds.proofs.relaxing.trace.Goals as goal

pub bounds-edges-number : goal.bounds-edges-number
bounds-edges-number c = (c.requires.reasons.1.lowered c.loop-at.at c.in-Some.number c.in-Some.is).number

pub loop-at-preserved : goal.loop-at-preserved
loop-at-preserved c =
    let way = c.loop-at.invariant.way in
    record {
      within = (c.requires.ends c.in-Some.number _ (c.requires.reasons.1.lowered c.loop-at.at c.in-Some.number c.in-Some.is).number).right;
      way = (
        way.0 ++ c.in-Some.number ∷ [],
        c.in_ok-push.ensures.items ∙ ap (λ (xs : List ℕ). xs ++ c.in-Some.number ∷ []) way.1 ∙ append_assoc c.args.chain.now.items way.0 (c.in-Some.number ∷ []),
        reaches_more _ _ _ _ _ _ _ way.2 c.if-at-to.false c.in-Some.is,
      );
      rest = comes_on _ _ _ _ _ _ c.loop-at.invariant.rest.1 c.if-at-to.false c.in-Some.is;
    }

pub loop-at-smaller : goal.loop-at-smaller
loop-at-smaller c =
    let way = c.loop-at.invariant.way in
    let rest = c.loop-at.invariant.rest in
    let whole : ComesTo c.args.edges.now c.args.reasons.now c.args.to c.args.from (way.0 ++ rest.0) = reaches_comes c.args.edges.now c.args.reasons.now c.args.to c.args.from c.loop-at.at way.0 rest.0 way.2 rest.1 in
    let few : length (way.0 ++ rest.0) ≤ length c.args.reasons.now = comes_short c.args.edges.now c.args.reasons.now (held_starts _ _ _ _ c.requires.reasons.1) c.args.to c.args.from (way.0 ++ rest.0) whole in
    let parts = length-append way.0 rest.0 in
    let grown : length c.loop-at.chain.items ≡ length c.args.chain.now.items + length way.0 = ap length way.1 ∙ length-append c.args.chain.now.items way.0 in
    let pushed : length c.push.new.self.items ≡ length c.loop-at.chain.items + 1 = ap length c.in_ok-push.ensures.items ∙ length-append c.loop-at.chain.items (c.in-Some.number ∷ []) in
    omega arith

-- a chain that is known to come to `to` does not end before
pub returns-in_default : goal.returns-in_default
returns-in_default c =
    let way = c.loop-at.invariant.way in
    let rest = c.loop-at.invariant.rest in
    let there : c.loop-at.at ≡ c.args.to = comes_there c.args.edges.now c.args.reasons.now c.args.to c.loop-at.at rest.0 rest.1 c.in_default.is in
    (way.0, way.1, rw there at way.2)
