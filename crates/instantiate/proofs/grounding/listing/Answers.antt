use Rattle.std.proofs.Common.{◌≡◌, ◌∙◌, ◌+◌, ◌≤◌, ap, map, subst, length, arith, List, ℕ}
use Rattle.lint_core.specs.Database.{below}
use Rattle.instantiate.specs.declared.outline.FlatNode.{FlatNode}
use Rattle.instantiate.specs.declared.spots.Spot.{Spot}
use Rattle.instantiate.specs.inner.Bases.{HaveBases}
use Rattle.instantiate.specs.inner.Flat.{node_of}
use Rattle.instantiate.specs.inner.Spots.{saturated, size_before, spot_of}
use Rattle.instantiate.proofs.Readiness.{is_total, is_ready}
use Rattle.instantiate.proofs.grounding.listing.Goals as goal

pub returns-then-offsets-gt400000-clause-many : goal.returns-then-offsets-gt400000-clause-many
returns-then-offsets-gt400000-clause-many c =
    let sentences = c.args.sentences.now in
    let order = c.args.order.now in
    let terms = c.args.terms.now in
    let outlines = map (map node_of) c.in_ok-outlines.outlines in
    let total = c.in_ok-offsets.offsets.total in
    let spots = c.in_ok-spots.ensures ∙ ap (λ (os : List (List FlatNode)). map (map (spot_of order terms)) (map (map node_of) os)) c.as_slice.ensures in
    let counted = c.in_ok-offsets.ensures.total ∙ ap (λ (ss : List (List Spot)). saturated (size_before ss (length order + 1))) c.as_slice-2.ensures in
    let whole = is_total sentences order terms outlines c.in_ok-spots.spots total c.in_ok-outlines.ensures.nodes spots counted in
    let more = c.if-offsets-gt400000.true in
    (omega arith, whole)

pub returns-clause-ready : goal.returns-clause-ready
returns-clause-ready c =
    let order = c.args.order.now in
    let terms = c.args.terms.now in
    let next = c.as_mut_slice.result.now in
    let all = c.in_ok-spots.spots in
    let spots = c.in_ok-spots.ensures ∙ ap (λ (os : List (List FlatNode)). map (map (spot_of order terms)) (map (map node_of) os)) c.as_slice.ensures in
    let counted : c.in_ok-offsets.offsets.total ≡ saturated (size_before all (length order + 1)) =
    c.in_ok-offsets.ensures.total ∙ ap (λ (ss : List (List Spot)). saturated (size_before ss (length order + 1))) c.as_slice-2.ensures in
    let starts = c.as_mut_slice.ensures.value ∙ (c.into_vec-next.ensures
    ∙ (c.in_ok-offsets.ensures.starts ∙ ap (λ (ss : List (List Spot)). map (λ stage. saturated (size_before ss stage)) (below (length order + 1))) c.as_slice-2.ensures)) in
    let have = subst (λ (ss : List (List Spot)). HaveBases next ss c.in_ok-bases.bases) c.as_slice-3.ensures c.in_ok-bases.ensures in
    let few : c.in_ok-offsets.offsets.total ≤ 400000 = c.if-offsets-gt400000.false in
    let low : saturated (size_before all (length order + 1)) ≤ 400000 = subst (λ (n : ℕ). n ≤ 400000) counted few in
    is_ready _ next c.requires.ordered c.in_ok-outlines.ensures.closed c.in_ok-outlines.ensures.nodes c.requires.terms_are c.requires.few_rows spots starts have c.in_ok-steps.ensures low
