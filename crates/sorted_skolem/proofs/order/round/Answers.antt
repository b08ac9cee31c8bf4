use Rattle.std.proofs.Common.{rules, ◌≡◌, ◌∙◌, sym, ap, subst, ◌<◌, ℕ, List, false, drop}
use Rattle.std.specs.List.{IsDistinct, position}
use Rattle.std.specs.Prelude.{nat_eq, reverse}
use Rattle.sorted_skolem.specs.inner.Waiting.{has, lacking, IsRound, Backs}
use Rattle.sorted_skolem.proofs.Living.{lacking_pushed}
use Rattle.sorted_skolem.proofs.Rounds.{place_some, place_none, round_is, backs_push, first_waits, simple_none, simple_push, simple_drop, simple_reverse}
use Rattle.sorted_skolem.proofs.Sorting.{source_some}
use Rattle.sorted_skolem.proofs.Steps.{take_rest}
use Rattle.sorted_skolem.proofs.order.round.Goals as goal

pub loop-start-init : goal.loop-start-init
loop-start-init c = record {
  waits = first_waits c.args.waiting.now c.requires.some;
  backs = search rules;
  simple = subst (IsDistinct nat_eq) (sym c.new-walk.ensures.items) simple_none;
}

pub loop-start-smaller : goal.loop-start-smaller
loop-start-smaller c =
    let walk = c.loop-start.walk.items in
    let at = c.loop-start.at in
    let none : has walk at ≡ false = place_none at walk (ap (position (λ other. nat_eq other at)) (sym c.deref.ensures.value) ∙ (sym c.place_of.ensures ∙ c.in_default.is)) in
    subst (λ (ys : List ℕ). lacking c.args.waiting.now ys < lacking c.args.waiting.now walk) (sym c.in_ok-push.ensures.items) (lacking_pushed c.args.waiting.now walk at c.loop-start.invariant.waits none)

pub loop-start-preserved : goal.loop-start-preserved
loop-start-preserved c =
    let edges = c.args.edges.now in
    let next = c.unwrap-at.result in
    let walk = c.loop-start.walk.items in
    let none : has walk c.loop-start.at ≡ false =
    place_none c.loop-start.at walk (ap (position (λ other. nat_eq other c.loop-start.at)) (sym c.deref.ensures.value) ∙ (sym c.place_of.ensures ∙ c.in_default.is)) in
    let source = source_some edges c.args.waiting.now c.loop-start.at next (sym c.source.ensures ∙ c.unwrap-at.ensures) in
    record {
      waits = source.waits;
      backs = subst (λ (ys : List ℕ). Backs edges ys next) (sym c.in_ok-push.ensures.items) (backs_push edges c.loop-start.walk.items c.loop-start.at next c.loop-start.invariant.backs source.edge);
      simple = subst (IsDistinct nat_eq) (sym c.in_ok-push.ensures.items) (simple_push c.loop-start.walk.items c.loop-start.at c.loop-start.invariant.simple none);
    }

pub returns-in-Some : goal.returns-in-Some
returns-in-Some c =
    let edges = c.args.edges.now in
    let walk = c.loop-start.walk.items in
    let at = c.loop-start.at in
    let start = c.in-Some.start in
    let place = place_some at walk start (ap (position (λ other. nat_eq other at)) (sym c.deref.ensures.value) ∙ (sym c.place_of.ensures ∙ c.in-Some.is)) in
    let same : c.in_ok-tables.tables ≡ reverse (drop start walk) =
    c.in_ok-tables.ensures ∙ (ap reverse (take_rest start c.deref-in-Some.result.now) ∙ ap (λ (ys : List ℕ). reverse (drop start ys)) c.deref-in-Some.ensures.value) in
    record {
      closed = subst (IsRound edges) (sym same) (round_is edges walk start at c.loop-start.invariant.backs place);
      simple = subst (IsDistinct nat_eq) (sym same) (simple_reverse (drop start walk) (simple_drop start walk c.loop-start.invariant.simple));
    }
