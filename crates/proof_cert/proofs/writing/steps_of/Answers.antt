use Rattle.std.proofs.Common.{Vec, Global, vec_len, ◌≡◌, ◌∙◌, sym, ap, refl, subst, ◌++◌, ◌∷◌, [], ◌+◌, List, length, take, arith}
use Rattle.std.proofs.lemmas.Grind.{common_steps}
use Rattle.std.proofs.lemmas.List.{nil_from_length}
use Rattle.std.proofs.lemmas.Option.{MatchOption-at_none}
use Rattle.std.specs.Prelude.{None}
use Rattle.lint_core.specs.declared.certificate.Step.{Step}
use Rattle.proof_cert.specs.declared.path.Opened.{Opened}
use Rattle.proof_cert.specs.declared.writing.Waiting.{Waiting}
use Rattle.proof_cert.specs.inner.Paths.{IsNew, AreStanding}
use Rattle.proof_cert.specs.inner.Writing.{wait_of, way_to, IsClosedOn, IsWork, Written}
use Rattle.proof_cert.proofs.Worklist.{next_ready, next_work, next_less, first_work, last_work}
use Rattle.proof_cert.proofs.writing.steps_of.Goals as goal

no_items : (v : Vec Waiting Global) → vec_len v ≡ 0 → v.items ≡ []
no_items v none = nil_from_length v.items (let long : vec_len v ≡ length v.items = (let h = v.ok in grind (arith, common_steps)) in omega arith)

pub loop-next-init : goal.loop-next-init
loop-next-init c =
    let problem = c.args.source.now.problem.now in
    let makers = c.args.source.now.makers in
    let w : Waiting = record { tree = c.args.tree; above = 0; opened = None; facts = c.first_facts.result; rows = 0 } in
    let items : c.push.new.self.items ≡ w ∷ [] = c.in_ok-push.ensures.items ∙ ap (λ (ws : List Waiting). ws ++ w ∷ []) c.new-waiting.ensures.items in
    record {
      indexed = c.in_ok-path.ensures.indexed;
      places = c.in_ok-path.ensures.places ∙ ap length c.as_slice.ensures;
      work = subst (λ (os : List Opened). IsWork problem makers os c.push.new.self.items c.new-steps.result) (sym c.in_ok-path.ensures.splits)
          (subst (λ (ws : List Waiting). IsWork problem makers [] ws c.new-steps.result) (sym items)
          (subst (λ (ss : List Step). IsWork problem makers [] (w ∷ []) ss) (sym c.new-steps.ensures) (first_work problem makers w refl refl refl c.first_facts.ensures c.requires.closed)));
    }

pub go_to-requires-clause-other : goal.go_to-requires-clause-other
go_to-requires-clause-other c =
    let problem = c.args.source.now.problem.now in
    let makers = c.args.source.now.makers in
    let inv = c.loop-next.invariant in
    let splits = c.loop-next.path.splits.items in
    let before : List Waiting = c.loop-next.waiting.items in
    let rest : List Waiting = c.pop.new.self.items in
    let w : Waiting = c.in-Some.next in
    let is : before ≡ rest ++ w ∷ [] = c.in-Some.ensures.items in
    let ready = next_ready problem makers splits before rest w c.loop-next.steps is inv.work in
    subst (λ n. IsNew n (take w.above splits) w.opened) (sym inv.places) ready.is_new

pub write_tree-requires-clause-standing : goal.write_tree-requires-clause-standing
write_tree-requires-clause-standing c =
    let problem = c.args.source.now.problem.now in
    let makers = c.args.source.now.makers in
    let inv = c.loop-next.invariant in
    let splits = c.loop-next.path.splits.items in
    let before : List Waiting = c.loop-next.waiting.items in
    let rest : List Waiting = c.pop.new.self.items in
    let w : Waiting = c.in-Some.next in
    let is : before ≡ rest ++ w ∷ [] = c.in-Some.ensures.items in
    let ready = next_ready problem makers splits before rest w c.loop-next.steps is inv.work in
    subst (λ (os : List Opened). AreStanding problem os) (sym c.in_ok-go_to.ensures.splits) ready.standing

pub write_tree-requires-clause-closed : goal.write_tree-requires-clause-closed
write_tree-requires-clause-closed c =
    let problem = c.args.source.now.problem.now in
    let makers = c.args.source.now.makers in
    let inv = c.loop-next.invariant in
    let splits = c.loop-next.path.splits.items in
    let before : List Waiting = c.loop-next.waiting.items in
    let rest : List Waiting = c.pop.new.self.items in
    let w : Waiting = c.in-Some.next in
    let is : before ≡ rest ++ w ∷ [] = c.in-Some.ensures.items in
    let ready = next_ready problem makers splits before rest w c.loop-next.steps is inv.work in
    subst (λ (os : List Opened). IsClosedOn problem os w.tree.now) (sym c.in_ok-go_to.ensures.splits) ready.closed

pub loop-next-smaller : goal.loop-next-smaller
loop-next-smaller c =
    let problem = c.args.source.now.problem.now in
    let makers = c.args.source.now.makers in
    let inv = c.loop-next.invariant in
    let splits = c.loop-next.path.splits.items in
    let before : List Waiting = c.loop-next.waiting.items in
    let rest : List Waiting = c.pop.new.self.items in
    let w : Waiting = c.in-Some.next in
    let is : before ≡ rest ++ w ∷ [] = c.in-Some.ensures.items in
    next_less problem makers c.go_to.new.self.splits.items before rest c.write_tree.new.waiting.items w c.loop-next.steps c.write_tree.new.steps is c.in_ok-write_tree.ensures

pub loop-next-preserved : goal.loop-next-preserved
loop-next-preserved c =
    let problem = c.args.source.now.problem.now in
    let makers = c.args.source.now.makers in
    let inv = c.loop-next.invariant in
    let splits = c.loop-next.path.splits.items in
    let before : List Waiting = c.loop-next.waiting.items in
    let rest : List Waiting = c.pop.new.self.items in
    let w : Waiting = c.in-Some.next in
    let is : before ≡ rest ++ w ∷ [] = c.in-Some.ensures.items in
    let after : List Waiting = c.write_tree.new.waiting.items in
    let steps = c.loop-next.steps in
    let new = c.write_tree.new.steps in
    let way = c.in_ok-go_to.ensures.splits in
    let written : Written problem makers (way_to splits (wait_of w)) w.facts w.rows w.tree.now steps new rest after =
    subst (λ (os : List Opened). Written problem makers os w.facts w.rows w.tree.now steps new rest after) way c.in_ok-write_tree.ensures in
    record {
      indexed = c.in_ok-go_to.ensures.indexed;
      places = c.in_ok-go_to.ensures.places ∙ inv.places;
      work = subst (λ (os : List Opened). IsWork problem makers os after new) (sym way) (next_work problem makers splits before rest after w steps new is inv.work written);
    }

pub returns : goal.returns
returns c =
    let problem = c.args.source.now.problem.now in
    let makers = c.args.source.now.makers in
    let old = c.loop-next.waiting in
    let new = c.pop.new.self in
    let ended = MatchOption-at_none ((vec_len old ≡ 0) × (vec_len new ≡ 0)) (λ next. vec_len new + 1 ≡ vec_len old) c.in_default.is c.pop.ensures.cases in
    let none : c.loop-next.waiting.items ≡ [] = no_items old ended.0 in
    last_work problem makers c.loop-next.path.splits.items c.loop-next.waiting.items c.loop-next.steps none c.loop-next.invariant.work
