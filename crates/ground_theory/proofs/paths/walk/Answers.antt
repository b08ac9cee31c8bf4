use Rattle.std.proofs.Common.{◌≡◌, ◌⊎◌, ◌+◌, ℕ, Bool, true, false, List, sym, subst, ap, drop, get_or, inl, inr}
use Rattle.std.specs.Prelude.{not, nat_eq}
use Rattle.std.proofs.lemmas.Bool.{eq-eqb, ne_eqb}
use Rattle.std.proofs.lemmas.List.{drop_more}
use Rattle.lint_core.specs.declared.certificate.SameEdge.{SameEdge}
use Rattle.text_classes.specs.declared.facts.TextEnd.TheVariants.{Var}
use Rattle.text_classes.specs.Paths.{Leads}
use Rattle.ground_theory.specs.inner.Joining.{join_at}
use Rattle.ground_theory.specs.inner.Paths.{LeadsBy, row_facts}
use Rattle.ground_theory.proofs.Walking.{walk_more}
use Rattle.ground_theory.proofs.paths.walk.Goals as goal
use Rattle.ground_theory.proofs.paths.walk.Goals.{then-back, else-back}

pub loop-number-preserved : goal.loop-number-preserved
loop-number-preserved c =
    let inv = c.loop-number.invariant in
    let joins = c.args.joins.now in
    let n : ℕ = get_or c.args.numbers.now c.loop-number.number-index 0 in
    let row : ℕ = (join_at joins n).row in
    let other : ℕ = (join_at joins n).other in
    let back : Bool = not (nat_eq row c.loop-number.at) in
    let rest = subst (λ (ns : List ℕ). Leads (row_facts joins c.args.from c.args.to) (Var c.loop-number.at) ns (Var c.args.to)) (drop_more c.args.numbers.now c.loop-number.number-index 0 c.loop-number-test.true) inv.rest in
    let way : ((back ≡ false) × (row ≡ c.loop-number.at) × (c.if-back.at ≡ other)) ⊎ ((back ≡ true) × (row ≡ c.loop-number.at → ⊥) × (c.if-back.at ≡ row)) = elim c.if-back.branch [
      | then-back w ↦ inr (ap not (ne_eqb row c.loop-number.at w.if-back.true), w.if-back.true, w.at-is)
      | else-back w ↦ inl (ap not (eq-eqb row c.loop-number.at w.if-back.false), w.if-back.false, w.at-is)
    ] in
    let more = walk_more joins c.args.from c.args.to c.loop-number.path.items c.loop-number.at n (drop (c.loop-number.number-index + 1) c.args.numbers.now) inv.led rest back c.if-back.at way in
    record { led = subst (λ (path : List SameEdge). LeadsBy joins c.args.from path c.if-back.at) (sym c.in_ok-push.ensures.items) more.led; rest = more.rest }
