use Rattle.std.proofs.Common.{◌≡◌, ◌∙◌, ◌≤◌, sym, ap, refl, subst, true, List, length, arith}
use Rattle.std.specs.List.{list_all}
use Rattle.ground_theory.specs.declared.literal.Judged.{Judged}
use Rattle.ground_theory.specs.declared.literal.Literal.{Literal}
use Rattle.ground_theory.specs.Judgeable.{can_be_judged}
use Rattle.ground_theory.specs.Judging.{IfClash}
use Rattle.ground_theory.specs.Leaves.{is_right_leaf}
use Rattle.case_split.specs.declared.taking.Cited.{Cited}
use Rattle.case_split.specs.Choices.{Choices, literals_of}
use Rattle.case_split.specs.inner.Steps.{IsPart}
use Rattle.case_split.proofs.Literals.{literals_fit, literals_few, cited_from}
use Rattle.case_split.proofs.taking.narrow.Goals as goal

pub judge-requires-clause-fitting : goal.judge-requires-clause-fitting
judge-requires-clause-fitting c =
    ap (λ (ls : List Literal). list_all (can_be_judged c.args.frame.now) ls) (c.deref-3.ensures.value ∙ c.in_ok-taken.ensures.literals) ∙
    literals_fit c.args.frame.now c.args.clauses.now c.deref-2.result.now c.requires.fitting

pub judge-requires-clause-count : goal.judge-requires-clause-count
judge-requires-clause-count c =
    let size : length c.deref-3.result.now ≡ length (literals_of c.args.clauses.now c.deref-2.result.now) = ap length (c.deref-3.ensures.value ∙ c.in_ok-taken.ensures.literals) in
    let few = literals_few c.args.clauses.now c.deref-2.result.now in
    let count : length c.args.clauses.now ≤ 400000 = c.requires.count in
    omega arith

pub returns-in-Clash : goal.returns-in-Clash
returns-in-Clash c =
    let taken = c.in_ok-taken.taken in
    let cited : Cited = record { conflict = c.in-Clash.conflict; guards = taken.guards } in
    let part : IsPart c.deref-2.result.now c.args.chosen.now = subst (λ (xs : Choices). IsPart xs c.args.chosen.now) (sym c.deref-2.ensures.value) c.in_ok-part.ensures.part in
    let right : is_right_leaf c.args.frame.now c.deref-3.result.now c.in-Clash.conflict.leaf ≡ true =
    subst (λ (j : Judged). IfClash j (λ x. is_right_leaf c.args.frame.now c.deref-3.result.now x.leaf ≡ true)) c.in-Clash.is c.in_ok-judge.ensures.clash in
    cited_from c.args.clauses.now c.args.frame.now c.deref-2.result.now c.args.chosen.now taken cited c.in_ok-taken.ensures part refl
    (subst (λ (ls : List Literal). is_right_leaf c.args.frame.now ls c.in-Clash.conflict.leaf ≡ true) c.deref-3.ensures.value right)
