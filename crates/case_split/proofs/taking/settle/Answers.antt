use Rattle.std.proofs.Common.{◌≡◌, ◌∙◌, ◌≤◌, ap, subst, List, length, arith}
use Rattle.std.specs.List.{list_all}
use Rattle.ground_theory.specs.declared.literal.Guard.{Guard}
use Rattle.ground_theory.specs.declared.literal.Literal.{Literal}
use Rattle.ground_theory.specs.Judgeable.{can_be_judged}
use Rattle.case_split.specs.declared.state.State.{State}
use Rattle.case_split.specs.Choices.{Choices, literals_of}
use Rattle.case_split.specs.inner.Entries.{mark_all, entries_of, IsRefuted}
use Rattle.case_split.specs.inner.Steps.{IsCited}
use Rattle.case_split.proofs.Literals.{literals_fit, literals_few, clashes}
use Rattle.case_split.proofs.Refuting.{leaf_rolls}
use Rattle.case_split.proofs.TakingWays.{search_lengths}
use Rattle.case_split.proofs.taking.settle.Goals as goal

pub take_literals-requires-clause-length : goal.take_literals-requires-clause-length
take_literals-requires-clause-length c =
    ap length c.deref.ensures.value ∙ (search_lengths c.args.clauses.now c.args.frame.now c.args.state.now (entries_of c.args.state.now) c.requires.state.counted c.requires.state.has).0

pub judge-requires-clause-fitting : goal.judge-requires-clause-fitting
judge-requires-clause-fitting c =
    ap (λ (ls : List Literal). list_all (can_be_judged c.args.frame.now) ls) (c.deref-2.ensures.value ∙ c.in_ok-taken.ensures.literals) ∙
    literals_fit c.args.frame.now c.args.clauses.now c.deref.result.now c.requires.fitting

pub judge-requires-clause-count : goal.judge-requires-clause-count
judge-requires-clause-count c =
    let size : length c.deref-2.result.now ≡ length (literals_of c.args.clauses.now c.deref.result.now) = ap length (c.deref-2.ensures.value ∙ c.in_ok-taken.ensures.literals) in
    let few = literals_few c.args.clauses.now c.deref.result.now in
    let count : length c.args.clauses.now ≤ 400000 = c.requires.count in
    omega arith

pub narrow-requires-clause-length : goal.narrow-requires-clause-length
narrow-requires-clause-length c =
    ap length c.deref-in-Clash.ensures.value ∙
    (search_lengths c.args.clauses.now c.args.frame.now c.args.state.now (entries_of c.args.state.now) c.requires.state.counted c.requires.state.has).0

pub returns-in_ok-cited-in-Clash-clause-settled : goal.returns-in_ok-cited-in-Clash-clause-settled
returns-in_ok-cited-in-Clash-clause-settled c =
    let s : State = c.args.state.now in
    let t : State = c.need.new.self in
    let cited = c.in_ok-cited-in-Clash.cited in
    let is = subst (λ (xs : Choices). IsCited c.args.clauses.now c.args.frame.now xs cited) c.deref-in-Clash.ensures.value c.in_ok-cited-in-Clash.ensures in
    let done = clashes c.args.clauses.now c.args.frame.now s t cited c.requires.state is
    c.need.ensures.tried c.need.ensures.chosen (c.need.ensures.needed ∙ ap (λ (gs : List Guard). mark_all s.needed.items gs) c.as_slice.ensures) c.need.ensures.entries in
    subst (λ u. IsRefuted c.args.clauses.now c.args.frame.now t u) (leaf_rolls cited.conflict cited.guards) done
