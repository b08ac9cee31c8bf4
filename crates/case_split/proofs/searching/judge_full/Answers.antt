use Rattle.std.proofs.Common.{subst}
use Rattle.std.specs.Prelude.{None}
use Rattle.case_split.specs.declared.taking.Settled.{Settled}
use Rattle.case_split.specs.declared.taking.Settled.TheVariants as settled
use Rattle.case_split.specs.inner.Steps.{IsSettled}
use Rattle.case_split.proofs.Going.{spread_search, go_full}
use Rattle.case_split.proofs.searching.judge_full.Goals as goal

pub settle-requires-clause-state : goal.settle-requires-clause-state
settle-requires-clause-state c = spread_search c.args.clauses.now c.args.frame.now c.args.state.now None c.requires.spreading

pub returns-in-Holds : goal.returns-in-Holds
returns-in-Holds c =
    let is : IsSettled c.args.clauses.now c.args.frame.now c.args.state.now c.settle.new.state (settled.Holds c.in-Holds.assignment) =
    subst (λ (x : Settled). IsSettled c.args.clauses.now c.args.frame.now c.args.state.now c.settle.new.state x) c.in-Holds.is c.in_ok-tree.ensures.settled in
    go_full c.args.clauses.now c.args.frame.now c.args.state.now c.settle.new.state c.in-Holds.assignment c.requires.spreading is
