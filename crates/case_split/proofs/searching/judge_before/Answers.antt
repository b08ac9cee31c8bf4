use Rattle.std.specs.Prelude.{Some}
use Rattle.case_split.proofs.Going.{spread_search}
use Rattle.case_split.proofs.searching.judge_before.Goals as goal

pub settle-requires-clause-state : goal.settle-requires-clause-state
settle-requires-clause-state c = spread_search c.args.clauses.now c.args.frame.now c.args.state.now (Some c.args.number) c.requires.spreading
