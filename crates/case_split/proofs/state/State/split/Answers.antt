use Rattle.std.proofs.Common.{refl}
use Rattle.case_split.specs.declared.state.Entry.{Entry}
use Rattle.case_split.proofs.Splitting.{splits}
use Rattle.case_split.proofs.state.State.split.Goals as goal

pub returns-clause-ready : goal.returns-clause-ready
returns-clause-ready c =
    let e : Entry = record { clause = c.args.number; way = 0; cases = c.new.result } in
    splits c.args.clauses.now c.args.frame.now c.args.self.now c.take.new.self c.args.number e c.requires.ready c.requires.fork c.requires.satisfied refl refl c.new.ensures
    c.take.ensures.tried c.take.ensures.chosen c.take.ensures.needed c.in_ok-take.ensures.entries
