use Rattle.sorted_skolem.proofs.Living.{wanted_has}
use Rattle.sorted_skolem.proofs.edges.live_tables.Goals as goal

pub returns-then-not-branch-clause-live : goal.returns-then-not-branch-clause-live
returns-then-not-branch-clause-live c table = (
  c.in_ok-spread.ensures.sound.wanted table,
  wanted_has c.args.asks.now c.spread.new.live.items (c.in_ok-spread.ensures.closed c.if-not-branch.true) table,
)
