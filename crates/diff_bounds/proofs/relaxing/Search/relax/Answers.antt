use Rattle.std.proofs.Common.{refl}
use Rattle.diff_bounds.proofs.Relaxed.{holds, still_held, still_above, above_more, falls}
use Rattle.diff_bounds.proofs.relaxing.Search.relax.Goals as goal

pub returns-then-index-asked-clause-above : goal.returns-then-index-asked-clause-above
returns-then-index-asked-clause-above c = above_more c.args.self.now.values.items c.args.number c.requires.above

pub returns-then-index-asked-clause-done : goal.returns-then-index-asked-clause-done
returns-then-index-asked-clause-done c =
    (refl, holds _ _ _ _ c.requires.sound c.requires.ends c.requires.moderate c.requires.few _ c.requires.listed c.requires.above _ c.index.ensures _ c.index-2.ensures c.if-index-asked.true)

pub returns-clause-sound : goal.returns-clause-sound
returns-clause-sound c =
    still_held _ _ _ _ c.requires.sound c.requires.ends c.requires.moderate c.requires.few _ c.requires.listed c.requires.above _ c.index.ensures _ c.index-2.ensures c.if-index-asked.false

pub returns-clause-above : goal.returns-clause-above
returns-clause-above c =
    still_above _ _ _ _ c.requires.sound c.requires.ends c.requires.moderate c.requires.few _ c.requires.listed c.requires.above _ c.index.ensures _ c.index-2.ensures c.if-index-asked.false

pub returns-clause-done : goal.returns-clause-done
returns-clause-done c =
    falls _ _ _ _ c.requires.sound c.requires.ends c.requires.moderate c.requires.few _ c.requires.listed c.requires.above _ c.index.ensures _ c.index-2.ensures c.if-index-asked.false
