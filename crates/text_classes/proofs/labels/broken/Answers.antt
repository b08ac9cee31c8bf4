use Rattle.std.proofs.Common.{arith}
use Rattle.text_classes.proofs.labels.broken.Goals as goal

pub class-requires : goal.class-requires
class-requires c = (c.requires.met c.loop-number.number (omega arith)).0

pub class-requires-then-not-link : goal.class-requires-then-not-link
class-requires-then-not-link c = (c.requires.met c.loop-number.number (omega arith)).1
