-- Which answers are findings. E1 to E8 ask whether something that a query says is needless, or has no effect: they are
-- findings where it always is so. E9 and E10 ask whether a mishap never comes: they are findings where it may.
use Rattle.std.specs.Prelude.{Bool, true, false}
use Rattle.lint_core.specs.declared.query.Question.{Question}
use Rattle.lint_core.specs.declared.query.Question.TheVariants.{OneRow, Empty, NeedlessDistinct, Constant, Duplicate, NeedlessJoin, Implied, Impossible, SameRow, NullInNotIn}
use Rattle.lint_core.specs.declared.run.Answer.{Answer}
use Rattle.lint_core.specs.declared.run.Answer.TheVariants.{Always, NotAlways, Moot, Blocked, CyclicKeys, CyclicNesting, Large, Spent}

abbrev pub is_always : Answer → Bool
is_always (Always cert) = true
is_always (NotAlways counters) = false
is_always Moot = false
is_always (Blocked by) = false
is_always (CyclicKeys cycle counter key) = false
is_always (CyclicNesting cycle) = false
is_always (Large rows nodes) = false
is_always (Spent tried) = false

abbrev pub is_not_always : Answer → Bool
is_not_always (Always cert) = false
is_not_always (NotAlways counters) = true
is_not_always Moot = false
is_not_always (Blocked by) = false
is_not_always (CyclicKeys cycle counter key) = false
is_not_always (CyclicNesting cycle) = false
is_not_always (Large rows nodes) = false
is_not_always (Spent tried) = false

abbrev pub is_finding : Question → Answer → Bool
is_finding (OneRow sub) answer = is_not_always answer
is_finding Empty answer = is_always answer
is_finding NeedlessDistinct answer = is_always answer
is_finding (Constant item) answer = is_always answer
is_finding (Duplicate item other) answer = is_always answer
is_finding (NeedlessJoin entry) answer = is_always answer
is_finding (Implied predicate) answer = is_always answer
is_finding (Impossible predicate) answer = is_always answer
is_finding (SameRow entry other) answer = is_always answer
is_finding (NullInNotIn sub) answer = is_not_always answer
