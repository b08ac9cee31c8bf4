use Rattle.std.proofs.Common.{length}
use Rattle.sql_parse.proofs.Statements.{Continues}
use Rattle.sql_parse.proofs.schemas.statements.Given as goal

abbrev pub invariant-loop-after : goal.invariant-loop-after
invariant-loop-after l = Continues l.depth l.tokens l.tables l.rest

abbrev pub decreases-loop-after : goal.decreases-loop-after
decreases-loop-after l = length l.rest
