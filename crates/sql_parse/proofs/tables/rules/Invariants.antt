use Rattle.std.proofs.Common.{◌≡◌, length}
use Rattle.sql_parse.specs.inner.readers.Tokens.{at_head}
use Rattle.sql_parse.specs.inner.readers.Tables.{begins_rule, read_named_rule, read_rules}
use Rattle.sql_parse.proofs.Collected.{collected}
use Rattle.sql_parse.proofs.tables.rules.Given as goal

abbrev pub invariant-loop-alloc : goal.invariant-loop-alloc
invariant-loop-alloc l = collected (at_head begins_rule) (read_named_rule l.depth l.column) l.rules l.rest ≡ read_rules l.depth l.column l.tokens

abbrev pub decreases-loop-alloc : goal.decreases-loop-alloc
decreases-loop-alloc l = length l.rest
