use Rattle.std.proofs.Common.{length, slice_range}
use Rattle.sql_lex.proofs.LexScan.{Reads}
use Rattle.sql_lex.proofs.lexer.lex.Given as goal

abbrev pub invariant-loop-inner : goal.invariant-loop-inner
invariant-loop-inner l = Reads (slice_range l.text l.part.from l.part.to) l.part.from l.part.to l.tokens.items l.rest

abbrev pub decreases-loop-inner : goal.decreases-loop-inner
decreases-loop-inner l = length l.rest
