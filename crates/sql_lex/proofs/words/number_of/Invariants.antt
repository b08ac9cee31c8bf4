use Rattle.sql_lex.proofs.LexSpelling.{Counts}
use Rattle.sql_lex.proofs.words.number_of.Given as goal

abbrev pub invariant-loop-b : goal.invariant-loop-b
invariant-loop-b l = Counts l.digits l.value l.b-index
