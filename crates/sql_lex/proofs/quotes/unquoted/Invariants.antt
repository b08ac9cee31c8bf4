use Rattle.std.proofs.Common.{◌≡◌, ◌≤◌, false, length}
use Rattle.sql_lex.specs.inner.Lexing.{unquoted, with_front}
use Rattle.sql_lex.proofs.quotes.unquoted.Given as goal

abbrev pub invariant-loop-piece : goal.invariant-loop-piece
invariant-loop-piece l = record {
  held : with_front l.bytes.items (unquoted l.fn.mark false l.rest) ≡ unquoted l.fn.mark false l.fn.text;
  within : length l.rest ≤ length l.fn.text;
}

abbrev pub decreases-loop-piece : goal.decreases-loop-piece
decreases-loop-piece l = length l.rest
