use Rattle.std.proofs.Common.{◌≡◌, ◌≤◌, false, length}
use Rattle.sql_lex.specs.inner.Lexing.{after_gap}
use Rattle.sql_lex.proofs.gaps.after_gap.Given as goal

abbrev pub invariant-loop-rest : goal.invariant-loop-rest
invariant-loop-rest l = record {
  rest : after_gap false l.rest ≡ after_gap false l.text;
  within : length l.rest ≤ length l.text;
}

abbrev pub decreases-loop-rest : goal.decreases-loop-rest
decreases-loop-rest l = length l.rest
