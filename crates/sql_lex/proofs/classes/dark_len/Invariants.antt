use Rattle.std.proofs.Common.{◌≡◌, ◌≤◌, true, length, take, drop}
use Rattle.std.specs.List.{list_all}
use Rattle.sql_lex.specs.Bytes.{is_white}
use Rattle.sql_lex.proofs.classes.dark_len.Given as goal

abbrev pub invariant-loop-dark : goal.invariant-loop-dark
invariant-loop-dark l = record {
  within : length l.dark ≤ length l.text;
  part : l.dark ≡ take (length l.dark) l.text;
  white : list_all is_white (drop (length l.dark) l.text) ≡ true;
}

abbrev pub decreases-loop-dark : goal.decreases-loop-dark
decreases-loop-dark l = length l.dark
