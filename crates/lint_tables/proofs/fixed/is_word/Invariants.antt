use Rattle.std.proofs.Common.{◌≡◌, map, length}
use Rattle.std.specs.Str.{bytes_eq}
use Rattle.lint_tables.specs.Words.{upper}
use Rattle.lint_tables.proofs.fixed.is_word.Given as goal

-- what is left compares as the whole does
abbrev pub invariant-loop-k : goal.invariant-loop-k
invariant-loop-k l = bytes_eq (map upper l.word) l.known ≡ bytes_eq (map upper l.fn.word) l.fn.known

abbrev pub decreases-loop-k : goal.decreases-loop-k
decreases-loop-k l = length l.word
