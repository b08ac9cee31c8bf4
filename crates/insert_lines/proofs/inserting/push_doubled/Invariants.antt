use Rattle.std.proofs.Common.{◌≡◌, ◌++◌, string_bytes, encode_utf8_all}
use Rattle.insert_lines.specs.InsertText.{doubled}
use Rattle.insert_lines.proofs.inserting.push_doubled.Given as goal

abbrev pub invariant-loop-character : goal.invariant-loop-character
invariant-loop-character l = string_bytes l.out ≡ string_bytes l.fn.out ++ encode_utf8_all (doubled l.mark l.yielded)
