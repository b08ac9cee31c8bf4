use Rattle.std.proofs.Common.{◌≡◌, map, take, string_bytes, encode_utf8_all}
use Rattle.lint_tables.specs.Words.{upper}
use Rattle.sql_lex.proofs.words.upper_case.Given as goal

abbrev pub invariant-loop-b : goal.invariant-loop-b
invariant-loop-b l = string_bytes l.text ≡ encode_utf8_all (map upper (take l.b-index l.word))
