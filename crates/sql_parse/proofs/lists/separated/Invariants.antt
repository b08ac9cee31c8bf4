use Rattle.std.proofs.Common.{◌≡◌, List, length}
use Rattle.sql_lex.specs.declared.token.Token.{Token}
use Rattle.sql_parse.specs.inner.readers.Tokens.{Read, read_separated}
use Rattle.sql_parse.specs.inner.readers.Gives.{is_mark}
use Rattle.sql_parse.specs.inner.readers.Separated.{Shorter, AlwaysGives}
use Rattle.sql_parse.proofs.Separated.{gathered}
use Rattle.sql_parse.proofs.lists.separated.Given as goal

abbrev pub invariant-loop-after : goal.invariant-loop-after
invariant-loop-after g l =
    (read : List Token → Read _) → Shorter read → AlwaysGives (goal.F-post g l.part) read
    → gathered (is_mark l.mark) read l.parts l.rest ≡ read_separated (is_mark l.mark) read l.tokens

abbrev pub decreases-loop-after : goal.decreases-loop-after
decreases-loop-after g l = length l.rest
