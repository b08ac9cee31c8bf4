use Rattle.std.proofs.Common.{◌≡◌, [], false, length}
use Rattle.sql_parse.specs.grammar.Words.{ON}
use Rattle.sql_parse.specs.inner.readers.Tokens.{found, is_word, at_head}
use Rattle.sql_parse.specs.inner.readers.Tables.{read_event, read_actions}
use Rattle.sql_parse.proofs.Collected.{from_here}
use Rattle.sql_parse.proofs.tables.after_actions.Given as goal

abbrev pub invariant-loop-rest : goal.invariant-loop-rest
invariant-loop-rest l = from_here (at_head (is_word ON)) read_event (λ none after. found false after) [] 0 l.rest ≡ read_actions l.tokens

abbrev pub decreases-loop-rest : goal.decreases-loop-rest
decreases-loop-rest l = length l.rest
