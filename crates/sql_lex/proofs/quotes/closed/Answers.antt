use Rattle.std.proofs.Common.{◌∙◌, sym}
use Rattle.sql_lex.proofs.LexQuotes.{closed_bad, closed_text, closed_name}
use Rattle.sql_lex.proofs.quotes.closed.Goals as goal

pub returns-in_default : goal.returns-in_default
returns-in_default c = c.bad_byte.ensures ∙ closed_bad c.args.mark c.args.len c.args.bytes.now c.in_default.ensures.cases.0

pub returns-in_ok-text : goal.returns-in_ok-text
returns-in_ok-text c = closed_text c.args.mark c.args.len c.args.bytes.now c.in-Ok.inner.now c.in_ok-text.text c.in-Ok.ensures.cases c.if-mark-eq39.true c.in_ok-text.ensures

pub returns-in_ok-text-2 : goal.returns-in_ok-text-2
returns-in_ok-text-2 c = closed_name c.args.mark c.args.len c.args.bytes.now c.in-Ok.inner.now c.in_ok-text-2.text c.in-Ok.ensures.cases c.if-mark-eq39.false (sym c.is_empty.ensures ∙ c.if-is_empty.false) c.in_ok-text-2.ensures
