use Rattle.std.proofs.Common.{sym, refl, get_or}
use Rattle.sql_lex.proofs.LexSpelling.{counts_stop}
use Rattle.sql_lex.proofs.words.number_of.Goals as goal

pub returns-in_default : goal.returns-in_default
returns-in_default c =
    sym (counts_stop c.args.digits.now c.loop-b.value c.loop-b.b-index (get_or c.args.digits.now c.loop-b.b-index 0) c.loop-b-test.true refl (sym c.in_default.ensures) c.loop-b.invariant)
