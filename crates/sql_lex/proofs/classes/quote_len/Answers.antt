use Rattle.sql_lex.proofs.RunLemmas.{quote_closed, quote_unclosed}
use Rattle.sql_lex.proofs.classes.quote_len.Goals as goal

pub returns-in-Some-clause-to_come : goal.returns-in-Some-clause-to_come
returns-in-Some-clause-to_come c = λ from at. quote_closed c.args.mark c.args.text.now c.in-Some.at from at c.requires c.in-Some.ensures

pub returns-in-None-clause-to_come : goal.returns-in-None-clause-to_come
returns-in-None-clause-to_come c = λ from at.
    quote_unclosed c.args.mark c.args.text.now c.dark_len.result from at c.in-None.ensures c.dark_len.ensures.within c.dark_len.ensures.white c.dark_len.ensures.dark
