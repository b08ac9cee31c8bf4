use Rattle.std.proofs.Common.{◌+◌, true, List, ℕ, sym, ap, ◌∙◌, take}
use Rattle.std.proofs.lemmas.List.{take_rest}
use Rattle.sql_lex.specs.inner.Lexing.{unquoted, with_front}
use Rattle.sql_lex.proofs.LexQuotes.{quote_none, quote_next}
use Rattle.sql_lex.proofs.quotes.split_at_mark.Goals as goal

pub returns-in-Some-clause-parts : goal.returns-in-Some-clause-parts
returns-in-Some-clause-parts c =
    quote_next c.args.mark c.args.text.now c.in-Some.place c.in-Some.ensures
    ∙ ap (λ (x : List ℕ). with_front (take c.in-Some.place c.args.text.now) (unquoted c.args.mark true x)) (sym (take_rest c.args.text.now (c.in-Some.place + 1)))

pub returns-in-None-clause-parts : goal.returns-in-None-clause-parts
returns-in-None-clause-parts c = quote_none c.args.mark c.args.text.now c.in-None.ensures
