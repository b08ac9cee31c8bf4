use Rattle.std.proofs.Common.{◌≡◌, true, refl, length, slice_range, arith}
use Rattle.std.specs.Prelude.{slice_index}
use Rattle.std.proofs.lemmas.Grind.{common_steps}
use Rattle.std.proofs.lemmas.List.{take_rest}
use Rattle.sql_lex.specs.Bytes.{is_quote}
use Rattle.sql_lex.proofs.RunLemmas.{quote_front}
use Rattle.sql_lex.proofs.classes.first_run.Goals as goal

pub returns-in-39-clause-to_come : goal.returns-in-39-clause-to_come
returns-in-39-clause-to_come c = λ solid at.
    let text = c.args.text.now in
    let mark = slice_index text 0 in
    let quote : is_quote mark ≡ true = grind (arith, common_steps) in
    quote_front text (slice_range text 1 (length text)) mark c.quote_len.result solid at c.requires (take_rest text 1) refl quote c.quote_len.ensures.to_come
