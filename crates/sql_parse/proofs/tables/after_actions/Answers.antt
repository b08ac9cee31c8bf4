use Rattle.std.proofs.Common.{◌≡◌, false, true, [], sym, ◌∙◌}
use Rattle.std.proofs.lemmas.Result.{err_from_is_err_and}
use Rattle.sql_parse.specs.grammar.Words.{ON}
use Rattle.sql_parse.specs.inner.readers.Tokens.{found, is_word, at_head}
use Rattle.sql_parse.specs.inner.readers.Tables.{read_event}
use Rattle.sql_parse.proofs.Shorter.{event_below, event_shorter}
use Rattle.sql_parse.proofs.Collected.{goes_on, stops, ends, stops_whole}
use Rattle.sql_parse.proofs.tables.after_actions.Goals as goal

pub returns-in_err-rest : goal.returns-in_err-rest
returns-in_err-rest c =
    let a = c.at.ensures in
    let h = c.loop-rest-test.true in
    let g = c.in_err-rest.ensures in
    let p = err_from_is_err_and c.from_residual.result c.from_residual.ensures.1 in
    let on : at_head (is_word ON) c.loop-rest.rest.now ≡ true = sym a ∙ h in
    rw (p.1, p.2) (stops_whole _ _ _ c.loop-rest.invariant (stops _ read_event (λ none after. found false after) event_below c.in_err-rest.field-0.0 [] 0 c.loop-rest.rest.now on g))

pub loop-rest-smaller : goal.loop-rest-smaller
loop-rest-smaller c = event_shorter 0 c.loop-rest.rest.now [] c.in_ok-rest.rest.now c.in_ok-rest.ensures

pub loop-rest-preserved : goal.loop-rest-preserved
loop-rest-preserved c =
    let on : at_head (is_word ON) c.loop-rest.rest.now ≡ true = sym c.at.ensures ∙ c.loop-rest-test.true in
    sym (goes_on _ read_event (λ none after. found false after) event_below [] [] 0 c.loop-rest.rest.now c.in_ok-rest.rest.now on c.in_ok-rest.ensures) ∙ c.loop-rest.invariant

pub returns : goal.returns
returns c =
    let off : at_head (is_word ON) c.loop-rest.rest.now ≡ false = sym c.at.ensures ∙ c.loop-rest-test.false in
    sym c.loop-rest.invariant ∙ ends _ read_event (λ none after. found false after) [] 0 c.loop-rest.rest.now off
