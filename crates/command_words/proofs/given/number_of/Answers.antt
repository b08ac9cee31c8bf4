use Rattle.std.proofs.Common.{◌∙◌, sym}
use Rattle.command_words.proofs.Numerals.{number_read, number_lost}
use Rattle.command_words.proofs.given.number_of.Goals as goal

pub returns-in-Ok : goal.returns-in-Ok
returns-in-Ok c =
    c.within_limits.ensures ∙ number_read c.args.value.now c.parse.result c.parse.ensures.value.0 (sym c.is_numeral.ensures ∙ c.if-not-is_numeral.false) c.in-Ok.number c.in-Ok.is

pub returns-in-Err : goal.returns-in-Err
returns-in-Err c =
    absurd (number_lost c.args.value.now c.parse.result c.parse.ensures.value.0 (sym c.is_numeral.ensures ∙ c.if-not-is_numeral.false) c.in-Err.field-0 c.in-Err.is)
