-- a text is one of characters
use Rattle.std.proofs.Common.{◌≡◌, ◌∙◌, sym, ap, true}
use Rattle.std.proofs.lemmas.Result.{on_ok_weaker}
use Rattle.std.proofs.lemmas.Str.{scalars-chars}
use Rattle.std.specs.Str.{all_scalars}
use Rattle.cert_format.specs.Fitting.{value_fits}
use Rattle.cert_format.proofs.certs.ValueToJson.push.Goals as goal

pub returns-in-Text-clause-in_range : goal.returns-in-Text-clause-in_range
returns-in-Text-clause-in_range c =
    let whole : value_fits c.args.self.now ≡ true =
    ap value_fits c.in-Text.is ∙ ap all_scalars (sym c.as_str.ensures.characters) ∙ scalars-chars c.as_str.result.now c.as_str.utf8 in
    on_ok_weaker c.push_text.result (λ _. whole) c.push_text.ensures
