use Rattle.std.proofs.Common.{subst}
use Rattle.lint_engine.specs.inner.Parts.{IsLedBy}
use Rattle.lint_engine.proofs.OrParts.{led_more}
use Rattle.lint_engine.proofs.parts.+leading.Goals as goal

pub returns-in-Exists-clause-led : goal.returns-in-Exists-clause-led
returns-in-Exists-clause-led t c =
    led_more c.args.formula.now c.in-Exists.table c.in-Exists.body c.leading.result c.in-Exists.is (subst (λ g. IsLedBy g c.leading.result) c.get.ensures c.leading.ensures.led)
