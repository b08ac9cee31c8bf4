use Rattle.std.proofs.Common.{◌∙◌, ◌+◌, Err, ap, sym, subst}
use Rattle.serde_json.specs.View.{view}
use Rattle.cert_format.specs.inner.Found.{cert_found}
use Rattle.cert_format.specs.inner.Gives.{Gives}
use Rattle.cert_format.proofs.Listing.{SoFar, none_yet, goes_on, goes_wrong, is_over}
use Rattle.cert_format.proofs.file.read_all.Goals as goal

pub loop-value-init : goal.loop-value-init
loop-value-init c = subst (λ certs. SoFar c.args.values.now 0 certs 0) (sym c.new-certs.ensures.items) (none_yet c.args.values.now)

pub loop-value-preserved : goal.loop-value-preserved
loop-value-preserved c =
    let more = goes_on c.args.values.now c.loop-value.value-index c.loop-value.certs.items c.loop-value.at c.loop-value.invariant
    c.value-item.result c.loop-value-test.true c.value-item.is c.saturating_add-at.result c.saturating_add-at.ensures c.in-Ok.cert c.in-Ok.ensures in
    subst (λ certs. SoFar c.args.values.now (c.loop-value.value-index + 1) certs c.saturating_add-at.result) (sym (c.in_ok-push-in-Ok.ensures).items) more

pub returns-in-Err-Shape : goal.returns-in-Err-Shape
returns-in-Err-Shape c =
    goes_wrong c.args.values.now c.loop-value.value-index c.loop-value.certs.items c.loop-value.at c.loop-value.invariant
    c.value-item.result c.loop-value-test.true c.value-item.is c.saturating_add-at.result c.saturating_add-at.ensures
    (subst (Gives (cert_found (view c.value-item.result))) (c.in-Err-Shape.is ∙ ap Err c.in-Err-Shape.field-0-is) c.read.ensures)

pub returns : goal.returns
returns c = is_over c.args.values.now c.loop-value.value-index c.loop-value.certs.items c.loop-value.at c.loop-value.invariant c.loop-value-test.false
