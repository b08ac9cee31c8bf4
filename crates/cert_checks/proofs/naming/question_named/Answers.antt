use Rattle.std.proofs.Common.{◌≡◌, refl, length, take, suc, arith}
use Rattle.std.proofs.lemmas.Option.{slice_get_read}
use Rattle.lint_core.specs.declared.query.Question.{Question}
use Rattle.cert_checks.proofs.Named.{named_is}
use Rattle.cert_checks.proofs.naming.question_named.Goals as goal

pub returns : goal.returns
returns c =
    let asked = c.in_ok-query.asked.now in
    let place = c.in_ok-place.place in
    let q : Question = c.in_ok-get.field-0.now in
    let number : c.args.cert.now.question ≡ suc place = omega (arith, c.in_ok-place.ensures) in (
      take place asked,
      named_is c.args.queries.now c.args.cert.now (record { query = c.in_ok-query.query.now; asked = asked }) place q c.in_ok-query.ensures number
          (slice_get_read asked (length asked) place q refl c.in_ok-get.ensures.lookup.3.0 c.in_ok-get.ensures.lookup.1),
    )
