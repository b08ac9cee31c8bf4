use Rattle.cert_checks.specs.Named.{Named}
use Rattle.cert_checks.proofs.Named.{named_asked}
use Rattle.cert_checks.proofs.Lines.{found_alone}
use Rattle.cert_checks.proofs.alone.check_alone.Goals as goal

pub check_with_axioms-requires-clause-asked : goal.check_with_axioms-requires-clause-asked
check_with_axioms-requires-clause-asked c =
    let named : Named = record { query = c.in-Some.query.now; before = c.in-Some.ensures.0; question = c.in-Some.question.now } in
    named_asked c.args.schema.now c.args.queries.now c.requires.read c.args.cert.now named c.in-Some.ensures.1

pub returns-in-Some : goal.returns-in-Some
returns-in-Some c =
    let named : Named = record { query = c.in-Some.query.now; before = c.in-Some.ensures.0; question = c.in-Some.question.now } in
    found_alone c.args.schema.now c.args.queries.now c.args.cert.now named c.in-Some.ensures.1 c.check_with_axioms.result c.check_with_axioms.ensures.refused
    c.check_with_axioms.ensures.never_needs
