use Rattle.std.proofs.Common.{◌≡◌, ◌∙◌, ap}
use Rattle.std.proofs.lemmas.Option.{get_or_from_slice_get}
use Rattle.std.specs.Prelude.{slice_get}
use Rattle.sort_formula.specs.Counters.{counter_sentence}
use Rattle.sort_formula.specs.Loose.{refutes_loosely}
use Rattle.witness_db.proofs.Found.{is_counter, points_are}
use Rattle.witness_db.proofs.building.build.Goals as goal

pub returns-clause-made : goal.returns-clause-made
returns-clause-made c =
    let schema = c.args.schema.now in
    let query = c.args.query.now in
    let question = c.args.question in
    let given = c.args.given.now in
    let problem = c.args.problem.now in
    let choices = c.args.branch.now.choices in
    let a = c.args.branch.now.assignment in
    let db = c.in_ok-database.field-0.database in
    let places = c.in_ok-database.field-0.places in
    let first : c.index-as_slice-0.result ≡ counter_sentence schema query question given =
    c.index-as_slice-0.is
    ∙ get_or_from_slice_get c.as_slice.result.now 0 (counter_sentence schema query question given) c.index-as_slice-0.result (ap (λ ss. slice_get ss 0) c.as_slice.ensures ∙ c.requires.counter) in
    let points = points_are schema query question c.as_slice-terms.result.now problem.rows.terms c.as_slice-2.result.now places c.in_ok-points.points c.as_slice-terms.ensures
    c.as_slice-2.ensures (c.in_ok-points.ensures schema given first) in
    let known = c.leading_terms_refute.ensures schema problem choices a c.requires.full db places
    c.in_ok-database.ensures.rows query c.requires.query question c.requires.asked given c.requires.counter in
    is_counter schema query question given problem choices a (record { database = db; points = c.in_ok-points.points }) places c.in_ok-database.ensures.rows known.0 points

pub returns-clause-refutes : goal.returns-clause-refutes
returns-clause-refutes c =
    let schema = c.args.schema.now in
    let query = c.args.query.now in
    let question = c.args.question in
    let given = c.args.given.now in
    let problem = c.args.problem.now in
    let choices = c.args.branch.now.choices in
    let a = c.args.branch.now.assignment in
    let db = c.in_ok-database.field-0.database in
    let places = c.in_ok-database.field-0.places in
    let first : c.index-as_slice-0.result ≡ counter_sentence schema query question given =
    c.index-as_slice-0.is
    ∙ get_or_from_slice_get c.as_slice.result.now 0 (counter_sentence schema query question given) c.index-as_slice-0.result (ap (λ ss. slice_get ss 0) c.as_slice.ensures ∙ c.requires.counter) in
    let points = points_are schema query question c.as_slice-terms.result.now problem.rows.terms c.as_slice-2.result.now places c.in_ok-points.points c.as_slice-terms.ensures
    c.as_slice-2.ensures (c.in_ok-points.ensures schema given first) in
    let known = c.leading_terms_refute.ensures schema problem choices a c.requires.full db places
    c.in_ok-database.ensures.rows query c.requires.query question c.requires.asked given c.requires.counter in
    ap (refutes_loosely schema db query question given) points ∙ known.1

pub returns-clause-truly : goal.returns-clause-truly
returns-clause-truly c =
    let schema = c.args.schema.now in
    let query = c.args.query.now in
    let question = c.args.question in
    let given = c.args.given.now in
    let problem = c.args.problem.now in
    let choices = c.args.branch.now.choices in
    let a = c.args.branch.now.assignment in
    let db = c.in_ok-database.field-0.database in
    let places = c.in_ok-database.field-0.places in
    let first : c.index-as_slice-0.result ≡ counter_sentence schema query question given =
    c.index-as_slice-0.is
    ∙ get_or_from_slice_get c.as_slice.result.now 0 (counter_sentence schema query question given) c.index-as_slice-0.result (ap (λ ss. slice_get ss 0) c.as_slice.ensures ∙ c.requires.counter) in
    let points = points_are schema query question c.as_slice-terms.result.now problem.rows.terms c.as_slice-2.result.now places c.in_ok-points.points c.as_slice-terms.ensures
    c.as_slice-2.ensures (c.in_ok-points.ensures schema given first) in
    let known = c.leading_terms_refute.ensures schema problem choices a c.requires.full db places
    c.in_ok-database.ensures.rows query c.requires.query question c.requires.asked given c.requires.counter in
    λ earlier. c.loosely_is_truly.ensures schema db c.in_ok-database.ensures.domains query c.requires.query question c.requires.asked earlier given c.in_ok-points.points
    ∙ (ap (refutes_loosely schema db query question given) points ∙ known.1)
