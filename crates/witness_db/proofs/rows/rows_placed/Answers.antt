use Rattle.std.proofs.lemmas.Result.{IfOk-weaker}
use Rattle.witness_db.proofs.Fitting.{fits_from}
use Rattle.witness_db.proofs.rows.rows_placed.Goals as goal

pub returns-clause-fits : goal.returns-clause-fits
returns-clause-fits c =
    IfOk-weaker c.place_rows.result _ _
    (λ p made.
    fits_from c.args.schema.now p.database
    (c.databases_are_of_domains.ensures c.args.schema.now c.args.problem.now c.requires.full.problem_is c.args.branch.now.choices c.args.branch.now.assignment c.requires.full.assigned p.database p.places made))
    c.place_rows.ensures

pub returns-clause-domains : goal.returns-clause-domains
returns-clause-domains c =
    IfOk-weaker c.place_rows.result _ _
    (λ p made.
    c.databases_are_of_domains.ensures c.args.schema.now c.args.problem.now c.requires.full.problem_is c.args.branch.now.choices c.args.branch.now.assignment c.requires.full.assigned p.database p.places made)
    c.place_rows.ensures

pub returns-clause-taken : goal.returns-clause-taken
returns-clause-taken c =
    IfOk-weaker c.place_rows.result _ _
    (λ p made.
    c.taken_clauses_hold.ensures c.args.schema.now c.args.problem.now c.args.branch.now.choices c.args.branch.now.assignment c.requires.full p.database p.places made)
    c.place_rows.ensures
