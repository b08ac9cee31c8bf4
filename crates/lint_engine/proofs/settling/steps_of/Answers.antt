use Rattle.sort_formula.specs.declared.formula.Formula.TheVariants as f
use Rattle.lint_engine.proofs.Judged.{are_accepted, parts_limits}
use Rattle.lint_engine.proofs.settling.steps_of.Goals as goal

pub returns : goal.returns
returns c =
    let schema = c.args.schema.now in
    let parts = c.args.parts.now in
    let steps = c.in_ok-cert.cert.steps in
    let accepted = are_accepted schema (f.Or parts) c.args.problem.now c.requires.ready steps c.in_ok-cert.ensures.steps in
    record {
      limits = parts_limits schema parts c.args.problem.now c.requires.ready;
      accepted = accepted;
      fails = λ db met. c.accepted_sentence_fails.ensures schema c.tables.ensures.schema (f.Or parts) steps accepted db met;
    }
