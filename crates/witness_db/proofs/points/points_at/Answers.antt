use Rattle.std.proofs.Common.{◌∙◌, sym, ap, subst, IfOk}
use Rattle.lint_core.specs.declared.query.Question.{Question}
use Rattle.sort_formula.specs.Counters.{counter_sentence}
use Rattle.witness_db.specs.inner.Fitting.{ArePoints, fitting_of}
use Rattle.witness_db.proofs.points.points_at.Goals as goal

pub returns-in-NeedlessJoin : goal.returns-in-NeedlessJoin
returns-in-NeedlessJoin c = λ schema given is.
    let query = c.args.query.now in
    let terms = c.args.terms.now in
    let places = c.args.places.now in
    subst (λ (q : Question). IfOk c.join_points.result (ArePoints query terms places (fitting_of schema query terms places q) q)) (sym c.in-NeedlessJoin.is)
    (c.join_points.ensures schema given (is ∙ ap (λ (q : Question). counter_sentence schema query q given) c.in-NeedlessJoin.is))
