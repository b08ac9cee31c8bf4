use Rattle.std.proofs.Common.{◌≡◌, ◌∙◌, [], sym, ap, map, true}
use Rattle.std.proofs.lemmas.List.Folds.{list_all-map}
use Rattle.std.proofs.lemmas.Result.{IfOk-weaker}
use Rattle.std.specs.List.{list_all}
use Rattle.constraint_axioms.specs.declared.axiom.Axiom.{Axiom as Made}
use Rattle.sort_formula.specs.Axioms.{Axiom, axioms}
use Rattle.sort_formula.specs.Sentences.{formula_fits}
use Rattle.constraint_axioms.specs.Spoken.{spoken}
use Rattle.constraint_axioms.proofs.listing.axioms.Goals as goal

pub returns-clause-fits : goal.returns-clause-fits
returns-clause-fits c =
    let schema = c.args.schema.now in
    let fitting = λ (a : Axiom). formula_fits schema a.sentence [] in
    IfOk-weaker c.all_axioms.result (λ list. map spoken list.items ≡ axioms schema) (λ list. list_all (λ (a : Made). formula_fits schema a.sentence []) list.items ≡ true)
    (λ list are. sym (list_all-map fitting spoken list.items) ∙ (ap (list_all fitting) are ∙ c.axioms_fit.ensures schema c.tables.ensures.schema))
    c.all_axioms.ensures
