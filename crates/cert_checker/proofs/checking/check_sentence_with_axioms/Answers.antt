use Rattle.std.proofs.Common.{◌∙◌, [], ◌∷◌, ap, refl}
use Rattle.sort_formula.specs.Certificate.{first_wrong}
use Rattle.cert_checker.proofs.Verdict.{accepted_where_none, refused_where_some, wrong_is}
use Rattle.cert_checker.proofs.checking.check_sentence_with_axioms.Goals as goal

pub returns-in-Some-clause-accepted : goal.returns-in-Some-clause-accepted
returns-in-Some-clause-accepted c =
    let first =
    c.in_ok-step.ensures
    ∙ ap (λ tables. first_wrong 1 tables c.args.steps.now (record { facts = c.in_ok-facts.facts.items; tables = [] } ∷ []))
    (c.as_slice.ensures ∙ c.tables.ensures.tables)
    in
    let wrong =
    wrong_is c.args.schema.now c.args.sentence.now c.args.steps.now c.args.axioms.now c.in_ok-facts.facts.items c.requires.listed
    c.in_ok-facts.ensures c.in_ok-step.field-0 first
    ∙ c.in-Some.is
    in
    let no = refused_where_some c.wrong_steps_are_numbered.ensures.accepted c.args.schema.now c.args.sentence.now c.args.steps.now c.in-Some.step wrong in
    (λ same. cc, λ yes. cc)

pub returns-in-Some-clause-refused : goal.returns-in-Some-clause-refused
returns-in-Some-clause-refused c =
    let first =
    c.in_ok-step.ensures
    ∙ ap (λ tables. first_wrong 1 tables c.args.steps.now (record { facts = c.in_ok-facts.facts.items; tables = [] } ∷ []))
    (c.as_slice.ensures ∙ c.tables.ensures.tables)
    in
    let wrong =
    wrong_is c.args.schema.now c.args.sentence.now c.args.steps.now c.args.axioms.now c.in_ok-facts.facts.items c.requires.listed
    c.in_ok-facts.ensures c.in_ok-step.field-0 first
    ∙ c.in-Some.is
    in
    λ step. (λ same. cc, λ is. cc)

pub returns-in-None-clause-accepted : goal.returns-in-None-clause-accepted
returns-in-None-clause-accepted c =
    let first =
    c.in_ok-step.ensures
    ∙ ap (λ tables. first_wrong 1 tables c.args.steps.now (record { facts = c.in_ok-facts.facts.items; tables = [] } ∷ []))
    (c.as_slice.ensures ∙ c.tables.ensures.tables)
    in
    let wrong =
    wrong_is c.args.schema.now c.args.sentence.now c.args.steps.now c.args.axioms.now c.in_ok-facts.facts.items c.requires.listed
    c.in_ok-facts.ensures c.in_ok-step.field-0 first
    ∙ c.in-None.is
    in
    (λ same. accepted_where_none c.wrong_steps_are_numbered.ensures.accepted c.args.schema.now c.args.sentence.now c.args.steps.now wrong, λ yes. refl)

pub returns-in-None-clause-refused : goal.returns-in-None-clause-refused
returns-in-None-clause-refused c =
    let first =
    c.in_ok-step.ensures
    ∙ ap (λ tables. first_wrong 1 tables c.args.steps.now (record { facts = c.in_ok-facts.facts.items; tables = [] } ∷ []))
    (c.as_slice.ensures ∙ c.tables.ensures.tables)
    in
    let wrong =
    wrong_is c.args.schema.now c.args.sentence.now c.args.steps.now c.args.axioms.now c.in_ok-facts.facts.items c.requires.listed
    c.in_ok-facts.ensures c.in_ok-step.field-0 first
    ∙ c.in-None.is
    in
    λ step. (λ same. cc, λ is. cc)

pub returns-in-None-clause-sound : goal.returns-in-None-clause-sound
returns-in-None-clause-sound c =
    let first =
    c.in_ok-step.ensures
    ∙ ap (λ tables. first_wrong 1 tables c.args.steps.now (record { facts = c.in_ok-facts.facts.items; tables = [] } ∷ []))
    (c.as_slice.ensures ∙ c.tables.ensures.tables)
    in
    let wrong =
    wrong_is c.args.schema.now c.args.sentence.now c.args.steps.now c.args.axioms.now c.in_ok-facts.facts.items c.requires.listed
    c.in_ok-facts.ensures c.in_ok-step.field-0 first
    ∙ c.in-None.is
    in
    λ same db meets.
    c.accepted_sentence_fails.ensures c.args.schema.now c.tables.ensures.schema c.args.sentence.now c.args.steps.now
    (accepted_where_none c.wrong_steps_are_numbered.ensures.accepted c.args.schema.now c.args.sentence.now c.args.steps.now wrong) db meets
