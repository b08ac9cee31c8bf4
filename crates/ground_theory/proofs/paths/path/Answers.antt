use Rattle.std.proofs.Common.{◌∙◌, ℕ, sym, subst, List}
use Rattle.std.specs.List.{All}
use Rattle.text_classes.specs.declared.facts.TextFact.{TextFact}
use Rattle.text_classes.specs.Texts.{IsAmong, Satisfies}
use Rattle.text_classes.specs.declared.facts.Classed.{Classed}
use Rattle.text_classes.specs.declared.facts.TextEnd.TheVariants.{Var}
use Rattle.text_classes.specs.Paths.{IsPath, Leads}
use Rattle.text_classes.specs.Answer.{text_in, IfPath, IfLabels}
use Rattle.ground_theory.specs.inner.Paths.{row_facts}
use Rattle.ground_theory.proofs.Walking.{path_leads, no_labels, facts_among}
use Rattle.ground_theory.proofs.paths.path.Goals as goal

pub classes-requires-clause-variables : goal.classes-requires-clause-variables
classes-requires-clause-variables c =
    subst (All (IsAmong c.args.rows)) (sym (c.deref.ensures.value ∙ c.in_ok-facts.ensures))
    (facts_among c.args.joins.now c.args.from c.args.to c.args.rows c.requires.within c.requires.from c.requires.to)

pub walk-requires : goal.walk-requires
walk-requires c =
    let is = subst (λ (x : Classed). IfPath x (λ last path. IsPath c.deref.result.now last path)) c.in-Path.is c.in_ok-facts-2.ensures.path in
    let facts = subst (λ (fs : List TextFact). IsPath fs c.in-Path.last c.in-Path.facts) (c.deref.ensures.value ∙ c.in_ok-facts.ensures) is in
    subst (λ (ns : List ℕ). Leads (row_facts c.args.joins.now c.args.from c.args.to) (Var c.args.from) ns (Var c.args.to)) (sym c.as_slice.ensures)
    (path_leads c.args.joins.now c.args.from c.args.to c.in-Path.last c.in-Path.facts facts)

pub unreachable-requires : goal.unreachable-requires
unreachable-requires c =
    let is = subst (λ (x : Classed). IfLabels x (λ labels texts. Satisfies (text_in labels texts) c.deref.result.now)) c.in-Labels.is c.in_ok-facts-2.ensures.satisfied in
    no_labels c.args.joins.now c.args.from c.args.to (text_in c.in-Labels.labels c.in-Labels.texts)
    (subst (Satisfies (text_in c.in-Labels.labels c.in-Labels.texts)) (c.deref.ensures.value ∙ c.in_ok-facts.ensures) is) c.requires.tied
