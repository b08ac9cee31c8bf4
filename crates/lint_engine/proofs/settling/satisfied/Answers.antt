use Rattle.std.proofs.Common.{◌≡◌, ◌∙◌, ◌<◌, sym, ap, subst, ℕ, List, length}
use Rattle.std.proofs.lemmas.Option.{slice_get_within}
use Rattle.std.specs.Prelude.{Option, option_and_then, unwrap_or}
use Rattle.sort_formula.specs.declared.formula.Formula.TheVariants as f
use Rattle.sorted_skolem.specs.declared.term.RowTerm.{RowTerm}
use Rattle.witness_db.specs.FullCases.{IsFullCaseOf}
use Rattle.witness_db.specs.Parts.{PartHolds}
use Rattle.lint_engine.specs.inner.Parts.{AreRowsOf, first_way}
use Rattle.lint_engine.proofs.Judged.{axioms_stand, stands_first}
use Rattle.lint_engine.proofs.OrParts.{or_is_small, sometimes}
use Rattle.lint_engine.proofs.settling.satisfied.Goals as goal

pub rows_of-requires-clause-few : goal.rows_of-requires-clause-few
rows_of-requires-clause-few c = or_is_small c.args.schema.now c.args.parts.now c.args.problem.now c.requires.ready

pub rows_of-requires-clause-there : goal.rows_of-requires-clause-there
rows_of-requires-clause-there c =
    let schema = c.args.schema.now in
    let parts = c.args.parts.now in
    let problem = c.args.problem.now in
    let ready = c.requires.ready in
    let choices = c.args.branch.now.choices in
    let a = c.args.branch.now.assignment in
    let case : IsFullCaseOf schema problem choices a =
    record {
      problem_is = ready.grounded.problem_is;
      closed = ready.grounded.closed;
      full = c.requires.first.first.full;
      assigned = c.requires.first.settled.is;
      satisfied = c.requires.first.settled.satisfied;
    } in
    let chosen = c.chosen_part_holds.ensures schema problem choices a case c.in_ok-database.field-0.database c.in_ok-database.field-0.places c.in_ok-database.ensures.rows parts
    (stands_first schema (f.Or parts) problem ready) in
    let same : first_way choices ≡ chosen.0 = ap (λ (o : Option (Option ℕ)). unwrap_or (option_and_then (λ (choice : Option ℕ). choice) o) 0) chosen.1 in
    subst (λ (part : ℕ). part < length parts) (sym (c.first_choice-part.ensures ∙ same)) (slice_get_within parts chosen.0 chosen.2.formula chosen.2.stands)

pub returns : goal.returns
returns c =
    let schema = c.args.schema.now in
    let parts = c.args.parts.now in
    let problem = c.args.problem.now in
    let ready = c.requires.ready in
    let choices = c.args.branch.now.choices in
    let a = c.args.branch.now.assignment in
    let db = c.in_ok-database.field-0.database in
    let places = c.in_ok-database.field-0.places in
    let part = c.first_choice-part.result in
    let rows = c.in_ok-rows.rows in
    let case : IsFullCaseOf schema problem choices a =
    record {
      problem_is = ready.grounded.problem_is;
      closed = ready.grounded.closed;
      full = c.requires.first.first.full;
      assigned = c.requires.first.settled.is;
      satisfied = c.requires.first.settled.satisfied;
    } in
    let chosen = c.chosen_part_holds.ensures schema problem choices a case db places c.in_ok-database.ensures.rows parts (stands_first schema (f.Or parts) problem ready) in
    let same : first_way choices ≡ chosen.0 = ap (λ (o : Option (Option ℕ)). unwrap_or (option_and_then (λ (choice : Option ℕ). choice) o) 0) chosen.1 in
    let terms = problem.rows.terms in
    let found : AreRowsOf terms places parts part rows =
    subst (λ (ts : List RowTerm). AreRowsOf ts places parts part rows) c.as_slice-terms.ensures
    (subst (λ (ps : List (Option ℕ)). AreRowsOf c.as_slice-terms.result.now ps parts part rows) c.as_slice-found.ensures c.in_ok-rows.ensures) in
    λ budget. sometimes schema parts problem ready db c.in_ok-database.ensures.fits (c.in_ok-database.ensures.meets (axioms_stand schema (f.Or parts) problem ready)) terms places part
    (subst (PartHolds db terms places parts) (sym (c.first_choice-part.ensures ∙ same)) chosen.2) rows found
