use Rattle.std.proofs.Common.{◌≡◌, ◌∙◌, sym, ap, subst, List, []}
use Rattle.std.proofs.lemmas.Option.{same_Some}
use Rattle.ground_theory.specs.declared.literal.Clause.{Clause}
use Rattle.ground_theory.specs.declared.literal.Guard.{Guard}
use Rattle.case_split.specs.declared.state.Spread.{Spread}
use Rattle.case_split.specs.declared.state.Spread.TheVariants as spread
use Rattle.case_split.specs.declared.state.State.{State}
use Rattle.case_split.specs.declared.tree.CaseTree.{CaseTree}
use Rattle.case_split.specs.declared.tree.CaseTree.TheVariants as tree
use Rattle.case_split.specs.inner.Entries.{mark_all, IsRefuted}
use Rattle.case_split.specs.inner.Steps.{IsSpread}
use Rattle.case_split.proofs.Going.{dead_low}
use Rattle.case_split.proofs.Leaving.{dead_refutes}
use Rattle.case_split.proofs.Places.{read_at}
use Rattle.case_split.proofs.Refuting.{split_rolls}
use Rattle.case_split.proofs.searching.go_on.Goals as goal

pub returns-in-Dead-clause-advance : goal.returns-in-Dead-clause-advance
returns-in-Dead-clause-advance c =
    let s : State = c.spread.new.self in
    let t : State = c.need.new.self in
    let is : IsSpread c.args.clauses.now c.args.frame.now s (spread.Dead c.in-Dead.number) =
    subst (λ (x : Spread). IsSpread c.args.clauses.now c.args.frame.now s x) c.in-Dead.is c.in_ok-spread.ensures in
    let dead = is.1 in
    let low = dead_low c.args.clauses.now c.args.frame.now s c.in-Dead.number dead in
    let at = read_at c.args.clauses.now c.in-Dead.number c.index-clauses-number.result low c.index-clauses-number.is in
    let same : c.index-clauses-number.result ≡ dead.clause = same_Some c.index-clauses-number.result dead.clause (sym at ∙ dead.stands) in
    let guards = c.as_slice.ensures ∙ (ap (λ (d : Clause). d.guards) (sym c.index-clauses-number.is) ∙ ap (λ (d : Clause). d.guards) same) in
    let done = dead_refutes c.args.clauses.now c.args.frame.now s t c.in-Dead.number dead.clause is.0 dead.stands dead.none dead.reached
    c.need.ensures.tried c.need.ensures.chosen (c.need.ensures.needed ∙ ap (λ (gs : List Guard). mark_all s.needed.items gs) guards) c.need.ensures.entries in
    subst (λ (ts : List CaseTree). IsRefuted c.args.clauses.now c.args.frame.now t (tree.Split c.in-Dead.number ts)) (sym c.new-cases.ensures)
    (subst (λ u. IsRefuted c.args.clauses.now c.args.frame.now t u) (split_rolls c.in-Dead.number []) done)
