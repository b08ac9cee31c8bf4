use Rattle.std.proofs.Common.{◌∙◌, ap, subst}
use Rattle.std.specs.Vec.{vec_items}
use Rattle.case_split.specs.declared.searching.Advance.{Advance}
use Rattle.case_split.specs.declared.searching.Advance.TheVariants as advance
use Rattle.case_split.specs.declared.tree.Branch.{Branch}
use Rattle.case_split.specs.inner.Steps.{IsAdvance}
use Rattle.case_split.proofs.Splitting.{first_full}
use Rattle.case_split.proofs.searching.look_for.Goals as goal

pub returns-in-Full : goal.returns-in-Full
returns-in-Full c =
    let branch : Branch = record { choices = c.from_vec.result; assignment = c.in-Full.assignment } in
    let is : IsAdvance c.args.clauses.now c.args.frame.now c.go_on.new.state (advance.Full c.in-Full.assignment) =
    subst (λ (x : Advance). IsAdvance c.args.clauses.now c.args.frame.now c.go_on.new.state x) c.in-Full.is c.in_ok-assignment.ensures.advance in
    first_full c.args.clauses.now c.args.frame.now c.go_on.new.state branch is.0 (c.from_vec.ensures ∙ ap vec_items c.replace-chosen.ensures.value) is.1
