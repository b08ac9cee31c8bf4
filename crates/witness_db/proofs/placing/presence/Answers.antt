use Rattle.std.proofs.Common.{◌≡◌, ◌∙◌, subst, List, Bool, IfOk}
use Rattle.witness_db.proofs.Places.{present_from}
use Rattle.witness_db.proofs.placing.presence.Goals as goal

pub returns : goal.returns
returns c =
    subst (λ (xs : List Bool). IfOk c.are_chosen.result (λ present. present ≡ xs))
    (present_from c.args.problem.now c.args.choices.now c.as_slice.result.now (c.as_slice.ensures ∙ c.in_ok-makers.ensures)) c.are_chosen.ensures
