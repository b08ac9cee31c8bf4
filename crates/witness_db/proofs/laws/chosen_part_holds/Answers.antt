use Rattle.std.proofs.Common.{◌∙◌, sym, ap}
use Rattle.std.specs.Prelude.{slice_get}
use Rattle.sort_formula.specs.declared.formula.Formula.{out-Formula}
use Rattle.sort_formula.specs.declared.formula.Formula.TheVariants.{Or}
use Rattle.witness_db.proofs.First.{first_clause}
use Rattle.witness_db.proofs.Leads.{part, part_chosen, part_holds, top}
use Rattle.witness_db.proofs.laws.chosen_part_holds.Goals as goal

pub returns : goal.returns
returns c = λ schema problem choices a case db places made parts at.
    let hanging = c.clauses_hang_together.ensures schema problem case.problem_is case.closed in
    let plain = c.plain_nodes_are_numbered.ensures schema problem case.problem_is in
    let found = top problem hanging plain choices case.full a case.assigned case.satisfied db places made parts at in (
      part problem hanging plain choices case.full a case.assigned case.satisfied db places made parts at,
      ap (slice_get choices) (sym (first_clause problem (Or parts) at found.0 (out-Formula (Or parts)) found.1))
          ∙ part_chosen problem hanging plain choices case.full a case.assigned case.satisfied db places made parts at,
      part_holds problem hanging plain choices case.full a case.assigned case.satisfied db places made parts at,
    )
