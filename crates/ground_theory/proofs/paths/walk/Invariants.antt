use Rattle.std.proofs.Common.{drop}
use Rattle.text_classes.specs.declared.facts.TextEnd.TheVariants.{Var}
use Rattle.text_classes.specs.Paths.{Leads}
use Rattle.ground_theory.specs.inner.Paths.{LeadsBy, row_facts}
use Rattle.ground_theory.proofs.paths.walk.Given as goal

abbrev pub invariant-loop-number : goal.invariant-loop-number
invariant-loop-number l = record {
  led : LeadsBy l.joins l.from l.path.items l.at;
  rest : Leads (row_facts l.joins l.from l.to) (Var l.at) (drop l.number-index l.numbers) (Var l.to);
}
