use Rattle.verdict_laws.proofs.Counted.{at_most_budget, at_most_product}
use Rattle.verdict_laws.proofs.completeness.budgets_suffice.Goals as goal

pub returns-clause-at_most : goal.returns-clause-at_most
returns-clause-at_most c = at_most_budget c.choices_are_ordered.ensures.never_itself c.choices_are_ordered.ensures.in_turn

pub returns-clause-product : goal.returns-clause-product
returns-clause-product c = at_most_product
