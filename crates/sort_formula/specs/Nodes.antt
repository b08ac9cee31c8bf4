-- How many nodes, and how many quantifiers, a formula has.
use Rattle.std.specs.Prelude.{ℕ, ◌+◌, sum}
use Rattle.sort_formula.specs.declared.formula.Formula.{Formula, fold-Formula}
use Rattle.sort_formula.specs.declared.formula.Formula.TheOpen.{Formula-F}

abbrev pub nodes_step : Formula-F ℕ → ℕ
nodes_step (Formula-F.Atom a) = 1
nodes_step (Formula-F.And parts) = 1 + sum parts
nodes_step (Formula-F.Or parts) = 1 + sum parts
nodes_step (Formula-F.Exists table body) = 1 + body
nodes_step (Formula-F.Forall table body) = 1 + body

abbrev pub nodes : Formula → ℕ
nodes = fold-Formula ℕ nodes_step

abbrev pub quantifiers_step : Formula-F ℕ → ℕ
quantifiers_step (Formula-F.Atom a) = 0
quantifiers_step (Formula-F.And parts) = sum parts
quantifiers_step (Formula-F.Or parts) = sum parts
quantifiers_step (Formula-F.Exists table body) = 1 + body
quantifiers_step (Formula-F.Forall table body) = 1 + body

abbrev pub quantifiers : Formula → ℕ
quantifiers = fold-Formula ℕ quantifiers_step
