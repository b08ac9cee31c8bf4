-- How many cases of a list of clauses are counted at most, said by its clauses alone.
use Rattle.std.specs.Prelude.{ℕ, ◌+◌, ◌*◌, max, List, [], ◌∷◌, length}
use Rattle.ground_theory.specs.declared.literal.Clause.{Clause}

-- how many ways; a clause without ways counts as one
abbrev pub ways_counted : Clause → ℕ
ways_counted clause = max 1 (length clause.ways)

abbrev pub ways_multiplied : List Clause → ℕ
ways_multiplied [] = 1
ways_multiplied (c ∷ cs) = ways_counted c * ways_multiplied cs

-- one more than there are clauses, times the product of their ways
abbrev pub cases_at_most : List Clause → ℕ
cases_at_most clauses = (length clauses + 1) * ways_multiplied clauses
