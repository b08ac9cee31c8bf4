-- Lists of clauses in which each guard names an earlier clause.
use Rattle.std.specs.Prelude.{ℕ, suc, nat_lt, Bool, true, ◌&&◌, List, [], ◌∷◌}
use Rattle.std.specs.List.{list_all}
use Rattle.ground_theory.specs.declared.literal.Clause.{Clause}
use Rattle.ground_theory.specs.declared.literal.Guard.{Guard}

-- every guard names an earlier clause; a clause that stands in the list under this number
abbrev pub guards_before : ℕ → Clause → Bool
guards_before number clause = list_all (λ (g : Guard). nat_lt g.clause number) clause.guards

abbrev pub are_forward_from : ℕ → List Clause → Bool
are_forward_from number [] = true
are_forward_from number (c ∷ cs) = guards_before number c && are_forward_from (suc number) cs

-- each guard names an earlier clause
abbrev pub are_forward : List Clause → Bool
are_forward clauses = are_forward_from 0 clauses
