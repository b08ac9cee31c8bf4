-- Choices among the ways of a list of clauses. A choice for the first clauses gives each of them one of its ways, or
-- passes it where some guard of it is not among the choices before it.
use Rattle.std.specs.Prelude.{ℕ, Bool, true, false, ◌&&◌, ◌||◌, nat_eq, nat_lt, List, [], ◌∷◌, ◌++◌, length, Option, Some, None, slice_get, option_and_then, if◌then◌else◌}
use Rattle.std.specs.List.{list_all}
use Rattle.std.specs.Option.{option_map_or}
use Rattle.ground_theory.specs.declared.literal.Clause.{Clause}
use Rattle.ground_theory.specs.declared.literal.Guard.{Guard}
use Rattle.ground_theory.specs.declared.literal.Literal.{Literal}

-- the way of each of the first clauses, none where it is passed
abbrev pub Choices : Type 0
Choices = List (Option ℕ)

abbrev pub takes : ℕ → Option ℕ → Bool
takes way choice = option_map_or (nat_eq way) choice false

-- the guard's way is the choice for its clause
abbrev pub is_chosen : Choices → Guard → Bool
is_chosen choices guard = option_map_or (takes guard.way) (slice_get choices guard.clause) false

-- every guard is among the choices
abbrev pub is_reached : Choices → Clause → Bool
is_reached choices clause = list_all (is_chosen choices) clause.guards

abbrev pub is_way : Clause → Option ℕ → Bool
is_way clause (Some way) = nat_lt way (length clause.ways)
is_way clause None = false

abbrev pub is_pass : Option ℕ → Bool
is_pass (Some way) = false
is_pass None = true

-- what may be chosen for a clause behind earlier choices
abbrev pub is_choice : Choices → Clause → Option ℕ → Bool
is_choice earlier clause choice = if is_reached earlier clause then is_way clause choice else is_pass choice

-- choices for the first of these clauses, behind earlier choices
abbrev pub are_choices_behind : Choices → List Clause → Choices → Bool
are_choices_behind earlier clauses [] = true
are_choices_behind earlier [] (x ∷ xs) = false
are_choices_behind earlier (c ∷ cs) (x ∷ xs) = is_choice earlier c x && are_choices_behind (earlier ++ x ∷ []) cs xs

abbrev pub are_choices : List Clause → Choices → Bool
are_choices clauses choices = are_choices_behind [] clauses choices

-- ---- literals

-- the literal of a way, if it has one
abbrev pub literal_of : Clause → ℕ → Option Literal
literal_of clause way = option_and_then (λ literal. literal) (slice_get clause.ways way)

abbrev pub literal_chosen : Clause → Option ℕ → List Literal
literal_chosen clause choice = option_map_or (λ literal. literal ∷ []) (option_and_then (literal_of clause) choice) []

abbrev pub literals_of : List Clause → Choices → List Literal
literals_of clauses [] = []
literals_of [] (x ∷ xs) = []
literals_of (c ∷ cs) (x ∷ xs) = literal_chosen c x ++ literals_of cs xs

-- ---- order

abbrev pub is_less : Option ℕ → Option ℕ → Bool
is_less None None = false
is_less None (Some w) = true
is_less (Some v) None = false
is_less (Some v) (Some w) = nat_lt v w

abbrev pub is_equal : Option ℕ → Option ℕ → Bool
is_equal None None = true
is_equal None (Some w) = false
is_equal (Some v) None = false
is_equal (Some v) (Some w) = nat_eq v w

-- choices stand before those that continue them; of two others, those with the lesser way at the first difference
abbrev pub stands_before : Choices → Choices → Bool
stands_before [] [] = false
stands_before [] (y ∷ ys) = true
stands_before (x ∷ xs) [] = false
stands_before (x ∷ xs) (y ∷ ys) = is_less x y || (is_equal x y && stands_before xs ys)
