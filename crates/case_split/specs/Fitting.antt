-- Clauses that can be searched: each literal can be judged, and each way has a number of 32 bits.
use Rattle.std.specs.Prelude.{◌^◌, Bool, true, nat_lt, List, length, Option}
use Rattle.std.specs.List.{list_all}
use Rattle.std.specs.Option.{option_map_or}
use Rattle.ground_theory.specs.declared.literal.Clause.{Clause}
use Rattle.ground_theory.specs.declared.literal.Frame.{Frame}
use Rattle.ground_theory.specs.declared.literal.Literal.{Literal}
use Rattle.ground_theory.specs.Judgeable.{can_be_judged}

-- a way without literal, or whose literal can be judged
abbrev pub is_fit : Frame → Option Literal → Bool
is_fit frame way = option_map_or (can_be_judged frame) way true

abbrev pub are_fit : Frame → List Clause → Bool
are_fit frame clauses = list_all (λ (c : Clause). list_all (is_fit frame) c.ways) clauses

-- each clause has fewer than 2 ^ 32 ways
abbrev pub have_few_ways : List Clause → Bool
have_few_ways clauses = list_all (λ (c : Clause). nat_lt (length c.ways) (2 ^ 32)) clauses
