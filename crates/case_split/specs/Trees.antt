-- Closed trees. A leaf is closed under choices where those that it cites are among them and its step is right over their
-- literals. A split is closed where the guards of its clause are among the choices, and the tree of each way is closed
-- under the choices with this way added. So a clause without ways that is reached closes by itself.
use Rattle.std.specs.Prelude.{ℕ, suc, Bool, true, false, ◌&&◌, nat_eq, List, [], ◌∷◌, ◌++◌, length, Option, Some, slice_get, option_and_then}
use Rattle.std.specs.List.{list_any, list_all}
use Rattle.std.specs.Option.{option_map_or}
use Rattle.ground_theory.specs.declared.literal.Clause.{Clause}
use Rattle.ground_theory.specs.declared.literal.Frame.{Frame}
use Rattle.ground_theory.specs.declared.literal.Guard.{Guard}
use Rattle.ground_theory.specs.declared.literal.Literal.{Literal}
use Rattle.ground_theory.specs.Leaves.{is_right_leaf}
use Rattle.case_split.specs.declared.tree.CaseTree.{CaseTree, fold-CaseTree}
use Rattle.case_split.specs.declared.tree.CaseTree.TheOpen.{CaseTree-F}
use Rattle.case_split.specs.Choices.{literal_of}

abbrev pub is_same_guard : Guard → Guard → Bool
is_same_guard a b = nat_eq a.clause b.clause && nat_eq a.way b.way

abbrev pub is_among : List Guard → Guard → Bool
is_among guards guard = list_any (is_same_guard guard) guards

abbrev pub are_among : List Guard → List Guard → Bool
are_among guards those = list_all (is_among guards) those

module _ (clauses : List Clause) (frame : Frame) where
  abbrev pub literal_at : Guard → Option Literal
  literal_at guard = option_and_then (λ clause. literal_of clause guard.way) (slice_get clauses guard.clause)

  -- the literal of each, if each has one
  abbrev pub literals_at : List Guard → Option (List Literal)
  literals_at [] = Some []
  literals_at (g ∷ gs) = option_and_then (λ l. option_and_then (λ ls. Some (l ∷ ls)) (literals_at gs)) (literal_at g)

  -- what is said of a tree by the choices above it
  abbrev pub Meaning : Type 0
  Meaning = List Guard → Bool

  -- the trees of the ways, the first of which has this number
  abbrev pub ways_closed : ℕ → ℕ → List Meaning → List Guard → Bool
  ways_closed clause way [] guards = true
  ways_closed clause way (t ∷ ts) guards = t (guards ++ record { clause = clause; way = way } ∷ []) && ways_closed clause (suc way) ts guards

  abbrev pub split_closed : ℕ → List Meaning → List Guard → Clause → Bool
  split_closed number trees guards clause =
      are_among guards clause.guards && (nat_eq (length trees) (length clause.ways) && ways_closed number 0 trees guards)

  abbrev pub closed_step : CaseTree-F Meaning → Meaning
  closed_step (CaseTree-F.Leaf conflict chosen) guards =
      are_among guards chosen && option_map_or (λ literals. is_right_leaf frame literals conflict.leaf) (literals_at chosen) false
  closed_step (CaseTree-F.Split clause trees) guards = option_map_or (split_closed clause trees guards) (slice_get clauses clause) false

  abbrev pub is_closed : CaseTree → Meaning
  is_closed = fold-CaseTree Meaning closed_step
