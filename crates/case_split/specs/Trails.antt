-- Trails: ways that are decided on, and with them the ways that follow since their clauses have no other, also of clauses
-- further on in the list.
use Rattle.std.specs.Prelude.{◌≡◌, ◌⊎◌, true, List, [], ◌∷◌, ◌++◌, length, Some, slice_get}
use Rattle.ground_theory.specs.declared.literal.Clause.{Clause}
use Rattle.ground_theory.specs.declared.literal.Guard.{Guard}
use Rattle.ground_theory.specs.Forward.{guards_before}
use Rattle.case_split.specs.Trees.{is_among, are_among}

module _ (clauses : List Clause) where
  -- the one way of a clause whose guards are all among the earlier choices, and name earlier clauses
  pub record IsForced (earlier : List Guard) (g : Guard) : Type 0 where
    pub clause : Clause
    pub stands : slice_get clauses g.clause ≡ Some clause
    pub one : length clause.ways ≡ 1
    pub first : g.way ≡ 0
    pub reached : are_among earlier clause.guards ≡ true
    pub before : guards_before g.clause clause ≡ true

  -- each is decided, or forced by those before it
  abbrev pub IsTrail : List Guard → List Guard → List Guard → Type 0
  IsTrail decided earlier [] = Unit {0}
  IsTrail decided earlier (g ∷ gs) = ((is_among decided g ≡ true) ⊎ IsForced earlier g) × IsTrail decided (earlier ++ g ∷ []) gs
