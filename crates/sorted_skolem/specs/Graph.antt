-- Which tables need rows, and from which other tables' rows. A table is live where some sentence asks for a row of it: it
-- has an Exists over the table, and every Forall around that is over a live table. Such an Exists gives an edge from the
-- table of each Forall around it to its own table.
use Rattle.std.specs.List.{IsDistinct}
use Rattle.std.specs.Prelude.{◌≡◌, ℕ, suc, ◌<◌, ◌≤◌, ◌⊎◌, ◌↔◌, List, [], ◌∷◌, Some, slice_get, nat_eq, Contains}
use Rattle.sort_formula.specs.declared.formula.Formula.{Formula}
use Rattle.sorted_skolem.specs.Preorder.{Node, outlines_of, node_at, forall_tables, exists_table}

-- the sentence has there an Exists over the table, inside Foralls over these tables
pub record Asks (sentences : List Formula) (sentence node table : ℕ) (tables : List ℕ) : Type 0 where
  pub found : Node
  pub stands : node_at (outlines_of sentences) sentence node ≡ Some found
  pub asks : exists_table found ≡ Some table
  pub inside : forall_tables found ≡ tables

-- the least set of tables of this kind
pub data IsLive (sentences : List Formula) : ℕ → Type 0 where
  asked : (sentence node table : ℕ) (tables : List ℕ) → Asks sentences sentence node table tables
      → ((k r : ℕ) → slice_get tables k ≡ Some r → IsLive sentences r) → IsLive sentences table

module _ (sentences : List Formula) where
  abbrev pub AreLive : List ℕ → Type 0
  AreLive tables = (k r : ℕ) → slice_get tables k ≡ Some r → IsLive sentences r

  -- the sentence of this number gives the edge
  pub record GivesEdge (sentence from to : ℕ) : Type 0 where
    pub node : ℕ
    pub tables : List ℕ
    pub asks : Asks sentences sentence node to tables
    pub live : AreLive tables
    pub place : ℕ
    pub is_from : slice_get tables place ≡ Some from

  abbrev pub IsEdge : ℕ → ℕ → Type 0
  IsEdge from to = (sentence : ℕ) × GivesEdge sentence from to

  -- each table has an edge to the next, and the last to this one
  abbrev pub LeadsTo : ℕ → ℕ → List ℕ → Type 0
  LeadsTo end table [] = IsEdge table end
  LeadsTo end table (next ∷ tables) = IsEdge table next × LeadsTo end next tables

  -- each table has an edge to the next, and the last to the first
  abbrev pub IsClosed : List ℕ → Type 0
  IsClosed [] = ⊥
  IsClosed (table ∷ tables) = LeadsTo table table tables

  -- and it comes to no table twice
  pub record IsCycle (tables : List ℕ) : Type 0 where
    pub closed : IsClosed tables
    pub simple : IsDistinct nat_eq tables

  -- no edges lead from a table round to itself, in whatever way
  abbrev pub IsAcyclic : Type 0
  IsAcyclic = (tables : List ℕ) → ¬ (IsClosed tables)

-- a path of so many edges to a live table
pub data HasPath (sentences : List Formula) : ℕ → ℕ → Type 0 where
  here : (table : ℕ) → IsLive sentences table → HasPath sentences 0 table
  farther : (count from to : ℕ) → HasPath sentences count from → IsEdge sentences from to → HasPath sentences (suc count) to

module _ (sentences : List Formula) where
  -- so long is the longest path to the table
  pub record HasDepth (depth table : ℕ) : Type 0 where
    pub path : HasPath sentences depth table
    pub longest : (other : ℕ) → HasPath sentences other table → other ≤ depth

  -- by the length of the longest path, then by place in the schema
  pub record StandsBefore (table other : ℕ) : Type 0 where
    pub depth : ℕ
    pub second : ℕ
    pub first_is : HasDepth depth table
    pub second_is : HasDepth second other
    pub before : (depth < second) ⊎ ((depth ≡ second) × (table < other))

  -- each before the next, and a longest path leads to the last
  abbrev pub AreOrdered : List ℕ → Type 0
  AreOrdered [] = Unit {0}
  AreOrdered (table ∷ []) = (depth : ℕ) × HasDepth depth table
  AreOrdered (table ∷ next ∷ tables) = StandsBefore table next × AreOrdered (next ∷ tables)

  -- the live tables, in this order
  pub record IsOrder (tables : List ℕ) : Type 0 where
    pub live : (table : ℕ) → Contains tables table ↔ IsLive sentences table
    pub ordered : AreOrdered tables
