-- Which tables are live by a list of Exists nodes, and which edges lead to a table from tables that wait. Nothing here has
-- to be believed: no public contract says it.
use Rattle.std.specs.Prelude.{◌≡◌, ℕ, suc, ◌<◌, Bool, true, ◌&&◌, nat_eq, nat_lt, List, [], ◌∷◌, map, Option, Some, slice_get, find, option_map, if◌then◌else◌}
use Rattle.std.specs.List.{list_any, list_all}
use Rattle.sorted_skolem.specs.declared.asks.Ask.{Ask}
use Rattle.sorted_skolem.specs.declared.edges.Edge.{Edge}

-- whether the table is one of these
abbrev pub has : List ℕ → ℕ → Bool
has tables table = list_any (λ other. nat_eq other table) tables

-- each below all behind it
abbrev pub Rises : List ℕ → Type 0
Rises [] = Unit {0}
Rises (table ∷ tables) = ((other : ℕ) → has tables other ≡ true → table < other) × Rises tables

-- the tables with one more, behind those that are less
abbrev pub inserted : List ℕ → ℕ → List ℕ
inserted [] table = table ∷ []
inserted (other ∷ tables) table = if nat_lt other table then other ∷ inserted tables table else table ∷ other ∷ tables

-- how many of the tables are not among these
abbrev pub lacking : List ℕ → List ℕ → ℕ
lacking [] these = 0
lacking (table ∷ tables) these = if has these table then lacking tables these else suc (lacking tables these)

-- the least set of tables to which the table of each Exists belongs whose Foralls are over such tables
pub data IsWanted (asks : List Ask) : ℕ → Type 0 where
  wanted : (place table : ℕ) (ask : Ask) → slice_get asks place ≡ Some ask → ask.table ≡ table
      → ((from : ℕ) → has ask.foralls from ≡ true → IsWanted asks from) → IsWanted asks table

module _ (asks : List Ask) (live : List ℕ) where
  -- ascending, and each is wanted
  pub record AreSound : Type 0 where
    pub rises : Rises live
    pub wanted : (table : ℕ) → has live table ≡ true → IsWanted asks table

  -- the table of an Exists is there where those of its Foralls are
  abbrev pub IsClosedAt : ℕ → Type 0
  IsClosedAt place = (ask : Ask) → slice_get asks place ≡ Some ask → list_all (has live) ask.foralls ≡ true → has live ask.table ≡ true

  -- how many Exists nodes are over other tables
  abbrev pub missing : ℕ
  missing = lacking (map (λ (ask : Ask). ask.table) asks) live

-- the edges of an Exists, where its Foralls are over live tables
abbrev pub edges_at : List ℕ → Ask → List Edge
edges_at live ask = if list_all (has live) ask.foralls then map (λ from. record { from = from; to = ask.table }) ask.foralls else []

-- the first of these tables from which an edge leads to the table
abbrev pub source_of : List Edge → List ℕ → ℕ → Option ℕ
source_of edges waiting table = option_map (λ (e : Edge). e.from) (find (λ (e : Edge). nat_eq e.to table && has waiting e.from) edges)

module _ (edges : List Edge) where
  abbrev pub HasEdge : ℕ → ℕ → Type 0
  HasEdge from to = (place : ℕ) × (slice_get edges place ≡ Some (record { from = from; to = to }))

  -- each table has an edge to the next, and the last to this one
  abbrev pub LeadsOn : ℕ → ℕ → List ℕ → Type 0
  LeadsOn end table [] = HasEdge table end
  LeadsOn end table (next ∷ tables) = HasEdge table next × LeadsOn end next tables

  -- each table has an edge to the next, and the last to the first
  abbrev pub IsRound : List ℕ → Type 0
  IsRound [] = ⊥
  IsRound (table ∷ tables) = LeadsOn table table tables

  -- each table has an edge to the one before it, and this one to the last
  abbrev pub Backs : List ℕ → ℕ → Type 0
  Backs [] at = Unit {0}
  Backs (x ∷ []) at = HasEdge at x
  Backs (x ∷ y ∷ ys) at = HasEdge y x × Backs (y ∷ ys) at
