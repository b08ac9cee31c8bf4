-- Closed chains of edges, named by the edges' numbers, and the sum of the bounds along one.
use Rattle.std.specs.Prelude.{◌≡◌, ℕ, ℤ, pos, ◌+ℤ◌, ◌<ℤ◌, ◌<◌, List, [], ◌∷◌, All, map, length, nat_eq, slice_index_or}
use Rattle.std.specs.List.{IsDistinct}
use Rattle.diff_bounds.specs.declared.system.Edge.{Edge}

-- the edge of this number
abbrev pub edge_at : List Edge → ℕ → Edge
edge_at edges number = slice_index_or edges number (record { left = 0; right = 0; most = pos 0 })

-- each edge starts at the right end of the one before it, the first at `from`, and the last ends at `to`
abbrev pub Leads : List Edge → ℕ → List ℕ → ℕ → Type 0
Leads edges from [] to = from ≡ to
Leads edges from (e ∷ es) to = (from ≡ (edge_at edges e).left) × Leads edges (edge_at edges e).right es to

-- a closed chain: it has an edge, each edge's right end is the next one's left end, and the last one's right end is the first one's left end
abbrev pub IsClosed : List Edge → List ℕ → Type 0
IsClosed edges [] = ⊥
IsClosed edges (e ∷ es) = Leads edges (edge_at edges e).right es (edge_at edges e).left

-- the sum of the bounds along a chain
abbrev pub sum_of : List Edge → List ℕ → ℤ
sum_of edges [] = pos 0
sum_of edges (e ∷ es) = (edge_at edges e).most +ℤ sum_of edges es

-- the left ends along a chain
abbrev pub left_ends : List Edge → List ℕ → List ℕ
left_ends edges chain = map (λ e. (edge_at edges e).left) chain

-- a closed chain of edges of the system with a negative sum
pub record IsNegativeRing (edges : List Edge) (ring : List ℕ) : Type 0 where
  pub numbers : All (λ e. e < length edges) ring
  pub closed : IsClosed edges ring
  pub negative : sum_of edges ring <ℤ pos 0

-- no two edges of the chain have the same left end
abbrev pub IsSimple : List Edge → List ℕ → Type 0
IsSimple edges chain = IsDistinct nat_eq (left_ends edges chain)
