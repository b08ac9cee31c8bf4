-- Values that satisfy the edges of a closed chain add up to a sum that is not negative.
use Rattle.std.proofs.Common.{◌≡◌, ℕ, ℤ, pos, ◌+ℤ◌, ◌≤ℤ◌, ◌<ℤ◌, ◌<◌, List, [], ◌∷◌, length, ap, arith}
use Rattle.std.specs.List.{AllByRecursion}
use Rattle.std.proofs.lemmas.Int.{ints}
use Rattle.std.proofs.lemmas.List.Elements.{recursion_from_All}
use Rattle.diff_bounds.specs.declared.system.Edge.{Edge}
use Rattle.diff_bounds.specs.System.{Satisfies, Holds}
use Rattle.diff_bounds.specs.Rings.{edge_at, Leads, IsClosed, sum_of, IsNegativeRing}

-- along a chain the values fall by no more than the sum of the bounds
along : (edges : List Edge) (value : ℕ → ℤ) (holds : (e : ℕ) → e < length edges → Holds value (edge_at edges e)) (from to : ℕ) (es : List ℕ) → AllByRecursion (λ e. e < length edges) es → Leads edges from es to → value from ≤ℤ (value to +ℤ sum_of edges es)
along edges value holds from to [] numbers leads =
    let same : value from ≡ value to = ap value leads in
    omega (arith, ints)
along edges value holds from to (e ∷ es) numbers leads =
    let start : value from ≡ value (edge_at edges e).left = ap value leads.0 in
    let here : Holds value (edge_at edges e) = holds e numbers.0 in
    let step : value (edge_at edges e).left ≤ℤ (value (edge_at edges e).right +ℤ (edge_at edges e).most) = here in
    let rest : value (edge_at edges e).right ≤ℤ (value to +ℤ sum_of edges es) = along edges value holds _ to es numbers.1 leads.1 in
    omega (arith, ints)

-- so a ring with a negative sum leaves no values
none_satisfy : (edges : List Edge) (value : ℕ → ℤ) (holds : (e : ℕ) → e < length edges → Holds value (edge_at edges e)) (ring : List ℕ) → AllByRecursion (λ e. e < length edges) ring → IsClosed edges ring → sum_of edges ring <ℤ pos 0 → ⊥
none_satisfy edges value holds [] numbers closed negative = closed
none_satisfy edges value holds (e ∷ es) numbers closed negative =
    let here : value (edge_at edges e).left ≤ℤ (value (edge_at edges e).right +ℤ (edge_at edges e).most) = holds e numbers.0 in
    let rest : value (edge_at edges e).right ≤ℤ (value (edge_at edges e).left +ℤ sum_of edges es) = along edges value holds _ _ es numbers.1 closed in
    let below : ((edge_at edges e).most +ℤ sum_of edges es) <ℤ pos 0 = negative in
    omega (arith, ints)

pub excludes : (edges : List Edge) (ring : List ℕ) (value : ℕ → ℤ) → IsNegativeRing edges ring → Satisfies value edges → ⊥
excludes edges ring value negative satisfies =
    none_satisfy edges value (λ e listed. satisfies e _ listed) ring (recursion_from_All (λ e. e < length edges) ring negative.numbers) negative.closed negative.negative
