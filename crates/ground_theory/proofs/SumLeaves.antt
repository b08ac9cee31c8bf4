-- From a closed chain of the edges of literals to a right Sum leaf.
use Rattle.std.proofs.Common.{◌≡◌, ◌∙◌, sym, ap, ap₂, refl, subst, ℕ, zero, suc, ℤ, pos, ◌+ℤ◌, ◌<ℤ◌, ◌≤◌, ◌<◌, true, false, List, [], ◌∷◌, length, map, arith}
use Rattle.std.proofs.lemmas.Bool.{eq-eqb, both_ways}
use Rattle.std.proofs.lemmas.Int.{ints}
use Rattle.std.proofs.lemmas.List.{length-map}
use Rattle.std.proofs.lemmas.List.Elements.{recursion_from_All}
use Rattle.std.specs.Prelude.{Some, nat_eq, slice_index_or}
use Rattle.std.specs.List.{AllByRecursion, IsDistinct, AllZip}
use Rattle.diff_bounds.specs.declared.system.Edge.{Edge}
use Rattle.diff_bounds.specs.Rings.{edge_at, Leads, IsClosed, sum_of, left_ends, IsNegativeRing, IsSimple}
use Rattle.lint_core.specs.declared.certificate.SumEdge.{SumEdge}
use Rattle.lint_core.specs.declared.certificate.SumEdge.TheVariants as edge
use Rattle.sort_formula.specs.declared.formula.Side.{Side}
use Rattle.sort_formula.specs.declared.formula.Side.TheVariants as side
use Rattle.sort_formula.specs.Rings.{Bound}
use Rattle.ground_theory.specs.declared.literal.Frame.{Frame}
use Rattle.ground_theory.specs.declared.literal.Literal.{Literal}
use Rattle.ground_theory.specs.Fitting.{all_fit, has_ranges}
use Rattle.ground_theory.specs.Edges.{between, stated, IsSystem}
use Rattle.ground_theory.specs.Leaves.{is_right_leaf}
use Rattle.ground_theory.specs.SumLeaf.{bound, origin_at, turned, cut, sum_leaf}
use Rattle.ground_theory.proofs.Bounds.{Has, has_from}
use Rattle.ground_theory.proofs.Rings.{AllHave, AllInside, Chain, Closed, sum, Apart, turned_right, right_ring}

-- at each place
pub zip_at : {A B : Type 0} (R : A → B → Type 0) (xs : List A) (ys : List B) (k : ℕ) (d : A) (e : B) → AllZip R xs ys → k < length ys → R (slice_index_or xs k d) (slice_index_or ys k e)
zip_at R [] [] k d e zip low = absurd (omega arith)
zip_at R [] (y ∷ ys) k d e zip low = absurd zip
zip_at R (x ∷ xs) [] k d e zip low = absurd zip
zip_at R (x ∷ xs) (y ∷ ys) zero d e zip low = zip.0
zip_at R (x ∷ xs) (y ∷ ys) (suc k) d e zip low = zip_at R xs ys k d e zip.1 (omega arith)

pub zip_length : {A B : Type 0} (R : A → B → Type 0) (xs : List A) (ys : List B) → AllZip R xs ys → length xs ≡ length ys
zip_length R [] [] zip = refl
zip_length R [] (y ∷ ys) zip = absurd zip
zip_length R (x ∷ xs) [] zip = absurd zip
zip_length R (x ∷ xs) (y ∷ ys) zip = ap (λ (n : ℕ). suc n) (zip_length R xs ys zip.1)

module _ (frame : Frame) (literals : List Literal) (all : all_fit frame literals ≡ true) (ranges : has_ranges frame ≡ true)
    (side_of : ℕ → Side) (origins : List SumEdge) (edges : List Edge) (system : IsSystem frame literals side_of origins edges) where
  abbrev Listed : List ℕ → Type 0
  Listed ring = AllByRecursion (λ e. e < length edges) ring

  abbrev origin : ℕ → SumEdge
  origin e = origin_at origins e

  -- the bound of an edge is that of its origin
  same_bound : (e : ℕ) → e < length edges → Has frame literals (origin e) × (bound frame literals (origin e) ≡ between side_of (edge_at edges e))
  same_bound e listed =
      let R = λ (o : SumEdge) (x : Edge). stated frame literals o ≡ Some (between side_of x) in
      has_from frame literals (origin e) (between side_of (edge_at edges e)) (zip_at R origins edges e (edge.Fact 0) (record { left = 0; right = 0; most = pos 0 }) system.states listed)

  left_is : (e : ℕ) → e < length edges → (bound frame literals (origin e)).left ≡ side_of (edge_at edges e).left
  left_is e listed = ap (λ (b : Bound). b.left) (same_bound e listed).1

  right_is : (e : ℕ) → e < length edges → (bound frame literals (origin e)).right ≡ side_of (edge_at edges e).right
  right_is e listed = ap (λ (b : Bound). b.right) (same_bound e listed).1

  have : (ring : List ℕ) → Listed ring → AllHave frame literals all ranges (map origin ring)
  have [] listed = tt
  have (e ∷ es) listed = ((same_bound e listed.0).0, have es listed.1)

  sums : (ring : List ℕ) → Listed ring → sum frame literals all ranges (map origin ring) ≡ sum_of edges ring
  sums [] listed = refl
  sums (e ∷ es) listed = ap₂ (λ m n. m +ℤ n) (ap (λ (b : Bound). b.most) (same_bound e listed.0).1) (sums es listed.1)

  chain : (from to : ℕ) (es : List ℕ) → Listed es → Leads edges from es to → Chain frame literals all ranges (side_of from) (map origin es) (side_of to)
  chain from to [] listed leads = ap side_of leads
  chain from to (e ∷ es) listed leads = (
    ap side_of leads.0 ∙ sym (left_is e listed.0),
    subst (λ (s : Side). Chain frame literals all ranges s (map origin es) (side_of to)) (sym (right_is e listed.0)) (chain (edge_at edges e).right to es listed.1 leads.1),
  )

  closed : (ring : List ℕ) → Listed ring → IsClosed edges ring → Closed frame literals all ranges (map origin ring)
  closed [] listed is = is
  closed (e ∷ es) listed is =
      subst (λ (s : Side). Chain frame literals all ranges (bound frame literals (origin e)).right (map origin es) s) (sym (left_is e listed.0))
      (subst (λ (s : Side). Chain frame literals all ranges s (map origin es) (side_of (edge_at edges e).left)) (sym (right_is e listed.0))
      (chain (edge_at edges e).right (edge_at edges e).left es listed.1 is))

  -- only one edge has the left end that stands for zero
  others_inside : (n : ℕ) (es : List ℕ) → side_of n ≡ side.Zero → Listed es → AllByRecursion (λ m. nat_eq n m ≡ false) (left_ends edges es) → AllInside frame literals all ranges (map origin es)
  others_inside n [] ends listed apart = tt
  others_inside n (e ∷ es) ends listed apart = (
    λ also.
        let first : n ≡ 0 = system.zero n ends in
        let second : (edge_at edges e).left ≡ 0 = system.zero (edge_at edges e).left (sym (left_is e listed.0) ∙ also) in
        both_ways (nat_eq n (edge_at edges e).left) apart.0 (eq-eqb n (edge_at edges e).left (first ∙ sym second)),
    others_inside n es ends listed.1 apart.1,
  )

  apart : (ring : List ℕ) → Listed ring → IsSimple edges ring → Apart frame literals all ranges (map origin ring)
  unfolding IsDistinct
  apart [] listed simple = tt
  apart (e ∷ es) listed simple =
      (λ leaves. others_inside (edge_at edges e).left es (sym (left_is e listed.0) ∙ leaves) listed.1 simple.0, apart es listed.1 simple.1)

  leaf_right : (ring : List ℕ) → Listed ring → IsClosed edges ring → sum_of edges ring <ℤ pos 0 → IsSimple edges ring → length ring ≤ 32769 →
      is_right_leaf frame literals (sum_leaf frame literals origins ring) ≡ true
  leaf_right [] listed is negative simple short = absurd is
  leaf_right (e ∷ es) listed is negative simple short =
      let ring : List SumEdge = map origin (e ∷ es) in
      let start : Side = (bound frame literals (origin e)).left in
      let count : length ring ≡ length (e ∷ es) = length-map (e ∷ es) origin in
      let same = sums (e ∷ es) listed in
      right_ring frame literals all ranges (cut frame literals (turned frame literals [] ring))
      (turned_right frame literals all ranges 32769 start start [] ring tt tt refl (have (e ∷ es) listed) (apart (e ∷ es) listed simple)
      (refl, closed (e ∷ es) listed is) (plain (sum frame literals all ranges ring) (sum_of edges (e ∷ es)) same negative) (omega arith) (omega arith))
    where
      plain : (a b : ℤ) → a ≡ b → b <ℤ pos 0 → (pos 0 +ℤ a) <ℤ pos 0
      plain a b same h = omega (arith, ints)

pub rings_make_leaves : (frame : Frame) (literals : List Literal) (side_of : ℕ → Side) (origins : List SumEdge) (edges : List Edge) (ring : List ℕ) →
    all_fit frame literals ≡ true → has_ranges frame ≡ true → IsSystem frame literals side_of origins edges →
    IsNegativeRing edges ring → IsSimple edges ring → length ring ≤ 32769 →
    is_right_leaf frame literals (sum_leaf frame literals origins ring) ≡ true
rings_make_leaves frame literals side_of origins edges ring all ranges system negative simple short =
    leaf_right frame literals all ranges side_of origins edges system ring (recursion_from_All (λ e. e < length edges) ring negative.numbers) negative.closed negative.negative simple short
