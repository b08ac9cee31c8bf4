-- The leaf that is answered of a ring is right.
use Rattle.std.proofs.Common.{◌≡◌, ◌∙◌, sym, ap, refl, subst, ℕ, ◌<◌, ◌≤◌, true, List, [], ◌∷◌, length, map, arith}
use Rattle.std.specs.Prelude.{slice_index_or, pos}
use Rattle.std.specs.List.{Contains, AllByRecursion}
use Rattle.std.proofs.lemmas.List.{get_or-map, length-map}
use Rattle.std.proofs.lemmas.List.Elements.{recursion_from_All, Contains-get_or}
use Rattle.lint_core.specs.declared.certificate.Step.{Step}
use Rattle.lint_core.specs.declared.certificate.Step.TheVariants as step
use Rattle.lint_core.specs.declared.certificate.SumEdge.{SumEdge}
use Rattle.lint_core.specs.declared.certificate.SumEdge.TheVariants as edge
use Rattle.ground_theory.specs.declared.literal.Frame.{Frame}
use Rattle.ground_theory.specs.declared.literal.Literal.{Literal}
use Rattle.ground_theory.specs.declared.numbering.Cell.{Cell}
use Rattle.ground_theory.specs.declared.numbers.Stated.{Stated}
use Rattle.ground_theory.specs.Fitting.{all_fit, has_ranges}
use Rattle.ground_theory.specs.Leaves.{is_right_leaf}
use Rattle.ground_theory.specs.SumLeaf.{origin_at, sum_leaf, cut, turned}
use Rattle.ground_theory.specs.inner.Counted.{edge_in, IsRingLeaf}
use Rattle.ground_theory.specs.inner.Rings.{stated_at, chain_of}
use Rattle.ground_theory.specs.inner.Systems.{variable_side, IsRight}
use Rattle.ground_theory.proofs.Cutting.{origin, leaf_is, system_is}
use Rattle.ground_theory.proofs.SumLeaves.{rings_make_leaves}

module _ (frame : Frame) (literals : List Literal) (cells : List Cell) (listed : List Stated) (right : (s : Stated) → Contains listed s → IsRight frame literals cells s) where
  abbrev none : Stated
  none = record { origin = edge.Fact 0; edge = record { left = 0; right = 0; most = pos 0 } }

  at_right : (n : ℕ) → n < length listed → IsRight frame literals cells (stated_at listed n)
  at_right n h = right (stated_at listed n) (Contains-get_or listed n none h)

  -- the origins along the chain
  origins_are : (ring : List ℕ) → AllByRecursion (λ n. n < length listed) ring → map (origin_at (map origin listed)) ring ≡ map origin (chain_of listed ring)
  origins_are [] within = refl
  origins_are (n ∷ ns) within =
      ap (λ (o : SumEdge). o ∷ map (origin_at (map origin listed)) ns) (get_or-map origin listed n none (edge.Fact 0) within.0)
      ∙ ap (λ (os : List SumEdge). (stated_at listed n).origin ∷ os) (origins_are ns within.1)

  chain_right : (ring : List ℕ) → AllByRecursion (λ n. n < length listed) ring → AllByRecursion (IsRight frame literals cells) (chain_of listed ring)
  chain_right [] within = tt
  chain_right (n ∷ ns) within = (at_right n within.0, chain_right ns within.1)

  all_right : AllByRecursion (IsRight frame literals cells) listed
  all_right = recursion_from_All (IsRight frame literals cells) listed (λ k d h. right (slice_index_or listed k d) (Contains-get_or listed k d h))

  pub ring_right : (vars : ℕ) (leaf : Step) → all_fit frame literals ≡ true → has_ranges frame ≡ true → vars ≤ 32769 → IsRingLeaf vars cells listed leaf →
      is_right_leaf frame literals leaf ≡ true
  ring_right vars leaf all ranges few is =
      let size : length (map edge_in listed) ≡ length listed = length-map listed edge_in in
      let within : AllByRecursion (λ n. n < length listed) is.ring =
      subst (λ (k : ℕ). AllByRecursion (λ n. n < k) is.ring) size (recursion_from_All (λ n. n < length (map edge_in listed)) is.ring is.negative.numbers) in
      let same : sum_leaf frame literals (map origin listed) is.ring ≡ leaf =
      ap (λ (os : List SumEdge). step.Sum (cut frame literals (turned frame literals [] os))) (origins_are is.ring within)
      ∙ (ap step.Sum (leaf_is frame literals cells (chain_of listed is.ring) (chain_right is.ring within)) ∙ sym is.is) in
      subst (λ (l : Step). is_right_leaf frame literals l ≡ true) same
      (rings_make_leaves frame literals (variable_side cells) (map origin listed) (map edge_in listed) is.ring all ranges (system_is frame literals cells listed all_right)
      is.negative is.simple (let h = is.short in omega arith))
