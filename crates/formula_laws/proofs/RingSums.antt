-- The bounds of a ring that all hold do not add up to less than nothing.
use Rattle.std.proofs.Common.{◌≡◌, ap, ℤ, pos, ◌-ℤ◌, ◌≤ℤ◌, true, List, [], ◌∷◌, arith}
use Rattle.std.proofs.lemmas.Int.{ints}
use Rattle.std.proofs.lemmas.Bool.{and_parts}
use Rattle.std.specs.Prelude.{int_lt}
use Rattle.std.specs.List.{AllByRecursion}
use Rattle.lint_core.specs.Domain.{int_le}
use Rattle.sort_formula.specs.declared.formula.Side.{Side}
use Rattle.sort_formula.specs.Facts.{is_same_side}
use Rattle.sort_formula.specs.Rings.{Bound, is_chain, is_ring, sum_of}
use Rattle.formula_laws.proofs.Linked.{same_side}

pub int_le_true : (a b : ℤ) → int_le a b ≡ true → a ≤ℤ b
int_le_true a b h = grind (arith, ints)

int_lt_clash : (a : ℤ) → pos 0 ≤ℤ a → int_lt a (pos 0) ≡ true → ⊥
int_lt_clash a low h = grind (arith, ints)

module _ (reading : Side → ℤ) where
  -- the inequality holds of the numbers that are read
  abbrev pub Bounds : Bound → Type 0
  Bounds b = (reading b.left -ℤ reading b.right) ≤ℤ b.most

  chain_sum : (from : Side) (bs : List Bound) (to : Side) → is_chain from bs to ≡ true → AllByRecursion Bounds bs →
      (reading from -ℤ reading to) ≤ℤ sum_of bs
  chain_sum from [] to chain all =
      let same : reading from ≡ reading to = ap reading (same_side from to chain) in omega (arith, ints)
  chain_sum from (b ∷ bs) to chain all =
      let parts = and_parts (is_same_side from b.left) (is_chain b.right bs to) chain in
      let same : reading from ≡ reading b.left = ap reading (same_side from b.left parts.0) in
      let rest : (reading b.right -ℤ reading to) ≤ℤ sum_of bs = chain_sum b.right bs to parts.1 all.1 in
      let first : (reading b.left -ℤ reading b.right) ≤ℤ b.most = all.0 in
      omega (arith, ints)

  pub ring_sum : (bs : List Bound) → is_ring bs ≡ true → AllByRecursion Bounds bs → int_lt (sum_of bs) (pos 0) ≡ true → ⊥
  ring_sum [] ring all negative = cc
  ring_sum (b ∷ bs) ring all negative =
      let sum : (reading b.left -ℤ reading b.left) ≤ℤ sum_of (b ∷ bs) = chain_sum b.left (b ∷ bs) b.left ring all in
      int_lt_clash (sum_of (b ∷ bs)) (omega (arith, ints)) negative
