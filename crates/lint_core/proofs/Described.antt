-- A part that is described is that part again, and its meaning is by the layer below.
use Rattle.std.proofs.Common.{◌≡◌, ◌∙◌, refl, sym, ap, ap₂, subst, List, [], ◌∷◌, map}
use Rattle.lint_core.specs.declared.condition.Cond.{Cond, ind-Cond, roll-Cond, fold-roll-Cond, map-Cond}
use Rattle.lint_core.specs.declared.condition.Cond.TheOpen.{Cond-F, Block-F}
use Rattle.lint_core.specs.declared.condition.Block.{Block, ind-Block, out-Block, roll-Block, fold-Block, fold-roll-Block, fold_out-Block, map-Block}
use Rattle.lint_core.specs.Parts.{With, described, cond_itself, block_itself}

module _ (A B : Type 0) (f : Cond-F (With Cond A) (With Block B) → A) (g : Block-F (With Cond A) (With Block B) → B) where
  abbrev cond_part : Cond-F (With Cond A) (With Block B) → With Cond A
  cond_part layer = record { itself = cond_itself A B layer; meaning = f layer }

  abbrev block_part : Block-F (With Cond A) (With Block B) → With Block B
  block_part layer = record { itself = block_itself A B layer; meaning = g layer }

  -- a block with its meaning
  abbrev pub block_described : Block → With Block B
  block_described = fold-Block (With Cond A) (With Block B) cond_part block_part

  -- the layer below, described
  abbrev pub layer_described : Cond-F Cond Block → Cond-F (With Cond A) (With Block B)
  layer_described layer = map-Cond Cond Block (With Cond A) (With Block B) (described A B f g) block_described layer

  abbrev pub block_layer_described : Block-F Cond Block → Block-F (With Cond A) (With Block B)
  block_layer_described layer = map-Block Cond Block (With Cond A) (With Block B) (described A B f g) block_described layer

  described_roll : (layer : Cond-F Cond Block) → described A B f g (roll-Cond layer) ≡ cond_part (layer_described layer)
  described_roll layer = fold-roll-Cond (With Cond A) (With Block B) cond_part block_part layer

  block_described_out : (block : Block) → block_described block ≡ block_part (block_layer_described (out-Block block))
  block_described_out block = fold_out-Block (With Cond A) (With Block B) cond_part block_part block

  abbrev Same : Cond → Type 0
  Same cond = (described A B f g cond).itself ≡ cond

  abbrev SameBlock : Block → Type 0
  SameBlock block = (block_described block).itself ≡ block

  abbrev SameCond : Type 0
  SameCond = (cond : Cond) × Same cond

  abbrev SameBlocks : Type 0
  SameBlocks = (block : Block) × SameBlock block

  abbrev same_part : Cond-F SameCond SameBlocks → Cond-F Cond Block
  same_part = map-Cond SameCond SameBlocks Cond Block (λ e. e.0) (λ e. e.0)

  parts_same : (parts : List SameCond) → map (λ (p : With Cond A). p.itself) (map (described A B f g) (map (λ (e : SameCond). e.0) parts)) ≡ map (λ (e : SameCond). e.0) parts
  parts_same [] = refl
  parts_same (part ∷ parts) = ap₂ (λ (x : Cond) (xs : List Cond). x ∷ xs) part.1 (parts_same parts)

  at_layer : (y : Cond-F SameCond SameBlocks) → cond_itself A B (layer_described (same_part y)) ≡ roll-Cond (same_part y)
  at_layer Cond-F.True = refl
  at_layer Cond-F.False = refl
  at_layer (Cond-F.And parts) = ap (λ (ps : List Cond). roll-Cond (Cond-F.And ps)) (parts_same parts)
  at_layer (Cond-F.Or parts) = ap (λ (ps : List Cond). roll-Cond (Cond-F.Or ps)) (parts_same parts)
  at_layer (Cond-F.Not part) = ap (λ (p : Cond). roll-Cond (Cond-F.Not p)) part.1
  at_layer (Cond-F.Compare op left right span) = refl
  at_layer (Cond-F.IsNull term negated span) = refl
  at_layer (Cond-F.Exists block span) = ap (λ (b : Block). roll-Cond (Cond-F.Exists b span)) block.1
  at_layer (Cond-F.In term block item negated span) = ap (λ (b : Block). roll-Cond (Cond-F.In term b item negated span)) block.1
  at_layer (Cond-F.Scalar op left block item span) = ap (λ (b : Block). roll-Cond (Cond-F.Scalar op left b item span)) block.1

  block_at_layer : (y : Block-F SameCond SameBlocks) →
      block_itself A B (block_layer_described (map-Block SameCond SameBlocks Cond Block (λ e. e.0) (λ e. e.0) y)) ≡ roll-Block (map-Block SameCond SameBlocks Cond Block (λ e. e.0) (λ e. e.0) y)
  block_at_layer y = ap (λ (cond : Cond). roll-Block (record { entries = y.entries; cond = cond; span = y.span })) y.cond.1

  -- a part with its meaning has the part
  pub itself_is : (cond : Cond) → Same cond
  itself_is =
      ind-Cond Same SameBlock
      (λ x y is. subst (λ z. Same (roll-Cond z)) is (ap (λ (d : With Cond A). d.itself) (described_roll (same_part y)) ∙ at_layer y))
      (λ x y is.
      subst (λ z. SameBlock (roll-Block z)) is
      (ap (λ (d : With Block B). d.itself) (fold-roll-Block (With Cond A) (With Block B) cond_part block_part (map-Block SameCond SameBlocks Cond Block (λ e. e.0) (λ e. e.0) y)) ∙ block_at_layer y))

  pub block_itself_is : (block : Block) → SameBlock block
  block_itself_is =
      ind-Block Same SameBlock
      (λ x y is. subst (λ z. Same (roll-Cond z)) is (ap (λ (d : With Cond A). d.itself) (described_roll (same_part y)) ∙ at_layer y))
      (λ x y is.
      subst (λ z. SameBlock (roll-Block z)) is
      (ap (λ (d : With Block B). d.itself) (fold-roll-Block (With Cond A) (With Block B) cond_part block_part (map-Block SameCond SameBlocks Cond Block (λ e. e.0) (λ e. e.0) y)) ∙ block_at_layer y))

  -- the meaning of a condition, by its outermost layer
  pub meaning_out : (cond : Cond) (layer : Cond-F Cond Block) → roll-Cond layer ≡ cond → (described A B f g cond).meaning ≡ f (layer_described layer)
  meaning_out cond layer is = ap (λ c. (described A B f g c).meaning) (sym is) ∙ ap (λ (d : With Cond A). d.meaning) (described_roll layer)

  pub block_meaning_is : (block : Block) → (block_described block).meaning ≡ g (block_layer_described (out-Block block))
  block_meaning_is block = ap (λ (d : With Block B). d.meaning) (block_described_out block)

  -- the layer below, put together again
  pub layer_itself : (cond : Cond) (layer : Cond-F Cond Block) → roll-Cond layer ≡ cond → cond_itself A B (layer_described layer) ≡ cond
  layer_itself cond layer is = sym (ap (λ (d : With Cond A). d.itself) (described_roll layer)) ∙ (itself_is (roll-Cond layer) ∙ is)

  pub parts_itself : (parts : List Cond) → map (λ (p : With Cond A). p.itself) (map (described A B f g) parts) ≡ parts
  parts_itself [] = refl
  parts_itself (part ∷ parts) = ap₂ (λ (x : Cond) (xs : List Cond). x ∷ xs) (itself_is part) (parts_itself parts)
