-- The scalar subqueries, the NOT IN subqueries that select a column and the predicates of a condition are as many as
-- they are counted layer by layer.
use Rattle.std.proofs.Common.{◌≡◌, ◌∙◌, refl, sym, ap, ap₂, subst, add-one, ℕ, suc, ◌+◌, Bool, true, false, ◌&&◌, List, [], ◌∷◌, ◌++◌, length, map}
use Rattle.std.proofs.lemmas.List.{length-append}
use Rattle.std.proofs.lemmas.List.Sums.{sum_by-cons}
use Rattle.std.specs.Prelude.{sum, if◌then◌else◌}
use Rattle.lint_core.specs.declared.condition.Cond.{Cond, ind-Cond, roll-Cond, fold-Cond, fold-roll-Cond, map-Cond}
use Rattle.lint_core.specs.declared.condition.Cond.TheVariants as cond
use Rattle.lint_core.specs.declared.condition.Cond.TheOpen.{Cond-F, Block-F}
use Rattle.lint_core.specs.declared.condition.Block.{Block, roll-Block, fold-Block, fold-roll-Block, map-Block}
use Rattle.lint_core.specs.inner.Counts.{scalars_step, count_scalars, not_ins_step, count_not_ins, predicates_step, count_predicates}
use Rattle.lint_core.specs.Fits.{tables_of}
use Rattle.lint_core.specs.Parts.{With, described, cond_itself, block_itself}
use Rattle.lint_core.specs.Predicates.{Replaceable, predicates}
use Rattle.lint_core.specs.Predicates as predicates
use Rattle.lint_core.specs.Subqueries.{Listing, is_column, in_parts, block_step, scalar_step, not_in_step, scalar_subqueries, not_in_subqueries}

-- ---- a relation between what a condition is described by and its count holds where each layer keeps it

module _ (A B : Type 0) (f : Cond-F (With Cond A) (With Block B) → A) (g : Block-F (With Cond A) (With Block B) → B)
    (count : Cond-F ℕ ℕ → ℕ) (R : A → ℕ → Type 0) (S : B → ℕ → Type 0) where
  abbrev cond_part : Cond-F (With Cond A) (With Block B) → With Cond A
  cond_part layer = record { itself = cond_itself A B layer; meaning = f layer }

  abbrev block_part : Block-F (With Cond A) (With Block B) → With Block B
  block_part layer = record { itself = block_itself A B layer; meaning = g layer }

  abbrev part_of : Cond → With Cond A
  part_of = described A B f g

  abbrev block_of : Block → With Block B
  block_of = fold-Block (With Cond A) (With Block B) cond_part block_part

  abbrev counted : Cond → ℕ
  counted = fold-Cond ℕ ℕ count (λ block. block.cond)

  abbrev counted_block : Block → ℕ
  counted_block = fold-Block ℕ ℕ count (λ block. block.cond)

  abbrev IsCounted : Cond → Type 0
  IsCounted cond = R (part_of cond).meaning (counted cond)

  abbrev IsCountedBlock : Block → Type 0
  IsCountedBlock block = S (block_of block).meaning (counted_block block)

  abbrev Counted : Type 0
  Counted = (cond : Cond) × IsCounted cond

  abbrev CountedBlock : Type 0
  CountedBlock = (block : Block) × IsCountedBlock block

  abbrev layer_of : Cond-F Counted CountedBlock → Cond-F Cond Block
  layer_of = map-Cond Counted CountedBlock Cond Block (λ e. e.0) (λ e. e.0)

  abbrev block_layer_of : Block-F Counted CountedBlock → Block-F Cond Block
  block_layer_of = map-Block Counted CountedBlock Cond Block (λ e. e.0) (λ e. e.0)

  abbrev described_layer : Cond-F Cond Block → Cond-F (With Cond A) (With Block B)
  described_layer = map-Cond Cond Block (With Cond A) (With Block B) part_of block_of

  abbrev described_block : Block-F Cond Block → Block-F (With Cond A) (With Block B)
  described_block = map-Block Cond Block (With Cond A) (With Block B) part_of block_of

  abbrev counted_layer : Cond-F Cond Block → Cond-F ℕ ℕ
  counted_layer = map-Cond Cond Block ℕ ℕ counted counted_block

  module _ (at_cond : (y : Cond-F Counted CountedBlock) → R (f (described_layer (layer_of y))) (count (counted_layer (layer_of y))))
      (at_block : (y : Block-F Counted CountedBlock) → S (g (described_block (block_layer_of y))) (counted (block_layer_of y).cond)) where
    rolled : (y : Cond-F Counted CountedBlock) → IsCounted (roll-Cond (layer_of y))
    rolled y =
        let x = layer_of y in
        subst (λ (part : With Cond A). R part.meaning (counted (roll-Cond x))) (sym (fold-roll-Cond (With Cond A) (With Block B) cond_part block_part x))
        (subst (λ n. R (f (described_layer x)) n) (sym (fold-roll-Cond ℕ ℕ count (λ block. block.cond) x)) (at_cond y))

    rolled_block : (y : Block-F Counted CountedBlock) → IsCountedBlock (roll-Block (block_layer_of y))
    rolled_block y =
        let x = block_layer_of y in
        subst (λ (part : With Block B). S part.meaning (counted_block (roll-Block x))) (sym (fold-roll-Block (With Cond A) (With Block B) cond_part block_part x))
        (subst (λ n. S (g (described_block x)) n) (sym (fold-roll-Block ℕ ℕ count (λ block. block.cond) x)) (at_block y))

    all_counted : (cond : Cond) → IsCounted cond
    all_counted =
        ind-Cond IsCounted IsCountedBlock
        (λ x y is. subst (λ z. IsCounted (roll-Cond z)) is (rolled y))
        (λ x y is. subst (λ z. IsCountedBlock (roll-Block z)) is (rolled_block y))

-- ---- lists of subqueries

-- at each tables of the levels outside there are so many
abbrev AreAsMany : Listing → ℕ → Type 0
AreAsMany listed n = (tables : List (List ℕ)) → length (listed tables) ≡ n

module _ (step : Cond-F (With Cond Listing) (With Block Listing) → Listing) (count : Cond-F ℕ ℕ → ℕ) where
  abbrev Listed : Type 0
  Listed = Counted Listing Listing step block_step count AreAsMany AreAsMany

  abbrev ListedBlock : Type 0
  ListedBlock = CountedBlock Listing Listing step block_step count AreAsMany AreAsMany

  abbrev listing_of : Cond → With Cond Listing
  listing_of = described Listing Listing step block_step

  abbrev count_of : Cond → ℕ
  count_of = counted Listing Listing step block_step count AreAsMany AreAsMany

  -- the parts of a conjunction, or of a disjunction, have as many together as they have each
  parts_listed : (parts : List Listed) (tables : List (List ℕ)) →
      length (in_parts (map listing_of (map (λ (e : Listed). e.0) parts)) tables) ≡ sum (map count_of (map (λ (e : Listed). e.0) parts))
  parts_listed [] tables = refl
  parts_listed (part ∷ parts) tables =
      length-append ((listing_of part.0).meaning tables) (in_parts (map listing_of (map (λ (e : Listed). e.0) parts)) tables)
      ∙ (ap₂ (λ m n. m + n) (part.1 tables) (parts_listed parts tables) ∙ sym (sum_by-cons (λ n. n) (count_of part.0) (map count_of (map (λ (e : Listed). e.0) parts))))

  block_listed : (y : Block-F Listed ListedBlock) →
      AreAsMany (block_step (described_block Listing Listing step block_step count AreAsMany AreAsMany (block_layer_of Listing Listing step block_step count AreAsMany AreAsMany y)))
      (count_of (block_layer_of Listing Listing step block_step count AreAsMany AreAsMany y).cond)
  block_listed y tables = y.cond.1 (tables ++ tables_of y.entries ∷ [])

scalar_layer : (y : Cond-F (Listed scalar_step scalars_step) (ListedBlock scalar_step scalars_step)) →
    AreAsMany (scalar_step (described_layer Listing Listing scalar_step block_step scalars_step AreAsMany AreAsMany (layer_of Listing Listing scalar_step block_step scalars_step AreAsMany AreAsMany y)))
    (scalars_step (counted_layer Listing Listing scalar_step block_step scalars_step AreAsMany AreAsMany (layer_of Listing Listing scalar_step block_step scalars_step AreAsMany AreAsMany y)))
scalar_layer Cond-F.True tables = refl
scalar_layer Cond-F.False tables = refl
scalar_layer (Cond-F.And parts) tables = parts_listed scalar_step scalars_step parts tables
scalar_layer (Cond-F.Or parts) tables = parts_listed scalar_step scalars_step parts tables
scalar_layer (Cond-F.Not part) tables = part.1 tables
scalar_layer (Cond-F.Compare op left right span) tables = refl
scalar_layer (Cond-F.IsNull t negated span) tables = refl
scalar_layer (Cond-F.Exists block span) tables = block.1 tables
scalar_layer (Cond-F.In t block item negated span) tables = block.1 tables
scalar_layer (Cond-F.Scalar op left block item span) tables = length-append _ _ ∙ ap (λ n. n + 1) (block.1 tables)

-- the number of scalar subqueries does not depend on the tables
pub scalars_counted : (cond : Cond) (tables : List (List ℕ)) → length (scalar_subqueries cond tables) ≡ count_scalars cond
scalars_counted = all_counted Listing Listing scalar_step block_step scalars_step AreAsMany AreAsMany scalar_layer (block_listed scalar_step scalars_step)

one_or_none : {A : Type 0} (b : Bool) (x : A) → length (if b then x ∷ [] else []) ≡ (if b then 1 else 0)
one_or_none true x = refl
one_or_none false x = refl

not_in_layer : (y : Cond-F (Listed not_in_step not_ins_step) (ListedBlock not_in_step not_ins_step)) →
    AreAsMany (not_in_step (described_layer Listing Listing not_in_step block_step not_ins_step AreAsMany AreAsMany (layer_of Listing Listing not_in_step block_step not_ins_step AreAsMany AreAsMany y)))
    (not_ins_step (counted_layer Listing Listing not_in_step block_step not_ins_step AreAsMany AreAsMany (layer_of Listing Listing not_in_step block_step not_ins_step AreAsMany AreAsMany y)))
not_in_layer Cond-F.True tables = refl
not_in_layer Cond-F.False tables = refl
not_in_layer (Cond-F.And parts) tables = parts_listed not_in_step not_ins_step parts tables
not_in_layer (Cond-F.Or parts) tables = parts_listed not_in_step not_ins_step parts tables
not_in_layer (Cond-F.Not part) tables = part.1 tables
not_in_layer (Cond-F.Compare op left right span) tables = refl
not_in_layer (Cond-F.IsNull t negated span) tables = refl
not_in_layer (Cond-F.Exists block span) tables = block.1 tables
not_in_layer (Cond-F.In t block item negated span) tables = length-append _ _ ∙ ap₂ (λ m n. m + n) (one_or_none (negated && is_column item) _) (block.1 tables)
not_in_layer (Cond-F.Scalar op left block item span) tables = block.1 tables

pub not_ins_counted : (cond : Cond) (tables : List (List ℕ)) → length (not_in_subqueries cond tables) ≡ count_not_ins cond
not_ins_counted = all_counted Listing Listing not_in_step block_step not_ins_step AreAsMany AreAsMany not_in_layer (block_listed not_in_step not_ins_step)

-- ---- predicates

abbrev HasPlaces : (T : Type 0) → Replaceable T → ℕ → Type 0
HasPlaces T meaning n = length meaning.places ≡ n

-- what the predicates would be replaced by does not matter here
abbrev places_step : Cond-F (With Cond (Replaceable Cond)) (With Block (Replaceable Block)) → Replaceable Cond
places_step = predicates.predicates_step cond.True

abbrev places_block : Block-F (With Cond (Replaceable Cond)) (With Block (Replaceable Block)) → Replaceable Block
places_block = predicates.block_step cond.True

abbrev Placed : Type 0
Placed = Counted (Replaceable Cond) (Replaceable Block) places_step places_block predicates_step (HasPlaces Cond) (HasPlaces Block)

abbrev PlacedBlock : Type 0
PlacedBlock = CountedBlock (Replaceable Cond) (Replaceable Block) places_step places_block predicates_step (HasPlaces Cond) (HasPlaces Block)

parts_placed : (parts : List Placed) →
    length (predicates.places_in (map (described (Replaceable Cond) (Replaceable Block) places_step places_block) (map (λ (e : Placed). e.0) parts)))
    ≡ sum (map count_predicates (map (λ (e : Placed). e.0) parts))
parts_placed [] = refl
parts_placed (part ∷ parts) =
    length-append (predicates part.0) (predicates.places_in (map (described (Replaceable Cond) (Replaceable Block) places_step places_block) (map (λ (e : Placed). e.0) parts)))
    ∙ (ap₂ (λ m n. m + n) part.1 (parts_placed parts) ∙ sym (sum_by-cons (λ n. n) (count_predicates part.0) (map count_predicates (map (λ (e : Placed). e.0) parts))))

placed_layer : (y : Cond-F Placed PlacedBlock) →
    HasPlaces Cond (places_step (described_layer (Replaceable Cond) (Replaceable Block) places_step places_block predicates_step (HasPlaces Cond) (HasPlaces Block) (layer_of (Replaceable Cond) (Replaceable Block) places_step places_block predicates_step (HasPlaces Cond) (HasPlaces Block) y)))
    (predicates_step (counted_layer (Replaceable Cond) (Replaceable Block) places_step places_block predicates_step (HasPlaces Cond) (HasPlaces Block) (layer_of (Replaceable Cond) (Replaceable Block) places_step places_block predicates_step (HasPlaces Cond) (HasPlaces Block) y)))
placed_layer Cond-F.True = refl
placed_layer Cond-F.False = refl
placed_layer (Cond-F.And parts) = parts_placed parts
placed_layer (Cond-F.Or parts) = parts_placed parts
placed_layer (Cond-F.Not part) = part.1
placed_layer (Cond-F.Compare op left right span) = refl
placed_layer (Cond-F.IsNull t negated span) = refl
placed_layer (Cond-F.Exists block span) = ap suc block.1 ∙ sym (add-one _)
placed_layer (Cond-F.In t block item negated span) = ap suc block.1 ∙ sym (add-one _)
placed_layer (Cond-F.Scalar op left block item span) = refl

pub predicates_counted : (cond : Cond) → length (predicates cond) ≡ count_predicates cond
predicates_counted =
    all_counted (Replaceable Cond) (Replaceable Block) places_step places_block predicates_step (HasPlaces Cond) (HasPlaces Block)
    placed_layer (λ y. y.cond.1)
