-- The predicates of a condition (ISO/IEC 9075:1992, 8.1): its comparisons, IS NULL, IN with a subquery, EXISTS, and
-- comparisons with a scalar subquery, also those in the subqueries of EXISTS and IN at any depth; what stands
-- inside a scalar subquery is none. (BETWEEN and IN with a list are comparisons here; a NOT before a predicate
-- stands outside it.) They are numbered from 0 in the order of the text, and one that has a subquery stands
-- before those inside it. Where no predicate has a number, replacing it changes nothing.
use Rattle.std.specs.Prelude.{ℕ, zero, suc, ◌-◌, List, [], ◌∷◌, length, map, nat_lt, if◌then◌else◌}
use Rattle.std.specs.List.{flat_map}
use Rattle.lint_base.specs.declared.place.Span.{Span}
use Rattle.lint_core.specs.declared.condition.Cond.{Cond}
use Rattle.lint_core.specs.declared.condition.Cond.TheOpen.{Cond-F, Block-F}
use Rattle.lint_core.specs.declared.condition.Cond.TheVariants as cond
use Rattle.lint_core.specs.declared.condition.Block.{Block, roll-Block}
use Rattle.lint_core.specs.Parts.{With, described, cond_itself}

-- the places of the predicates in the text, in order, and the condition with the predicate of a number replaced
pub record Replaceable (T : Type 0) : Type 0 where
  pub places : List Span
  pub replaced : ℕ → T

abbrev pub CondPart : Type 0
CondPart = With Cond (Replaceable Cond)

abbrev pub BlockPart : Type 0
BlockPart = With Block (Replaceable Block)

-- the first is this one, and those after it are of the subquery
abbrev pub first_or : {A : Type 0} → A → (ℕ → A) → ℕ → A
first_or first inside zero = first
first_or first inside (suc n) = inside n

-- the predicate of this number among those of the parts is replaced in its part
abbrev pub replaced_in : List CondPart → ℕ → List Cond
replaced_in [] n = []
replaced_in (part ∷ parts) n =
    if nat_lt n (length part.meaning.places)
    then part.meaning.replaced n ∷ map (λ (p : CondPart). p.itself) parts
    else part.itself ∷ replaced_in parts (n - length part.meaning.places)

abbrev pub places_in : List CondPart → List Span
places_in parts = flat_map (λ (part : CondPart). part.meaning.places) parts

-- what a predicate is replaced by
module _ (by : Cond) where
  -- one without predicates of its own inside
  abbrev pub alone : Span → Cond-F CondPart BlockPart → Replaceable Cond
  alone place layer = record { places = place ∷ []; replaced = first_or by (λ n. cond_itself (Replaceable Cond) (Replaceable Block) layer) }

  -- one with those of its subquery inside
  abbrev pub around : Span → BlockPart → (Block → Cond) → Replaceable Cond
  around place block outside = record { places = place ∷ block.meaning.places; replaced = first_or by (λ n. outside (block.meaning.replaced n)) }

  abbrev pub predicates_step : Cond-F CondPart BlockPart → Replaceable Cond
  predicates_step Cond-F.True = record { places = []; replaced = λ n. cond.True }
  predicates_step Cond-F.False = record { places = []; replaced = λ n. cond.False }
  predicates_step (Cond-F.And parts) = record { places = places_in parts; replaced = λ n. cond.And (replaced_in parts n) }
  predicates_step (Cond-F.Or parts) = record { places = places_in parts; replaced = λ n. cond.Or (replaced_in parts n) }
  predicates_step (Cond-F.Not part) = record { places = part.meaning.places; replaced = λ n. cond.Not (part.meaning.replaced n) }
  predicates_step (Cond-F.Compare op left right span) = alone span (Cond-F.Compare op left right span)
  predicates_step (Cond-F.IsNull term negated span) = alone span (Cond-F.IsNull term negated span)
  predicates_step (Cond-F.Exists block span) = around span block (λ b. cond.Exists b span)
  predicates_step (Cond-F.In term block item negated span) = around span block (λ b. cond.In term b item negated span)
  predicates_step (Cond-F.Scalar op left block item span) = alone span (Cond-F.Scalar op left block item span)

  abbrev pub block_step : Block-F CondPart BlockPart → Replaceable Block
  block_step block = record {
    places = block.cond.meaning.places;
    replaced = λ n. roll-Block (record { entries = block.entries; cond = block.cond.meaning.replaced n; span = block.span });
  }

  -- the condition with the predicate of this number replaced
  abbrev pub with_replaced : ℕ → Cond → Cond
  with_replaced n c = (described (Replaceable Cond) (Replaceable Block) predicates_step block_step c).meaning.replaced n

-- the places of the predicates of a condition
abbrev pub predicates : Cond → List Span
predicates c = (described (Replaceable Cond) (Replaceable Block) (predicates_step cond.True) (block_step cond.True) c).meaning.places
