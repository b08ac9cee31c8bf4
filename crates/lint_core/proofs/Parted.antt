-- What each kind of condition is by its parts: its conjuncts, its predicates, the condition with one replaced, and
-- its subqueries.
use Rattle.std.proofs.Common.{◌≡◌, ◌∙◌, refl, sym, ap, ap₂, subst, ℕ, zero, suc, ◌+◌, ◌-◌, ◌≤◌, Bool, ◌&&◌, List, [], ◌∷◌, ◌++◌, length, map, nat_lt, if◌then◌else◌, arith, length-append}
use Rattle.std.proofs.lemmas.Bool.Decides.{nat_tests}
use Rattle.std.proofs.lemmas.List.Folds.{flat_map-map}
use Rattle.std.specs.List.{flat_map}
use Rattle.lint_base.specs.declared.place.Span.{Span}
use Rattle.lint_tables.specs.declared.op.Op.{Op}
use Rattle.lint_core.specs.declared.condition.Term.{Term}
use Rattle.lint_core.specs.declared.condition.Cond.{Cond, ind-Cond, out-Cond, roll-Cond, roll-out-Cond, map-Cond}
use Rattle.lint_core.specs.declared.condition.Cond.TheVariants as c
use Rattle.lint_core.specs.declared.condition.Cond.TheOpen.{Cond-F, Block-F}
use Rattle.lint_core.specs.declared.condition.Block.{Block, out-Block, roll-Block, roll-out-Block, map-Block}
use Rattle.lint_core.specs.Parts.{With, described, cond_itself}
use Rattle.lint_core.specs.Fits.{tables_of}
use Rattle.lint_core.specs.Conjuncts.{conjuncts_step, conjuncts}
use Rattle.lint_core.specs.Predicates.{Replaceable, CondPart, BlockPart, first_or, places_in, replaced_in, predicates_step, block_step, predicates, with_replaced}
use Rattle.lint_core.specs.Subqueries.{Subquery, Listing, subquery, is_column, scalar_step, not_in_step, scalar_subqueries, not_in_subqueries}
use Rattle.lint_core.specs.Subqueries as sub
use Rattle.lint_core.proofs.Described.{itself_is, block_itself_is, meaning_out, block_meaning_is, block_described, layer_described, layer_itself, parts_itself}

abbrev Conds : Type 0
Conds = List Cond

abbrev no_conds : Block-F (With Cond Conds) (With Block Conds) → Conds
no_conds block = []

conjuncts_out : (cond : Cond) (layer : Cond-F Cond Block) → roll-Cond layer ≡ cond → conjuncts cond ≡ conjuncts_step (layer_described Conds Conds conjuncts_step no_conds layer)
conjuncts_out cond layer is = meaning_out Conds Conds conjuncts_step no_conds cond layer is

alone_out : (cond : Cond) (layer : Cond-F Cond Block) → roll-Cond layer ≡ cond → cond_itself Conds Conds (layer_described Conds Conds conjuncts_step no_conds layer) ∷ [] ≡ cond ∷ []
alone_out cond layer is = ap (λ (x : Cond). x ∷ []) (layer_itself Conds Conds conjuncts_step no_conds cond layer is)

pub conjuncts_and : (parts : List Cond) → conjuncts (c.And parts) ≡ flat_map conjuncts parts
conjuncts_and parts =
    conjuncts_out (c.And parts) (Cond-F.And parts) (c.rolls-And parts)
    ∙ flat_map-map (λ (part : With Cond Conds). part.meaning) (described Conds Conds conjuncts_step no_conds) parts

pub conjuncts_true : conjuncts c.True ≡ c.True ∷ []
conjuncts_true = conjuncts_out c.True Cond-F.True c.rolls-True ∙ alone_out c.True Cond-F.True c.rolls-True

pub conjuncts_false : conjuncts c.False ≡ c.False ∷ []
conjuncts_false = conjuncts_out c.False Cond-F.False c.rolls-False ∙ alone_out c.False Cond-F.False c.rolls-False

pub conjuncts_or : (parts : List Cond) → conjuncts (c.Or parts) ≡ c.Or parts ∷ []
conjuncts_or parts = conjuncts_out (c.Or parts) (Cond-F.Or parts) (c.rolls-Or parts) ∙ alone_out (c.Or parts) (Cond-F.Or parts) (c.rolls-Or parts)

pub conjuncts_not : (part : Cond) → conjuncts (c.Not part) ≡ c.Not part ∷ []
conjuncts_not part = conjuncts_out (c.Not part) (Cond-F.Not part) (c.rolls-Not part) ∙ alone_out (c.Not part) (Cond-F.Not part) (c.rolls-Not part)

pub conjuncts_compare : (op : Op) (left right : Term) (span : Span) → conjuncts (c.Compare op left right span) ≡ c.Compare op left right span ∷ []
conjuncts_compare op left right span = conjuncts_out (c.Compare op left right span) (Cond-F.Compare op left right span) (c.rolls-Compare op left right span) ∙ alone_out (c.Compare op left right span) (Cond-F.Compare op left right span) (c.rolls-Compare op left right span)

pub conjuncts_is_null : (term : Term) (negated : Bool) (span : Span) → conjuncts (c.IsNull term negated span) ≡ c.IsNull term negated span ∷ []
conjuncts_is_null term negated span = conjuncts_out (c.IsNull term negated span) (Cond-F.IsNull term negated span) (c.rolls-IsNull term negated span) ∙ alone_out (c.IsNull term negated span) (Cond-F.IsNull term negated span) (c.rolls-IsNull term negated span)

pub conjuncts_exists : (block : Block) (span : Span) → conjuncts (c.Exists block span) ≡ c.Exists block span ∷ []
conjuncts_exists block span = conjuncts_out (c.Exists block span) (Cond-F.Exists block span) (c.rolls-Exists block span) ∙ alone_out (c.Exists block span) (Cond-F.Exists block span) (c.rolls-Exists block span)

pub conjuncts_in : (term : Term) (block : Block) (item : Term) (negated : Bool) (span : Span) → conjuncts (c.In term block item negated span) ≡ c.In term block item negated span ∷ []
conjuncts_in term block item negated span = conjuncts_out (c.In term block item negated span) (Cond-F.In term block item negated span) (c.rolls-In term block item negated span) ∙ alone_out (c.In term block item negated span) (Cond-F.In term block item negated span) (c.rolls-In term block item negated span)

pub conjuncts_scalar : (op : Op) (left : Term) (block : Block) (item : Term) (span : Span) → conjuncts (c.Scalar op left block item span) ≡ c.Scalar op left block item span ∷ []
conjuncts_scalar op left block item span = conjuncts_out (c.Scalar op left block item span) (Cond-F.Scalar op left block item span) (c.rolls-Scalar op left block item span) ∙ alone_out (c.Scalar op left block item span) (Cond-F.Scalar op left block item span) (c.rolls-Scalar op left block item span)

other_out : (layer : Cond-F Cond Block) → ((parts : List Cond) → roll-Cond layer ≡ c.And parts → ⊥) → conjuncts (roll-Cond layer) ≡ roll-Cond layer ∷ []
other_out (Cond-F.And parts) differs = absurd (differs parts (c.rolls-And parts))
other_out layer differs = conjuncts_out (roll-Cond layer) layer refl ∙ alone_out (roll-Cond layer) layer refl

pub conjuncts_other : (cond : Cond) → ((parts : List Cond) → cond ≡ c.And parts → ⊥) → conjuncts cond ≡ cond ∷ []
conjuncts_other cond differs =
    let made = roll-out-Cond cond in
    subst (λ z. conjuncts z ≡ z ∷ []) made (other_out (out-Cond cond) (λ parts is. differs parts (sym made ∙ is)))

-- predicates, and the condition with one replaced
abbrev CondWith : Type 0
CondWith = Replaceable Cond

abbrev BlockWith : Type 0
BlockWith = Replaceable Block

module _ (by : Cond) where
  abbrev pub of_cond : Cond → CondPart
  of_cond = described CondWith BlockWith (predicates_step by) (block_step by)

  abbrev pub of_block : Block → BlockPart
  of_block = block_described CondWith BlockWith (predicates_step by) (block_step by)

  abbrev of_layer : Cond-F Cond Block → Cond-F CondPart BlockPart
  of_layer = layer_described CondWith BlockWith (predicates_step by) (block_step by)

  replaceable_out : (cond : Cond) (layer : Cond-F Cond Block) → roll-Cond layer ≡ cond → (of_cond cond).meaning ≡ predicates_step by (of_layer layer)
  replaceable_out cond layer is = meaning_out CondWith BlockWith (predicates_step by) (block_step by) cond layer is

  places_out : (cond : Cond) (layer : Cond-F Cond Block) → roll-Cond layer ≡ cond → (of_cond cond).meaning.places ≡ (predicates_step by (of_layer layer)).places
  places_out cond layer is = ap (λ (m : CondWith). m.places) (replaceable_out cond layer is)

  replaced_out : (n : ℕ) (cond : Cond) (layer : Cond-F Cond Block) → roll-Cond layer ≡ cond → with_replaced by n cond ≡ (predicates_step by (of_layer layer)).replaced n
  replaced_out n cond layer is = ap (λ (m : CondWith). m.replaced n) (replaceable_out cond layer is)

  block_places : (block : Block) → (of_block block).meaning.places ≡ (of_cond (out-Block block).cond).meaning.places
  block_places block = ap (λ (m : BlockWith). m.places) (block_meaning_is CondWith BlockWith (predicates_step by) (block_step by) block)

abbrev first_places : Block → List Span
first_places block = (of_block c.True block).meaning.places

places_first : (block : Block) → first_places block ≡ predicates (out-Block block).cond
places_first block = block_places c.True block

predicates_out : (cond : Cond) (layer : Cond-F Cond Block) → roll-Cond layer ≡ cond → predicates cond ≡ (predicates_step c.True (of_layer c.True layer)).places
predicates_out cond layer is = places_out c.True cond layer is

pub predicates_true : predicates c.True ≡ []
predicates_true = predicates_out c.True Cond-F.True c.rolls-True

pub predicates_false : predicates c.False ≡ []
predicates_false = predicates_out c.False Cond-F.False c.rolls-False

pub predicates_and : (parts : List Cond) → predicates (c.And parts) ≡ flat_map predicates parts
predicates_and parts = predicates_out (c.And parts) (Cond-F.And parts) (c.rolls-And parts) ∙ flat_map-map (λ (part : CondPart). part.meaning.places) (of_cond c.True) parts

pub predicates_or : (parts : List Cond) → predicates (c.Or parts) ≡ flat_map predicates parts
predicates_or parts = predicates_out (c.Or parts) (Cond-F.Or parts) (c.rolls-Or parts) ∙ flat_map-map (λ (part : CondPart). part.meaning.places) (of_cond c.True) parts

pub predicates_not : (part : Cond) → predicates (c.Not part) ≡ predicates part
predicates_not part = predicates_out (c.Not part) (Cond-F.Not part) (c.rolls-Not part)

pub predicates_compare : (op : Op) (left right : Term) (span : Span) → predicates (c.Compare op left right span) ≡ span ∷ []
predicates_compare op left right span = predicates_out (c.Compare op left right span) (Cond-F.Compare op left right span) (c.rolls-Compare op left right span)

pub predicates_is_null : (term : Term) (negated : Bool) (span : Span) → predicates (c.IsNull term negated span) ≡ span ∷ []
predicates_is_null term negated span = predicates_out (c.IsNull term negated span) (Cond-F.IsNull term negated span) (c.rolls-IsNull term negated span)

pub predicates_scalar : (op : Op) (left : Term) (block : Block) (item : Term) (span : Span) → predicates (c.Scalar op left block item span) ≡ span ∷ []
predicates_scalar op left block item span = predicates_out (c.Scalar op left block item span) (Cond-F.Scalar op left block item span) (c.rolls-Scalar op left block item span)

pub predicates_exists : (block : Block) (span : Span) → predicates (c.Exists block span) ≡ span ∷ predicates (out-Block block).cond
predicates_exists block span = predicates_out (c.Exists block span) (Cond-F.Exists block span) (c.rolls-Exists block span) ∙ ap (λ (ps : List Span). span ∷ ps) (places_first block)

pub predicates_in : (term : Term) (block : Block) (item : Term) (negated : Bool) (span : Span) → predicates (c.In term block item negated span) ≡ span ∷ predicates (out-Block block).cond
predicates_in term block item negated span = predicates_out (c.In term block item negated span) (Cond-F.In term block item negated span) (c.rolls-In term block item negated span) ∙ ap (λ (ps : List Span). span ∷ ps) (places_first block)

-- the places do not depend on what one is replaced by
module _ (by : Cond) where
  abbrev SamePlaces : Cond → Type 0
  SamePlaces cond = (of_cond by cond).meaning.places ≡ predicates cond

  abbrev SameInside : Block → Type 0
  SameInside block = (of_block by block).meaning.places ≡ first_places block

  abbrev PlacedCond : Type 0
  PlacedCond = (cond : Cond) × SamePlaces cond

  abbrev PlacedBlock : Type 0
  PlacedBlock = (block : Block) × SameInside block

  abbrev placed_part : Cond-F PlacedCond PlacedBlock → Cond-F Cond Block
  placed_part = map-Cond PlacedCond PlacedBlock Cond Block (λ e. e.0) (λ e. e.0)

  parts_placed : (parts : List PlacedCond) → places_in (map (of_cond by) (map (λ (e : PlacedCond). e.0) parts)) ≡ places_in (map (of_cond c.True) (map (λ (e : PlacedCond). e.0) parts))
  parts_placed [] = refl
  parts_placed (part ∷ parts) = ap₂ (λ (x y : List Span). x ++ y) part.1 (parts_placed parts)

  layer_placed : (y : Cond-F PlacedCond PlacedBlock) → (predicates_step by (of_layer by (placed_part y))).places ≡ (predicates_step c.True (of_layer c.True (placed_part y))).places
  layer_placed Cond-F.True = refl
  layer_placed Cond-F.False = refl
  layer_placed (Cond-F.And parts) = parts_placed parts
  layer_placed (Cond-F.Or parts) = parts_placed parts
  layer_placed (Cond-F.Not part) = part.1
  layer_placed (Cond-F.Compare op left right span) = refl
  layer_placed (Cond-F.IsNull term negated span) = refl
  layer_placed (Cond-F.Exists block span) = ap (λ (ps : List Span). span ∷ ps) block.1
  layer_placed (Cond-F.In term block item negated span) = ap (λ (ps : List Span). span ∷ ps) block.1
  layer_placed (Cond-F.Scalar op left block item span) = refl

  cond_placed : (y : Cond-F PlacedCond PlacedBlock) → SamePlaces (roll-Cond (placed_part y))
  cond_placed y =
      places_out by (roll-Cond (placed_part y)) (placed_part y) refl
      ∙ (layer_placed y ∙ sym (predicates_out (roll-Cond (placed_part y)) (placed_part y) refl))

  block_placed : (y : Block-F PlacedCond PlacedBlock) → SameInside (roll-Block (map-Block PlacedCond PlacedBlock Cond Block (λ e. e.0) (λ e. e.0) y))
  block_placed y =
      let block = roll-Block (map-Block PlacedCond PlacedBlock Cond Block (λ e. e.0) (λ e. e.0) y) in
      block_places by block ∙ (y.cond.1 ∙ sym (places_first block))

  pub places_are : (cond : Cond) → SamePlaces cond
  places_are =
      ind-Cond SamePlaces SameInside
      (λ x y is. subst (λ z. SamePlaces (roll-Cond z)) is (cond_placed y))
      (λ x y is. subst (λ z. SameInside (roll-Block z)) is (block_placed y))

  -- the predicate of this number among those of the parts is replaced in its part
  abbrev pub replaced_among : List Cond → ℕ → List Cond
  replaced_among [] n = []
  replaced_among (part ∷ parts) n =
      if nat_lt n (length (predicates part))
      then with_replaced by n part ∷ parts
      else part ∷ replaced_among parts (n - length (predicates part))

  among_parts : (parts : List Cond) (n : ℕ) → replaced_in (map (of_cond by) parts) n ≡ replaced_among parts n
  among_parts [] n = refl
  among_parts (part ∷ parts) n =
      let places = places_are part in
      let same = itself_is CondWith BlockWith (predicates_step by) (block_step by) part in
      let others = parts_itself CondWith BlockWith (predicates_step by) (block_step by) parts in
      let later = among_parts parts (n - length (predicates part)) in
      cc

  -- the block with the predicate of this number replaced in its condition
  abbrev pub block_replaced : ℕ → Block → Block
  block_replaced n block = roll-Block (record { entries = (out-Block block).entries; cond = with_replaced by n (out-Block block).cond; span = (out-Block block).span })

  block_replaced_is : (n : ℕ) (block : Block) → (of_block by block).meaning.replaced n ≡ block_replaced n block
  block_replaced_is n block = ap (λ (m : BlockWith). m.replaced n) (block_meaning_is CondWith BlockWith (predicates_step by) (block_step by) block)

  alone_replaced : (n : ℕ) (cond : Cond) (layer : Cond-F Cond Block) → roll-Cond layer ≡ cond →
      first_or by (λ m. cond_itself CondWith BlockWith (of_layer by layer)) n ≡ first_or by (λ m. cond) n
  alone_replaced n cond layer is = ap (λ (x : Cond). first_or by (λ m. x) n) (layer_itself CondWith BlockWith (predicates_step by) (block_step by) cond layer is)

  around_replaced : (n : ℕ) (outside : Block → Cond) (block : Block) → first_or by (λ m. outside ((of_block by block).meaning.replaced m)) n ≡ first_or by (λ m. outside (block_replaced m block)) n
  around_replaced zero outside block = refl
  around_replaced (suc n) outside block = ap outside (block_replaced_is n block)

  pub replaced_true : (n : ℕ) → with_replaced by n c.True ≡ c.True
  replaced_true n = replaced_out by n c.True Cond-F.True c.rolls-True

  pub replaced_false : (n : ℕ) → with_replaced by n c.False ≡ c.False
  replaced_false n = replaced_out by n c.False Cond-F.False c.rolls-False

  pub replaced_and : (n : ℕ) (parts : List Cond) → with_replaced by n (c.And parts) ≡ c.And (replaced_among parts n)
  replaced_and n parts = replaced_out by n (c.And parts) (Cond-F.And parts) (c.rolls-And parts) ∙ ap c.And (among_parts parts n)

  pub replaced_or : (n : ℕ) (parts : List Cond) → with_replaced by n (c.Or parts) ≡ c.Or (replaced_among parts n)
  replaced_or n parts = replaced_out by n (c.Or parts) (Cond-F.Or parts) (c.rolls-Or parts) ∙ ap c.Or (among_parts parts n)

  pub replaced_not : (n : ℕ) (part : Cond) → with_replaced by n (c.Not part) ≡ c.Not (with_replaced by n part)
  replaced_not n part = replaced_out by n (c.Not part) (Cond-F.Not part) (c.rolls-Not part)

  pub replaced_compare : (n : ℕ) (op : Op) (left right : Term) (span : Span) → with_replaced by n (c.Compare op left right span) ≡ first_or by (λ m. c.Compare op left right span) n
  replaced_compare n op left right span = replaced_out by n (c.Compare op left right span) (Cond-F.Compare op left right span) (c.rolls-Compare op left right span) ∙ alone_replaced n (c.Compare op left right span) (Cond-F.Compare op left right span) (c.rolls-Compare op left right span)

  pub replaced_is_null : (n : ℕ) (term : Term) (negated : Bool) (span : Span) → with_replaced by n (c.IsNull term negated span) ≡ first_or by (λ m. c.IsNull term negated span) n
  replaced_is_null n term negated span = replaced_out by n (c.IsNull term negated span) (Cond-F.IsNull term negated span) (c.rolls-IsNull term negated span) ∙ alone_replaced n (c.IsNull term negated span) (Cond-F.IsNull term negated span) (c.rolls-IsNull term negated span)

  pub replaced_scalar : (n : ℕ) (op : Op) (left : Term) (block : Block) (item : Term) (span : Span) → with_replaced by n (c.Scalar op left block item span) ≡ first_or by (λ m. c.Scalar op left block item span) n
  replaced_scalar n op left block item span = replaced_out by n (c.Scalar op left block item span) (Cond-F.Scalar op left block item span) (c.rolls-Scalar op left block item span) ∙ alone_replaced n (c.Scalar op left block item span) (Cond-F.Scalar op left block item span) (c.rolls-Scalar op left block item span)

  pub replaced_exists : (n : ℕ) (block : Block) (span : Span) → with_replaced by n (c.Exists block span) ≡ first_or by (λ m. c.Exists (block_replaced m block) span) n
  replaced_exists n block span = replaced_out by n (c.Exists block span) (Cond-F.Exists block span) (c.rolls-Exists block span) ∙ around_replaced n (λ b. c.Exists b span) block

  pub replaced_in_subquery : (n : ℕ) (term : Term) (block : Block) (item : Term) (negated : Bool) (span : Span) → with_replaced by n (c.In term block item negated span) ≡ first_or by (λ m. c.In term (block_replaced m block) item negated span) n
  replaced_in_subquery n term block item negated span = replaced_out by n (c.In term block item negated span) (Cond-F.In term block item negated span) (c.rolls-In term block item negated span) ∙ around_replaced n (λ b. c.In term b item negated span) block

  -- where there are too few predicates, nothing is replaced
  abbrev Kept : Cond → Type 0
  Kept cond = (n : ℕ) → length (predicates cond) ≤ n → with_replaced by n cond ≡ cond

  abbrev KeptBlock : Block → Type 0
  KeptBlock block = Kept (out-Block block).cond

  abbrev KeptPart : Type 0
  KeptPart = (cond : Cond) × Kept cond

  abbrev KeptInside : Type 0
  KeptInside = (block : Block) × KeptBlock block

  abbrev kept_part : Cond-F KeptPart KeptInside → Cond-F Cond Block
  kept_part = map-Cond KeptPart KeptInside Cond Block (λ e. e.0) (λ e. e.0)

  not_first : (n k : ℕ) (found others : List Cond) → k ≤ n → (if nat_lt n k then found else others) ≡ others
  not_first n k found others few = grind (arith, nat_tests)

  parts_kept : (parts : List KeptPart) (n : ℕ) → length (flat_map predicates (map (λ (e : KeptPart). e.0) parts)) ≤ n →
      replaced_among (map (λ (e : KeptPart). e.0) parts) n ≡ map (λ (e : KeptPart). e.0) parts
  parts_kept [] n few = refl
  parts_kept (part ∷ parts) n few =
      let others = map (λ (e : KeptPart). e.0) parts in
      let count : length (predicates part.0 ++ flat_map predicates others) ≡ length (predicates part.0) + length (flat_map predicates others) = length-append (predicates part.0) (flat_map predicates others) in
      not_first n (length (predicates part.0)) (with_replaced by n part.0 ∷ others) (part.0 ∷ replaced_among others (n - length (predicates part.0))) (omega arith)
      ∙ ap (λ (xs : List Cond). part.0 ∷ xs) (parts_kept parts (n - length (predicates part.0)) (omega arith))

  alone_kept : (n : ℕ) (cond : Cond) (span : Span) → predicates cond ≡ span ∷ [] → with_replaced by n cond ≡ first_or by (λ m. cond) n → length (predicates cond) ≤ n → with_replaced by n cond ≡ cond
  alone_kept zero cond span places replaced few =
      let one : length (predicates cond) ≡ 1 = ap length places in
      absurd (omega arith)
  alone_kept (suc n) cond span places replaced few = replaced

  around_kept : (n : ℕ) (outside : Block → Cond) (block : Block) (span : Span) → KeptBlock block →
      predicates (outside block) ≡ span ∷ predicates (out-Block block).cond →
      with_replaced by n (outside block) ≡ first_or by (λ m. outside (block_replaced m block)) n →
      length (predicates (outside block)) ≤ n → with_replaced by n (outside block) ≡ outside block
  around_kept zero outside block span inside places replaced few =
      let more : length (predicates (outside block)) ≡ suc (length (predicates (out-Block block).cond)) = ap length places in
      absurd (omega arith)
  around_kept (suc n) outside block span inside places replaced few =
      let more : length (predicates (outside block)) ≡ suc (length (predicates (out-Block block).cond)) = ap length places in
      replaced ∙ ap outside (ap (λ (cond : Cond). roll-Block (record { entries = (out-Block block).entries; cond = cond; span = (out-Block block).span })) (inside n (omega arith)) ∙ roll-out-Block block)

  kept_layer : (y : Cond-F KeptPart KeptInside) → Kept (roll-Cond (kept_part y))
  kept_layer Cond-F.True = subst Kept (sym c.rolls-True) (λ n few. replaced_true n)
  kept_layer Cond-F.False = subst Kept (sym c.rolls-False) (λ n few. replaced_false n)
  kept_layer (Cond-F.And parts) =
      let ps = map (λ (e : KeptPart). e.0) parts in
      subst Kept (sym (c.rolls-And ps)) (λ n few. replaced_and n ps ∙ ap c.And (parts_kept parts n (subst (λ (places : List Span). length places ≤ n) (predicates_and ps) few)))
  kept_layer (Cond-F.Or parts) =
      let ps = map (λ (e : KeptPart). e.0) parts in
      subst Kept (sym (c.rolls-Or ps)) (λ n few. replaced_or n ps ∙ ap c.Or (parts_kept parts n (subst (λ (places : List Span). length places ≤ n) (predicates_or ps) few)))
  kept_layer (Cond-F.Not part) =
      subst Kept (sym (c.rolls-Not part.0)) (λ n few. replaced_not n part.0 ∙ ap c.Not (part.1 n (subst (λ (places : List Span). length places ≤ n) (predicates_not part.0) few)))
  kept_layer (Cond-F.Compare op left right span) =
      subst Kept (sym (c.rolls-Compare op left right span)) (λ n few. alone_kept n (c.Compare op left right span) span (predicates_compare op left right span) (replaced_compare n op left right span) few)
  kept_layer (Cond-F.IsNull term negated span) =
      subst Kept (sym (c.rolls-IsNull term negated span)) (λ n few. alone_kept n (c.IsNull term negated span) span (predicates_is_null term negated span) (replaced_is_null n term negated span) few)
  kept_layer (Cond-F.Scalar op left block item span) =
      subst Kept (sym (c.rolls-Scalar op left block.0 item span)) (λ n few. alone_kept n (c.Scalar op left block.0 item span) span (predicates_scalar op left block.0 item span) (replaced_scalar n op left block.0 item span) few)
  kept_layer (Cond-F.Exists block span) =
      subst Kept (sym (c.rolls-Exists block.0 span)) (λ n few. around_kept n (λ b. c.Exists b span) block.0 span block.1 (predicates_exists block.0 span) (replaced_exists n block.0 span) few)
  kept_layer (Cond-F.In term block item negated span) =
      subst Kept (sym (c.rolls-In term block.0 item negated span)) (λ n few. around_kept n (λ b. c.In term b item negated span) block.0 span block.1 (predicates_in term block.0 item negated span) (replaced_in_subquery n term block.0 item negated span) few)

  pub replaced_kept : (cond : Cond) → Kept cond
  replaced_kept = ind-Cond Kept KeptBlock (λ x y is. subst (λ z. Kept (roll-Cond z)) is (kept_layer y)) (λ x y is. subst (λ z. KeptBlock (roll-Block z)) is y.cond.1)

-- subqueries
module _ (step : Cond-F sub.CondPart sub.BlockPart → Listing) where
  abbrev listed : Cond → Listing
  listed cond = (described Listing Listing step sub.block_step cond).meaning

  abbrev listed_block : Block → sub.BlockPart
  listed_block = block_described Listing Listing step sub.block_step

  listed_out : (tables : List (List ℕ)) (cond : Cond) (layer : Cond-F Cond Block) → roll-Cond layer ≡ cond → listed cond tables ≡ step (layer_described Listing Listing step sub.block_step layer) tables
  listed_out tables cond layer is = ap (λ (l : Listing). l tables) (meaning_out Listing Listing step sub.block_step cond layer is)

  parts_listed : (tables : List (List ℕ)) (parts : List Cond) → sub.in_parts (map (described Listing Listing step sub.block_step) parts) tables ≡ flat_map (λ part. listed part tables) parts
  parts_listed tables parts = flat_map-map (λ (part : sub.CondPart). part.meaning tables) (described Listing Listing step sub.block_step) parts

  block_listed : (tables : List (List ℕ)) (block : Block) → (listed_block block).meaning tables ≡ listed (out-Block block).cond (tables ++ tables_of (out-Block block).entries ∷ [])
  block_listed tables block = ap (λ (l : Listing). l tables) (block_meaning_is Listing Listing step sub.block_step block)

  block_same : (block : Block) → (listed_block block).itself ≡ block
  block_same block = block_itself_is Listing Listing step sub.block_step block

pub scalars_true : (tables : List (List ℕ)) → scalar_subqueries c.True tables ≡ []
scalars_true tables = listed_out scalar_step tables c.True Cond-F.True c.rolls-True

pub scalars_false : (tables : List (List ℕ)) → scalar_subqueries c.False tables ≡ []
scalars_false tables = listed_out scalar_step tables c.False Cond-F.False c.rolls-False

pub scalars_and : (tables : List (List ℕ)) (parts : List Cond) → scalar_subqueries (c.And parts) tables ≡ flat_map (λ part. scalar_subqueries part tables) parts
scalars_and tables parts = listed_out scalar_step tables (c.And parts) (Cond-F.And parts) (c.rolls-And parts) ∙ parts_listed scalar_step tables parts

pub scalars_or : (tables : List (List ℕ)) (parts : List Cond) → scalar_subqueries (c.Or parts) tables ≡ flat_map (λ part. scalar_subqueries part tables) parts
scalars_or tables parts = listed_out scalar_step tables (c.Or parts) (Cond-F.Or parts) (c.rolls-Or parts) ∙ parts_listed scalar_step tables parts

pub scalars_not : (tables : List (List ℕ)) (part : Cond) → scalar_subqueries (c.Not part) tables ≡ scalar_subqueries part tables
scalars_not tables part = listed_out scalar_step tables (c.Not part) (Cond-F.Not part) (c.rolls-Not part)

pub scalars_compare : (tables : List (List ℕ)) (op : Op) (left right : Term) (span : Span) → scalar_subqueries (c.Compare op left right span) tables ≡ []
scalars_compare tables op left right span = listed_out scalar_step tables (c.Compare op left right span) (Cond-F.Compare op left right span) (c.rolls-Compare op left right span)

pub scalars_is_null : (tables : List (List ℕ)) (term : Term) (negated : Bool) (span : Span) → scalar_subqueries (c.IsNull term negated span) tables ≡ []
scalars_is_null tables term negated span = listed_out scalar_step tables (c.IsNull term negated span) (Cond-F.IsNull term negated span) (c.rolls-IsNull term negated span)

pub scalars_exists : (tables : List (List ℕ)) (block : Block) (span : Span) →
    scalar_subqueries (c.Exists block span) tables ≡ scalar_subqueries (out-Block block).cond (tables ++ tables_of (out-Block block).entries ∷ [])
scalars_exists tables block span = listed_out scalar_step tables (c.Exists block span) (Cond-F.Exists block span) (c.rolls-Exists block span) ∙ block_listed scalar_step tables block

pub scalars_in : (tables : List (List ℕ)) (term : Term) (block : Block) (item : Term) (negated : Bool) (span : Span) →
    scalar_subqueries (c.In term block item negated span) tables ≡ scalar_subqueries (out-Block block).cond (tables ++ tables_of (out-Block block).entries ∷ [])
scalars_in tables term block item negated span = listed_out scalar_step tables (c.In term block item negated span) (Cond-F.In term block item negated span) (c.rolls-In term block item negated span) ∙ block_listed scalar_step tables block

pub scalars_scalar : (tables : List (List ℕ)) (op : Op) (left : Term) (block : Block) (item : Term) (span : Span) →
    scalar_subqueries (c.Scalar op left block item span) tables ≡ scalar_subqueries (out-Block block).cond (tables ++ tables_of (out-Block block).entries ∷ []) ++ subquery tables block item (out-Block block).span ∷ []
scalars_scalar tables op left block item span =
    listed_out scalar_step tables (c.Scalar op left block item span) (Cond-F.Scalar op left block item span) (c.rolls-Scalar op left block item span)
    ∙ ap₂ (λ (inside : List Subquery) (b : Block). inside ++ subquery tables b item (out-Block b).span ∷ []) (block_listed scalar_step tables block) (block_same scalar_step block)

pub not_ins_true : (tables : List (List ℕ)) → not_in_subqueries c.True tables ≡ []
not_ins_true tables = listed_out not_in_step tables c.True Cond-F.True c.rolls-True

pub not_ins_false : (tables : List (List ℕ)) → not_in_subqueries c.False tables ≡ []
not_ins_false tables = listed_out not_in_step tables c.False Cond-F.False c.rolls-False

pub not_ins_and : (tables : List (List ℕ)) (parts : List Cond) → not_in_subqueries (c.And parts) tables ≡ flat_map (λ part. not_in_subqueries part tables) parts
not_ins_and tables parts = listed_out not_in_step tables (c.And parts) (Cond-F.And parts) (c.rolls-And parts) ∙ parts_listed not_in_step tables parts

pub not_ins_or : (tables : List (List ℕ)) (parts : List Cond) → not_in_subqueries (c.Or parts) tables ≡ flat_map (λ part. not_in_subqueries part tables) parts
not_ins_or tables parts = listed_out not_in_step tables (c.Or parts) (Cond-F.Or parts) (c.rolls-Or parts) ∙ parts_listed not_in_step tables parts

pub not_ins_not : (tables : List (List ℕ)) (part : Cond) → not_in_subqueries (c.Not part) tables ≡ not_in_subqueries part tables
not_ins_not tables part = listed_out not_in_step tables (c.Not part) (Cond-F.Not part) (c.rolls-Not part)

pub not_ins_compare : (tables : List (List ℕ)) (op : Op) (left right : Term) (span : Span) → not_in_subqueries (c.Compare op left right span) tables ≡ []
not_ins_compare tables op left right span = listed_out not_in_step tables (c.Compare op left right span) (Cond-F.Compare op left right span) (c.rolls-Compare op left right span)

pub not_ins_is_null : (tables : List (List ℕ)) (term : Term) (negated : Bool) (span : Span) → not_in_subqueries (c.IsNull term negated span) tables ≡ []
not_ins_is_null tables term negated span = listed_out not_in_step tables (c.IsNull term negated span) (Cond-F.IsNull term negated span) (c.rolls-IsNull term negated span)

pub not_ins_exists : (tables : List (List ℕ)) (block : Block) (span : Span) →
    not_in_subqueries (c.Exists block span) tables ≡ not_in_subqueries (out-Block block).cond (tables ++ tables_of (out-Block block).entries ∷ [])
not_ins_exists tables block span = listed_out not_in_step tables (c.Exists block span) (Cond-F.Exists block span) (c.rolls-Exists block span) ∙ block_listed not_in_step tables block

pub not_ins_scalar : (tables : List (List ℕ)) (op : Op) (left : Term) (block : Block) (item : Term) (span : Span) →
    not_in_subqueries (c.Scalar op left block item span) tables ≡ not_in_subqueries (out-Block block).cond (tables ++ tables_of (out-Block block).entries ∷ [])
not_ins_scalar tables op left block item span = listed_out not_in_step tables (c.Scalar op left block item span) (Cond-F.Scalar op left block item span) (c.rolls-Scalar op left block item span) ∙ block_listed not_in_step tables block

pub not_ins_in : (tables : List (List ℕ)) (term : Term) (block : Block) (item : Term) (negated : Bool) (span : Span) →
    not_in_subqueries (c.In term block item negated span) tables ≡ (if negated && is_column item then subquery tables block item span ∷ [] else []) ++ not_in_subqueries (out-Block block).cond (tables ++ tables_of (out-Block block).entries ∷ [])
not_ins_in tables term block item negated span =
    listed_out not_in_step tables (c.In term block item negated span) (Cond-F.In term block item negated span) (c.rolls-In term block item negated span)
    ∙ ap₂ (λ (inside : List Subquery) (b : Block). (if negated && is_column item then subquery tables b item span ∷ [] else []) ++ inside) (block_listed not_in_step tables block) (block_same not_in_step block)
