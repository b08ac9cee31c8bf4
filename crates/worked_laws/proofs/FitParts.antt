-- What a condition of each kind, and a block, needs to fit, how many conditions it has, and whether it has a subquery,
-- by its parts.
use Rattle.std.proofs.Common.{◌≡◌, ◌∙◌, sym, ap, refl, ℕ, zero, suc, ◌+◌, Bool, true, false, ◌&&◌, List, [], ◌∷◌, ◌++◌, length, map, arith}
use Rattle.lint_base.specs.declared.place.Span.{Span}
use Rattle.lint_tables.specs.declared.op.Op.{Op}
use Rattle.lint_tables.specs.declared.op.Op.TheVariants.{Eq}
use Rattle.std.proofs.lemmas.Bool.{and_from}
use Rattle.std.proofs.lemmas.List.Sums.{sum_by-cons}
use Rattle.std.specs.Prelude.{sum, nat_le, nat_lt, replicate}
use Rattle.std.specs.List.{list_all}
use Rattle.lint_core.specs.declared.condition.Term.{Term}
use Rattle.lint_core.specs.declared.condition.Cond.{Cond, roll-Cond, map-Cond}
use Rattle.lint_core.specs.declared.condition.Cond.TheVariants as cond
use Rattle.lint_core.specs.declared.condition.Cond.TheOpen.{Cond-F, Block-F}
use Rattle.lint_core.specs.declared.condition.Cond.TheFolds.{fold-roll-Cond}
use Rattle.lint_core.specs.declared.condition.Block.{Block, roll-Block, fold-Block, fold-roll-Block, map-Block}
use Rattle.lint_core.specs.declared.condition.Entry.{Entry}
use Rattle.lint_core.specs.declared.schema.Table.{Table}
use Rattle.worked_laws.specs.FitExamples.{trues}
use Rattle.lint_core.specs.Kind.{compares_both}
use Rattle.lint_core.specs.Fits.{Meaning, BlockMeaning, fits_step, block_step, tables_of, term_kind, term_fits, cond_fits, block_meaning, block_fits, selected_fits, count_step, count_conditions, flat_step, is_flat, check_fits}
use Rattle.lint_core.proofs.Fitting.{fits_and, fits_or, flat_and, flat_or}

-- ---- what fits

module _ (schema : List Table) where
  abbrev map_layer : Cond-F Cond Block → Cond-F Meaning BlockMeaning
  map_layer = map-Cond Cond Block Meaning BlockMeaning (λ part tables. cond_fits schema tables part) (block_meaning schema)

  -- the block of a layer
  block_is : (layer : Block-F Cond Block) →
      block_meaning schema (roll-Block layer) ≡ block_step schema (map-Block Cond Block Meaning BlockMeaning (λ part tables. cond_fits schema tables part) (block_meaning schema) layer)
  block_is layer = fold-roll-Block Meaning BlockMeaning (fits_step schema) (block_step schema) layer

  pub block_own : (layer : Block-F Cond Block) → (block_meaning schema (roll-Block layer)).own ≡ tables_of layer.entries
  block_own layer = ap (λ (b : BlockMeaning). b.own) (block_is layer)

  pub block_fit : (tables : List (List ℕ)) (layer : Block-F Cond Block) →
      (block_meaning schema (roll-Block layer)).fits tables
      ≡ (nat_le (length layer.entries) 16 && list_all (λ (e : Entry). nat_lt e.table (length schema)) layer.entries && cond_fits schema (tables ++ tables_of layer.entries ∷ []) layer.cond)
  block_fit tables layer = ap (λ (b : BlockMeaning). b.fits tables) (block_is layer)

  module _ (tables : List (List ℕ)) where
    layer_fits : (c : Cond) (layer : Cond-F Cond Block) → roll-Cond layer ≡ c → cond_fits schema tables c ≡ fits_step schema (map_layer layer) tables
    layer_fits c layer is =
        ap (cond_fits schema tables) (sym is)
        ∙ ap (λ m. m tables) (fold-roll-Cond Meaning BlockMeaning (fits_step schema) (block_step schema) layer)

    pub fits_true : cond_fits schema tables cond.True ≡ true
    fits_true = layer_fits cond.True Cond-F.True cond.rolls-True

    pub fits_false : cond_fits schema tables cond.False ≡ true
    fits_false = layer_fits cond.False Cond-F.False cond.rolls-False

    pub fits_not : (part : Cond) → cond_fits schema tables (cond.Not part) ≡ cond_fits schema tables part
    fits_not part = layer_fits (cond.Not part) (Cond-F.Not part) (cond.rolls-Not part)

    pub fits_compare : (op : Op) (left right : Term) (span : Span) →
        cond_fits schema tables (cond.Compare op left right span) ≡ compares_both op (term_kind schema tables left) (term_kind schema tables right)
    fits_compare op left right span = layer_fits (cond.Compare op left right span) (Cond-F.Compare op left right span) (cond.rolls-Compare op left right span)

    pub fits_is_null : (term : Term) (negated : Bool) (span : Span) → cond_fits schema tables (cond.IsNull term negated span) ≡ term_fits schema tables term
    fits_is_null term negated span = layer_fits (cond.IsNull term negated span) (Cond-F.IsNull term negated span) (cond.rolls-IsNull term negated span)

    pub fits_exists : (block : Block) (span : Span) → cond_fits schema tables (cond.Exists block span) ≡ block_fits schema tables block
    fits_exists block span = layer_fits (cond.Exists block span) (Cond-F.Exists block span) (cond.rolls-Exists block span)

    pub fits_in : (term : Term) (block : Block) (item : Term) (negated : Bool) (span : Span) →
        cond_fits schema tables (cond.In term block item negated span) ≡ selected_fits schema tables Eq term (block_meaning schema block) item
    fits_in term block item negated span = layer_fits (cond.In term block item negated span) (Cond-F.In term block item negated span) (cond.rolls-In term block item negated span)

    pub fits_scalar : (op : Op) (left : Term) (block : Block) (item : Term) (span : Span) →
        cond_fits schema tables (cond.Scalar op left block item span) ≡ selected_fits schema tables op left (block_meaning schema block) item
    fits_scalar op left block item span = layer_fits (cond.Scalar op left block item span) (Cond-F.Scalar op left block item span) (cond.rolls-Scalar op left block item span)

-- ---- how many conditions

abbrev pub block_count : Block → ℕ
block_count = fold-Block ℕ ℕ count_step (λ block. block.cond)

layer_count : (c : Cond) (layer : Cond-F Cond Block) → roll-Cond layer ≡ c → count_conditions c ≡ count_step (map-Cond Cond Block ℕ ℕ count_conditions block_count layer)
layer_count c layer is = ap count_conditions (sym is) ∙ fold-roll-Cond ℕ ℕ count_step (λ block. block.cond) layer

pub block_count_is : (layer : Block-F Cond Block) → block_count (roll-Block layer) ≡ count_conditions layer.cond
block_count_is layer = fold-roll-Block ℕ ℕ count_step (λ block. block.cond) layer

pub count_true : count_conditions cond.True ≡ 1
count_true = layer_count cond.True Cond-F.True cond.rolls-True

pub count_false : count_conditions cond.False ≡ 1
count_false = layer_count cond.False Cond-F.False cond.rolls-False

pub count_and : (parts : List Cond) → count_conditions (cond.And parts) ≡ 1 + sum (map count_conditions parts)
count_and parts = layer_count (cond.And parts) (Cond-F.And parts) (cond.rolls-And parts)

pub count_or : (parts : List Cond) → count_conditions (cond.Or parts) ≡ 1 + sum (map count_conditions parts)
count_or parts = layer_count (cond.Or parts) (Cond-F.Or parts) (cond.rolls-Or parts)

pub count_not : (part : Cond) → count_conditions (cond.Not part) ≡ 1 + count_conditions part
count_not part = layer_count (cond.Not part) (Cond-F.Not part) (cond.rolls-Not part)

pub count_compare : (op : Op) (left right : Term) (span : Span) → count_conditions (cond.Compare op left right span) ≡ 1
count_compare op left right span = layer_count (cond.Compare op left right span) (Cond-F.Compare op left right span) (cond.rolls-Compare op left right span)

pub count_is_null : (term : Term) (negated : Bool) (span : Span) → count_conditions (cond.IsNull term negated span) ≡ 1
count_is_null term negated span = layer_count (cond.IsNull term negated span) (Cond-F.IsNull term negated span) (cond.rolls-IsNull term negated span)

pub count_exists : (block : Block) (span : Span) → count_conditions (cond.Exists block span) ≡ 1 + block_count block
count_exists block span = layer_count (cond.Exists block span) (Cond-F.Exists block span) (cond.rolls-Exists block span)

pub count_in : (term : Term) (block : Block) (item : Term) (negated : Bool) (span : Span) →
    count_conditions (cond.In term block item negated span) ≡ 1 + block_count block
count_in term block item negated span = layer_count (cond.In term block item negated span) (Cond-F.In term block item negated span) (cond.rolls-In term block item negated span)

pub count_scalar : (op : Op) (left : Term) (block : Block) (item : Term) (span : Span) →
    count_conditions (cond.Scalar op left block item span) ≡ 1 + block_count block
count_scalar op left block item span = layer_count (cond.Scalar op left block item span) (Cond-F.Scalar op left block item span) (cond.rolls-Scalar op left block item span)

-- ---- which have no subquery

layer_flat : (c : Cond) (layer : Cond-F Cond Block) → roll-Cond layer ≡ c → is_flat c ≡ flat_step (map-Cond Cond Block Bool Bool is_flat (fold-Block Bool Bool flat_step (λ block. false)) layer)
layer_flat c layer is = ap is_flat (sym is) ∙ fold-roll-Cond Bool Bool flat_step (λ block. false) layer

pub flat_true : is_flat cond.True ≡ true
flat_true = layer_flat cond.True Cond-F.True cond.rolls-True

pub flat_false : is_flat cond.False ≡ true
flat_false = layer_flat cond.False Cond-F.False cond.rolls-False

pub flat_not : (part : Cond) → is_flat (cond.Not part) ≡ is_flat part
flat_not part = layer_flat (cond.Not part) (Cond-F.Not part) (cond.rolls-Not part)

pub flat_compare : (op : Op) (left right : Term) (span : Span) → is_flat (cond.Compare op left right span) ≡ true
flat_compare op left right span = layer_flat (cond.Compare op left right span) (Cond-F.Compare op left right span) (cond.rolls-Compare op left right span)

pub flat_exists : (block : Block) (span : Span) → is_flat (cond.Exists block span) ≡ false
flat_exists block span = layer_flat (cond.Exists block span) (Cond-F.Exists block span) (cond.rolls-Exists block span)

pub check_true : (schema : List Table) (number : ℕ) → check_fits schema number cond.True ≡ true
check_true schema number = rw (flat_true, count_true, fits_true schema ((number ∷ []) ∷ [])) refl

-- ---- many parts that are true

each_true : (test : Cond → Bool) → test cond.True ≡ true → (count : ℕ) → list_all test (replicate count cond.True) ≡ true
each_true test passes zero = refl
each_true test passes (suc count) = and_from (test cond.True) (list_all test (replicate count cond.True)) passes (each_true test passes count)

sum_of_trues : (count : ℕ) → sum (map count_conditions (replicate count cond.True)) ≡ count
sum_of_trues zero = refl
sum_of_trues (suc count) =
    omega (arith, sum_by-cons (λ n. n) (count_conditions cond.True) (map count_conditions (replicate count cond.True)), count_true, sum_of_trues count)

pub fits_trues : (schema : List Table) (tables : List (List ℕ)) (count : ℕ) → cond_fits schema tables (trues count) ≡ true
fits_trues schema tables count = fits_and schema tables (replicate count cond.True) ∙ each_true (cond_fits schema tables) (fits_true schema tables) count

pub flat_trues : (count : ℕ) → is_flat (trues count) ≡ true
flat_trues count = flat_and (replicate count cond.True) ∙ each_true is_flat flat_true count

pub count_trues : (count : ℕ) → count_conditions (trues count) ≡ 1 + count
count_trues count = count_and (replicate count cond.True) ∙ ap (λ n. 1 + n) (sum_of_trues count)

-- each condition by its parts
pub ruleset by_parts = (block_own, block_fit, fits_true, fits_false, fits_and, fits_or, fits_not, fits_compare, fits_is_null, fits_exists, fits_in, fits_scalar, block_count_is, count_true, count_false, count_and, count_or, count_not, count_compare, count_is_null, count_exists, count_in, count_scalar, flat_true, flat_false, flat_and, flat_or, flat_not, flat_compare, flat_exists)

pub ruleset many_parts = (fits_trues, flat_trues, count_trues)
