-- What the formulas of a condition of each kind are, when it fits, and which entries it names, by its parts.
use Rattle.std.proofs.Common.{◌≡◌, ◌∙◌, ap, ℕ, Bool, true, ◌&&◌, ◌||◌, List, [], ◌∷◌, ◌++◌, map, length, nat_le, nat_lt}
use Rattle.std.proofs.lemmas.List.Folds.{list_all-map}
use Rattle.std.proofs.lemmas.Simd.{map-map}
use Rattle.std.specs.List.{list_any, list_all}
use Rattle.lint_base.specs.declared.place.Span.{Span}
use Rattle.lint_tables.specs.declared.op.Op.{Op}
use Rattle.lint_tables.specs.declared.op.Op.TheVariants.{Eq}
use Rattle.lint_core.specs.declared.condition.Entry.{Entry}
use Rattle.lint_core.specs.declared.condition.Term.{Term}
use Rattle.lint_core.specs.declared.condition.Cond.{Cond, out-Cond, fold_out-Cond, map-Cond}
use Rattle.lint_core.specs.declared.condition.Cond.TheVariants as c
use Rattle.lint_core.specs.declared.condition.Cond.TheOpen.{Cond-F}
use Rattle.lint_core.specs.declared.condition.Block.{Block, fold-Block, fold_out-Block}
use Rattle.lint_core.specs.declared.schema.Table.{Table}
use Rattle.lint_core.specs.Fits as fits
use Rattle.lint_core.specs.Fits.{cond_fits, tables_of}
use Rattle.lint_core.specs.Kind.{compares_both}
use Rattle.lint_core.specs.Naming.{names, names_step, term_names}
use Rattle.sort_formula.specs.declared.formula.Formula.TheVariants as f
use Rattle.lint_core.specs.declared.scope.Scope.{Scope}
use Rattle.sort_formula.specs.Sides.{everything, nothing, compare_formula, compare_false_formula, is_null_formula, not_null_formula}
use Rattle.sort_formula.specs.Translation.{Meaning, BlockMeaning, translation, translation_step, block_step, swapped_if, exists_both, in_both, scalar_both, is_true_formula, is_false_formula}
use Rattle.lint_base.proofs.Lists.{any_map}

module _ (schema : List Table) where
  -- ---- the formulas

  abbrev pub block_translation : Block → BlockMeaning
  block_translation = fold-Block Meaning BlockMeaning (translation_step schema) (block_step schema)

  abbrev layer_translation : Cond-F Cond Block → Meaning
  layer_translation layer = translation_step schema (map-Cond Cond Block Meaning BlockMeaning (translation schema) block_translation layer)

  translation_out : (cond : Cond) → translation schema cond ≡ layer_translation (out-Cond cond)
  translation_out cond = fold_out-Cond Meaning BlockMeaning (translation_step schema) (block_step schema) cond

  -- a block, by its entries and its condition
  abbrev pub block_parts : Block → BlockMeaning
  block_parts block = record { own = tables_of block.entries; cond = translation schema block.cond }

  pub block_translation_is : (block : Block) → block_translation block ≡ block_parts block
  block_translation_is block = fold_out-Block Meaning BlockMeaning (translation_step schema) (block_step schema) block

  module _ (scope : Scope) where
    at_scope : (cond : Cond) (layer : Cond-F Cond Block) → out-Cond cond ≡ layer → translation schema cond scope ≡ layer_translation layer scope
    at_scope cond layer is = ap (λ (m : Meaning). m scope) (translation_out cond ∙ ap layer_translation is)

    pub translation_true : translation schema c.True scope ≡ record { true = everything; false = nothing }
    translation_true = at_scope c.True _ c.outs-True

    pub translation_false : translation schema c.False scope ≡ record { true = nothing; false = everything }
    translation_false = at_scope c.False _ c.outs-False

    pub translation_not : (part : Cond) → translation schema (c.Not part) scope ≡ record { true = is_false_formula schema part scope; false = is_true_formula schema part scope }
    translation_not part = at_scope (c.Not part) _ (c.outs-Not part)

    pub translation_and : (parts : List Cond) → translation schema (c.And parts) scope
        ≡ record { true = f.And (map (λ part. is_true_formula schema part scope) parts); false = f.Or (map (λ part. is_false_formula schema part scope) parts) }
    translation_and parts =
        at_scope (c.And parts) _ (c.outs-And parts)
        ∙ (ap (λ gs. record { true = f.And gs; false = f.Or (map (λ (m : Meaning). (m scope).false) (map (translation schema) parts)) }) (map-map (λ (m : Meaning). (m scope).true) (translation schema) parts)
        ∙ ap (λ gs. record { true = f.And (map (λ part. is_true_formula schema part scope) parts); false = f.Or gs }) (map-map (λ (m : Meaning). (m scope).false) (translation schema) parts))

    pub translation_or : (parts : List Cond) → translation schema (c.Or parts) scope
        ≡ record { true = f.Or (map (λ part. is_true_formula schema part scope) parts); false = f.And (map (λ part. is_false_formula schema part scope) parts) }
    translation_or parts =
        at_scope (c.Or parts) _ (c.outs-Or parts)
        ∙ (ap (λ gs. record { true = f.Or gs; false = f.And (map (λ (m : Meaning). (m scope).false) (map (translation schema) parts)) }) (map-map (λ (m : Meaning). (m scope).true) (translation schema) parts)
        ∙ ap (λ gs. record { true = f.Or (map (λ part. is_true_formula schema part scope) parts); false = f.And gs }) (map-map (λ (m : Meaning). (m scope).false) (translation schema) parts))

    pub translation_compare : (op : Op) (left right : Term) (span : Span) →
        translation schema (c.Compare op left right span) scope ≡ record { true = compare_formula schema scope op left right; false = compare_false_formula schema scope op left right }
    translation_compare op left right span = at_scope (c.Compare op left right span) _ (c.outs-Compare op left right span)

    pub translation_is_null : (t : Term) (negated : Bool) (span : Span) →
        translation schema (c.IsNull t negated span) scope ≡ swapped_if negated (record { true = is_null_formula schema scope t; false = not_null_formula schema scope t })
    translation_is_null t negated span = at_scope (c.IsNull t negated span) _ (c.outs-IsNull t negated span)

    pub translation_exists : (block : Block) (span : Span) → translation schema (c.Exists block span) scope ≡ exists_both schema (block_parts block) scope
    translation_exists block span =
        at_scope (c.Exists block span) _ (c.outs-Exists block span)
        ∙ ap (λ (m : BlockMeaning). exists_both schema m scope) (block_translation_is block)

    pub translation_in : (t : Term) (block : Block) (item : Term) (negated : Bool) (span : Span) →
        translation schema (c.In t block item negated span) scope ≡ swapped_if negated (in_both schema t (block_parts block) item scope)
    translation_in t block item negated span =
        at_scope (c.In t block item negated span) _ (c.outs-In t block item negated span)
        ∙ ap (λ (m : BlockMeaning). swapped_if negated (in_both schema t m item scope)) (block_translation_is block)

    pub translation_scalar : (op : Op) (left : Term) (block : Block) (item : Term) (span : Span) →
        translation schema (c.Scalar op left block item span) scope ≡ scalar_both schema op left (block_parts block) item scope
    translation_scalar op left block item span =
        at_scope (c.Scalar op left block item span) _ (c.outs-Scalar op left block item span)
        ∙ ap (λ (m : BlockMeaning). scalar_both schema op left m item scope) (block_translation_is block)

  -- ---- fits

  abbrev block_fitting : Block → fits.BlockMeaning
  block_fitting = fold-Block fits.Meaning fits.BlockMeaning (fits.fits_step schema) (fits.block_step schema)

  abbrev layer_fits : Cond-F Cond Block → fits.Meaning
  layer_fits layer = fits.fits_step schema (map-Cond Cond Block fits.Meaning fits.BlockMeaning (λ cond tables. cond_fits schema tables cond) block_fitting layer)

  -- a block fits, by its entries and its condition
  abbrev pub block_fit : Block → fits.BlockMeaning
  block_fit block = record {
    own = tables_of block.entries;
    fits = λ tables.
        nat_le (length block.entries) 16
        && list_all (λ (e : Entry). nat_lt e.table (length schema)) block.entries
        && cond_fits schema (tables ++ tables_of block.entries ∷ []) block.cond;
  }

  pub block_fit_is : (block : Block) → block_fitting block ≡ block_fit block
  block_fit_is block = fold_out-Block fits.Meaning fits.BlockMeaning (fits.fits_step schema) (fits.block_step schema) block

  module _ (tables : List (List ℕ)) where
    fits_out : (cond : Cond) (layer : Cond-F Cond Block) → out-Cond cond ≡ layer → cond_fits schema tables cond ≡ layer_fits layer tables
    fits_out cond layer is = ap (λ (m : fits.Meaning). m tables) (fold_out-Cond fits.Meaning fits.BlockMeaning (fits.fits_step schema) (fits.block_step schema) cond ∙ ap layer_fits is)

    pub fits_true : cond_fits schema tables c.True ≡ true
    fits_true = fits_out c.True _ c.outs-True

    pub fits_false : cond_fits schema tables c.False ≡ true
    fits_false = fits_out c.False _ c.outs-False

    pub fits_and : (parts : List Cond) → cond_fits schema tables (c.And parts) ≡ list_all (cond_fits schema tables) parts
    fits_and parts = fits_out (c.And parts) _ (c.outs-And parts) ∙ list_all-map (λ (m : fits.Meaning). m tables) (λ cond ts. cond_fits schema ts cond) parts

    pub fits_or : (parts : List Cond) → cond_fits schema tables (c.Or parts) ≡ list_all (cond_fits schema tables) parts
    fits_or parts = fits_out (c.Or parts) _ (c.outs-Or parts) ∙ list_all-map (λ (m : fits.Meaning). m tables) (λ cond ts. cond_fits schema ts cond) parts

    pub fits_not : (part : Cond) → cond_fits schema tables (c.Not part) ≡ cond_fits schema tables part
    fits_not part = fits_out (c.Not part) _ (c.outs-Not part)

    pub fits_compare : (op : Op) (left right : Term) (span : Span) →
        cond_fits schema tables (c.Compare op left right span) ≡ compares_both op (fits.term_kind schema tables left) (fits.term_kind schema tables right)
    fits_compare op left right span = fits_out (c.Compare op left right span) _ (c.outs-Compare op left right span)

    pub fits_is_null : (t : Term) (negated : Bool) (span : Span) → cond_fits schema tables (c.IsNull t negated span) ≡ fits.term_fits schema tables t
    fits_is_null t negated span = fits_out (c.IsNull t negated span) _ (c.outs-IsNull t negated span)

    pub fits_exists : (block : Block) (span : Span) → cond_fits schema tables (c.Exists block span) ≡ (block_fit block).fits tables
    fits_exists block span = fits_out (c.Exists block span) _ (c.outs-Exists block span) ∙ ap (λ (m : fits.BlockMeaning). m.fits tables) (block_fit_is block)

    pub fits_in : (t : Term) (block : Block) (item : Term) (negated : Bool) (span : Span) →
        cond_fits schema tables (c.In t block item negated span) ≡ fits.selected_fits schema tables Eq t (block_fit block) item
    fits_in t block item negated span =
        fits_out (c.In t block item negated span) _ (c.outs-In t block item negated span)
        ∙ ap (λ (m : fits.BlockMeaning). fits.selected_fits schema tables Eq t m item) (block_fit_is block)

    pub fits_scalar : (op : Op) (left : Term) (block : Block) (item : Term) (span : Span) →
        cond_fits schema tables (c.Scalar op left block item span) ≡ fits.selected_fits schema tables op left (block_fit block) item
    fits_scalar op left block item span =
        fits_out (c.Scalar op left block item span) _ (c.outs-Scalar op left block item span)
        ∙ ap (λ (m : fits.BlockMeaning). fits.selected_fits schema tables op left m item) (block_fit_is block)

-- ---- names

module _ (entry : ℕ) where
  abbrev block_names : Block → Bool
  block_names = fold-Block Bool Bool (names_step entry) (λ block. block.cond)

  block_names_is : (block : Block) → block_names block ≡ names entry block.cond
  block_names_is block = fold_out-Block Bool Bool (names_step entry) (λ block. block.cond) block

  abbrev layer_names : Cond-F Cond Block → Bool
  layer_names layer = names_step entry (map-Cond Cond Block Bool Bool (names entry) block_names layer)

  names_out : (cond : Cond) (layer : Cond-F Cond Block) → out-Cond cond ≡ layer → names entry cond ≡ layer_names layer
  names_out cond layer is = fold_out-Cond Bool Bool (names_step entry) (λ block. block.cond) cond ∙ ap layer_names is

  pub names_and : (parts : List Cond) → names entry (c.And parts) ≡ list_any (names entry) parts
  names_and parts = names_out (c.And parts) _ (c.outs-And parts) ∙ any_map (names entry) (λ part. part) parts

  pub names_or : (parts : List Cond) → names entry (c.Or parts) ≡ list_any (names entry) parts
  names_or parts = names_out (c.Or parts) _ (c.outs-Or parts) ∙ any_map (names entry) (λ part. part) parts

  pub names_not : (part : Cond) → names entry (c.Not part) ≡ names entry part
  names_not part = names_out (c.Not part) _ (c.outs-Not part)

  pub names_compare : (op : Op) (left right : Term) (span : Span) → names entry (c.Compare op left right span) ≡ (term_names entry left || term_names entry right)
  names_compare op left right span = names_out (c.Compare op left right span) _ (c.outs-Compare op left right span)

  pub names_is_null : (t : Term) (negated : Bool) (span : Span) → names entry (c.IsNull t negated span) ≡ term_names entry t
  names_is_null t negated span = names_out (c.IsNull t negated span) _ (c.outs-IsNull t negated span)

  pub names_exists : (block : Block) (span : Span) → names entry (c.Exists block span) ≡ names entry block.cond
  names_exists block span = names_out (c.Exists block span) _ (c.outs-Exists block span) ∙ block_names_is block

  pub names_in : (t : Term) (block : Block) (item : Term) (negated : Bool) (span : Span) →
      names entry (c.In t block item negated span) ≡ (term_names entry t || term_names entry item || names entry block.cond)
  names_in t block item negated span =
      names_out (c.In t block item negated span) _ (c.outs-In t block item negated span) ∙ ap (λ b. term_names entry t || term_names entry item || b) (block_names_is block)

  pub names_scalar : (op : Op) (left : Term) (block : Block) (item : Term) (span : Span) →
      names entry (c.Scalar op left block item span) ≡ (term_names entry left || term_names entry item || names entry block.cond)
  names_scalar op left block item span =
      names_out (c.Scalar op left block item span) _ (c.outs-Scalar op left block item span) ∙ ap (λ b. term_names entry left || term_names entry item || b) (block_names_is block)
