-- The formulas and the entries of AND and OR, by those of their parts.
use Rattle.std.proofs.Common.{◌≡◌, ◌∙◌, ap, ℕ, Bool, true, false, not, List, map}
use Rattle.std.proofs.lemmas.List.Sums.{sum-map}
use Rattle.std.proofs.lemmas.Simd.{map-map}
use Rattle.std.specs.List.{sum_by}
use Rattle.lint_core.specs.declared.condition.Block.{Block}
use Rattle.lint_core.specs.declared.condition.Cond.{Cond, out-Cond, fold_out-Cond, map-Cond}
use Rattle.lint_core.specs.declared.condition.Cond.TheVariants as c
use Rattle.lint_core.specs.declared.condition.Cond.TheOpen.{Cond-F}
use Rattle.lint_core.specs.declared.schema.Table.{Table}
use Rattle.sort_formula.specs.declared.formula.Formula.TheVariants as f
use Rattle.lint_core.specs.declared.scope.Scope.{Scope}
use Rattle.sort_formula.specs.Translation as translation
use Rattle.sort_formula.specs.Translation.{Both, Meaning, BlockMeaning, translation}
use Rattle.truth_formula.specs.inner.Parts.{chosen, joined, block_translation, count_block}
use Rattle.truth_formula.specs.Scopes.{entries_step, block_step, count_entries}

module _ (schema : List Table) where
  abbrev layer_translation : Cond-F Cond Block → Meaning
  layer_translation layer = translation.translation_step schema (map-Cond Cond Block Meaning BlockMeaning (translation schema) (block_translation schema) layer)

  translation_out : (cond : Cond) → translation schema cond ≡ layer_translation (out-Cond cond)
  translation_out cond = fold_out-Cond Meaning BlockMeaning (translation.translation_step schema) (translation.block_step schema) cond

  pub translation_and : (holds : Bool) (parts : List Cond) (scope : Scope) →
      chosen holds (translation schema (c.And parts) scope) ≡ joined holds (map (λ part. chosen holds (translation schema part scope)) parts)
  translation_and true parts scope =
      ap (λ (m : Meaning). (m scope).true) (translation_out (c.And parts) ∙ ap layer_translation (c.outs-And parts))
      ∙ ap f.And (map-map (λ (part : Meaning). (part scope).true) (translation schema) parts)
  translation_and false parts scope =
      ap (λ (m : Meaning). (m scope).false) (translation_out (c.And parts) ∙ ap layer_translation (c.outs-And parts))
      ∙ ap f.Or (map-map (λ (part : Meaning). (part scope).false) (translation schema) parts)

  pub translation_or : (holds : Bool) (parts : List Cond) (scope : Scope) →
      chosen holds (translation schema (c.Or parts) scope) ≡ joined (not holds) (map (λ part. chosen holds (translation schema part scope)) parts)
  translation_or true parts scope =
      ap (λ (m : Meaning). (m scope).true) (translation_out (c.Or parts) ∙ ap layer_translation (c.outs-Or parts))
      ∙ ap f.Or (map-map (λ (part : Meaning). (part scope).true) (translation schema) parts)
  translation_or false parts scope =
      ap (λ (m : Meaning). (m scope).false) (translation_out (c.Or parts) ∙ ap layer_translation (c.outs-Or parts))
      ∙ ap f.And (map-map (λ (part : Meaning). (part scope).false) (translation schema) parts)

abbrev layer_count : Cond-F Cond Block → ℕ
layer_count layer = entries_step (map-Cond Cond Block ℕ ℕ count_entries count_block layer)

count_out : (cond : Cond) → count_entries cond ≡ layer_count (out-Cond cond)
count_out cond = fold_out-Cond ℕ ℕ entries_step block_step cond

pub count_and : (parts : List Cond) → count_entries (c.And parts) ≡ sum_by count_entries parts
count_and parts = count_out (c.And parts) ∙ (ap layer_count (c.outs-And parts) ∙ sum-map count_entries parts)

pub count_or : (parts : List Cond) → count_entries (c.Or parts) ≡ sum_by count_entries parts
count_or parts = count_out (c.Or parts) ∙ (ap layer_count (c.outs-Or parts) ∙ sum-map count_entries parts)
