-- What the formulas of a comparison are.
use Rattle.std.proofs.Common.{◌≡◌, ◌∙◌, ap, List}
use Rattle.lint_base.specs.declared.place.Span.{Span}
use Rattle.lint_tables.specs.declared.op.Op.{Op}
use Rattle.lint_core.specs.declared.condition.Term.{Term}
use Rattle.lint_core.specs.declared.condition.Cond.{Cond, out-Cond, fold_out-Cond, map-Cond}
use Rattle.lint_core.specs.declared.condition.Cond.TheVariants as c
use Rattle.lint_core.specs.declared.condition.Cond.TheOpen.{Cond-F}
use Rattle.lint_core.specs.declared.condition.Block.{Block, fold-Block}
use Rattle.lint_core.specs.declared.schema.Table.{Table}
use Rattle.lint_core.specs.declared.scope.Scope.{Scope}
use Rattle.sort_formula.specs.Sides.{everything, nothing, compare_formula, compare_false_formula}
use Rattle.sort_formula.specs.Translation.{Meaning, BlockMeaning, translation, translation_step, block_step}

module _ (schema : List Table) where
  abbrev block_translation : Block → BlockMeaning
  block_translation = fold-Block Meaning BlockMeaning (translation_step schema) (block_step schema)

  abbrev layer_translation : Cond-F Cond Block → Meaning
  layer_translation layer = translation_step schema (map-Cond Cond Block Meaning BlockMeaning (translation schema) block_translation layer)

  pub translation_out : (cond : Cond) → translation schema cond ≡ layer_translation (out-Cond cond)
  translation_out cond = fold_out-Cond Meaning BlockMeaning (translation_step schema) (block_step schema) cond

  pub translation_compare : (op : Op) (left right : Term) (span : Span) (scope : Scope) →
      translation schema (c.Compare op left right span) scope ≡ record { true = compare_formula schema scope op left right; false = compare_false_formula schema scope op left right }
  translation_compare op left right span scope =
      ap (λ m. m scope) (translation_out (c.Compare op left right span) ∙ ap layer_translation (c.outs-Compare op left right span))

  pub translation_true : (scope : Scope) → translation schema c.True scope ≡ record { true = everything; false = nothing }
  translation_true scope = ap (λ m. m scope) (translation_out c.True ∙ ap layer_translation c.outs-True)
