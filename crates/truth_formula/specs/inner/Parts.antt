-- What the parts of the code write. Nothing here has to be believed: no public contract says it.
use Rattle.std.specs.Prelude.{ℕ, Bool, true, false, List, [], ◌∷◌}
use Rattle.lint_core.specs.declared.condition.Block.{Block, fold-Block}
use Rattle.lint_core.specs.declared.condition.Term.{Term}
use Rattle.lint_core.specs.declared.schema.Table.{Table}
use Rattle.lint_tables.specs.declared.op.Op.{Op}
use Rattle.sort_formula.specs.declared.formula.Formula.{Formula}
use Rattle.sort_formula.specs.declared.formula.Formula.TheVariants as f
use Rattle.sort_formula.specs.Negated.{negated}
use Rattle.lint_core.specs.declared.scope.Scope.{Scope}
use Rattle.sort_formula.specs.Sides.{compare_formula}
use Rattle.sort_formula.specs.Translation as translation
use Rattle.sort_formula.specs.Translation.{Both, Meaning, BlockMeaning, inside, inner_true, exist_rows, for_all_rows}
use Rattle.truth_formula.specs.Scopes.{entries_step, block_step}

-- one of the two formulas
abbrev pub chosen : Bool → Both → Formula
chosen true both = both.true
chosen false both = both.false

-- And, or Or
abbrev pub joined : Bool → List Formula → Formula
joined true parts = f.And parts
joined false parts = f.Or parts

-- one quantifier for each table, in order
abbrev pub quantified : Bool → List ℕ → Formula → Formula
quantified true tables body = exist_rows tables body
quantified false tables body = for_all_rows tables body

-- how many FROM entries a block has, with those of its subqueries
abbrev pub count_block : Block → ℕ
count_block = fold-Block ℕ ℕ entries_step block_step

abbrev pub block_translation : List Table → Block → BlockMeaning
block_translation schema = fold-Block Meaning BlockMeaning (translation.translation_step schema) (translation.block_step schema)

module _ (schema : List Table) (scope : Scope) where
  -- some row of the block's compares so
  abbrev pub some_row : Op → Term → BlockMeaning → Term → Formula
  some_row op left block item =
      exist_rows block.own (f.And (inner_true schema block scope ∷ compare_formula schema (inside scope block.own) op left item ∷ []))

  -- each row is none of the block's or compares so
  abbrev pub every_row : Op → Term → BlockMeaning → Term → Formula
  every_row op left block item =
      for_all_rows block.own (f.Or (negated (inner_true schema block scope) ∷ compare_formula schema (inside scope block.own) op left item ∷ []))
