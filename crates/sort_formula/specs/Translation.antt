-- Conditions as formulas: one that holds exactly where the condition is true, and one that holds exactly where it
-- is false, in databases of the domains and at bindings where it has a truth. SQL's third truth value is where
-- neither holds.
use Rattle.std.specs.Prelude.{ℕ, ◌+◌, Bool, List, [], ◌∷◌, ◌++◌, length, map, if◌then◌else◌}
use Rattle.lint_tables.specs.declared.op.Op.{Op}
use Rattle.lint_tables.specs.declared.op.Op.TheVariants.{Eq}
use Rattle.lint_core.specs.declared.condition.Cond.{Cond, fold-Cond}
use Rattle.lint_core.specs.declared.condition.Cond.TheOpen.{Cond-F, Block-F}
use Rattle.lint_core.specs.declared.condition.Term.{Term}
use Rattle.lint_core.specs.declared.schema.Table.{Table}
use Rattle.lint_core.specs.Fits.{tables_of}
use Rattle.sort_formula.specs.declared.formula.Formula.{Formula}
use Rattle.sort_formula.specs.declared.formula.Formula.TheVariants as f
use Rattle.sort_formula.specs.Negated.{negated}
use Rattle.lint_core.specs.declared.scope.Scope.{Scope}
use Rattle.sort_formula.specs.Sides.{from_number, everything, nothing, compare_formula, compare_false_formula, is_null_formula, not_null_formula}

-- the formulas of a condition
pub record Both : Type 0 where
  pub true : Formula
  pub false : Formula

abbrev pub swapped_if : Bool → Both → Both
swapped_if negated both = if negated then record { true = both.false; false = both.true } else both

-- one quantifier for each table, in order
abbrev pub exist_rows : List ℕ → Formula → Formula
exist_rows [] body = body
exist_rows (table ∷ tables) body = f.Exists table (exist_rows tables body)

abbrev pub for_all_rows : List ℕ → Formula → Formula
for_all_rows [] body = body
for_all_rows (table ∷ tables) body = f.Forall table (for_all_rows tables body)

-- one more level, whose entries are bound by the next quantifiers
abbrev pub inside : Scope → List ℕ → Scope
inside scope own = record {
  levels = scope.levels ++ from_number scope.depth (length own) ∷ [];
  tables = scope.tables ++ own ∷ [];
  depth = scope.depth + length own;
}

abbrev pub Meaning : Type 0
Meaning = Scope → Both

-- the tables of a block's entries, and its condition
pub record BlockMeaning : Type 0 where
  pub own : List ℕ
  pub cond : Meaning

module _ (schema : List Table) where
  -- what the subquery's condition says inside
  abbrev pub inner_true : BlockMeaning → Scope → Formula
  inner_true block scope = (block.cond (inside scope block.own)).true

  -- EXISTS
  abbrev pub exists_both : BlockMeaning → Scope → Both
  exists_both block scope = record {
    true = exist_rows block.own (inner_true block scope);
    false = for_all_rows block.own (negated (inner_true block scope));
  }

  -- IN: some row of the subquery's equals; each row is none of the subquery's or differs
  abbrev pub in_both : Term → BlockMeaning → Term → Scope → Both
  in_both left block item scope = record {
    true = exist_rows block.own (f.And (inner_true block scope ∷ compare_formula schema (inside scope block.own) Eq left item ∷ []));
    false = for_all_rows block.own (f.Or (negated (inner_true block scope) ∷ compare_false_formula schema (inside scope block.own) Eq left item ∷ []));
  }

  -- a scalar subquery: the one row of the subquery's compares so
  abbrev pub scalar_both : Op → Term → BlockMeaning → Term → Scope → Both
  scalar_both op left block item scope = record {
    true = exist_rows block.own (f.And (inner_true block scope ∷ compare_formula schema (inside scope block.own) op left item ∷ []));
    false = exist_rows block.own (f.And (inner_true block scope ∷ compare_false_formula schema (inside scope block.own) op left item ∷ []));
  }

  -- one layer of a condition, from those of its parts
  abbrev pub translation_step : Cond-F Meaning BlockMeaning → Meaning
  translation_step Cond-F.True scope = record { true = everything; false = nothing }
  translation_step Cond-F.False scope = record { true = nothing; false = everything }
  translation_step (Cond-F.And parts) scope = record { true = f.And (map (λ part. (part scope).true) parts); false = f.Or (map (λ part. (part scope).false) parts) }
  translation_step (Cond-F.Or parts) scope = record { true = f.Or (map (λ part. (part scope).true) parts); false = f.And (map (λ part. (part scope).false) parts) }
  translation_step (Cond-F.Not part) scope = record { true = (part scope).false; false = (part scope).true }
  translation_step (Cond-F.Compare op left right span) scope =
      record { true = compare_formula schema scope op left right; false = compare_false_formula schema scope op left right }
  translation_step (Cond-F.IsNull t negated span) scope =
      swapped_if negated (record { true = is_null_formula schema scope t; false = not_null_formula schema scope t })
  translation_step (Cond-F.Exists block span) scope = exists_both block scope
  translation_step (Cond-F.In t block item negated span) scope = swapped_if negated (in_both t block item scope)
  translation_step (Cond-F.Scalar op left block item span) scope = scalar_both op left block item scope

  abbrev pub block_step : Block-F Meaning BlockMeaning → BlockMeaning
  block_step block = record { own = tables_of block.entries; cond = block.cond }

  abbrev pub translation : Cond → Meaning
  translation = fold-Cond Meaning BlockMeaning translation_step block_step

  -- holds where the condition is true; where it is false
  abbrev pub is_true_formula : Cond → Scope → Formula
  is_true_formula cond scope = (translation cond scope).true

  abbrev pub is_false_formula : Cond → Scope → Formula
  is_false_formula cond scope = (translation cond scope).false
