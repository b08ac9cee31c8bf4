-- Which entries of the main FROM list a condition names, also inside its subqueries, and whether it has a scalar
-- subquery at any depth.
use Rattle.std.specs.Prelude.{ℕ, Bool, true, false, ◌&&◌, ◌||◌, nat_eq}
use Rattle.std.specs.List.{list_any}
use Rattle.lint_core.specs.declared.condition.Term.{Term}
use Rattle.lint_core.specs.declared.condition.Term.TheVariants as term
use Rattle.lint_core.specs.declared.condition.Cond.{Cond, fold-Cond}
use Rattle.lint_core.specs.declared.condition.Cond.TheOpen.{Cond-F}

module _ (entry : ℕ) where
  -- a column of that entry of level 0
  abbrev pub term_names : Term → Bool
  term_names (term.Cell level of_entry column added) = nat_eq level 0 && nat_eq of_entry entry
  term_names (term.Number value unit) = false
  term_names (term.Text text) = false
  term_names term.Null = false

  abbrev pub names_step : Cond-F Bool Bool → Bool
  names_step Cond-F.True = false
  names_step Cond-F.False = false
  names_step (Cond-F.And parts) = list_any (λ part. part) parts
  names_step (Cond-F.Or parts) = list_any (λ part. part) parts
  names_step (Cond-F.Not part) = part
  names_step (Cond-F.Compare op left right span) = term_names left || term_names right
  names_step (Cond-F.IsNull t negated span) = term_names t
  names_step (Cond-F.Exists block span) = block
  names_step (Cond-F.In t block item negated span) = term_names t || term_names item || block
  names_step (Cond-F.Scalar op left block item span) = term_names left || term_names item || block

  -- the condition names the entry
  abbrev pub names : Cond → Bool
  names = fold-Cond Bool Bool names_step (λ block. block.cond)

abbrev pub scalar_step : Cond-F Bool Bool → Bool
scalar_step Cond-F.True = false
scalar_step Cond-F.False = false
scalar_step (Cond-F.And parts) = list_any (λ part. part) parts
scalar_step (Cond-F.Or parts) = list_any (λ part. part) parts
scalar_step (Cond-F.Not part) = part
scalar_step (Cond-F.Compare op left right span) = false
scalar_step (Cond-F.IsNull t negated span) = false
scalar_step (Cond-F.Exists block span) = block
scalar_step (Cond-F.In t block item negated span) = block
scalar_step (Cond-F.Scalar op left block item span) = true

abbrev pub has_scalar : Cond → Bool
has_scalar = fold-Cond Bool Bool scalar_step (λ block. block.cond)
