-- Conditions and values whose numbers have 64 bits, with a sign, as those of the program have.
use Rattle.std.specs.Prelude.{◌-◌, ◌^◌, ℤ, pos, neg_ℤ, Bool, true, ◌&&◌}
use Rattle.std.specs.List.{list_all}
use Rattle.lint_core.specs.declared.condition.Cond.{Cond, fold-Cond}
use Rattle.lint_core.specs.declared.condition.Cond.TheOpen.{Cond-F}
use Rattle.lint_core.specs.declared.condition.Term.{Term}
use Rattle.lint_core.specs.declared.condition.Term.TheVariants as term
use Rattle.lint_core.specs.declared.database.Value.{Value}
use Rattle.lint_core.specs.declared.database.Value.TheVariants as value
use Rattle.lint_core.specs.Domain.{int_le}

-- from -2^63 to 2^63 - 1
abbrev pub is_small : ℤ → Bool
is_small n = int_le (neg_ℤ (pos (2 ^ 63))) n && int_le n (pos (2 ^ 63 - 1))

-- the number itself, or what is added to a column
abbrev pub term_is_small : Term → Bool
term_is_small (term.Cell level entry column added) = is_small added
term_is_small (term.Number number unit) = is_small number
term_is_small (term.Text text) = true
term_is_small term.Null = true

-- one layer, from the same of its parts; IS NULL compares nothing
abbrev pub small_step : Cond-F Bool Bool → Bool
small_step Cond-F.True = true
small_step Cond-F.False = true
small_step (Cond-F.And parts) = list_all (λ part. part) parts
small_step (Cond-F.Or parts) = list_all (λ part. part) parts
small_step (Cond-F.Not part) = part
small_step (Cond-F.Compare op left right span) = term_is_small left && term_is_small right
small_step (Cond-F.IsNull t negated span) = true
small_step (Cond-F.Exists block span) = block
small_step (Cond-F.In t block item negated span) = term_is_small t && term_is_small item && block
small_step (Cond-F.Scalar op left block item span) = term_is_small left && term_is_small item && block

-- each number that is compared, or added to what is compared
abbrev pub has_small_numbers : Cond → Bool
has_small_numbers = fold-Cond Bool Bool small_step (λ block. block.cond)

abbrev pub value_is_small : Value → Bool
value_is_small value.Null = true
value_is_small (value.Int number) = is_small number
value_is_small (value.Text text) = true
