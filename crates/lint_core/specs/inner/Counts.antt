-- How many scalar subqueries, NOT IN subqueries that select a column, and predicates a condition has, layer by
-- layer: the lengths of the lists in `Subqueries` and `Predicates`.
use Rattle.std.specs.Prelude.{ℕ, ◌+◌, ◌&&◌, sum, if◌then◌else◌}
use Rattle.lint_core.specs.declared.condition.Cond.{Cond, fold-Cond}
use Rattle.lint_core.specs.declared.condition.Cond.TheOpen.{Cond-F}
use Rattle.lint_core.specs.Subqueries.{is_column}

abbrev pub scalars_step : Cond-F ℕ ℕ → ℕ
scalars_step Cond-F.True = 0
scalars_step Cond-F.False = 0
scalars_step (Cond-F.And parts) = sum parts
scalars_step (Cond-F.Or parts) = sum parts
scalars_step (Cond-F.Not part) = part
scalars_step (Cond-F.Compare op left right span) = 0
scalars_step (Cond-F.IsNull t negated span) = 0
scalars_step (Cond-F.Exists block span) = block
scalars_step (Cond-F.In t block item negated span) = block
scalars_step (Cond-F.Scalar op left block item span) = block + 1

abbrev pub count_scalars : Cond → ℕ
count_scalars = fold-Cond ℕ ℕ scalars_step (λ block. block.cond)

abbrev pub not_ins_step : Cond-F ℕ ℕ → ℕ
not_ins_step Cond-F.True = 0
not_ins_step Cond-F.False = 0
not_ins_step (Cond-F.And parts) = sum parts
not_ins_step (Cond-F.Or parts) = sum parts
not_ins_step (Cond-F.Not part) = part
not_ins_step (Cond-F.Compare op left right span) = 0
not_ins_step (Cond-F.IsNull t negated span) = 0
not_ins_step (Cond-F.Exists block span) = block
not_ins_step (Cond-F.In t block item negated span) = (if negated && is_column item then 1 else 0) + block
not_ins_step (Cond-F.Scalar op left block item span) = block

abbrev pub count_not_ins : Cond → ℕ
count_not_ins = fold-Cond ℕ ℕ not_ins_step (λ block. block.cond)

abbrev pub predicates_step : Cond-F ℕ ℕ → ℕ
predicates_step Cond-F.True = 0
predicates_step Cond-F.False = 0
predicates_step (Cond-F.And parts) = sum parts
predicates_step (Cond-F.Or parts) = sum parts
predicates_step (Cond-F.Not part) = part
predicates_step (Cond-F.Compare op left right span) = 1
predicates_step (Cond-F.IsNull t negated span) = 1
predicates_step (Cond-F.Exists block span) = block + 1
predicates_step (Cond-F.In t block item negated span) = block + 1
predicates_step (Cond-F.Scalar op left block item span) = 1

abbrev pub count_predicates : Cond → ℕ
count_predicates = fold-Cond ℕ ℕ predicates_step (λ block. block.cond)
