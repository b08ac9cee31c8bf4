-- What the two calls take: a scope in which each entry has a variable, and room for the quantifiers of subqueries.
use Rattle.std.specs.Prelude.{ℕ, ◌+◌, ◌^◌, ◌<◌, ◌≡◌, true, List, length, map, nat_lt, sum}
use Rattle.std.specs.List.{list_all}
use Rattle.lint_core.specs.declared.condition.Cond.{Cond, fold-Cond}
use Rattle.lint_core.specs.declared.condition.Cond.TheOpen.{Cond-F, Block-F}
use Rattle.lint_core.specs.declared.schema.Table.{Table}
use Rattle.lint_core.specs.Fits.{cond_fits}
use Rattle.lint_core.specs.declared.scope.Scope.{Scope}

-- how many FROM entries the subqueries of a condition have, at any depth
abbrev pub entries_step : Cond-F ℕ ℕ → ℕ
entries_step Cond-F.True = 0
entries_step Cond-F.False = 0
entries_step (Cond-F.And parts) = sum parts
entries_step (Cond-F.Or parts) = sum parts
entries_step (Cond-F.Not part) = part
entries_step (Cond-F.Compare op left right span) = 0
entries_step (Cond-F.IsNull t negated span) = 0
entries_step (Cond-F.Exists block span) = block
entries_step (Cond-F.In t block item negated span) = block
entries_step (Cond-F.Scalar op left block item span) = block

abbrev pub block_step : Block-F ℕ ℕ → ℕ
block_step block = length block.entries + block.cond

abbrev pub count_entries : Cond → ℕ
count_entries = fold-Cond ℕ ℕ entries_step block_step

-- the condition fits the scope's tables, each entry has a variable below the depth, and row variables below 2^32
-- suffice for its subqueries
pub record CanStand (schema : List Table) (cond : Cond) (scope : Scope) : Type 0 where
  pub fits : cond_fits schema scope.tables cond ≡ true
  pub variables : map length scope.levels ≡ map length scope.tables
  pub below : list_all (λ level. list_all (λ variable. nat_lt variable scope.depth) level) scope.levels ≡ true
  pub room : scope.depth + count_entries cond < 2 ^ 32
