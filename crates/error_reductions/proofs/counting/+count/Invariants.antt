use Rattle.std.proofs.Common.{◌≡◌, ◌+◌, ◌-◌, ◌^◌, ◌≤◌, drop, min}
use Rattle.std.specs.List.{sum_by}
use Rattle.lint_core.specs.inner.Counts.{count_scalars, count_not_ins, count_predicates}
use Rattle.error_reductions.proofs.counting.+count.Given as goal

-- what is counted, and those that are left
abbrev pub invariant-count_all-loop-cond : goal.invariant-count_all-loop-cond
invariant-count_all-loop-cond l = record {
  scalars_within : l.all.scalars ≤ 2 ^ 32 - 1;
  not_ins_within : l.all.not_ins ≤ 2 ^ 32 - 1;
  predicates_within : l.all.predicates ≤ 2 ^ 32 - 1;
  scalars : min (l.all.scalars + sum_by count_scalars (drop l.cond-index l.conds)) (2 ^ 32 - 1) ≡ min (sum_by count_scalars l.conds) (2 ^ 32 - 1);
  not_ins : min (l.all.not_ins + sum_by count_not_ins (drop l.cond-index l.conds)) (2 ^ 32 - 1) ≡ min (sum_by count_not_ins l.conds) (2 ^ 32 - 1);
  predicates : min (l.all.predicates + sum_by count_predicates (drop l.cond-index l.conds)) (2 ^ 32 - 1) ≡ min (sum_by count_predicates l.conds) (2 ^ 32 - 1);
}
