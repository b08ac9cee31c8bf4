use Rattle.std.proofs.Common.{◌≡◌, ◌≤◌, ◌*◌, ◌-◌, ◌^◌, length, drop, min}
use Rattle.sorted_skolem.specs.Terms.{term_lists}
use Rattle.instantiate.proofs.rows.count_lists.Given as goal

abbrev pub invariant-loop-table : goal.invariant-loop-table
invariant-loop-table l = record {
  within : l.count ≤ 2 ^ 64 - 1;
  whole : min (l.count * length (term_lists l.terms (drop l.table-index l.tables))) (2 ^ 64 - 1) ≡ min (length (term_lists l.terms l.tables)) (2 ^ 64 - 1);
}
