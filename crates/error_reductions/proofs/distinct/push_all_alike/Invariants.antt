use Rattle.std.proofs.Common.{◌≡◌, ◌++◌, drop, map}
use Rattle.std.specs.List.{filter}
use Rattle.lint_core.specs.Subqueries.{is_column}
use Rattle.lint_core.specs.declared.query.Item.{Item}
use Rattle.sort_formula.specs.Counters.{not_distinct}
use Rattle.error_reductions.proofs.distinct.push_all_alike.Given as goal

abbrev pub invariant-loop-item : goal.invariant-loop-item
invariant-loop-item l =
    let alike = λ (i : Item). not_distinct l.schema l.one i.term l.two i.term in
    let columns = filter (λ (i : Item). is_column i.term) in
    l.parts ++ map alike (columns (drop l.item-index l.items)) ≡ l.initial.parts ++ map alike (columns l.items)
