use Rattle.std.proofs.Common.{◌≡◌, ◌+◌, true, length}
use Rattle.case_split.specs.Fitting.{are_fit, have_few_ways}
use Rattle.worked_searches.specs.Lists.{one_number}
use Rattle.worked_searches.proofs.lists.add_free_choices.Given as goal

abbrev pub invariant-loop-number : goal.invariant-loop-number
invariant-loop-number l =
    (are_fit one_number l.clauses ≡ true) × (have_few_ways l.clauses ≡ true) × (length l.clauses ≡ length l.initial.clauses + l.number)
