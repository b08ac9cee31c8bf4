use Rattle.std.proofs.Common.{◌≡◌, drop}
use Rattle.std.specs.List.{list_all}
use Rattle.counter_forms.specs.SmallNumbers.{has_small_numbers}
use Rattle.counter_forms.proofs.numbers.+small.Given as goal

-- all so far have small numbers
abbrev pub invariant-all_have_small_numbers-loop-cond : goal.invariant-all_have_small_numbers-loop-cond
invariant-all_have_small_numbers-loop-cond l = list_all has_small_numbers (drop l.cond-index l.conds) ≡ list_all has_small_numbers l.conds
