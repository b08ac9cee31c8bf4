use Rattle.std.proofs.Common.{◌-◌, ◌^◌, arith}
use Rattle.sort_formula.specs.Counters.{counter_sentence}
use Rattle.sort_formula.specs.Translation.{is_true_formula, is_false_formula}
use Rattle.truth_laws.proofs.Bound.{range_is_within}
use Rattle.counter_forms.proofs.Bounded.{counter_in_range}
use Rattle.counter_forms.proofs.Ranges.{condition_in_range}
use Rattle.counter_forms.proofs.sentences.small_numbers_give_small_bounds.Goals as goal

pub returns-clause-says_true : goal.returns-clause-says_true
returns-clause-says_true c = λ schema cond scope small.
    range_is_within (2 ^ 64 - 1) (2 ^ 64) (omega arith) (is_true_formula schema cond scope) (condition_in_range schema cond small scope).0

pub returns-clause-says_false : goal.returns-clause-says_false
returns-clause-says_false c = λ schema cond scope small.
    range_is_within (2 ^ 64 - 1) (2 ^ 64) (omega arith) (is_false_formula schema cond scope) (condition_in_range schema cond small scope).1

pub returns-clause-counter : goal.returns-clause-counter
returns-clause-counter c = λ schema query question given small within.
    range_is_within (2 ^ 64 - 1) (2 ^ 64) (omega arith) (counter_sentence schema query question given) (counter_in_range schema query small question given within)
