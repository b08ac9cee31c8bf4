use Rattle.std.proofs.Common.{◌-◌, ◌^◌, arith}
use Rattle.sort_formula.specs.Counters.{counter_sentence}
use Rattle.truth_laws.proofs.Bound.{range_is_within}
use Rattle.counter_forms.proofs.Bounded.{counter_in_range}
use Rattle.counter_forms.proofs.Counted.{PartsFit, counter_formed}
use Rattle.counter_forms.proofs.sentences.asked_sentences_are_sentences.Goals as goal

pub returns-clause-moderate : goal.returns-clause-moderate
returns-clause-moderate c = λ schema query question given fits asked low.
    let laws = c.parts_of_queries_fit.ensures in
    let parts : PartsFit schema query = record {
      tables = laws.tables schema query fits;
      condition = laws.condition schema query fits;
      scalars = λ number sub at. laws.scalars schema query number sub fits at;
      not_ins = λ number sub at. laws.not_ins schema query number sub fits at;
    } in
    (counter_formed schema query fits parts question given asked).bound low

pub returns-clause-small : goal.returns-clause-small
returns-clause-small c = λ schema query question given fits asked small within.
    returns-clause-moderate c schema query question given fits asked
    (range_is_within (2 ^ 64 - 1) (2 ^ 66) (omega arith) (counter_sentence schema query question given) (counter_in_range schema query small question given within))
