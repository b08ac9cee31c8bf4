use Rattle.counter_forms.proofs.Counted.{PartsFit, counter_formed}
use Rattle.counter_forms.proofs.sentences.asked_sentences_fit.Goals as goal

pub returns : goal.returns
returns c = λ schema query question given fits asked.
    let laws = c.parts_of_queries_fit.ensures in
    let parts : PartsFit schema query = record {
      tables = laws.tables schema query fits;
      condition = laws.condition schema query fits;
      scalars = λ number sub at. laws.scalars schema query number sub fits at;
      not_ins = λ number sub at. laws.not_ins schema query number sub fits at;
    } in
    (counter_formed schema query fits parts question given asked).fits
