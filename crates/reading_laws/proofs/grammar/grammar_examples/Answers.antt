use Rattle.reading_laws.proofs.GrammarExamples as e
use Rattle.reading_laws.proofs.GrammarRefused.{not_not_refused}
use Rattle.reading_laws.proofs.grammar.grammar_examples.Goals as goal

pub returns : goal.returns
returns c = record {
  or = e.or_spelled;
  equation = e.equation_spelled;
  parenthesized = e.parenthesized_spelled;
  not_in = e.not_in_spelled;
  sum = e.sum_spelled;
  exists = e.exists_spelled;
  scalar = e.scalar_spelled;
  not_not = not_not_refused;
  query = e.query_spelled;
  table = e.table_spelled;
  schema = e.schema_spelled;
}
