use Rattle.reading_laws.proofs.Readings.{query_read, one_query_read, query_or_refusal, one_query_refusal}
use Rattle.reading_laws.proofs.reading.every_query_text_has_one_reading.Goals as goal

pub returns : goal.returns
returns c = record { some = query_read; one = one_query_read; apart = query_or_refusal; one_refusal = one_query_refusal }
