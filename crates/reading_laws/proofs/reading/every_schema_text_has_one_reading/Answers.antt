use Rattle.reading_laws.proofs.Readings.{schema_read, one_schema_read, schema_or_refusal, one_schema_refusal}
use Rattle.reading_laws.proofs.reading.every_schema_text_has_one_reading.Goals as goal

pub returns : goal.returns
returns c = record { some = schema_read; one = one_schema_read; apart = schema_or_refusal; one_refusal = one_schema_refusal }
