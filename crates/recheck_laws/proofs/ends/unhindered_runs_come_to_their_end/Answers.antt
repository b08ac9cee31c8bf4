use Rattle.recheck_laws.proofs.Unhindered.{no_stop}
use Rattle.recheck_laws.proofs.ends.unhindered_runs_come_to_their_end.Goals as goal

pub returns : goal.returns
returns c = λ held wanted before now old new run stop ends files calm.
    no_stop c.every_schema_text_has_one_reading.ensures.apart c.files_have_one_reading.ensures.refused held wanted before now old new run stop ends files calm
