use Rattle.std.proofs.Common.{subst}
use Rattle.lint_run.specs.Text.{certs_of}
use Rattle.recheck_laws.specs.Rechecked.{AreAllAccepted}
use Rattle.recheck_laws.proofs.Together.{rechecked}
use Rattle.recheck_laws.proofs.laws.written_certificates_are_accepted.Goals as goal

pub returns-clause-certs : goal.returns-clause-certs
returns-clause-certs c = rechecked c.right_answers_keep_their_word.ensures c.wrong_steps_are_numbered.ensures.accepted c.every_query_text_has_one_reading.ensures.one c.every_query_text_has_one_reading.ensures.apart

pub returns-clause-file : goal.returns-clause-file
returns-clause-file c = λ schema text budget form path queries again right too bytes certs written read.
    subst (AreAllAccepted schema again) (c.files_have_one_reading.ensures.certs bytes (certs_of queries) certs written read)
    (rechecked c.right_answers_keep_their_word.ensures c.wrong_steps_are_numbered.ensures.accepted c.every_query_text_has_one_reading.ensures.one c.every_query_text_has_one_reading.ensures.apart
    schema text budget form path queries again right too)
