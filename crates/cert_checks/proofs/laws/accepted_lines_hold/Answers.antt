use Rattle.cert_checks.proofs.Accepted.{proved_lines}
use Rattle.cert_checks.proofs.laws.accepted_lines_hold.Goals as goal

pub returns : goal.returns
returns c = λ schema right queries are certs.
    proved_lines schema
    (λ query fits question is_asked given steps accepted.
    c.question_holds_where_the_sentence_fails.ensures.everywhere schema query fits question is_asked given
    (c.accepted_sentence_fails.ensures schema right _ steps accepted))
    queries are c.wrong_steps_are_numbered.ensures.accepted c.always_means.ensures.means certs
