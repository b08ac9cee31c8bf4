use Rattle.lint_engine.proofs.laws.accepted_questions_hold.Goals as goal

pub returns : goal.returns
returns c = λ schema right query fits question is_asked given steps accepted.
    c.question_holds_where_the_sentence_fails.ensures.everywhere schema query fits question is_asked given
    (c.accepted_sentence_fails.ensures schema right _ steps accepted)
