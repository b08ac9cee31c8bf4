use Rattle.lint_run.proofs.Keeping.{ended}
use Rattle.lint_run.proofs.kept.runs_keep_their_word.Goals as goal

pub returns : goal.returns
returns c = λ files wanted before now old new run stop is end.
    ended c.right_answers_keep_their_word.ensures c.accepted_lines_hold.ensures files wanted before now old new run stop is end
