use Rattle.sql_lex.proofs.RunLemmas.{comment_ended, comment_unended}
use Rattle.sql_lex.proofs.classes.comment_len.Goals as goal

pub returns-in-Some-clause-to_come : goal.returns-in-Some-clause-to_come
returns-in-Some-clause-to_come c = λ solid at. comment_ended c.args.text.now c.in-Some.at solid at c.in-Some.ensures

pub returns-in-None-clause-to_come : goal.returns-in-None-clause-to_come
returns-in-None-clause-to_come c = λ solid at. comment_unended c.args.text.now solid at c.in-None.ensures
