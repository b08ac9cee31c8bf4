use Rattle.meaning_laws.proofs.Candidates.{asked_is_listed, listed_is_asked}
use Rattle.meaning_laws.proofs.asking.asked_questions_are_listed.Goals as goal

pub returns-clause-listed : goal.returns-clause-listed
returns-clause-listed c = λ schema query question asked. asked_is_listed query schema question asked

pub returns-clause-asked : goal.returns-clause-asked
returns-clause-asked c = λ schema query question listed. listed_is_asked query schema question listed
