use Rattle.truth_laws.proofs.Truthful.{says}
use Rattle.truth_laws.proofs.truths.formulas_say_truth.Goals as goal

pub returns-clause-says_true : goal.returns-clause-says_true
returns-clause-says_true c = λ schema db domains cond scope fits binding rows stands t known. (says schema db domains cond scope fits binding rows stands t known).0

pub returns-clause-says_false : goal.returns-clause-says_false
returns-clause-says_false c = λ schema db domains cond scope fits binding rows stands t known. (says schema db domains cond scope fits binding rows stands t known).1
