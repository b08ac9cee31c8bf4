use Rattle.verdict_laws.proofs.Kept.{kept}
use Rattle.verdict_laws.proofs.laws.right_answers_keep_their_word.Goals as goal

pub returns : goal.returns
returns c = λ schema query number budget answers are. kept schema query number budget answers are c.always_means.ensures.means
