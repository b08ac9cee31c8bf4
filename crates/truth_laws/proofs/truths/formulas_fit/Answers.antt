use Rattle.truth_laws.proofs.Fits.{cond_fits}
use Rattle.truth_laws.proofs.truths.formulas_fit.Goals as goal

pub returns-clause-says_true : goal.returns-clause-says_true
returns-clause-says_true c = λ schema cond scope fit lengths outside depth main inner.
    (cond_fits schema cond scope outside fit (record { lengths = lengths; depth = depth; main = main; inner = inner })).0

pub returns-clause-says_false : goal.returns-clause-says_false
returns-clause-says_false c = λ schema cond scope fit lengths outside depth main inner.
    (cond_fits schema cond scope outside fit (record { lengths = lengths; depth = depth; main = main; inner = inner })).1
