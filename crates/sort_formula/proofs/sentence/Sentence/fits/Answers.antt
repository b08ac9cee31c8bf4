use Rattle.sort_formula.proofs.Standing.{tables_nothing}
use Rattle.sort_formula.proofs.sentence.Sentence.fits.Goals as goal

pub returns : goal.returns
returns c =
    let none = tables_nothing in
    cc
