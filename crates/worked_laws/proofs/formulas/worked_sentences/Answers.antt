use Rattle.sort_formula.proofs.Fitting.{bound_atom, bound_exists, fits_atom, fits_exists}
use Rattle.worked_laws.specs.FormulaExamples.{mixed}
use Rattle.worked_laws.proofs.formulas.worked_sentences.Goals as goal

pub returns-clause-greatest : goal.returns-clause-greatest
returns-clause-greatest c = simp (bound_exists, bound_atom)

pub returns-clause-above : goal.returns-clause-above
returns-clause-above c = simp (bound_exists, bound_atom)

pub returns-clause-least : goal.returns-clause-least
returns-clause-least c = simp (bound_exists, bound_atom)

pub returns-clause-below : goal.returns-clause-below
returns-clause-below c = simp (bound_exists, bound_atom)

pub returns-clause-one_table : goal.returns-clause-one_table
returns-clause-one_table c = simp (bound_exists, bound_atom)

pub returns-clause-two_tables : goal.returns-clause-two_tables
returns-clause-two_tables c = simp (bound_exists, bound_atom)

pub returns-clause-numbers : goal.returns-clause-numbers
returns-clause-numbers c = simp (fits_exists mixed, fits_atom mixed)

pub returns-clause-texts : goal.returns-clause-texts
returns-clause-texts c = simp (fits_exists mixed, fits_atom mixed)

pub returns-clause-no_table : goal.returns-clause-no_table
returns-clause-no_table c = simp (fits_exists mixed, fits_atom mixed)
