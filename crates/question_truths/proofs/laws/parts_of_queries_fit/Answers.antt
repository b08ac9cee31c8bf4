use Rattle.lint_base.proofs.Lists.{every_at}
use Rattle.lint_core.specs.Asked.{main_condition, scalars_of, not_ins_of}
use Rattle.lint_core.specs.Fits.{main_tables}
use Rattle.question_truths.proofs.FitInside.{SubFits, inside_fit, main_fits}
use Rattle.question_truths.proofs.laws.parts_of_queries_fit.Goals as goal

pub returns-clause-tables : goal.returns-clause-tables
returns-clause-tables c = λ schema query fits. (main_fits schema query fits).0

pub returns-clause-condition : goal.returns-clause-condition
returns-clause-condition c = λ schema query fits. (main_fits schema query fits).1

pub returns-clause-scalars : goal.returns-clause-scalars
returns-clause-scalars c = λ schema query number sub fits at.
    let main = main_fits schema query fits in
    every_at (SubFits schema) (scalars_of query) number sub (inside_fit schema (main_condition query) (main_tables query) main.0 main.1).0 at

pub returns-clause-not_ins : goal.returns-clause-not_ins
returns-clause-not_ins c = λ schema query number sub fits at.
    let main = main_fits schema query fits in
    every_at (SubFits schema) (not_ins_of query) number sub (inside_fit schema (main_condition query) (main_tables query) main.0 main.1).1 at
