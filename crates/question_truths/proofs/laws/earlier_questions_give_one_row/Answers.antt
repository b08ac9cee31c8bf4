use Rattle.std.proofs.Common.{subst}
use Rattle.std.specs.List.{AllByRecursion}
use Rattle.lint_base.proofs.Lists.{every_at}
use Rattle.lint_core.specs.Asked.{main_condition, not_ins_of}
use Rattle.lint_core.specs.Conjuncts.{conjuncts}
use Rattle.lint_core.specs.Fits.{main_tables}
use Rattle.lint_core.specs.Subqueries.{scalar_subqueries}
use Rattle.lint_core.proofs.Parted.{scalars_and}
use Rattle.question_truths.specs.AtMostOne.{GivesAtMostOneRow}
use Rattle.question_truths.proofs.Conjuncts.{of_conjuncts}
use Rattle.question_truths.proofs.Decided.{all_give, those_inside_give}
use Rattle.question_truths.proofs.Every.{every_of}
use Rattle.question_truths.proofs.Listed.{PassesInside, not_ins_pass}
use Rattle.question_truths.proofs.Replaced.{still_pass}
use Rattle.question_truths.proofs.laws.earlier_questions_give_one_row.Goals as goal

pub returns-clause-condition : goal.returns-clause-condition
returns-clause-condition c = λ db query hold. all_give db query hold

pub returns-clause-of_scalar : goal.returns-clause-of_scalar
returns-clause-of_scalar c = λ db query number sub hold at. those_inside_give db query number sub at hold

pub returns-clause-of_not_in : goal.returns-clause-of_not_in
returns-clause-of_not_in c = λ db query number sub hold at.
    every_at (PassesInside (GivesAtMostOneRow db)) (not_ins_of query) number sub
    (not_ins_pass (GivesAtMostOneRow db) (main_condition query) (main_tables query) (all_give db query hold)) at

pub returns-clause-of_conjunct : goal.returns-clause-of_conjunct
returns-clause-of_conjunct c = λ db cond tables number part one at.
    every_of (GivesAtMostOneRow db) (λ part. scalar_subqueries part tables) (conjuncts cond) number part
    (subst (AllByRecursion (GivesAtMostOneRow db)) (of_conjuncts (λ part. scalar_subqueries part tables) (scalars_and tables) cond) one) at

pub returns-clause-of_replaced : goal.returns-clause-of_replaced
returns-clause-of_replaced c = λ db by cond tables predicate none one. still_pass (GivesAtMostOneRow db) by none cond tables one predicate
