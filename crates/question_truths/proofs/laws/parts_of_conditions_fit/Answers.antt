use Rattle.std.proofs.Common.{◌∙◌, sym}
use Rattle.lint_base.proofs.Lists.{all_at, every_at}
use Rattle.lint_core.specs.Conjuncts.{conjuncts}
use Rattle.lint_core.specs.Fits.{cond_fits}
use Rattle.lint_core.specs.Subqueries.{scalar_subqueries, not_in_subqueries}
use Rattle.question_laws.proofs.Conjuncts.{all_fit}
use Rattle.question_truths.proofs.FitInside.{SubFits, inside_fit}
use Rattle.question_truths.proofs.FitReplaced.{still_fits}
use Rattle.question_truths.proofs.laws.parts_of_conditions_fit.Goals as goal

pub returns-clause-scalars : goal.returns-clause-scalars
returns-clause-scalars c = λ schema cond tables number sub exist fits at. every_at (SubFits schema) (scalar_subqueries cond tables) number sub (inside_fit schema cond tables exist fits).0 at

pub returns-clause-not_ins : goal.returns-clause-not_ins
returns-clause-not_ins c = λ schema cond tables number sub exist fits at. every_at (SubFits schema) (not_in_subqueries cond tables) number sub (inside_fit schema cond tables exist fits).1 at

pub returns-clause-replaced : goal.returns-clause-replaced
returns-clause-replaced c = λ schema by cond tables predicate by_fits fits. still_fits schema by by_fits cond tables fits predicate

pub returns-clause-conjunct : goal.returns-clause-conjunct
returns-clause-conjunct c = λ schema cond tables number part fits at.
    all_at (cond_fits schema tables) (conjuncts cond) number part (sym (all_fit schema tables cond) ∙ fits) at
