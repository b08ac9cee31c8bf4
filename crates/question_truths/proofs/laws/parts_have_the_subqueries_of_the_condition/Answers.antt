use Rattle.std.proofs.Common.{◌≡◌, ℕ, List}
use Rattle.std.specs.Prelude.{Some, slice_get}
use Rattle.lint_base.proofs.Lists.{every_at}
use Rattle.lint_core.specs.Predicates.{with_replaced}
use Rattle.lint_core.specs.Subqueries.{Subquery, scalar_subqueries, not_in_subqueries}
use Rattle.lint_core.proofs.Parted.{scalars_and, not_ins_and}
use Rattle.question_truths.proofs.Conjuncts.{of_conjuncts}
use Rattle.question_truths.proofs.Every.{every_by_place}
use Rattle.question_truths.proofs.Replaced.{still_pass}
use Rattle.question_truths.proofs.laws.parts_have_the_subqueries_of_the_condition.Goals as goal

pub returns-clause-replaced : goal.returns-clause-replaced
returns-clause-replaced c = λ by cond none tables predicate number sub at.
    let subs : List Subquery = scalar_subqueries cond tables in
    let Listed : Subquery → Type 0 = λ s. (there : ℕ) × (slice_get subs there ≡ Some s) in
    every_at Listed (scalar_subqueries (with_replaced by predicate cond) tables) number sub
    (still_pass Listed by none cond tables (every_by_place Listed subs (λ i s there. (i, there))) predicate) at

pub returns-clause-scalars : goal.returns-clause-scalars
returns-clause-scalars c = λ cond tables. of_conjuncts (λ part. scalar_subqueries part tables) (scalars_and tables) cond

pub returns-clause-not_ins : goal.returns-clause-not_ins
returns-clause-not_ins c = λ cond tables. of_conjuncts (λ part. not_in_subqueries part tables) (not_ins_and tables) cond
