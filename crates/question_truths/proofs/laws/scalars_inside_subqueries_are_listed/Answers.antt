use Rattle.std.proofs.Common.{◌≡◌, ◌<◌, ℕ, List}
use Rattle.std.specs.Prelude.{Some, slice_get}
use Rattle.lint_base.proofs.Lists.{every_at}
use Rattle.lint_core.specs.Subqueries.{Subquery, scalar_subqueries, not_in_subqueries}
use Rattle.question_truths.proofs.Every.{every_by_place}
use Rattle.question_truths.proofs.Listed.{PassesInside, at_place, scalars_ordered, not_ins_pass}
use Rattle.question_truths.proofs.laws.scalars_inside_subqueries_are_listed.Goals as goal

pub returns-clause-of_scalars : goal.returns-clause-of_scalars
returns-clause-of_scalars c = λ cond tables number inner_number sub inner at inside.
    let subs : List Subquery = scalar_subqueries cond tables in
    let Before : Subquery → Type 0 = λ s. (before : ℕ) × (before < number) × (slice_get subs before ≡ Some s) in
    every_at Before (scalar_subqueries sub.cond sub.tables) inner_number inner
    (at_place Before subs (scalars_ordered Before cond tables) number sub at (λ j before low there. (j, low, there))) inside

pub returns-clause-of_not_ins : goal.returns-clause-of_not_ins
returns-clause-of_not_ins c = λ cond tables number inner_number sub inner at inside.
    let subs : List Subquery = scalar_subqueries cond tables in
    let Listed : Subquery → Type 0 = λ s. (there : ℕ) × (slice_get subs there ≡ Some s) in
    every_at Listed (scalar_subqueries sub.cond sub.tables) inner_number inner
    (every_at (PassesInside Listed) (not_in_subqueries cond tables) number sub (not_ins_pass Listed cond tables (every_by_place Listed subs (λ i s there. (i, there)))) at) inside
