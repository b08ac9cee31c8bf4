-- Counter sentences of the small examples as lead and body, and the points that their leading rows make, worked.
use Rattle.std.proofs.Common.{◌≡◌, ap, refl, ℕ, List, [], ◌∷◌}
use Rattle.std.specs.Prelude.{Some, None, length, take, drop, remove}
use Rattle.lint_core.specs.declared.condition.Block.{Block, out-roll-Block}
use Rattle.lint_core.specs.declared.condition.Cond.{Cond}
use Rattle.lint_core.specs.declared.condition.Cond.TheVariants as c
use Rattle.lint_core.specs.declared.condition.Cond.TheOpen.{Block-F}
use Rattle.lint_core.specs.declared.database.Points.TheVariants.{Two, Without}
use Rattle.lint_core.specs.declared.database.Value.TheVariants.{Null}
use Rattle.lint_core.specs.declared.query.Question.TheVariants.{OneRow, NeedlessDistinct, NeedlessJoin}
use Rattle.lint_core.specs.Asked.{main_condition, main_entries}
use Rattle.lint_core.specs.Fits.{tables_of}
use Rattle.lint_core.proofs.Parted.{conjuncts_true}
use Rattle.sort_formula.specs.declared.formula.Atom.TheVariants.{Other}
use Rattle.sort_formula.specs.declared.formula.Formula.TheVariants.{Atom as Fact, And, Or, Exists, Forall}
use Rattle.sort_formula.specs.CounterPoints.{points_of}
use Rattle.sort_formula.specs.Counters.{counter}
use Rattle.sort_formula.proofs.Holding.{negated_and}
use Rattle.worked_laws.specs.Examples.{nowhere, plain, select_distinct, above_the_row, rows}
use Rattle.worked_laws.specs.FormulaExamples.{middle_entries, middle}
use Rattle.worked_laws.proofs.QuestionExamples.{the_scalar, true_names_nothing}
use Rattle.worked_laws.proofs.Translated.{translation_true}

-- ---- a scalar subquery in a query

abbrev inside : List (List ℕ)
inside = (0 ∷ []) ∷ (0 ∷ []) ∷ []

pub two_rows_inside : counter plain above_the_row (OneRow 0) Null ≡ record { lead = 0 ∷ 0 ∷ 0 ∷ []; body = And (And [] ∷ And [] ∷ Or (Fact (Other 1 2) ∷ []) ∷ []) }
unfolding Rattle.sort_formula.specs.declared.formula.Formula.TheBlock.shape-the_row-Formula-1 Rattle.sort_formula.specs.declared.formula.Formula.TheBlock.hidden-the_row-Formula-1 denote.Hole.Carrier.hidden
two_rows_inside =
    rw (
      the_scalar,
      translation_true plain (record { levels = (0 ∷ []) ∷ (1 ∷ []) ∷ []; tables = inside; depth = 3 }),
      translation_true plain (record { levels = (0 ∷ []) ∷ (2 ∷ []) ∷ []; tables = inside; depth = 3 }),
    )
    refl

pub two_inside : points_of above_the_row (OneRow 0) (5 ∷ 6 ∷ 7 ∷ []) None ≡ Two (rows ((5 ∷ []) ∷ (6 ∷ []) ∷ [])) (rows ((5 ∷ []) ∷ (7 ∷ []) ∷ []))
two_inside = rw the_scalar refl

-- ---- DISTINCT

distinct_entries : tables_of (main_entries select_distinct) ≡ 0 ∷ []
distinct_entries = ap (λ (b : Block-F Cond Block). tables_of b.entries) (out-roll-Block (record { entries = record { table = 0; name = []; span = nowhere } ∷ []; cond = c.True; span = nowhere }))

pub two_of_the_entry : (counter plain select_distinct NeedlessDistinct Null).lead ≡ 0 ∷ 0 ∷ []
two_of_the_entry = rw distinct_entries refl

pub two_apart : points_of select_distinct NeedlessDistinct (3 ∷ 4 ∷ []) None ≡ Two (rows ((3 ∷ []) ∷ [])) (rows ((4 ∷ []) ∷ []))
two_apart = ap (λ own. Two (rows (take (length own) (3 ∷ 4 ∷ []) ∷ [])) (rows (take (length own) (drop (length own) (3 ∷ 4 ∷ [])) ∷ []))) distinct_entries

-- ---- a needless join in the middle

abbrev middle_layer : Block-F Cond Block
middle_layer = record { entries = middle_entries; cond = c.True; span = nowhere }

middle_tables : tables_of (main_entries middle) ≡ 0 ∷ 1 ∷ 2 ∷ []
middle_tables = ap (λ (b : Block-F Cond Block). tables_of b.entries) (out-roll-Block middle_layer)

middle_cond : main_condition middle ≡ c.True
middle_cond = ap (λ (b : Block-F Cond Block). b.cond) (out-roll-Block middle_layer)

pub none_or_two : counter plain middle (NeedlessJoin 1) Null
    ≡ record {
      lead = 0 ∷ 2 ∷ [];
      body = And (And [] ∷ Or (Forall 1 (Or []) ∷ Exists 1 (Exists 1 (And (And [] ∷ And [] ∷ Fact (Other 2 3) ∷ []))) ∷ []) ∷ []);
    }
unfolding Rattle.sort_formula.specs.declared.formula.Formula.TheBlock.shape-the_row-Formula-1 Rattle.sort_formula.specs.declared.formula.Formula.TheBlock.hidden-the_row-Formula-1 denote.Hole.Carrier.hidden
none_or_two =
    rw (
      middle_tables,
      middle_cond,
      conjuncts_true,
      true_names_nothing,
      translation_true plain (record { levels = (0 ∷ 0 ∷ 1 ∷ []) ∷ []; tables = (0 ∷ 1 ∷ 2 ∷ []) ∷ []; depth = 2 }),
      negated_and [],
    )
    refl

pub none_fits : points_of middle (NeedlessJoin 1) (4 ∷ 6 ∷ []) None ≡ Without (rows ((4 ∷ 6 ∷ []) ∷ []))
none_fits = ap (λ own. Without (rows (take (length (remove own 1)) (4 ∷ 6 ∷ []) ∷ []))) middle_tables

pub two_fit : points_of middle (NeedlessJoin 1) (4 ∷ 6 ∷ []) (Some (8, 9)) ≡ Two (rows ((4 ∷ 8 ∷ 6 ∷ []) ∷ [])) (rows ((4 ∷ 9 ∷ 6 ∷ []) ∷ []))
two_fit = refl
