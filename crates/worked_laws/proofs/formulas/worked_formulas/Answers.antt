use Rattle.std.proofs.Common.{◌≡◌, ap, refl, [], ◌∷◌}
use Rattle.lint_core.specs.declared.condition.Block.{Block, out-roll-Block}
use Rattle.lint_core.specs.declared.condition.Cond.{Cond}
use Rattle.lint_core.specs.declared.condition.Cond.TheVariants as c
use Rattle.lint_core.specs.declared.condition.Cond.TheOpen.{Block-F}
use Rattle.lint_tables.specs.declared.op.Op.TheVariants.{Ne}
use Rattle.worked_laws.specs.Examples.{nowhere, number, the_column, plain, select_distinct}
use Rattle.lint_core.specs.Asked.{main_condition, main_entries}
use Rattle.lint_core.specs.Fits.{tables_of}
use Rattle.sort_formula.specs.Translation.{Both}
use Rattle.worked_laws.proofs.Translated.{translation_compare, translation_true}
use Rattle.worked_laws.proofs.formulas.worked_formulas.Goals as goal

pub returns-clause-differs : goal.returns-clause-differs
returns-clause-differs c = ap (λ (b : Both). b.true) (translation_compare plain Ne the_column (number 5) nowhere (record { levels = (0 ∷ []) ∷ []; tables = (0 ∷ []) ∷ []; depth = 1 }))

pub returns-clause-key : goal.returns-clause-key
returns-clause-key c = refl

pub returns-clause-no_constraint : goal.returns-clause-no_constraint
returns-clause-no_constraint c = refl

abbrev first_layer : Block-F Cond Block
first_layer = record { entries = record { table = 0; name = []; span = nowhere } ∷ []; cond = c.True; span = nowhere }

is_everywhere : main_condition select_distinct ≡ c.True
is_everywhere = ap (λ (b : Block-F Cond Block). b.cond) (out-roll-Block first_layer)

own_is : tables_of (main_entries select_distinct) ≡ 0 ∷ []
own_is = ap (λ (b : Block-F Cond Block). tables_of b.entries) (out-roll-Block first_layer)

pub returns-clause-needless_distinct : goal.returns-clause-needless_distinct
unfolding Rattle.sort_formula.specs.declared.formula.Formula.TheBlock.shape-the_row-Formula-1 Rattle.sort_formula.specs.declared.formula.Formula.TheBlock.hidden-the_row-Formula-1 denote.Hole.Carrier.hidden
returns-clause-needless_distinct g =
    rw (
      own_is,
      is_everywhere,
      translation_true plain (record { levels = (0 ∷ []) ∷ []; tables = (0 ∷ []) ∷ []; depth = 2 }),
      translation_true plain (record { levels = (1 ∷ []) ∷ []; tables = (0 ∷ []) ∷ []; depth = 2 }),
    )
    refl
