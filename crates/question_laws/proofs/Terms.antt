-- The formulas of comparisons and of IS NULL at two standpoints hold alike, where their sides have the same values.
use Rattle.std.proofs.Common.{◌≡◌, ◌∙◌, refl, sym, ap, ap₂, subst, ℕ, ℤ, pos, ◌-ℤ◌, Bool, true, false, ◌||◌, List, [], nat_eq, if◌then◌else◌}
use Rattle.std.proofs.lemmas.Bool.{and_from}
use Rattle.std.specs.Prelude.{Option, Some, None, slice_get, option_and_then, unwrap_or, is_some}
use Rattle.std.specs.Option.{option_map_or}
use Rattle.lint_tables.specs.declared.op.Op.{Op}
use Rattle.lint_tables.specs.declared.op.Op.TheVariants.{Eq, Ne, Lt, Le, Gt, Ge}
use Rattle.lint_tables.specs.Ways.{ways_of}
use Rattle.lint_core.specs.declared.condition.Term.{Term}
use Rattle.lint_core.specs.declared.condition.Term.TheVariants as term
use Rattle.lint_core.specs.declared.database.Database.{Database}
use Rattle.lint_core.specs.declared.database.Value.TheVariants.{Null}
use Rattle.lint_core.specs.declared.schema.Kind.{Kind}
use Rattle.lint_core.specs.declared.schema.Table.{Table}
use Rattle.lint_core.specs.Fits.{at_entry}
use Rattle.lint_core.specs.Database.{Place, value_at}
use Rattle.lint_core.specs.Fits.{cell_kind, term_kind}
use Rattle.lint_core.specs.Kind.{is_text, compares_both}
use Rattle.sort_formula.specs.declared.formula.Atom.TheVariants as atom
use Rattle.sort_formula.specs.declared.formula.Formula.{Formula}
use Rattle.sort_formula.specs.declared.formula.Formula.TheVariants as f
use Rattle.sort_formula.specs.Holds.{side_value, cell_value}
use Rattle.lint_core.specs.declared.scope.Scope.{Scope}
use Rattle.sort_formula.specs.Sides.{side_of, added_to, is_null_term, is_text_term, texts_formula, ways_formula, compare_formula, is_null_formula, not_null_formula}
use Rattle.truth_laws.proofs.Fits.{same_number}
use Rattle.question_laws.specs.Alike.{HaveSameRows}
use Rattle.question_laws.specs.Named.{term_names_at}
use Rattle.question_laws.proofs.Alike.{Alike, both_and, both_or, no_and, no_or, of_le, of_text_eq, of_text_ne, of_is_null, of_not_null}

-- what compares stands
pub second_there : (op : Op) (a b : Option Kind) → compares_both op a b ≡ true → is_some b ≡ true
second_there op None b compares = cc
second_there op (Some a) None compares = cc
second_there op (Some a) (Some b) compares = refl

-- the value of a cell, by the row of its variable
value_in : (db : Database) (rows : List Place) (column : ℕ) (variable : Option ℕ) (place : Place) → option_and_then (slice_get rows) variable ≡ Some place →
    cell_value db rows (unwrap_or variable 0) column ≡ unwrap_or (value_at db place column) Null
value_in db rows column None place at = cc
value_in db rows column (Some row) place at = ap (λ place. unwrap_or (option_and_then (λ place. value_at db place column) place) Null) at

module _ (schema : List Table) (db : Database) (one other : Scope) (rows others : List Place) where
  abbrev pub SameSide : Term → Type 0
  SameSide t = side_value db rows (side_of schema one t) ≡ side_value db others (side_of schema other t)

  abbrev FormulasAlike : Formula → Formula → Type 0
  FormulasAlike g h = Alike db g h rows others

  -- ---- the sides of a term that fits

  module _ (named : ℕ → ℕ → Bool) (same : HaveSameRows one other rows others named) where
    side_at : (level entry column : ℕ) (added : ℤ) (table : Option ℕ) → at_entry one.tables level entry ≡ table → is_some (cell_kind schema table column added) ≡ true →
        named level entry ≡ true → SameSide (term.Cell level entry column added)
    side_at level entry column added None at fits is = cc
    side_at level entry column added (Some table) at fits is =
        let here = same.entries level entry table at is in
        value_in db rows column (at_entry one.levels level entry) here.row here.in_one
        ∙ sym (value_in db others column (at_entry other.levels level entry) here.row here.in_other)

    pub same_side : (t : Term) → is_some (term_kind schema one.tables t) ≡ true → ((level entry : ℕ) → term_names_at level entry t ≡ true → named level entry ≡ true) → SameSide t
    same_side (term.Cell level entry column added) fits leads =
        side_at level entry column added (at_entry one.tables level entry) refl fits
        (leads level entry (and_from (nat_eq level level) (nat_eq entry entry) (same_number level) (same_number entry)))
    same_side (term.Number value unit) fits leads = refl
    same_side (term.Text text) fits leads = refl
    same_side term.Null fits leads = refl

  -- ---- what does not depend on the variables

  same_added : (t : Term) → added_to schema one t ≡ added_to schema other t
  same_added (term.Cell level entry column added) = refl
  same_added (term.Number value unit) = refl
  same_added (term.Text text) = refl
  same_added term.Null = refl

  same_null : (t : Term) → is_null_term schema one t ≡ is_null_term schema other t
  same_null (term.Cell level entry column added) = refl
  same_null (term.Number value unit) = refl
  same_null (term.Text text) = refl
  same_null term.Null = refl

  either : (b c : Bool) → b ≡ c → (g h g_too h_too : Formula) → FormulasAlike g g_too → FormulasAlike h h_too → FormulasAlike (if b then g else h) (if c then g_too else h_too)
  either true true same g h g_too h_too first second = first
  either false false same g h g_too h_too first second = second
  either true false same g h g_too h_too first second = cc
  either false true same g h g_too h_too first second = cc

  -- ---- comparisons

  abbrev bound : Scope → Term → Term → ℕ → Formula
  bound scope a b less = f.Atom (atom.Le (side_of schema scope a) (side_of schema scope b) (added_to schema scope b -ℤ added_to schema scope a -ℤ pos less))

  bound_alike : (a b : Term) → SameSide a → SameSide b → (less : ℕ) → FormulasAlike (bound one a b less) (bound other a b less)
  bound_alike a b lefts rights less =
      subst (λ most. FormulasAlike (bound one a b less) (f.Atom (atom.Le (side_of schema other a) (side_of schema other b) most)))
      (ap₂ (λ x y. x -ℤ y -ℤ pos less) (same_added b) (same_added a))
      (of_le db (side_of schema one a) (side_of schema one b) (side_of schema other a) (side_of schema other b) rows others lefts rights
      (added_to schema one b -ℤ added_to schema one a -ℤ pos less))

  module _ (a b : Term) (lefts : SameSide a) (rights : SameSide b) where
    low : (less : ℕ) → FormulasAlike (bound one a b less) (bound other a b less)
    low = bound_alike a b lefts rights

    high : (less : ℕ) → FormulasAlike (bound one b a less) (bound other b a less)
    high = bound_alike b a rights lefts

    ways_alike : (op : Op) → FormulasAlike (ways_formula schema one a b (ways_of op)) (ways_formula schema other a b (ways_of op))
    ways_alike Eq = both_and db _ _ _ _ rows others (low 0) (high 0)
    ways_alike Ne = both_or db _ _ _ _ rows others (low 1) (high 1)
    ways_alike Lt = low 1
    ways_alike Le = low 0
    ways_alike Gt = high 1
    ways_alike Ge = high 0

    texts_alike : (op : Op) →
        FormulasAlike (texts_formula schema one op (side_of schema one a) (side_of schema one b)) (texts_formula schema other op (side_of schema other a) (side_of schema other b))
    texts_alike Eq = of_text_eq db (side_of schema one a) (side_of schema one b) (side_of schema other a) (side_of schema other b) rows others lefts rights
    texts_alike Ne = of_text_ne db (side_of schema one a) (side_of schema one b) (side_of schema other a) (side_of schema other b) rows others lefts rights
    texts_alike Lt = no_or db rows others
    texts_alike Le = no_or db rows others
    texts_alike Gt = no_or db rows others
    texts_alike Ge = no_or db rows others

    pub compare_alike : one.tables ≡ other.tables → (op : Op) → FormulasAlike (compare_formula schema one op a b) (compare_formula schema other op a b)
    compare_alike tables op =
        let same_text = λ (t : Term). ap (λ tables. option_map_or is_text (term_kind schema tables t) false) tables in
        either (is_null_term schema one a || is_null_term schema one b) (is_null_term schema other a || is_null_term schema other b)
        (ap₂ (λ x y. x || y) (same_null a) (same_null b)) (f.Or []) _ (f.Or []) _ (no_or db rows others)
        (either (is_text_term schema one a || is_text_term schema one b) (is_text_term schema other a || is_text_term schema other b)
        (ap₂ (λ x y. x || y) (same_text a) (same_text b)) _ _ _ _ (texts_alike op) (ways_alike op))

  -- ---- IS NULL

  pub null_alike : (t : Term) → SameSide t → FormulasAlike (is_null_formula schema one t) (is_null_formula schema other t)
  null_alike (term.Cell level entry column added) same =
      of_is_null db (unwrap_or (at_entry one.levels level entry) 0) (unwrap_or (at_entry other.levels level entry) 0) column rows others same
  null_alike (term.Number value unit) same = no_or db rows others
  null_alike (term.Text text) same = no_or db rows others
  null_alike term.Null same = no_and db rows others

  pub not_null_alike : (t : Term) → SameSide t → FormulasAlike (not_null_formula schema one t) (not_null_formula schema other t)
  not_null_alike (term.Cell level entry column added) same =
      of_not_null db (unwrap_or (at_entry one.levels level entry) 0) (unwrap_or (at_entry other.levels level entry) 0) column rows others same
  not_null_alike (term.Number value unit) same = no_and db rows others
  not_null_alike (term.Text text) same = no_and db rows others
  not_null_alike term.Null same = no_or db rows others
