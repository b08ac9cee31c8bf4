-- Columns as sides of atoms: a text column is a text side, another a number side. So what is said of columns fits.
use Rattle.std.proofs.Common.{◌≡◌, ◌∙◌, ap, sym, refl, subst, ℕ, zero, suc, ℤ, pos, Bool, true, false, ◌||◌, List, [], ◌∷◌, map, length, if◌then◌else◌}
use Rattle.std.specs.List.{AllByRecursion}
use Rattle.std.specs.Option.{option_map_or}
use Rattle.std.specs.Ordering.{int_eq}
use Rattle.std.specs.Prelude.{Option, None, Some, is_some, option_and_then, slice_get}
use Rattle.lint_base.proofs.Lists.{both_left}
use Rattle.lint_tables.specs.declared.op.Op.TheVariants.{Eq, Le}
use Rattle.lint_core.specs.declared.condition.Term.{Term}
use Rattle.lint_core.specs.declared.condition.Term.TheVariants as term
use Rattle.lint_core.specs.declared.schema.Kind.{Kind}
use Rattle.lint_core.specs.declared.schema.Kind.TheVariants as kind
use Rattle.lint_core.specs.declared.schema.Table.{Table}
use Rattle.lint_core.specs.declared.schema.Unit.{Unit as NumberUnit}
use Rattle.lint_core.specs.declared.schema.Unit.TheVariants.{Whole}
use Rattle.lint_core.specs.declared.scope.Scope.{Scope}
use Rattle.lint_core.specs.Fits.{at_entry, term_fits, term_kind}
use Rattle.lint_core.specs.Kind.{are_of_one_kind, column_kind, compares_both, is_text, with_added}
use Rattle.lint_core.specs.Subqueries.{is_column}
use Rattle.sort_formula.specs.declared.formula.Atom.TheVariants as atom
use Rattle.sort_formula.specs.declared.formula.Formula.{Formula}
use Rattle.sort_formula.specs.declared.formula.Formula.TheVariants as f
use Rattle.sort_formula.specs.declared.formula.Side.{Side}
use Rattle.sort_formula.specs.declared.formula.Side.TheVariants as side
use Rattle.sort_formula.specs.Cells.{equal_cells, le, not_distinct_cells}
use Rattle.sort_formula.specs.Sentences.{formula_fits, is_number_side, is_text_side}
use Rattle.sort_formula.specs.Sides.{is_null_formula, is_text_term, not_null_formula, nothing, side_of}
use Rattle.sort_formula.proofs.Fitting.{fits_atom}
use Rattle.truth_laws.proofs.Atoms.{null_passes_too}
use Rattle.truth_laws.proofs.Bound.{joins_none}
use Rattle.truth_laws.proofs.Cells.{no_null_kind}
use Rattle.truth_laws.proofs.Fitting.{IsOutside, both_are, compare_fits, null_fits}
use Rattle.truth_laws.proofs.Outside.{AreOutside, IsTableOf}
use Rattle.counter_forms.proofs.Formed.{Plain, plain_and, plain_atom, plain_or}

-- ---- kinds

never_null : (added : ℤ) (k : Option Kind) → (k ≡ Some kind.Null → ⊥) → option_and_then (with_added added) k ≡ Some kind.Null → ⊥
never_null added None never at = cc
never_null added (Some kind.Null) never at = never refl
never_null added (Some (kind.Number unit)) never at = cc
never_null added (Some kind.Text) never at = no_text (int_eq added (pos 0)) at
  where
    no_text : (b : Bool) → (if b then Some kind.Text else None) ≡ Some kind.Null → ⊥
    no_text true at = cc
    no_text false at = cc

pub column_is_not_null : (schema : List Table) (tables : List (List ℕ)) (t : Term) → is_column t ≡ true → term_kind schema tables t ≡ Some kind.Null → ⊥
column_is_not_null schema tables (term.Cell level entry column added) is at =
    let table = option_and_then (slice_get schema) (at_entry tables level entry) in
    never_null added (option_and_then (λ (t : Table). column_kind t column) table) (no_null_kind table column) at
column_is_not_null schema tables (term.Number value unit) is at = cc
column_is_not_null schema tables (term.Text text) is at = cc
column_is_not_null schema tables term.Null is at = cc

-- two columns of one kind are both texts, or neither
pub both_texts : (a b : Option Kind) → are_of_one_kind a b ≡ true → (a ≡ Some kind.Null → ⊥) → (b ≡ Some kind.Null → ⊥) → option_map_or is_text b false ≡ option_map_or is_text a false
both_texts None b same first second = cc
both_texts (Some a) None same first second = cc
both_texts (Some kind.Null) (Some b) same first second = absurd (first refl)
both_texts (Some (kind.Number unit)) (Some kind.Null) same first second = absurd (second refl)
both_texts (Some (kind.Number unit)) (Some (kind.Number other)) same first second = refl
both_texts (Some (kind.Number unit)) (Some kind.Text) same first second = cc
both_texts (Some kind.Text) (Some kind.Null) same first second = absurd (second refl)
both_texts (Some kind.Text) (Some (kind.Number other)) same first second = cc
both_texts (Some kind.Text) (Some kind.Text) same first second = refl

-- ---- sides

module _ (schema : List Table) (outside : List ℕ) where
  abbrev pub is_side : Bool → Side → Bool
  is_side true x = is_text_side schema outside x
  is_side false x = is_number_side schema outside x

  number_from : (texts : Bool) (left right : Side) (most : ℤ) → texts ≡ false → formula_fits schema (if texts || false then nothing else f.Atom (atom.Le left right most)) outside ≡ true →
      is_number_side schema outside left ≡ true
  number_from texts left right most is fits =
      let here : formula_fits schema (f.Atom (atom.Le left right most)) outside ≡ true =
      subst (λ (b : Bool). formula_fits schema (if b || false then nothing else f.Atom (atom.Le left right most)) outside ≡ true) is fits in
      both_left (is_number_side schema outside left) (is_number_side schema outside right) (sym (fits_atom schema (atom.Le left right most) outside) ∙ here)

  text_from : (texts : Bool) (left right : Side) (other : Formula) → texts ≡ true → formula_fits schema (if texts || true then f.Atom (atom.TextEq left right) else other) outside ≡ true →
      is_text_side schema outside left ≡ true
  text_from texts left right other is fits =
      let here : formula_fits schema (f.Atom (atom.TextEq left right)) outside ≡ true =
      subst (λ (b : Bool). formula_fits schema (if b || true then f.Atom (atom.TextEq left right) else other) outside ≡ true) is fits in
      both_left (is_text_side schema outside left) (is_text_side schema outside right) (sym (fits_atom schema (atom.TextEq left right) outside) ∙ here)

  numbers_compare : (unit : NumberUnit) → compares_both Le (Some (kind.Number unit)) (Some (kind.Number Whole)) ≡ true
  numbers_compare Whole = refl

  module _ (scope : Scope) (lengths : map length scope.levels ≡ map length scope.tables) where
    abbrev Stands : Term → Type 0
    Stands t = IsOutside schema outside scope t

    -- a cell beside 0, or beside a text
    by_kind : (level entry column : ℕ) (added : ℤ) → IsTableOf scope outside level entry → (k : Option Kind) → term_kind schema scope.tables (term.Cell level entry column added) ≡ k → is_some k ≡ true →
        is_side (option_map_or is_text k false) (side_of schema scope (term.Cell level entry column added)) ≡ true
    by_kind level entry column added stands None is some = cc
    by_kind level entry column added stands (Some kind.Null) is some = absurd (column_is_not_null schema scope.tables (term.Cell level entry column added) refl is)
    by_kind level entry column added stands (Some (kind.Number unit)) is some =
        let t = term.Cell level entry column added in
        let compares = ap (λ k. compares_both Le k (Some (kind.Number Whole))) is ∙ numbers_compare unit in
        number_from (is_text_term schema scope t) (side_of schema scope t) side.Zero _ (ap (λ k. option_map_or is_text k false) is)
        (compare_fits schema outside scope Le t (term.Number (pos 0) Whole) stands tt lengths compares)
    by_kind level entry column added stands (Some kind.Text) is some =
        let t = term.Cell level entry column added in
        let compares = ap (λ k. compares_both Eq k (Some kind.Text)) is in
        text_from (is_text_term schema scope t) (side_of schema scope t) (side.Text []) _ (ap (λ k. option_map_or is_text k false) is)
        (compare_fits schema outside scope Eq t (term.Text []) stands tt lengths compares)

    pub column_side : (t : Term) → is_column t ≡ true → Stands t → term_fits schema scope.tables t ≡ true → is_side (is_text_term schema scope t) (side_of schema scope t) ≡ true
    column_side (term.Cell level entry column added) is stands fits = by_kind level entry column added stands (term_kind schema scope.tables (term.Cell level entry column added)) refl fits
    column_side (term.Number value unit) is stands fits = cc
    column_side (term.Text text) is stands fits = cc
    column_side term.Null is stands fits = cc

    pub null_plain : (t : Term) → Stands t → term_fits schema scope.tables t ≡ true → Plain schema outside (is_null_formula schema scope t) × Plain schema outside (not_null_formula schema scope t)
    null_plain t stands fits =
        let both = null_fits schema outside scope t stands lengths fits in
        let none = null_passes_too joins_none schema scope (λ row column. refl) (λ row column. refl) t in
        (record { fits = both.0; joins = none.0 }, record { fits = both.1; joins = none.1 })

  -- ---- comparisons of sides

  pub le_plain : (left right : Side) (most : ℤ) → is_number_side schema outside left ≡ true → is_number_side schema outside right ≡ true → Plain schema outside (le left right most)
  le_plain left right most first second = plain_atom schema outside (atom.Le left right most) (both_are (is_number_side schema outside left) (is_number_side schema outside right) first second) refl

  pub differs_plain : (left right : Side) → is_text_side schema outside left ≡ true → is_text_side schema outside right ≡ true → Plain schema outside (f.Atom (atom.TextNe left right))
  differs_plain left right first second = plain_atom schema outside (atom.TextNe left right) (both_are (is_text_side schema outside left) (is_text_side schema outside right) first second) refl

  equal_plain : (text : Bool) (x y : Side) → is_side text x ≡ true → is_side text y ≡ true → AllByRecursion (Plain schema outside) (equal_cells text x y)
  equal_plain true x y first second =
      (plain_atom schema outside (atom.TextEq x y) (both_are (is_text_side schema outside x) (is_text_side schema outside y) first second) refl, tt)
  equal_plain false x y first second =
      (plain_and schema outside (le x y (pos 0) ∷ le y x (pos 0) ∷ []) (le_plain x y (pos 0) first second, (le_plain y x (pos 0) second first, tt)), tt)

  pub not_distinct_plain : (text : Bool) (x_null y_null : Formula) (x y : Side) → Plain schema outside x_null → Plain schema outside y_null → is_side text x ≡ true → is_side text y ≡ true →
      Plain schema outside (not_distinct_cells text x_null y_null x y)
  not_distinct_plain text x_null y_null x y first second left right =
      plain_or schema outside (f.And (x_null ∷ y_null ∷ []) ∷ equal_cells text x y)
      (plain_and schema outside (x_null ∷ y_null ∷ []) (first, (second, tt)), equal_plain text x y left right)

-- a term of a scope of which all entries have their tables
pub term_stands : (schema : List Table) (outside : List ℕ) (scope : Scope) → AreOutside scope outside (λ entry. true) → (t : Term) → IsOutside schema outside scope t
term_stands schema outside scope are (term.Cell zero entry column added) = are.main entry refl
term_stands schema outside scope are (term.Cell (suc level) entry column added) = are.inner level entry
term_stands schema outside scope are (term.Number value unit) = tt
term_stands schema outside scope are (term.Text text) = tt
term_stands schema outside scope are term.Null = tt
