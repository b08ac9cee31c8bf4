-- The formulas of comparisons and of IS NULL fit where the terms do, a negation where the formula does, and quantified
-- formulas where their bodies do.
use Rattle.std.proofs.Common.{◌≡◌, ◌∙◌, sym, ap, ap₂, refl, subst, ℕ, ℤ, pos, neg_ℤ, ◌-ℤ◌, Bool, true, false, ◌&&◌, ◌||◌, List, [], ◌∷◌, ◌++◌, length, map, if◌then◌else◌}
use Rattle.std.proofs.lemmas.List.{append_assoc}
use Rattle.std.specs.List.{list_all}
use Rattle.std.specs.Option.{option_map_or}
use Rattle.std.specs.Ordering.{int_eq}
use Rattle.std.specs.Prelude.{Option, Some, None, nat_lt, slice_get, option_and_then, unwrap_or, is_some}
use Rattle.lint_tables.specs.declared.op.Op.{Op}
use Rattle.lint_tables.specs.declared.op.Op.TheVariants.{Eq, Ne, Lt, Le, Gt, Ge}
use Rattle.lint_tables.specs.Operators.{negation}
use Rattle.lint_tables.specs.Ways.{ways_of}
use Rattle.lint_core.specs.declared.condition.Term.{Term}
use Rattle.lint_core.specs.declared.condition.Term.TheVariants as term
use Rattle.lint_core.specs.declared.schema.Kind.{Kind}
use Rattle.lint_core.specs.declared.schema.Kind.TheVariants as kind
use Rattle.lint_core.specs.declared.schema.Table.{Table}
use Rattle.lint_core.specs.Fits.{at_entry}
use Rattle.lint_core.specs.Fits.{cell_kind, term_kind, term_fits}
use Rattle.lint_core.specs.Kind.{compares_both, is_text, with_added, column_kind}
use Rattle.sort_formula.specs.declared.formula.Side.{Side}
use Rattle.sort_formula.specs.declared.formula.Side.TheVariants as side
use Rattle.sort_formula.specs.declared.formula.Atom.{Atom}
use Rattle.sort_formula.specs.declared.formula.Atom.TheVariants as atom
use Rattle.sort_formula.specs.declared.formula.Formula.{Formula, ind-Formula, roll-Formula, map-Formula}
use Rattle.sort_formula.specs.declared.formula.Formula.TheVariants as f
use Rattle.sort_formula.specs.declared.formula.Formula.TheOpen.{Formula-F}
use Rattle.sort_formula.specs.Negated.{negated, negated_atom, null_of, fails}
use Rattle.sort_formula.specs.Sentences.{formula_fits, atom_fits, is_number_side, is_text_side, is_number_kind, kind_at}
use Rattle.lint_core.specs.declared.scope.Scope.{Scope}
use Rattle.sort_formula.specs.Sides.{side_of, added_to, is_null_term, nothing, texts_formula, ways_formula, compare_formula, compare_false_formula, is_null_formula, not_null_formula}
use Rattle.sort_formula.specs.Translation.{exist_rows, for_all_rows}
use Rattle.sort_formula.proofs.Fitting.{fits_atom, fits_and, fits_or, fits_exists, fits_forall}
use Rattle.sort_formula.proofs.Holding.{negated_of_atom, negated_and, negated_or, negated_exists, negated_forall}
use Rattle.lint_base.proofs.Lists.{both_left, both_right}
use Rattle.truth_laws.proofs.Cells.{variable_too, no_null_kind}
use Rattle.truth_laws.proofs.Comparing.{negation_compares}
use Rattle.truth_laws.proofs.Outside.{IsTableOf}

pub both_are : (a b : Bool) → a ≡ true → b ≡ true → (a && b) ≡ true
both_are a b left right = rw (left, right) refl

module _ (schema : List Table) (outside : List ℕ) where
  abbrev fits : Formula → Type 0
  fits g = formula_fits schema g outside ≡ true

  -- ---- terms by their kinds

  abbrev Says : Option Kind → Bool → Side → Type 0
  Says None null s = Unit {0}
  Says (Some kind.Null) null s = null ≡ true
  Says (Some (kind.Number unit)) null s = (null ≡ false) × (is_number_side schema outside s ≡ true)
  Says (Some kind.Text) null s = (null ≡ false) × (is_text_side schema outside s ≡ true)

  pub nothing_fits : fits nothing
  nothing_fits = fits_or schema [] outside

  pub everything_fits : fits (f.And [])
  everything_fits = fits_and schema [] outside

  bound_fits : (left right : Side) (most : ℤ) → is_number_side schema outside left ≡ true → is_number_side schema outside right ≡ true → fits (f.Atom (atom.Le left right most))
  bound_fits left right most first second =
      fits_atom schema (atom.Le left right most) outside ∙ both_are (is_number_side schema outside left) (is_number_side schema outside right) first second

  pub one_and : (a b : Formula) → fits a → fits b → fits (f.And (a ∷ b ∷ []))
  one_and a b first second = fits_and schema (a ∷ b ∷ []) outside ∙ ap₂ (λ x y. x && (y && true)) first second

  pub one_or : (a b : Formula) → fits a → fits b → fits (f.Or (a ∷ b ∷ []))
  one_or a b first second = fits_or schema (a ∷ b ∷ []) outside ∙ ap₂ (λ x y. x && (y && true)) first second

  module _ (scope : Scope) where
    abbrev of : Term → Side
    of t = side_of schema scope t

    abbrev added : Term → ℤ
    added t = added_to schema scope t

    ways_fit : (op : Op) (a b : Term) → is_number_side schema outside (of a) ≡ true → is_number_side schema outside (of b) ≡ true → fits (ways_formula schema scope a b (ways_of op))
    ways_fit Eq a b first second =
        let one = added b -ℤ added a -ℤ pos 0 in
        let two = added a -ℤ added b -ℤ pos 0 in
        one_and (f.Atom (atom.Le (of a) (of b) one)) (f.Atom (atom.Le (of b) (of a) two)) (bound_fits (of a) (of b) one first second) (bound_fits (of b) (of a) two second first)
    ways_fit Ne a b first second =
        let one = added b -ℤ added a -ℤ pos 1 in
        let two = added a -ℤ added b -ℤ pos 1 in
        one_or (f.Atom (atom.Le (of a) (of b) one)) (f.Atom (atom.Le (of b) (of a) two)) (bound_fits (of a) (of b) one first second) (bound_fits (of b) (of a) two second first)
    ways_fit Lt a b first second = bound_fits (of a) (of b) (added b -ℤ added a -ℤ pos 1) first second
    ways_fit Le a b first second = bound_fits (of a) (of b) (added b -ℤ added a -ℤ pos 0) first second
    ways_fit Gt a b first second = bound_fits (of b) (of a) (added a -ℤ added b -ℤ pos 1) second first
    ways_fit Ge a b first second = bound_fits (of b) (of a) (added a -ℤ added b -ℤ pos 0) second first

    texts_fit : (op : Op) (left right : Side) → is_text_side schema outside left ≡ true → is_text_side schema outside right ≡ true → fits (texts_formula schema scope op left right)
    texts_fit Eq left right first second =
        fits_atom schema (atom.TextEq left right) outside ∙ both_are (is_text_side schema outside left) (is_text_side schema outside right) first second
    texts_fit Ne left right first second =
        fits_atom schema (atom.TextNe left right) outside ∙ both_are (is_text_side schema outside left) (is_text_side schema outside right) first second
    texts_fit Lt left right first second = nothing_fits
    texts_fit Le left right first second = nothing_fits
    texts_fit Gt left right first second = nothing_fits
    texts_fit Ge left right first second = nothing_fits

    no_left : (na nb : Bool) (other : Formula) → na ≡ true → fits (if na || nb then nothing else other)
    no_left na nb other is_null = rw is_null nothing_fits

    or_true : (b : Bool) → (b || true) ≡ true
    or_true true = refl
    or_true false = refl

    no_right : (na nb : Bool) (other : Formula) → nb ≡ true → fits (if na || nb then nothing else other)
    no_right na nb other is_null = rw (is_null, or_true na) nothing_fits

    by_kinds : (op : Op) (ka kb : Option Kind) (a b : Term) → Says ka (is_null_term schema scope a) (of a) → Says kb (is_null_term schema scope b) (of b) → compares_both op ka kb ≡ true →
        fits (if is_null_term schema scope a || is_null_term schema scope b then nothing else (if option_map_or is_text ka false || option_map_or is_text kb false then texts_formula schema scope op (of a) (of b) else ways_formula schema scope a b (ways_of op)))
    by_kinds op None kb a b left right compares = cc
    by_kinds op (Some ka) None a b left right compares = cc
    by_kinds op (Some kind.Null) (Some kb) a b left right compares =
        no_left (is_null_term schema scope a) (is_null_term schema scope b) (if option_map_or is_text (Some kb) false then texts_formula schema scope op (of a) (of b) else ways_formula schema scope a b (ways_of op)) left
    by_kinds op (Some (kind.Number unit)) (Some kind.Null) a b left right compares =
        no_right (is_null_term schema scope a) (is_null_term schema scope b) (ways_formula schema scope a b (ways_of op)) right
    by_kinds op (Some (kind.Number unit)) (Some (kind.Number other)) a b left right compares = rw (left.0, right.0) (ways_fit op a b left.1 right.1)
    by_kinds op (Some (kind.Number unit)) (Some kind.Text) a b left right compares = cc
    by_kinds op (Some kind.Text) (Some kind.Null) a b left right compares =
        no_right (is_null_term schema scope a) (is_null_term schema scope b) (texts_formula schema scope op (of a) (of b)) right
    by_kinds op (Some kind.Text) (Some (kind.Number other)) a b left right compares = cc
    by_kinds op (Some kind.Text) (Some kind.Text) a b left right compares = rw (left.0, right.0) (texts_fit op (of a) (of b) left.1 right.1)

    -- ---- terms that stand outside

    abbrev pub IsOutside : Term → Type 0
    IsOutside (term.Cell level entry column plus) = IsTableOf scope outside level entry
    IsOutside (term.Number value unit) = Unit {0}
    IsOutside (term.Text text) = Unit {0}
    IsOutside term.Null = Unit {0}

    abbrev row_of : ℕ → ℕ → ℕ
    row_of level entry = unwrap_or (at_entry scope.levels level entry) 0

    -- the kind of the cell's side, before anything is added
    kind_same : map length scope.levels ≡ map length scope.tables → (level entry column table : ℕ) → IsTableOf scope outside level entry → at_entry scope.tables level entry ≡ Some table →
        kind_at schema outside (row_of level entry) column ≡ option_and_then (λ t. column_kind t column) (slice_get schema table)
    kind_same lengths level entry column table stands at =
        let variable = variable_too scope.levels scope.tables lengths level entry table at in
        let table_is : slice_get outside variable.0 ≡ Some table = ap (option_and_then (slice_get outside)) (sym variable.1) ∙ (stands ∙ at) in
        ap (λ o. kind_at schema outside (unwrap_or o 0) column) variable.1
        ∙ ap (λ t. option_and_then (λ t. option_and_then (λ table. column_kind table column) (slice_get schema t)) t) table_is

    text_says : (b : Bool) (row column : ℕ) → kind_at schema outside row column ≡ Some kind.Text → Says (if b then Some kind.Text else None) false (side.Cell row column)
    text_says true row column is = (refl, rw is refl)
    text_says false row column is = tt

    cell_says : (table row column : ℕ) (plus : ℤ) → kind_at schema outside row column ≡ option_and_then (λ t. column_kind t column) (slice_get schema table) →
        (k : Option Kind) → option_and_then (λ t. column_kind t column) (slice_get schema table) ≡ k → Says (option_and_then (with_added plus) k) false (side.Cell row column)
    cell_says table row column plus same None is = tt
    cell_says table row column plus same (Some kind.Null) is = absurd (no_null_kind (slice_get schema table) column is)
    cell_says table row column plus same (Some (kind.Number unit)) is = (refl, ap (λ k. option_map_or (is_number_kind schema) k false) (same ∙ is))
    cell_says table row column plus same (Some kind.Text) is = text_says (int_eq plus (pos 0)) row column (same ∙ is)

    cell_stands : map length scope.levels ≡ map length scope.tables → (level entry column : ℕ) (plus : ℤ) → IsTableOf scope outside level entry →
        (table : Option ℕ) → at_entry scope.tables level entry ≡ table → Says (cell_kind schema table column plus) false (side.Cell (row_of level entry) column)
    cell_stands lengths level entry column plus stands None at = tt
    cell_stands lengths level entry column plus stands (Some table) at =
        cell_says table (row_of level entry) column plus (kind_same lengths level entry column table stands at) (option_and_then (λ t. column_kind t column) (slice_get schema table)) refl

    says : map length scope.levels ≡ map length scope.tables → (t : Term) → IsOutside t → Says (term_kind schema scope.tables t) (is_null_term schema scope t) (of t)
    says lengths (term.Cell level entry column plus) stands = cell_stands lengths level entry column plus stands (at_entry scope.tables level entry) refl
    says lengths (term.Number value unit) stands = (refl, refl)
    says lengths (term.Text text) stands = (refl, refl)
    says lengths term.Null stands = refl

    pub compare_fits : (op : Op) (a b : Term) → IsOutside a → IsOutside b → map length scope.levels ≡ map length scope.tables →
        compares_both op (term_kind schema scope.tables a) (term_kind schema scope.tables b) ≡ true → fits (compare_formula schema scope op a b)
    compare_fits op a b left right lengths compares =
        by_kinds op (term_kind schema scope.tables a) (term_kind schema scope.tables b) a b (says lengths a left) (says lengths b right) compares

    pub compare_false_fits : (op : Op) (a b : Term) → IsOutside a → IsOutside b → map length scope.levels ≡ map length scope.tables →
        compares_both op (term_kind schema scope.tables a) (term_kind schema scope.tables b) ≡ true → fits (compare_false_formula schema scope op a b)
    compare_false_fits op a b left right lengths compares =
        compare_fits (negation op) a b left right lengths (negation_compares op (term_kind schema scope.tables a) (term_kind schema scope.tables b) ∙ compares)

    -- where the kind is there with something added, it is there
    some_kind : (plus : ℤ) (k : Option Kind) → is_some (option_and_then (with_added plus) k) ≡ true → is_some k ≡ true
    some_kind plus None some = some
    some_kind plus (Some k) some = refl

    cell_there : map length scope.levels ≡ map length scope.tables → (level entry column : ℕ) (plus : ℤ) → IsTableOf scope outside level entry →
        (table : Option ℕ) → at_entry scope.tables level entry ≡ table → is_some (cell_kind schema table column plus) ≡ true → is_some (kind_at schema outside (row_of level entry) column) ≡ true
    cell_there lengths level entry column plus stands None at some = cc
    cell_there lengths level entry column plus stands (Some table) at some =
        ap is_some (kind_same lengths level entry column table stands at) ∙ some_kind plus (option_and_then (λ t. column_kind t column) (slice_get schema table)) some

    pub null_fits : (t : Term) → IsOutside t → map length scope.levels ≡ map length scope.tables → term_fits schema scope.tables t ≡ true →
        fits (is_null_formula schema scope t) × fits (not_null_formula schema scope t)
    null_fits (term.Cell level entry column plus) stands lengths some =
        let there = cell_there lengths level entry column plus stands (at_entry scope.tables level entry) refl some in
        (fits_atom schema (atom.IsNull (row_of level entry) column) outside ∙ there, fits_atom schema (atom.NotNull (row_of level entry) column) outside ∙ there)
    null_fits (term.Number value unit) stands lengths some = (nothing_fits, everything_fits)
    null_fits (term.Text text) stands lengths some = (nothing_fits, everything_fits)
    null_fits term.Null stands lengths some = (everything_fits, nothing_fits)

-- ---- quantifiers

module _ (schema : List Table) where
  one_more : (outside own : List ℕ) (table : ℕ) (body : Formula) → formula_fits schema body (outside ++ table ∷ own) ≡ true → formula_fits schema body ((outside ++ table ∷ []) ++ own) ≡ true
  one_more outside own table body fit = ap (formula_fits schema body) (append_assoc outside (table ∷ []) own) ∙ fit

  end : (outside : List ℕ) → outside ++ [] ≡ outside
  end [] = refl
  end (table ∷ outside) = ap (λ rest. table ∷ rest) (end outside)

  pub exist_fit : (own outside : List ℕ) (body : Formula) → list_all (λ table. nat_lt table (length schema)) own ≡ true → formula_fits schema body (outside ++ own) ≡ true →
      formula_fits schema (exist_rows own body) outside ≡ true
  exist_fit [] outside body there fit = ap (formula_fits schema body) (sym (end outside)) ∙ fit
  exist_fit (table ∷ own) outside body there fit =
      let here = nat_lt table (length schema) in
      let rest = list_all (λ table. nat_lt table (length schema)) own in
      fits_exists schema table (exist_rows own body) outside
      ∙ both_are here (formula_fits schema (exist_rows own body) (outside ++ table ∷ [])) (both_left here rest there)
      (exist_fit own (outside ++ table ∷ []) body (both_right here rest there) (one_more outside own table body fit))

  pub for_all_fit : (own outside : List ℕ) (body : Formula) → list_all (λ table. nat_lt table (length schema)) own ≡ true → formula_fits schema body (outside ++ own) ≡ true →
      formula_fits schema (for_all_rows own body) outside ≡ true
  for_all_fit [] outside body there fit = ap (formula_fits schema body) (sym (end outside)) ∙ fit
  for_all_fit (table ∷ own) outside body there fit =
      let here = nat_lt table (length schema) in
      let rest = list_all (λ table. nat_lt table (length schema)) own in
      fits_forall schema table (for_all_rows own body) outside
      ∙ both_are here (formula_fits schema (for_all_rows own body) (outside ++ table ∷ [])) (both_left here rest there)
      (for_all_fit own (outside ++ table ∷ []) body (both_right here rest there) (one_more outside own table body fit))

  -- ---- negations

  number_there : (k : Option Kind) → option_map_or (is_number_kind schema) k false ≡ true → is_some k ≡ true
  number_there None fits = cc
  number_there (Some k) fits = refl

  text_there : (k : Option Kind) → option_map_or is_text k false ≡ true → is_some k ≡ true
  text_there None fits = cc
  text_there (Some k) fits = refl

  abbrev all_fit : List ℕ → List Formula → Bool
  all_fit outside gs = list_all (λ g. formula_fits schema g outside) gs

  -- that the side is there, where it is a cell
  abbrev IsThere : List ℕ → Side → Type 0
  IsThere outside (side.Cell row column) = is_some (kind_at schema outside row column) ≡ true
  IsThere outside side.Zero = Unit {0}
  IsThere outside (side.Text text) = Unit {0}

  number_is : (outside : List ℕ) (s : Side) → is_number_side schema outside s ≡ true → IsThere outside s
  number_is outside (side.Cell row column) fits = number_there (kind_at schema outside row column) fits
  number_is outside side.Zero fits = tt
  number_is outside (side.Text text) fits = tt

  text_is : (outside : List ℕ) (s : Side) → is_text_side schema outside s ≡ true → IsThere outside s
  text_is outside (side.Cell row column) fits = text_there (kind_at schema outside row column) fits
  text_is outside side.Zero fits = tt
  text_is outside (side.Text text) fits = tt

  null_of_fits : (outside : List ℕ) (s : Side) (parts : List Formula) → IsThere outside s → all_fit outside parts ≡ true → all_fit outside (null_of s ++ parts) ≡ true
  null_of_fits outside (side.Cell row column) parts there fit =
      both_are (formula_fits schema (f.Atom (atom.IsNull row column)) outside) (all_fit outside parts) (fits_atom schema (atom.IsNull row column) outside ∙ there) fit
  null_of_fits outside side.Zero parts there fit = fit
  null_of_fits outside (side.Text text) parts there fit = fit

  fails_fit : (outside : List ℕ) (left right : Side) (opposite : Atom) → IsThere outside left → IsThere outside right → atom_fits schema outside opposite ≡ true →
      formula_fits schema (fails left right opposite) outside ≡ true
  fails_fit outside left right opposite first second fit =
      let last = f.Atom opposite ∷ [] in
      let opposite_fits : all_fit outside last ≡ true = ap (λ b. b && true) (fits_atom schema opposite outside ∙ fit) in
      fits_or schema (null_of left ++ null_of right ++ last) outside
      ∙ (ap (all_fit outside) (append_assoc (null_of left) (null_of right) last)
      ∙ null_of_fits outside left (null_of right ++ last) first (null_of_fits outside right last second opposite_fits))

  negated_atom_fits : (outside : List ℕ) (a : Atom) → atom_fits schema outside a ≡ true → formula_fits schema (negated_atom a) outside ≡ true
  negated_atom_fits outside (atom.Le left right most) fit =
      let first = both_left (is_number_side schema outside left) (is_number_side schema outside right) fit in
      let second = both_right (is_number_side schema outside left) (is_number_side schema outside right) fit in
      fails_fit outside left right (atom.Le right left (neg_ℤ most -ℤ pos 1)) (number_is outside left first) (number_is outside right second)
      (both_are (is_number_side schema outside right) (is_number_side schema outside left) second first)
  negated_atom_fits outside (atom.TextEq left right) fit =
      fails_fit outside left right (atom.TextNe left right)
      (text_is outside left (both_left (is_text_side schema outside left) (is_text_side schema outside right) fit))
      (text_is outside right (both_right (is_text_side schema outside left) (is_text_side schema outside right) fit)) fit
  negated_atom_fits outside (atom.TextNe left right) fit =
      fails_fit outside left right (atom.TextEq left right)
      (text_is outside left (both_left (is_text_side schema outside left) (is_text_side schema outside right) fit))
      (text_is outside right (both_right (is_text_side schema outside left) (is_text_side schema outside right) fit)) fit
  negated_atom_fits outside (atom.IsNull row column) fit = fits_atom schema (atom.NotNull row column) outside ∙ fit
  negated_atom_fits outside (atom.NotNull row column) fit = fits_atom schema (atom.IsNull row column) outside ∙ fit
  negated_atom_fits outside (atom.Same row other) fit = fits_atom schema (atom.Other row other) outside ∙ fit
  negated_atom_fits outside (atom.Other row other) fit = fits_atom schema (atom.Same row other) outside ∙ fit

  abbrev pub NegationFits : Formula → Type 0
  NegationFits g = (outside : List ℕ) → formula_fits schema g outside ≡ true → formula_fits schema (negated g) outside ≡ true

  abbrev Part : Type 0
  Part = (g : Formula) × NegationFits g

  abbrev formulas : List Part → List Formula
  formulas parts = map (λ (part : Part). part.0) parts

  each_negated : (parts : List Part) (outside : List ℕ) → all_fit outside (formulas parts) ≡ true → all_fit outside (map negated (formulas parts)) ≡ true
  each_negated [] outside fit = refl
  each_negated (part ∷ parts) outside fit =
      let here = formula_fits schema part.0 outside in
      let rest = all_fit outside (formulas parts) in
      both_are (formula_fits schema (negated part.0) outside) (all_fit outside (map negated (formulas parts)))
      (part.1 outside (both_left here rest fit)) (each_negated parts outside (both_right here rest fit))

  of_atom : (a : Atom) → NegationFits (f.Atom a)
  of_atom a outside fit = rw (negated_of_atom a) (negated_atom_fits outside a (sym (fits_atom schema a outside) ∙ fit))

  of_and : (parts : List Part) → NegationFits (f.And (formulas parts))
  of_and parts outside fit =
      let gs = formulas parts in
      rw (negated_and gs, fits_or schema (map negated gs) outside) (each_negated parts outside (sym (fits_and schema gs outside) ∙ fit))

  of_or : (parts : List Part) → NegationFits (f.Or (formulas parts))
  of_or parts outside fit =
      let gs = formulas parts in
      rw (negated_or gs, fits_and schema (map negated gs) outside) (each_negated parts outside (sym (fits_or schema gs outside) ∙ fit))

  of_exists : (table : ℕ) (body : Formula) → NegationFits body → NegationFits (f.Exists table body)
  of_exists table body meaning outside fit =
      let here = nat_lt table (length schema) in
      let within = formula_fits schema body (outside ++ table ∷ []) in
      let both = sym (fits_exists schema table body outside) ∙ fit in
      rw (negated_exists table body, fits_forall schema table (negated body) outside)
      (both_are here (formula_fits schema (negated body) (outside ++ table ∷ [])) (both_left here within both) (meaning (outside ++ table ∷ []) (both_right here within both)))

  of_forall : (table : ℕ) (body : Formula) → NegationFits body → NegationFits (f.Forall table body)
  of_forall table body meaning outside fit =
      let here = nat_lt table (length schema) in
      let within = formula_fits schema body (outside ++ table ∷ []) in
      let both = sym (fits_forall schema table body outside) ∙ fit in
      rw (negated_forall table body, fits_exists schema table (negated body) outside)
      (both_are here (formula_fits schema (negated body) (outside ++ table ∷ [])) (both_left here within both) (meaning (outside ++ table ∷ []) (both_right here within both)))

  at_layer : (y : Formula-F Part) → NegationFits (roll-Formula (map-Formula Part Formula (λ e. e.0) y))
  at_layer (Formula-F.Atom a) = subst NegationFits (sym (f.rolls-Atom a)) (of_atom a)
  at_layer (Formula-F.And parts) = subst NegationFits (sym (f.rolls-And (formulas parts))) (of_and parts)
  at_layer (Formula-F.Or parts) = subst NegationFits (sym (f.rolls-Or (formulas parts))) (of_or parts)
  at_layer (Formula-F.Exists table body) = subst NegationFits (sym (f.rolls-Exists table body.0)) (of_exists table body.0 body.1)
  at_layer (Formula-F.Forall table body) = subst NegationFits (sym (f.rolls-Forall table body.0)) (of_forall table body.0 body.1)

  pub negation_fits : (g : Formula) → NegationFits g
  negation_fits = ind-Formula NegationFits (λ x y is. subst (λ z. NegationFits (roll-Formula z)) is (at_layer y))
