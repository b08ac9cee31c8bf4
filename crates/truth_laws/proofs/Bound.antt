-- When a formula has only variables that are bound: one that fits, joins no rows and has moderate bounds. The
-- formulas of a condition join no rows, and bounds grow by at most one in a negation.
use Rattle.std.proofs.Common.{◌≡◌, ◌∙◌, ◌≤◌, ◌<◌, ◌+◌, ◌^◌, sym, ap, refl, subst, ℕ, ℤ, pos, neg_ℤ, ◌-ℤ◌, Bool, true, false, ◌&&◌, List, [], ◌∷◌, ◌++◌, map, length, inl, inr, arith}
use Rattle.std.proofs.lemmas.Bool.Decides.{nat_tests}
use Rattle.std.proofs.lemmas.Int.{ints}
use Rattle.std.proofs.lemmas.Option.{slice_get_within}
use Rattle.std.specs.List.{list_all}
use Rattle.std.specs.Option.{option_map_or}
use Rattle.std.specs.Prelude.{Option, Some, None, nat_lt, slice_get, option_and_then, is_some}
use Rattle.lint_tables.specs.declared.op.Op.{Op}
use Rattle.lint_core.specs.declared.condition.Cond.{Cond}
use Rattle.lint_core.specs.declared.condition.Term.{Term}
use Rattle.lint_core.specs.declared.schema.Kind.{Kind}
use Rattle.lint_core.specs.declared.schema.Table.{Table}
use Rattle.lint_core.specs.Domain.{int_le}
use Rattle.lint_core.specs.Kind.{is_text, column_kind}
use Rattle.sort_formula.specs.declared.formula.Side.{Side}
use Rattle.sort_formula.specs.declared.formula.Side.TheVariants as side
use Rattle.sort_formula.specs.declared.formula.Atom.{Atom}
use Rattle.sort_formula.specs.declared.formula.Atom.TheVariants as atom
use Rattle.sort_formula.specs.declared.formula.Formula.{Formula, fold_out-Formula, out-Formula, ind-Formula, roll-Formula, map-Formula}
use Rattle.sort_formula.specs.declared.formula.Formula.TheVariants as f
use Rattle.sort_formula.specs.declared.formula.Formula.TheOpen.{Formula-F}
use Rattle.sort_formula.specs.Negated.{negated, negated_atom}
use Rattle.sort_formula.specs.Sentences.{Meaning, layer_is, kind_at, is_number_kind, is_number_side, is_text_side, atom_fits, formula_fits, is_variable, has_variable, is_moderate, atom_is_bound, is_bound}
use Rattle.lint_core.specs.declared.scope.Scope.{Scope}
use Rattle.sort_formula.specs.Sides.{compare_formula, is_null_formula, not_null_formula}
use Rattle.sort_formula.specs.Translation.{translation}
use Rattle.sort_formula.proofs.Fitting.{bound_parts, fits_atom, fits_and, fits_or, fits_exists, fits_forall}
use Rattle.lint_base.proofs.Lists.{both_left, both_right, true_below}
use Rattle.sort_formula.specs.Bounds.{atom_is_within, is_within}
use Rattle.truth_laws.proofs.Atoms.{all_atoms, atoms_atom, atoms_and, atoms_or, atoms_exists, atoms_forall, weaker, negated_passes, translation_passes, fails_passes, compare_passes, null_passes_too}
use Rattle.truth_laws.proofs.Fitting.{both_are, negation_fits}

-- ---- formulas that join no rows

abbrev pub joins_none : Atom → Bool
joins_none (atom.Le left right most) = true
joins_none (atom.TextEq left right) = true
joins_none (atom.TextNe left right) = true
joins_none (atom.IsNull row column) = true
joins_none (atom.NotNull row column) = true
joins_none (atom.Same row other) = false
joins_none (atom.Other row other) = false

abbrev pub has_no_joins : Formula → Bool
has_no_joins = all_atoms joins_none

opposite_joins_none : (a : Atom) → joins_none a ≡ true → has_no_joins (negated_atom a) ≡ true
opposite_joins_none (atom.Le left right most) none = fails_passes joins_none (λ row column. refl) left right (atom.Le right left (neg_ℤ most -ℤ pos 1)) refl
opposite_joins_none (atom.TextEq left right) none = fails_passes joins_none (λ row column. refl) left right (atom.TextNe left right) refl
opposite_joins_none (atom.TextNe left right) none = fails_passes joins_none (λ row column. refl) left right (atom.TextEq left right) refl
opposite_joins_none (atom.IsNull row column) none = atoms_atom joins_none (atom.NotNull row column)
opposite_joins_none (atom.NotNull row column) none = atoms_atom joins_none (atom.IsNull row column)
opposite_joins_none (atom.Same row other) none = cc
opposite_joins_none (atom.Other row other) none = cc

pub negated_joins_none : (g : Formula) → has_no_joins g ≡ true → has_no_joins (negated g) ≡ true
negated_joins_none = negated_passes joins_none joins_none opposite_joins_none

module _ (schema : List Table) where
  compare_joins : (scope : Scope) (op : Op) (a b : Term) → has_no_joins (compare_formula schema scope op a b) ≡ true
  compare_joins scope op a b =
      compare_passes joins_none schema scope (λ left right. refl) (λ left right. refl) op a b (λ less one. refl) (λ less one. refl)

  null_joins : (scope : Scope) (t : Term) → (has_no_joins (is_null_formula schema scope t) ≡ true) × (has_no_joins (not_null_formula schema scope t) ≡ true)
  null_joins scope t = null_passes_too joins_none schema scope (λ row column. refl) (λ row column. refl) t

  -- the formulas of a condition join no rows
  pub condition_joins_none : (cond : Cond) (scope : Scope) → (has_no_joins (translation schema cond scope).true ≡ true) × (has_no_joins (translation schema cond scope).false ≡ true)
  condition_joins_none = translation_passes schema joins_none opposite_joins_none compare_joins null_joins

-- ---- bounds

within_is : (greatest : ℕ) (g : Formula) → is_within greatest g ≡ all_atoms (atom_is_within greatest) g
within_is greatest g = refl

le_more : (m n : ℕ) (most : ℤ) → m ≤ n → int_le (neg_ℤ (pos m)) most ≡ true → int_le (neg_ℤ (pos n)) most ≡ true
le_more m n most more low = grind (arith, ints)

le_most : (m n : ℕ) (most : ℤ) → m ≤ n → int_le most (pos m) ≡ true → int_le most (pos n) ≡ true
le_most m n most more high = grind (arith, ints)

below_opposite : (m n : ℕ) (most : ℤ) → m + 1 ≤ n → int_le most (pos m) ≡ true → int_le (neg_ℤ (pos n)) (neg_ℤ most -ℤ pos 1) ≡ true
below_opposite m n most more high = grind (arith, ints)

above_opposite : (m n : ℕ) (most : ℤ) → m + 1 ≤ n → int_le (neg_ℤ (pos m)) most ≡ true → int_le (neg_ℤ most -ℤ pos 1) (pos n) ≡ true
above_opposite m n most more low = grind (arith, ints)

atom_more : (m n : ℕ) → m ≤ n → (a : Atom) → atom_is_within m a ≡ true → atom_is_within n a ≡ true
atom_more m n more (atom.Le left right most) within =
    let low = int_le (neg_ℤ (pos m)) most in
    let high = int_le most (pos m) in
    both_are (int_le (neg_ℤ (pos n)) most) (int_le most (pos n)) (le_more m n most more (both_left low high within)) (le_most m n most more (both_right low high within))
atom_more m n more (atom.TextEq left right) within = refl
atom_more m n more (atom.TextNe left right) within = refl
atom_more m n more (atom.IsNull row column) within = refl
atom_more m n more (atom.NotNull row column) within = refl
atom_more m n more (atom.Same row other) within = refl
atom_more m n more (atom.Other row other) within = refl

-- bounds within a number are within a greater one
pub within_more : (m n : ℕ) → m ≤ n → (g : Formula) → is_within m g ≡ true → is_within n g ≡ true
within_more m n more = weaker (atom_is_within m) (atom_is_within n) (atom_more m n more)

opposite_within : (m n : ℕ) → m + 1 ≤ n → (a : Atom) → atom_is_within m a ≡ true → is_within n (negated_atom a) ≡ true
opposite_within m n more (atom.Le left right most) within =
    let low = int_le (neg_ℤ (pos m)) most in
    let high = int_le most (pos m) in
    let opposite = neg_ℤ most -ℤ pos 1 in
    fails_passes (atom_is_within n) (λ row column. refl) left right (atom.Le right left opposite)
    (both_are (int_le (neg_ℤ (pos n)) opposite) (int_le opposite (pos n)) (below_opposite m n most more (both_right low high within)) (above_opposite m n most more (both_left low high within)))
opposite_within m n more (atom.TextEq left right) within = fails_passes (atom_is_within n) (λ row column. refl) left right (atom.TextNe left right) refl
opposite_within m n more (atom.TextNe left right) within = fails_passes (atom_is_within n) (λ row column. refl) left right (atom.TextEq left right) refl
opposite_within m n more (atom.IsNull row column) within = atoms_atom (atom_is_within n) (atom.NotNull row column)
opposite_within m n more (atom.NotNull row column) within = atoms_atom (atom_is_within n) (atom.IsNull row column)
opposite_within m n more (atom.Same row other) within = atoms_atom (atom_is_within n) (atom.Other row other)
opposite_within m n more (atom.Other row other) within = atoms_atom (atom_is_within n) (atom.Same row other)

-- the bounds of a negation are greater by at most one
pub negated_within : (m n : ℕ) → m + 1 ≤ n → (g : Formula) → is_within m g ≡ true → is_within n (negated g) ≡ true
negated_within m n more = negated_passes (atom_is_within m) (atom_is_within n) (opposite_within m n more)

pub negated_is_moderate : (g : Formula) → is_within (2 ^ 65) g ≡ true → is_within (2 ^ 66) (negated g) ≡ true
negated_is_moderate = negated_within (2 ^ 65) (2 ^ 66) (omega arith)

-- ---- variables

abbrev bound_layer : Formula-F Formula → Meaning
bound_layer layer = layer_is atom_is_bound (λ table. true) (map-Formula Formula Meaning is_bound layer)

bound_out : (g : Formula) (outside : List ℕ) → is_bound g outside ≡ bound_layer (out-Formula g) outside
bound_out g outside = ap (λ (m : Meaning). m outside) (fold_out-Formula Meaning (layer_is atom_is_bound (λ table. true)) g)

bound_atom : (a : Atom) (outside : List ℕ) → is_bound (f.Atom a) outside ≡ atom_is_bound outside a
bound_atom a outside = bound_out (f.Atom a) outside ∙ ap (λ layer. bound_layer layer outside) (f.outs-Atom a)

bound_exists : (table : ℕ) (body : Formula) (outside : List ℕ) → is_bound (f.Exists table body) outside ≡ is_bound body (outside ++ table ∷ [])
bound_exists table body outside = bound_out (f.Exists table body) outside ∙ ap (λ layer. bound_layer layer outside) (f.outs-Exists table body)

bound_forall : (table : ℕ) (body : Formula) (outside : List ℕ) → is_bound (f.Forall table body) outside ≡ is_bound body (outside ++ table ∷ [])
bound_forall table body outside = bound_out (f.Forall table body) outside ∙ ap (λ layer. bound_layer layer outside) (f.outs-Forall table body)

module _ (schema : List Table) (outside : List ℕ) where
  variable_there : (row column : ℕ) (table : Option ℕ) → slice_get outside row ≡ table →
      is_some (option_and_then (λ t. option_and_then (λ table. column_kind table column) (slice_get schema t)) table) ≡ true → is_variable outside row ≡ true
  variable_there row column None at some = cc
  variable_there row column (Some table) at some = true_below row (length outside) (slice_get_within outside row table at)

  kind_there : (row column : ℕ) → is_some (kind_at schema outside row column) ≡ true → is_variable outside row ≡ true
  kind_there row column some = variable_there row column (slice_get outside row) refl some

  number_there : (k : Option Kind) → option_map_or (is_number_kind schema) k false ≡ true → is_some k ≡ true
  number_there None fits = cc
  number_there (Some k) fits = refl

  text_there : (k : Option Kind) → option_map_or is_text k false ≡ true → is_some k ≡ true
  text_there None fits = cc
  text_there (Some k) fits = refl

  number_has : (s : Side) → is_number_side schema outside s ≡ true → has_variable outside s ≡ true
  number_has (side.Cell row column) fits = kind_there row column (number_there (kind_at schema outside row column) fits)
  number_has side.Zero fits = refl
  number_has (side.Text text) fits = refl

  text_has : (s : Side) → is_text_side schema outside s ≡ true → has_variable outside s ≡ true
  text_has (side.Cell row column) fits = kind_there row column (text_there (kind_at schema outside row column) fits)
  text_has side.Zero fits = refl
  text_has (side.Text text) fits = refl

  texts_have : (left right : Side) → (is_text_side schema outside left && is_text_side schema outside right) ≡ true → (has_variable outside left && has_variable outside right) ≡ true
  texts_have left right fits =
      both_are (has_variable outside left) (has_variable outside right)
      (text_has left (both_left (is_text_side schema outside left) (is_text_side schema outside right) fits))
      (text_has right (both_right (is_text_side schema outside left) (is_text_side schema outside right) fits))

  atom_bound : (a : Atom) → atom_fits schema outside a ≡ true → joins_none a ≡ true → atom_is_within (2 ^ 66) a ≡ true → atom_is_bound outside a ≡ true
  atom_bound (atom.Le left right most) fits none within =
      let first = number_has left (both_left (is_number_side schema outside left) (is_number_side schema outside right) fits) in
      let second = number_has right (both_right (is_number_side schema outside left) (is_number_side schema outside right) fits) in
      both_are (has_variable outside left && has_variable outside right) (is_moderate most) (both_are (has_variable outside left) (has_variable outside right) first second) within
  atom_bound (atom.TextEq left right) fits none within = texts_have left right fits
  atom_bound (atom.TextNe left right) fits none within = texts_have left right fits
  atom_bound (atom.IsNull row column) fits none within = kind_there row column fits
  atom_bound (atom.NotNull row column) fits none within = kind_there row column fits
  atom_bound (atom.Same row other) fits none within = cc
  atom_bound (atom.Other row other) fits none within = cc

module _ (schema : List Table) where
  abbrev within : Formula → Bool
  within = is_within (2 ^ 66)

  abbrev IsBound : Formula → Type 0
  IsBound g = (outside : List ℕ) → formula_fits schema g outside ≡ true → has_no_joins g ≡ true → within g ≡ true → is_bound g outside ≡ true

  abbrev Part : Type 0
  Part = (g : Formula) × IsBound g

  abbrev formulas : List Part → List Formula
  formulas parts = map (λ (part : Part). part.0) parts

  each_bound : (parts : List Part) (outside : List ℕ) → list_all (λ g. formula_fits schema g outside) (formulas parts) ≡ true → list_all has_no_joins (formulas parts) ≡ true →
      list_all within (formulas parts) ≡ true → list_all (λ g. is_bound g outside) (formulas parts) ≡ true
  each_bound [] outside fits none low = refl
  each_bound (part ∷ parts) outside fits none low =
      let gs = formulas parts in
      let first_fits = formula_fits schema part.0 outside in
      let others_fit = list_all (λ g. formula_fits schema g outside) gs in
      let first_none = has_no_joins part.0 in
      let others_none = list_all has_no_joins gs in
      let first_low = within part.0 in
      let others_low = list_all within gs in
      both_are (is_bound part.0 outside) (list_all (λ g. is_bound g outside) gs)
      (part.1 outside (both_left first_fits others_fit fits) (both_left first_none others_none none) (both_left first_low others_low low))
      (each_bound parts outside (both_right first_fits others_fit fits) (both_right first_none others_none none) (both_right first_low others_low low))

  of_atom : (a : Atom) → IsBound (f.Atom a)
  of_atom a outside fits none low =
      bound_atom a outside
      ∙ atom_bound schema outside a (sym (fits_atom schema a outside) ∙ fits) (sym (atoms_atom joins_none a) ∙ none) (sym (atoms_atom (atom_is_within (2 ^ 66)) a) ∙ low)

  of_and : (parts : List Part) → IsBound (f.And (formulas parts))
  of_and parts outside fits none low =
      let gs = formulas parts in
      bound_parts (f.And gs) gs outside (inl refl)
      ∙ each_bound parts outside (sym (fits_and schema gs outside) ∙ fits) (sym (atoms_and joins_none gs) ∙ none) (sym (atoms_and (atom_is_within (2 ^ 66)) gs) ∙ low)

  of_or : (parts : List Part) → IsBound (f.Or (formulas parts))
  of_or parts outside fits none low =
      let gs = formulas parts in
      bound_parts (f.Or gs) gs outside (inr refl)
      ∙ each_bound parts outside (sym (fits_or schema gs outside) ∙ fits) (sym (atoms_or joins_none gs) ∙ none) (sym (atoms_or (atom_is_within (2 ^ 66)) gs) ∙ low)

  of_exists : (table : ℕ) (body : Formula) → IsBound body → IsBound (f.Exists table body)
  of_exists table body bound outside fits none low =
      let here = nat_lt table (length schema) in
      let inner = formula_fits schema body (outside ++ table ∷ []) in
      bound_exists table body outside
      ∙ bound (outside ++ table ∷ []) (both_right here inner (sym (fits_exists schema table body outside) ∙ fits)) (sym (atoms_exists joins_none table body) ∙ none) (sym (atoms_exists (atom_is_within (2 ^ 66)) table body) ∙ low)

  of_forall : (table : ℕ) (body : Formula) → IsBound body → IsBound (f.Forall table body)
  of_forall table body bound outside fits none low =
      let here = nat_lt table (length schema) in
      let inner = formula_fits schema body (outside ++ table ∷ []) in
      bound_forall table body outside
      ∙ bound (outside ++ table ∷ []) (both_right here inner (sym (fits_forall schema table body outside) ∙ fits)) (sym (atoms_forall joins_none table body) ∙ none) (sym (atoms_forall (atom_is_within (2 ^ 66)) table body) ∙ low)

  at_layer : (y : Formula-F Part) → IsBound (roll-Formula (map-Formula Part Formula (λ e. e.0) y))
  at_layer (Formula-F.Atom a) = subst IsBound (sym (f.rolls-Atom a)) (of_atom a)
  at_layer (Formula-F.And parts) = subst IsBound (sym (f.rolls-And (formulas parts))) (of_and parts)
  at_layer (Formula-F.Or parts) = subst IsBound (sym (f.rolls-Or (formulas parts))) (of_or parts)
  at_layer (Formula-F.Exists table body) = subst IsBound (sym (f.rolls-Exists table body.0)) (of_exists table body.0 body.1)
  at_layer (Formula-F.Forall table body) = subst IsBound (sym (f.rolls-Forall table body.0)) (of_forall table body.0 body.1)

  -- a formula that fits, joins no rows and has bounds within 2^66 has only variables that are bound
  pub fitting_is_bound : (g : Formula) → IsBound g
  fitting_is_bound = ind-Formula IsBound (λ x y is. subst (λ z. IsBound (roll-Formula z)) is (at_layer y))

  -- also where the bounds are within 2^65, with its negation, which fits too
  pub low_is_bound : (g : Formula) (outside : List ℕ) → formula_fits schema g outside ≡ true → has_no_joins g ≡ true → is_within (2 ^ 65) g ≡ true → is_bound g outside ≡ true
  low_is_bound g outside fits none low = fitting_is_bound g outside fits none (within_more (2 ^ 65) (2 ^ 66) (omega arith) g low)

  pub negated_is_bound : (g : Formula) (outside : List ℕ) → formula_fits schema g outside ≡ true → has_no_joins g ≡ true → is_within (2 ^ 65) g ≡ true → is_bound (negated g) outside ≡ true
  negated_is_bound g outside fits none low = fitting_is_bound (negated g) outside (negation_fits schema g outside fits) (negated_joins_none g none) (negated_is_moderate g low)

-- ---- a range of bounds that negation keeps

-- from minus one more than the number up to it
abbrev pub is_in_range : ℕ → Atom → Bool
is_in_range most_of_all (atom.Le left right most) = int_le (neg_ℤ (pos (most_of_all + 1))) most && int_le most (pos most_of_all)
is_in_range most_of_all (atom.TextEq left right) = true
is_in_range most_of_all (atom.TextNe left right) = true
is_in_range most_of_all (atom.IsNull row column) = true
is_in_range most_of_all (atom.NotNull row column) = true
is_in_range most_of_all (atom.Same row other) = true
is_in_range most_of_all (atom.Other row other) = true

range_above : (k : ℕ) (most : ℤ) → int_le most (pos k) ≡ true → int_le (neg_ℤ (pos (k + 1))) (neg_ℤ most -ℤ pos 1) ≡ true
range_above k most high = grind (arith, ints)

range_below : (k : ℕ) (most : ℤ) → int_le (neg_ℤ (pos (k + 1))) most ≡ true → int_le (neg_ℤ most -ℤ pos 1) (pos k) ≡ true
range_below k most low = grind (arith, ints)

opposite_in_range : (k : ℕ) (a : Atom) → is_in_range k a ≡ true → all_atoms (is_in_range k) (negated_atom a) ≡ true
opposite_in_range k (atom.Le left right most) within =
    let low = int_le (neg_ℤ (pos (k + 1))) most in
    let high = int_le most (pos k) in
    let opposite = neg_ℤ most -ℤ pos 1 in
    fails_passes (is_in_range k) (λ row column. refl) left right (atom.Le right left opposite)
    (both_are (int_le (neg_ℤ (pos (k + 1))) opposite) (int_le opposite (pos k)) (range_above k most (both_right low high within)) (range_below k most (both_left low high within)))
opposite_in_range k (atom.TextEq left right) within = fails_passes (is_in_range k) (λ row column. refl) left right (atom.TextNe left right) refl
opposite_in_range k (atom.TextNe left right) within = fails_passes (is_in_range k) (λ row column. refl) left right (atom.TextEq left right) refl
opposite_in_range k (atom.IsNull row column) within = atoms_atom (is_in_range k) (atom.NotNull row column)
opposite_in_range k (atom.NotNull row column) within = atoms_atom (is_in_range k) (atom.IsNull row column)
opposite_in_range k (atom.Same row other) within = atoms_atom (is_in_range k) (atom.Other row other)
opposite_in_range k (atom.Other row other) within = atoms_atom (is_in_range k) (atom.Same row other)

-- so negations, however deep, have bounds of the same range
pub negated_in_range : (k : ℕ) (g : Formula) → all_atoms (is_in_range k) g ≡ true → all_atoms (is_in_range k) (negated g) ≡ true
negated_in_range k = negated_passes (is_in_range k) (is_in_range k) (opposite_in_range k)

range_low : (k n : ℕ) (most : ℤ) → k + 1 ≤ n → int_le (neg_ℤ (pos (k + 1))) most ≡ true → int_le (neg_ℤ (pos n)) most ≡ true
range_low k n most more low = grind (arith, ints)

range_high : (k n : ℕ) (most : ℤ) → k + 1 ≤ n → int_le most (pos k) ≡ true → int_le most (pos n) ≡ true
range_high k n most more high = grind (arith, ints)

atom_in_range : (k n : ℕ) → k + 1 ≤ n → (a : Atom) → is_in_range k a ≡ true → atom_is_within n a ≡ true
atom_in_range k n more (atom.Le left right most) within =
    let low = int_le (neg_ℤ (pos (k + 1))) most in
    let high = int_le most (pos k) in
    both_are (int_le (neg_ℤ (pos n)) most) (int_le most (pos n)) (range_low k n most more (both_left low high within)) (range_high k n most more (both_right low high within))
atom_in_range k n more (atom.TextEq left right) within = refl
atom_in_range k n more (atom.TextNe left right) within = refl
atom_in_range k n more (atom.IsNull row column) within = refl
atom_in_range k n more (atom.NotNull row column) within = refl
atom_in_range k n more (atom.Same row other) within = refl
atom_in_range k n more (atom.Other row other) within = refl

pub range_is_within : (k n : ℕ) → k + 1 ≤ n → (g : Formula) → all_atoms (is_in_range k) g ≡ true → is_within n g ≡ true
range_is_within k n more = weaker (is_in_range k) (atom_is_within n) (atom_in_range k n more)
