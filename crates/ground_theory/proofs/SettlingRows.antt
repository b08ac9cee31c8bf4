-- The rows and the cells of the assignment that is made of what was found.
use Rattle.std.proofs.Common.{◌≡◌, ◌∙◌, sym, ap, refl, subst, ℕ, zero, suc, ◌<◌, ◌≤◌, ◌+◌, true, false, List, [], ◌∷◌, length, arith}
use Rattle.std.specs.Prelude.{Option, Some, None, slice_get, nat_eq, unwrap_or}
use Rattle.std.specs.Option.{option_map, option_map_or}
use Rattle.std.proofs.lemmas.Bool.{and_from, eqb-true, eq-eqb}
use Rattle.std.proofs.lemmas.Option.{slice_get-get_or, slice_get_within, slice_get_past, get_or_from_slice_get}
use Rattle.lint_core.specs.declared.database.Value.{Value}
use Rattle.lint_core.specs.declared.database.Value.TheVariants.{Null}
use Rattle.lint_core.specs.declared.schema.Domain.{Domain}
use Rattle.lint_core.specs.Domain.{is_in_domain}
use Rattle.ground_theory.specs.declared.assignment.Solution.{Solution}
use Rattle.ground_theory.specs.declared.literal.Assignment.{Assignment}
use Rattle.ground_theory.specs.declared.literal.Frame.{Frame}
use Rattle.ground_theory.specs.Assignments.{domains_at, are_in, cells_at, cell_at, are_one}
use Rattle.ground_theory.specs.inner.Filling.{filled, cell_of_column, row_cells, class_cells}
use Rattle.ground_theory.specs.inner.Joining.{label_at}
use Rattle.ground_theory.specs.inner.Numbering.{number_at}
use Rattle.ground_theory.specs.inner.Sums.{told}
use Rattle.ground_theory.proofs.Moving.{passes}

module _ (frame : Frame) (s : Solution) where
  abbrev places : List (Option ℕ)
  places = s.numbering.places.items

  -- the value of a cell, by its variable and the domain of its column
  abbrev pub value_of : Option ℕ → Option Domain → Value
  value_of o None = Null
  value_of o (Some d) = filled s o d

  abbrev pub value_at : ℕ → ℕ → Value
  value_at row column = value_of (number_at places row column) (slice_get (domains_at frame row) column)

  told_cell : (row start column : ℕ) (ds : List Domain) → unwrap_or (slice_get (told (cell_of_column s row) start ds) column) Null ≡ value_of (number_at places row (start + column)) (slice_get ds column)
  told_cell row start column [] = refl
  told_cell row start zero (d ∷ ds) = ap (λ (n : ℕ). filled s (number_at places row n) d) (let e : start ≡ start + 0 = omega arith in e)
  told_cell row start (suc column) (d ∷ ds) =
      told_cell row (suc start) column ds ∙ ap (λ (n : ℕ). value_of (number_at places row n) (slice_get ds column)) (let e : suc start + column ≡ start + suc column = omega arith in e)

  told_value : (row column : ℕ) → unwrap_or (slice_get (row_cells frame s row) column) Null ≡ value_at row column
  told_value row column =
      told_cell row 0 column (domains_at frame row) ∙ ap (λ (n : ℕ). value_of (number_at places row n) (slice_get (domains_at frame row) column)) (let e : 0 + column ≡ column = omega arith in e)

  told_row : (labels : List ℕ) (start row : ℕ) → slice_get (told (class_cells frame s) start labels) row ≡ option_map (row_cells frame s) (slice_get labels row)
  told_row [] start row = refl
  told_row (c ∷ cs) start zero = refl
  told_row (c ∷ cs) start (suc row) = told_row cs (suc start) row

  pub told_count : (labels : List ℕ) (start : ℕ) → length (told (class_cells frame s) start labels) ≡ length labels
  told_count [] start = refl
  told_count (c ∷ cs) start = ap (λ (n : ℕ). suc n) (told_count cs (suc start))

  -- the cells are of the domains where each is
  pub told_in : (row start : ℕ) (ds : List Domain) → ((k : ℕ) (d : Domain) → slice_get ds k ≡ Some d → is_in_domain d (filled s (number_at places row (start + k)) d) ≡ true) →
      are_in ds (told (cell_of_column s row) start ds) ≡ true
  told_in row start [] each = refl
  told_in row start (d ∷ ds) each =
      and_from (is_in_domain d (filled s (number_at places row start) d)) (are_in ds (told (cell_of_column s row) (suc start) ds))
      (subst (λ (n : ℕ). is_in_domain d (filled s (number_at places row n) d) ≡ true) (let e : start + 0 ≡ start = omega arith in e) (each 0 d refl))
      (told_in row (suc start) ds (λ k e at. subst (λ (n : ℕ). is_in_domain e (filled s (number_at places row n) e) ≡ true) (let h : start + suc k ≡ suc start + k = omega arith in h) (each (suc k) e at)))

  module _ (labels : List ℕ) where
    abbrev pub assigned : Assignment
    assigned = record { same = labels; cells = told (class_cells frame s) 0 labels }

    pub cells_there : (row : ℕ) → row < length labels → cells_at assigned row ≡ row_cells frame s (label_at labels row)
    cells_there row h = ap (λ (o : Option (List Value)). unwrap_or o []) (told_row labels 0 row ∙ ap (option_map (row_cells frame s)) (slice_get-get_or labels row 0 h))

    pub cell_named : (row column : ℕ) → row < length labels → cell_at assigned row column ≡ value_at (label_at labels row) column
    cell_named row column h = ap (λ (cs : List Value). unwrap_or (slice_get cs column) Null) (cells_there row h) ∙ told_value (label_at labels row) column

    pub cell_past : (row column : ℕ) → length labels ≤ row → cell_at assigned row column ≡ Null
    cell_past row column h =
        ap (λ (o : Option (List Value)). unwrap_or (slice_get (unwrap_or o []) column) Null) (told_row labels 0 row ∙ ap (option_map (row_cells frame s)) (slice_get_past labels row h))

    -- both are there, of one label
    pub record AreOne (row other : ℕ) : Type 0 where
      pub row_in : row < length labels
      pub other_in : other < length labels
      pub same : label_at labels row ≡ label_at labels other

    pub one_labels : (row other : ℕ) → are_one assigned row other ≡ true → AreOne row other
    one_labels row other one =
        let t = passes (λ (c : ℕ). option_map_or (nat_eq c) (slice_get labels other) false) (slice_get labels row) one in
        let u = passes (nat_eq t.0) (slice_get labels other) t.2 in
        record {
          row_in = slice_get_within labels row t.0 t.1;
          other_in = slice_get_within labels other u.0 u.1;
          same = get_or_from_slice_get labels row t.0 0 t.1 ∙ (eqb-true t.0 u.0 u.2 ∙ sym (get_or_from_slice_get labels other u.0 0 u.1));
        }

    pub one_from : (row other : ℕ) → row < length labels → other < length labels → label_at labels row ≡ label_at labels other → are_one assigned row other ≡ true
    one_from row other row_in other_in same =
        ap (λ (o : Option ℕ). option_map_or (λ (c : ℕ). option_map_or (nat_eq c) (slice_get labels other) false) o false) (slice_get-get_or labels row 0 row_in)
        ∙ (ap (λ (o : Option ℕ). option_map_or (nat_eq (label_at labels row)) o false) (slice_get-get_or labels other 0 other_in) ∙ eq-eqb (label_at labels row) (label_at labels other) same)
