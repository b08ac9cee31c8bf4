-- An atom that is bound and fits the schema makes a literal that can be judged, at rows of the tables outside it.
use Rattle.std.proofs.Common.{◌≡◌, ◌∙◌, sym, ap, ap₂, refl, ℕ, zero, suc, ◌+◌, ◌-◌, Bool, true, false, ◌&&◌, List, [], ◌∷◌, length, map}
use Rattle.std.proofs.lemmas.Bool.{and_parts, and_from}
use Rattle.std.proofs.lemmas.Option.{slice_get_within, slice_get-map}
use Rattle.std.specs.Prelude.{Option, Some, None, slice_get, nat_eq, option_and_then, unwrap_or, is_some}
use Rattle.std.specs.Option.{option_map, option_map_or}
use Rattle.lint_base.proofs.Lists.{true_below}
use Rattle.lint_core.specs.declared.schema.Column.{Column}
use Rattle.lint_core.specs.declared.schema.Domain.{Domain}
use Rattle.lint_core.specs.declared.schema.Domain.TheVariants as domain
use Rattle.lint_core.specs.declared.schema.Kind.{Kind}
use Rattle.lint_core.specs.declared.schema.Table.{Table}
use Rattle.lint_core.specs.Kind.{column_kind, kind_of, is_text as is_text_kind}
use Rattle.sort_formula.specs.declared.formula.Side.{Side}
use Rattle.sort_formula.specs.declared.formula.Side.TheVariants as side
use Rattle.sort_formula.specs.declared.formula.Atom.{Atom}
use Rattle.sort_formula.specs.declared.formula.Atom.TheVariants as atom
use Rattle.sort_formula.specs.Placed.{placed_row, placed_side, placed_atom}
use Rattle.sort_formula.specs.Sentences.{has_variable, is_moderate, are_of_one_table, atom_is_bound, kind_at, is_number_kind, is_number_side, is_text_side, atom_fits}
use Rattle.ground_theory.specs.declared.literal.Frame.{Frame}
use Rattle.ground_theory.specs.declared.literal.Literal.{Literal}
use Rattle.ground_theory.specs.Assignments.{domains_at}
use Rattle.ground_theory.specs.Fitting as fitting
use Rattle.ground_theory.specs.Judgeable.{has_cell, can_be_judged}
use Rattle.instantiate.specs.Ground.{domains_of}
use Rattle.ground_laws.proofs.Standing.{HasTables}

-- the row of a variable, and its table
has_at : (frame : Frame) (rows tables : List ℕ) → HasTables frame rows tables → (i table : ℕ) → slice_get tables i ≡ Some table → (row : ℕ) × (slice_get rows i ≡ Some row) × (slice_get frame.tables row ≡ Some table)
has_at frame [] [] has i table at = cc
has_at frame [] (t ∷ ts) has i table at = absurd has
has_at frame (r ∷ rs) [] has i table at = absurd has
has_at frame (r ∷ rs) (t ∷ ts) has zero table at = (r, refl, has.0 ∙ at)
has_at frame (r ∷ rs) (t ∷ ts) has (suc i) table at = has_at frame rs ts has.1 i table at

number_domain : (schema : List Table) (d : Domain) → is_number_kind schema (kind_of d) ≡ true → fitting.is_number (Some d) ≡ true
number_domain schema (domain.Number least greatest unit) is = refl
number_domain schema (domain.Text size) is = cc

text_domain : (d : Domain) → is_text_kind (kind_of d) ≡ true → fitting.is_text (Some d) ≡ true
text_domain (domain.Number least greatest unit) is = cc
text_domain (domain.Text size) is = refl

module _ (schema : List Table) (frame : Frame) (domains : frame.domains ≡ domains_of schema) (rows tables : List ℕ) (has : HasTables frame rows tables) where
  abbrev own_row : ℕ → ℕ
  own_row i = placed_row rows 0 i

  table_at : (i table : ℕ) → slice_get tables i ≡ Some table → slice_get frame.tables (own_row i) ≡ Some table
  table_at i table at =
      let found = has_at frame rows tables has i table at in
      ap (λ (o : Option ℕ). slice_get frame.tables (unwrap_or o (0 + (i - length rows)))) found.1 ∙ found.2

  -- a column of a variable's table
  record HasColumn (i column : ℕ) : Type 0 where
    found : Column
    kind_is : kind_at schema tables i column ≡ Some (kind_of found.domain)
    domain_is : slice_get (domains_at frame (own_row i)) column ≡ Some found.domain

  has_column : (i column : ℕ) → is_some (kind_at schema tables i column) ≡ true → HasColumn i column
  has_column i column is = by_table (slice_get tables i) refl is
    where
      by_column : (t : ℕ) (table : Table) → slice_get tables i ≡ Some t → slice_get schema t ≡ Some table → (o : Option Column) → slice_get table.columns column ≡ o →
          is_some (option_and_then (λ (c : Column). Some (kind_of c.domain)) o) ≡ true → HasColumn i column
      by_column t table is_own is_table None at is = cc
      by_column t table is_own is_table (Some c) at is = record {
        found = c;
        kind_is =
            ap (λ (o : Option ℕ). option_and_then (λ t. option_and_then (λ (table : Table). column_kind table column) (slice_get schema t)) o) is_own
            ∙ (ap (λ (o : Option Table). option_and_then (λ (table : Table). column_kind table column) o) is_table
            ∙ ap (λ (o : Option Column). option_and_then (λ (c : Column). Some (kind_of c.domain)) o) at);
        domain_is =
            ap (λ (o : Option ℕ). slice_get (unwrap_or (option_and_then (slice_get frame.domains) o) []) column) (table_at i t is_own)
            ∙ (ap (λ (ds : List (List Domain)). slice_get (unwrap_or (slice_get ds t) []) column) domains
            ∙ (ap (λ (o : Option (List Domain)). slice_get (unwrap_or o []) column)
            (slice_get-map (λ (t : Table). map (λ (c : Column). c.domain) t.columns) schema t ∙ ap (option_map (λ (t : Table). map (λ (c : Column). c.domain) t.columns)) is_table)
            ∙ (slice_get-map (λ (c : Column). c.domain) table.columns column ∙ ap (option_map (λ (c : Column). c.domain)) at)));
      }

      by_schema : (t : ℕ) → slice_get tables i ≡ Some t → (o : Option Table) → slice_get schema t ≡ o →
          is_some (option_and_then (λ (table : Table). column_kind table column) o) ≡ true → HasColumn i column
      by_schema t is_own None at is = cc
      by_schema t is_own (Some table) at is = by_column t table is_own at (slice_get table.columns column) refl is

      by_table : (o : Option ℕ) → slice_get tables i ≡ o →
          is_some (option_and_then (λ t. option_and_then (λ (table : Table). column_kind table column) (slice_get schema t)) o) ≡ true → HasColumn i column
      by_table None at is = cc
      by_table (Some t) at is = by_schema t at (slice_get schema t) refl is

  some_kind : (p : Kind → Bool) (o : Option Kind) → option_map_or p o false ≡ true → is_some o ≡ true
  some_kind p None is = cc
  some_kind p (Some k) is = refl

  of_kind : (p : Kind → Bool) (i column : ℕ) → (is : option_map_or p (kind_at schema tables i column) false ≡ true) →
      (c : HasColumn i column) × (p (kind_of c.found.domain) ≡ true)
  of_kind p i column is =
      let c = has_column i column (some_kind p (kind_at schema tables i column) is) in
      (c, ap (λ o. option_map_or p o false) (sym c.kind_is) ∙ is)

  number_side : (s : Side) → is_number_side schema tables s ≡ true → fitting.is_number_side frame (placed_side rows 0 s) ≡ true
  number_side (side.Cell i column) is =
      let c = of_kind (is_number_kind schema) i column is in
      ap fitting.is_number c.0.domain_is ∙ number_domain schema c.0.found.domain c.1
  number_side side.Zero is = refl
  number_side (side.Text text) is = cc

  text_side : (s : Side) → is_text_side schema tables s ≡ true → fitting.is_text_side frame (placed_side rows 0 s) ≡ true
  text_side (side.Cell i column) is =
      let c = of_kind is_text_kind i column is in
      ap fitting.is_text c.0.domain_is ∙ text_domain c.0.found.domain c.1
  text_side side.Zero is = cc
  text_side (side.Text text) is = refl

  cell_there : (i column : ℕ) → is_some (kind_at schema tables i column) ≡ true → has_cell frame (own_row i) column ≡ true
  cell_there i column is =
      let c = has_column i column is in
      true_below column (length (domains_at frame (own_row i))) (slice_get_within (domains_at frame (own_row i)) column c.found.domain c.domain_is)

  one_table : (i j : ℕ) → are_of_one_table tables i j ≡ true → fitting.are_of_one_table frame (own_row i) (own_row j) ≡ true
  one_table i j is = both (slice_get tables i) (slice_get tables j) refl refl is
    where
      both : (o p : Option ℕ) → slice_get tables i ≡ o → slice_get tables j ≡ p → option_map_or (λ t. option_map_or (nat_eq t) p false) o false ≡ true →
          fitting.are_of_one_table frame (own_row i) (own_row j) ≡ true
      both None p at to is = cc
      both (Some t) None at to is = cc
      both (Some t) (Some u) at to is =
          ap₂ (λ (o p : Option ℕ). option_map_or (λ t. option_map_or (nat_eq t) p false) o false) (table_at i t at) (table_at j u to) ∙ is

  abbrev literal_for : Atom → Literal
  literal_for a = record { atom = placed_atom rows 0 a }

  pub judged : (a : Atom) → atom_is_bound tables a ≡ true → atom_fits schema tables a ≡ true → can_be_judged frame (literal_for a) ≡ true
  judged (atom.Le left right most) bound fits =
      let both = and_parts (is_number_side schema tables left) (is_number_side schema tables right) fits in
      let sides = and_from (fitting.is_number_side frame (placed_side rows 0 left)) (fitting.is_number_side frame (placed_side rows 0 right)) (number_side left both.0) (number_side right both.1) in
      and_from (fitting.fits frame (placed_atom rows 0 (atom.Le left right most))) (is_moderate most) sides
      (and_parts (has_variable tables left && has_variable tables right) (is_moderate most) bound).1
  judged (atom.TextEq left right) bound fits =
      let both = and_parts (is_text_side schema tables left) (is_text_side schema tables right) fits in
      and_from (fitting.fits frame (placed_atom rows 0 (atom.TextEq left right))) true
      (and_from (fitting.is_text_side frame (placed_side rows 0 left)) (fitting.is_text_side frame (placed_side rows 0 right)) (text_side left both.0) (text_side right both.1)) refl
  judged (atom.TextNe left right) bound fits =
      let both = and_parts (is_text_side schema tables left) (is_text_side schema tables right) fits in
      and_from (fitting.fits frame (placed_atom rows 0 (atom.TextNe left right))) true
      (and_from (fitting.is_text_side frame (placed_side rows 0 left)) (fitting.is_text_side frame (placed_side rows 0 right)) (text_side left both.0) (text_side right both.1)) refl
  judged (atom.IsNull i column) bound fits = and_from (has_cell frame (own_row i) column) true (cell_there i column fits) refl
  judged (atom.NotNull i column) bound fits = and_from (has_cell frame (own_row i) column) true (cell_there i column fits) refl
  judged (atom.Same i j) bound fits = and_from (fitting.are_of_one_table frame (own_row i) (own_row j)) true (one_table i j bound) refl
  judged (atom.Other i j) bound fits = and_from (fitting.are_of_one_table frame (own_row i) (own_row j)) true (one_table i j bound) refl
