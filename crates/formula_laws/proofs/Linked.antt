-- Along a path the place stays the same, and along a chain of texts the value; so in a realized branch no such
-- chain or path closes it.
use Rattle.std.proofs.Common.{◌≡◌, ◌∙◌, sym, ap, refl, subst, ℕ, ℤ, inl, inr, Bool, true, false, not, ◌||◌, List, [], ◌∷◌}
use Rattle.std.proofs.lemmas.Bool.{and_parts, or_cases, eqb-true, eq-eqb, and_from, both_ways, not-true}
use Rattle.std.proofs.lemmas.Bool.Decides.{Decides-eqb}
use Rattle.std.proofs.lemmas.Option.{option_and_then_some, same_Some}
use Rattle.std.proofs.lemmas.Slice.Eq.{slice_eq-Decides}
use Rattle.std.specs.Prelude.{Option, Some, None, slice_get, unwrap_or, option_and_then, nat_eq, if◌then◌else◌}
use Rattle.std.specs.Option.{option_map_or}
use Rattle.lint_core.specs.declared.certificate.SameEdge.{SameEdge}
use Rattle.lint_core.specs.declared.certificate.TextEdge.{TextEdge}
use Rattle.lint_core.specs.declared.certificate.TextEdge.TheVariants as edge
use Rattle.lint_core.specs.declared.database.Database.{Database}
use Rattle.lint_core.specs.declared.database.Value.{Value}
use Rattle.lint_core.specs.declared.database.Value.TheVariants.{Null, Int, Text}
use Rattle.lint_core.specs.declared.schema.Domain.{Domain}
use Rattle.lint_core.specs.declared.schema.Domain.TheVariants as domain
use Rattle.lint_core.specs.declared.schema.Table.{Table}
use Rattle.lint_core.specs.Comparison.{is_null, is_same_text}
use Rattle.lint_core.specs.Database.{Place, value_at}
use Rattle.sort_formula.specs.declared.formula.Side.{Side}
use Rattle.sort_formula.specs.declared.formula.Side.TheVariants as side
use Rattle.sort_formula.specs.declared.formula.Atom.{Atom}
use Rattle.sort_formula.specs.declared.formula.Atom.TheVariants as atom
use Rattle.sort_formula.specs.Chains.{turned, path_end, is_cell, says_not_null, null_clash, is_null_clash, same_clash, is_same_clash, equal_sides, text_cells, same_cells, back, ends_of, chain_end, chain_leads_to, text_clash, are_two_texts, constants_clash, is_text_clash}
use Rattle.sort_formula.specs.Facts.{Branch, atom_of, same_rows_of, domain_at, is_same_side}
use Rattle.sort_formula.specs.Holds.{cell_value, side_value, differ_by_at_most, are_texts, is_same_place}
use Rattle.sort_formula.specs.Realized.{Realized}
use Rattle.formula_laws.proofs.Named.{Says}
use Rattle.formula_laws.proofs.Realized.{OnePlace, says, one_place}

-- ---- tests of an option, texts and sides

chosen : {A : Type 0} (b : Bool) (o : Option A) (x : A) → (if b then o else None) ≡ Some x → (b ≡ true) × (o ≡ Some x)
chosen true o x at = (refl, at)
chosen false o x at = cc

pub passes : {A : Type 0} (test : A → Bool) (o : Option A) → option_map_or test o false ≡ true → (x : A) × (o ≡ Some x) × (test x ≡ true)
passes test None h = cc
passes test (Some x) h = (x, refl, h)

one_text : (a b : List ℕ) → is_same_text a b ≡ true → a ≡ b
one_text a b same = (slice_eq-Decides Decides-eqb a b (is_same_text a b) refl).0 same

same_texts : (a b : List ℕ) → a ≡ b → is_same_text a b ≡ true
same_texts a b same = (slice_eq-Decides Decides-eqb a b (is_same_text a b) refl).1 same

pub same_side : (a b : Side) → is_same_side a b ≡ true → a ≡ b
same_side side.Zero side.Zero h = refl
same_side side.Zero (side.Cell row column) h = cc
same_side side.Zero (side.Text text) h = cc
same_side (side.Cell row column) side.Zero h = cc
same_side (side.Cell row column) (side.Text text) h = cc
same_side (side.Cell row column) (side.Cell other second) h =
    let parts = and_parts (nat_eq row other) (nat_eq column second) h in
    let rows = eqb-true row other parts.0 in
    let columns = eqb-true column second parts.1 in
    cc (rows, columns)
same_side (side.Text text) side.Zero h = cc
same_side (side.Text text) (side.Cell row column) h = cc
same_side (side.Text text) (side.Text other) h = ap side.Text (one_text text other h)

-- ---- values that are compared

numbers_known : (v w : Value) (most : ℤ) → differ_by_at_most v w most ≡ true → (is_null v ≡ false) × (is_null w ≡ false)
numbers_known Null w most h = cc
numbers_known (Int a) Null most h = cc
numbers_known (Int a) (Int b) most h = (refl, refl)
numbers_known (Int a) (Text b) most h = cc
numbers_known (Text a) w most h = cc

texts_known : (test : Bool → Bool) (v w : Value) → are_texts test v w ≡ true → (is_null v ≡ false) × (is_null w ≡ false)
texts_known test Null w h = cc
texts_known test (Int a) w h = cc
texts_known test (Text a) Null h = cc
texts_known test (Text a) (Int b) h = cc
texts_known test (Text a) (Text b) h = (refl, refl)

equal_texts : (v w : Value) → are_texts (λ same. same) v w ≡ true → v ≡ w
equal_texts Null w h = cc
equal_texts (Int a) w h = cc
equal_texts (Text a) Null h = cc
equal_texts (Text a) (Int b) h = cc
equal_texts (Text a) (Text b) h = ap Text (one_text a b h)

not_both : (b : Bool) → not b ≡ true → b ≡ true → ⊥
not_both true h given = cc
not_both false h given = cc

different_texts : (v w : Value) → are_texts not v w ≡ true → v ≡ w → ⊥
different_texts Null w h same = cc
different_texts (Int a) w h same = cc
different_texts (Text a) Null h same = cc
different_texts (Text a) (Int b) h same = cc
different_texts (Text a) (Text b) h same = not_both (is_same_text a b) h (same_texts a b (cc))

module _ (db : Database) (branch : Branch) (places : List Place) (realized : Realized db branch places) where
  -- ---- paths

  turned_place : (back : Bool) (rows : ℕ × ℕ) → OnePlace db branch places realized rows → OnePlace db branch places realized (turned back rows)
  turned_place true rows one = sym one
  turned_place false rows one = one

  edge_place : (e : SameEdge) (rows : ℕ × ℕ) → option_and_then (λ rows. Some (turned e.back rows)) (same_rows_of branch e.fact) ≡ Some rows →
      slice_get places rows.0 ≡ slice_get places rows.1
  edge_place e rows at =
      option_and_then_some (λ rows. Some (turned e.back rows)) (same_rows_of branch e.fact) rows at
      (λ pair here same.
      subst (λ (rows : ℕ × ℕ). slice_get places rows.0 ≡ slice_get places rows.1) (same_Some (turned e.back pair) rows same)
      (turned_place e.back pair (one_place db branch places realized e.fact pair here)))

  path_place : (row : ℕ) (es : List SameEdge) (end : ℕ) → path_end branch row es ≡ Some end → slice_get places row ≡ slice_get places end
  path_place row [] end at = ap (slice_get places) (same_Some row end at)
  path_place row (e ∷ es) end at =
      option_and_then_some (λ (rows : ℕ × ℕ). if nat_eq row rows.0 then path_end branch rows.1 es else None)
      (option_and_then (λ rows. Some (turned e.back rows)) (same_rows_of branch e.fact)) end at
      (λ rows here more.
      let parts = chosen (nat_eq row rows.0) (path_end branch rows.1 es) end more in
      ap (slice_get places) (eqb-true row rows.0 parts.0) ∙ (edge_place e rows here ∙ path_place rows.1 es end parts.1))

  abbrev cell : ℕ → ℕ → Value
  cell row column = cell_value db places row column

  same_cell : (row other column : ℕ) → slice_get places row ≡ slice_get places other → cell row column ≡ cell other column
  same_cell row other column same = ap (λ o. unwrap_or (option_and_then (λ place. value_at db place column) o) Null) same

  -- ---- a cell that is NULL and is not

  side_is_cell : (row column : ℕ) (s : Side) → is_cell row column s ≡ true → is_null (side_value db places s) ≡ false → is_null (cell row column) ≡ false
  side_is_cell row column s same known =
      subst (λ s. is_null (side_value db places s) ≡ false) (same_side s (side.Cell row column) same) known

  one_is_cell : (row column : ℕ) (left right : Side) → (is_cell row column left || is_cell row column right) ≡ true →
      (is_null (side_value db places left) ≡ false) × (is_null (side_value db places right) ≡ false) → is_null (cell row column) ≡ false
  one_is_cell row column left right one known =
      elim (or_cases (is_cell row column left) (is_cell row column right) one) [
        | inl first ↦ side_is_cell row column left first known.0
        | inr second ↦ side_is_cell row column right second known.1
      ]

  not_null : (row column : ℕ) (a : Atom) → says_not_null row column a ≡ true → Says db places a → is_null (cell row column) ≡ false
  not_null row column (atom.Le left right most) one stands =
      one_is_cell row column left right one (numbers_known (side_value db places left) (side_value db places right) most stands.0)
  not_null row column (atom.TextEq left right) one stands =
      one_is_cell row column left right one (texts_known (λ same. same) (side_value db places left) (side_value db places right) stands.0)
  not_null row column (atom.TextNe left right) one stands =
      one_is_cell row column left right one (texts_known not (side_value db places left) (side_value db places right) stands.0)
  not_null row column (atom.IsNull other second) one stands = cc
  not_null row column (atom.NotNull other second) one stands =
      let parts = and_parts (nat_eq row other) (nat_eq column second) one in
      let rows = eqb-true row other parts.0 in
      let columns = eqb-true column second parts.1 in
      rw (rows, columns) (not-true (is_null (cell other second)) stands.0)
  not_null row column (atom.Same other second) one stands = cc
  not_null row column (atom.Other other second) one stands = cc

  null_atoms : (path : List SameEdge) (a b : Atom) → null_clash branch path a b ≡ true → Says db places a → Says db places b → ⊥
  null_atoms path (atom.IsNull row column) b clash first second =
      let end = passes (λ end. says_not_null end column b) (path_end branch row path) clash in
      let same : cell row column ≡ cell end.0 column = same_cell row end.0 column (path_place row path end.0 end.1) in
      both_ways (is_null (cell row column)) (ap is_null same ∙ not_null end.0 column b end.2 second) first.0
  null_atoms path (atom.Le left right most) b clash first second = cc
  null_atoms path (atom.TextEq left right) b clash first second = cc
  null_atoms path (atom.TextNe left right) b clash first second = cc
  null_atoms path (atom.NotNull row column) b clash first second = cc
  null_atoms path (atom.Same row other) b clash first second = cc
  null_atoms path (atom.Other row other) b clash first second = cc

  pub no_null_clash : (fact other : ℕ) (path : List SameEdge) → is_null_clash branch fact other path ≡ true → ⊥
  no_null_clash fact other path clash =
      let a = passes (λ a. option_map_or (null_clash branch path a) (atom_of branch other) false) (atom_of branch fact) clash in
      let b = passes (null_clash branch path a.0) (atom_of branch other) a.2 in
      null_atoms path a.0 b.0 b.2 (says db branch places realized fact a.0 a.1) (says db branch places realized other b.0 b.1)

  -- ---- two rows that are one and are not

  same_itself : (place : Place) → is_same_place (Some place) (Some place) ≡ true
  same_itself place =
      and_from (nat_eq place.table place.table) (nat_eq place.row place.row)
      (eq-eqb place.table place.table refl) (eq-eqb place.row place.row refl)

  same_atoms : (path : List SameEdge) (a : Atom) → same_clash branch path a ≡ true → Says db places a → ⊥
  same_atoms path (atom.Other row other) clash stands =
      let end = passes (nat_eq other) (path_end branch row path) clash in
      let here : slice_get places row ≡ Some stands.1.0 = stands.1.1 in
      let there : slice_get places other ≡ Some stands.1.0 =
      ap (slice_get places) (eqb-true other end.0 end.2) ∙ (sym (path_place row path end.0 end.1) ∙ here) in
      let same : is_same_place (slice_get places row) (slice_get places other) ≡ true = rw (here, there) (same_itself stands.1.0) in
      not_both (is_same_place (slice_get places row) (slice_get places other)) stands.0 same
  same_atoms path (atom.Le left right most) clash stands = cc
  same_atoms path (atom.TextEq left right) clash stands = cc
  same_atoms path (atom.TextNe left right) clash stands = cc
  same_atoms path (atom.IsNull row column) clash stands = cc
  same_atoms path (atom.NotNull row column) clash stands = cc
  same_atoms path (atom.Same row other) clash stands = cc

  pub no_same_clash : (fact : ℕ) (path : List SameEdge) → is_same_clash branch fact path ≡ true → ⊥
  no_same_clash fact path clash =
      let a = passes (same_clash branch path) (atom_of branch fact) clash in
      same_atoms path a.0 a.2 (says db branch places realized fact a.0 a.1)

  -- ---- texts

  abbrev value : Side → Value
  value s = side_value db places s

  -- two sides of one value
  abbrev OneValue : Side × Side → Type 0
  OneValue both = value both.0 ≡ value both.1

  equal_atom : (a : Atom) (both : Side × Side) → equal_sides a ≡ Some both → Says db places a → OneValue both
  equal_atom (atom.Le left right most) both at stands = cc
  equal_atom (atom.TextEq left right) both at stands =
      subst OneValue (same_Some (left, right) both at) (equal_texts (value left) (value right) stands.0)
  equal_atom (atom.TextNe left right) both at stands = cc
  equal_atom (atom.IsNull row column) both at stands = cc
  equal_atom (atom.NotNull row column) both at stands = cc
  equal_atom (atom.Same row other) both at stands = cc
  equal_atom (atom.Other row other) both at stands = cc

  fact_value : (fact : ℕ) (both : Side × Side) → option_and_then equal_sides (atom_of branch fact) ≡ Some both → OneValue both
  fact_value fact both at =
      option_and_then_some equal_sides (atom_of branch fact) both at
      (λ a here stated. equal_atom a both stated (says db branch places realized fact a here))

  cells_value : (column : ℕ) (rows : ℕ × ℕ) (d : Domain) (both : Side × Side) → slice_get places rows.0 ≡ slice_get places rows.1 →
      text_cells column rows d ≡ Some both → OneValue both
  cells_value column rows (domain.Number least greatest unit) both one at = cc
  cells_value column rows (domain.Text length) both one at =
      subst OneValue (same_Some (side.Cell rows.0 column, side.Cell rows.1 column) both at) (same_cell rows.0 rows.1 column one)

  module _ (schema : List Table) where
    same_value : (fact column : ℕ) (both : Side × Side) → same_cells schema branch fact column ≡ Some both → OneValue both
    same_value fact column both at =
        option_and_then_some (λ (rows : ℕ × ℕ). option_and_then (text_cells column rows) (domain_at schema branch rows.0 column)) (same_rows_of branch fact) both at
        (λ rows here more. option_and_then_some (text_cells column rows) (domain_at schema branch rows.0 column) both more
        (λ d d_at stated. cells_value column rows d both (one_place db branch places realized fact rows here) stated))

    back_value : (o : Option (Side × Side)) (both : Side × Side) → back schema branch o ≡ Some both →
        ((pair : Side × Side) → o ≡ Some pair → OneValue pair) → OneValue both
    back_value o both at one =
        option_and_then_some (λ (pair : Side × Side). Some (pair.1, pair.0)) o both at
        (λ pair here same. subst OneValue (same_Some (pair.1, pair.0) both same) (sym (one pair here)))

    ends_value : (e : TextEdge) (both : Side × Side) → ends_of schema branch e ≡ Some both → OneValue both
    ends_value (edge.Fact fact) both at = fact_value fact both at
    ends_value (edge.FactBack fact) both at = back_value (option_and_then equal_sides (atom_of branch fact)) both at (fact_value fact)
    ends_value (edge.Same fact column) both at = same_value fact column both at
    ends_value (edge.Back fact column) both at = back_value (same_cells schema branch fact column) both at (same_value fact column)

    chain_value : (from : Side) (es : List TextEdge) (end : Side) → chain_end schema branch from es ≡ Some end → value from ≡ value end
    chain_value from [] end at = ap value (same_Some from end at)
    chain_value from (e ∷ es) end at =
        option_and_then_some (λ (both : Side × Side). if is_same_side from both.0 then chain_end schema branch both.1 es else None) (ends_of schema branch e) end at
        (λ both here more.
        let parts = chosen (is_same_side from both.0) (chain_end schema branch both.1 es) end more in
        ap value (same_side from both.0 parts.0) ∙ (ends_value e both here ∙ chain_value both.1 es end parts.1))

    text_atom : (es : List TextEdge) (a : Atom) → text_clash schema branch es a ≡ true → Says db places a → ⊥
    text_atom es (atom.TextNe left right) clash stands =
        let end = passes (is_same_side right) (chain_end schema branch left es) clash in
        different_texts (value left) (value right) stands.0
        (chain_value left es end.0 end.1 ∙ sym (ap value (same_side right end.0 end.2)))
    text_atom es (atom.Le left right most) clash stands = cc
    text_atom es (atom.TextEq left right) clash stands = cc
    text_atom es (atom.IsNull row column) clash stands = cc
    text_atom es (atom.NotNull row column) clash stands = cc
    text_atom es (atom.Same row other) clash stands = cc
    text_atom es (atom.Other row other) clash stands = cc

    two_texts : (s t : Side) → are_two_texts schema branch s t ≡ true → value s ≡ value t → ⊥
    two_texts side.Zero t two same = cc
    two_texts (side.Cell row column) t two same = cc
    two_texts (side.Text text) side.Zero two same = cc
    two_texts (side.Text text) (side.Cell row column) two same = cc
    two_texts (side.Text text) (side.Text other) two same = different_texts (Text text) (Text other) two same

    constants : (es : List TextEdge) → constants_clash schema branch es ≡ true → ⊥
    constants [] clash = cc
    constants (e ∷ es) clash =
        let both = passes (λ (both : Side × Side). chain_leads_to schema branch both.0 (e ∷ es) (are_two_texts schema branch both.0)) (ends_of schema branch e) clash in
        let end = passes (are_two_texts schema branch both.0.0) (chain_end schema branch both.0.0 (e ∷ es)) both.2 in
        two_texts both.0.0 end.0 end.2 (chain_value both.0.0 (e ∷ es) end.0 end.1)

    pub no_text_clash : (last : Option ℕ) (es : List TextEdge) → is_text_clash schema branch last es ≡ true → ⊥
    no_text_clash None es clash = constants es clash
    no_text_clash (Some last) es clash =
        let a = passes (text_clash schema branch es) (atom_of branch last) clash in
        text_atom es a.0 a.2 (says db branch places realized last a.0 a.1)
