-- The places that a fact's row numbers name among the places of its branch, and what its atom says of them.
use Rattle.std.proofs.Common.{◌≡◌, ◌∙◌, sym, ap, ap₂, subst, ℕ, zero, suc, refl, Bool, true, not, List, [], ◌∷◌, ◌++◌, length}
use Rattle.std.proofs.lemmas.Option.{option_and_then_some, same_Some}
use Rattle.std.specs.Prelude.{Option, Some, slice_get, unwrap_or, option_and_then, ⊤}
use Rattle.lint_base.proofs.Lists.{slice_get_front, slice_get_last}
use Rattle.lint_core.specs.declared.database.Database.{Database}
use Rattle.lint_core.specs.declared.database.Value.{Value}
use Rattle.lint_core.specs.declared.database.Value.TheVariants.{Null}
use Rattle.lint_core.specs.Comparison.{is_null}
use Rattle.lint_core.specs.Database.{Place, value_at}
use Rattle.sort_formula.specs.declared.formula.Side.{Side}
use Rattle.sort_formula.specs.declared.formula.Side.TheVariants as side
use Rattle.sort_formula.specs.declared.formula.Atom.{Atom}
use Rattle.sort_formula.specs.declared.formula.Atom.TheVariants as atom
use Rattle.sort_formula.specs.Facts.{side_at, sides_at, rows_at, cell_at, atom_at}
use Rattle.sort_formula.specs.Holds.{cell_value, side_value, differ_by_at_most, are_texts, is_same_place, atom_holds}
use Rattle.sort_formula.specs.Realized.{Names}

-- more places change nothing
pub names_more : (places more : List Place) (rs : List ℕ) (ps : List Place) → Names places rs ps → Names (places ++ more) rs ps
names_more places more [] [] names = tt
names_more places more [] (p ∷ ps) names = absurd names
names_more places more (r ∷ rs) [] names = absurd names
names_more places more (r ∷ rs) (p ∷ ps) names = (slice_get_front places more r p names.0, names_more places more rs ps names.1)

-- one more number, of a place that is there
pub names_next : (places : List Place) (rs : List ℕ) (ps : List Place) → Names places rs ps → (r : ℕ) (p : Place) →
    slice_get places r ≡ Some p → Names places (rs ++ r ∷ []) (ps ++ p ∷ [])
names_next places [] [] names r p at = (at, tt)
names_next places [] (p' ∷ ps) names r p at = absurd names
names_next places (r' ∷ rs) [] names r p at = absurd names
names_next places (r' ∷ rs) (p' ∷ ps) names r p at = (names.0, names_next places rs ps names.1 r p at)

-- the number of a new place names it
pub names_new : (places : List Place) (place : Place) (rs : List ℕ) (ps : List Place) → Names places rs ps →
    Names (places ++ place ∷ []) (rs ++ length places ∷ []) (ps ++ place ∷ [])
names_new places place rs ps names =
    names_next (places ++ place ∷ []) rs ps (names_more places (place ∷ []) rs ps names) (length places) place (slice_get_last places place)

named_at : (places : List Place) (rs : List ℕ) (ps : List Place) (i r : ℕ) → Names places rs ps → slice_get rs i ≡ Some r →
    slice_get ps i ≡ slice_get places r
named_at places [] ps i r names at = cc
named_at places (r' ∷ rs) [] i r names at = absurd names
named_at places (r' ∷ rs) (p ∷ ps) zero r names at = sym names.0 ∙ ap (slice_get places) (same_Some r' r at)
named_at places (r' ∷ rs) (p ∷ ps) (suc i) r names at = named_at places rs ps i r names.1 at

named_place : (places : List Place) (rs : List ℕ) (ps : List Place) (i r : ℕ) → Names places rs ps → slice_get rs i ≡ Some r →
    (place : Place) × (slice_get places r ≡ Some place)
named_place places [] ps i r names at = cc
named_place places (r' ∷ rs) [] i r names at = absurd names
named_place places (r' ∷ rs) (p ∷ ps) zero r names at = (p, ap (slice_get places) (sym (same_Some r' r at)) ∙ names.0)
named_place places (r' ∷ rs) (p ∷ ps) (suc i) r names at = named_place places rs ps i r names.1 at

module _ (db : Database) (places : List Place) where
  -- the first of two rows that differ is there
  abbrev pub IsThere : Atom → Type 0
  IsThere (atom.Le left right most) = ⊤
  IsThere (atom.TextEq left right) = ⊤
  IsThere (atom.TextNe left right) = ⊤
  IsThere (atom.IsNull row column) = ⊤
  IsThere (atom.NotNull row column) = ⊤
  IsThere (atom.Same row other) = ⊤
  IsThere (atom.Other row other) = (place : Place) × (slice_get places row ≡ Some place)

  -- the atom holds at the branch's places
  abbrev pub Says : Atom → Type 0
  Says a = (atom_holds db places a ≡ true) × IsThere a

  module _ (rs : List ℕ) (ps : List Place) (names : Names places rs ps) where
    named_cell : (i r column : ℕ) → slice_get rs i ≡ Some r → cell_value db ps i column ≡ cell_value db places r column
    named_cell i r column at =
        ap (λ o. unwrap_or (option_and_then (λ place. value_at db place column) o) Null) (named_at places rs ps i r names at)

    named_side : (s t : Side) → side_at rs s ≡ Some t → side_value db ps s ≡ side_value db places t
    named_side side.Zero t at = ap (side_value db places) (same_Some side.Zero t at)
    named_side (side.Text text) t at = ap (side_value db places) (same_Some (side.Text text) t at)
    named_side (side.Cell row column) t at =
        option_and_then_some (λ r. Some (side.Cell r column)) (slice_get rs row) t at
        (λ r here same. named_cell row r column here ∙ ap (side_value db places) (same_Some (side.Cell r column) t same))

    -- an atom of two sides, of a cell, and of two rows
    says_sides : (make : Side → Side → Atom) (test : Value → Value → Bool) →
        ((l r : Side) (rows : List Place) → atom_holds db rows (make l r) ≡ test (side_value db rows l) (side_value db rows r)) →
        ((l r : Side) → IsThere (make l r)) → (left right : Side) (t : Atom) → sides_at rs make left right ≡ Some t →
        atom_holds db ps (make left right) ≡ true → Says t
    says_sides make test is there left right t at stands =
        option_and_then_some (λ l. option_and_then (λ r. Some (make l r)) (side_at rs right)) (side_at rs left) t at
        (λ l l_at more. option_and_then_some (λ r. Some (make l r)) (side_at rs right) t more
        (λ r r_at same.
        let alike = ap₂ test (named_side left l l_at) (named_side right r r_at) in
        subst Says (same_Some (make l r) t same) (is l r places ∙ (sym alike ∙ (sym (is left right ps) ∙ stands)), there l r)))

    says_cell : (make : ℕ → ℕ → Atom) (test : Value → Bool) →
        ((r c : ℕ) (rows : List Place) → atom_holds db rows (make r c) ≡ test (cell_value db rows r c)) →
        ((r c : ℕ) → IsThere (make r c)) → (row column : ℕ) (t : Atom) → cell_at rs make row column ≡ Some t →
        atom_holds db ps (make row column) ≡ true → Says t
    says_cell make test is there row column t at stands =
        option_and_then_some (λ r. Some (make r column)) (slice_get rs row) t at
        (λ r here same.
        let alike = ap test (named_cell row r column here) in
        subst Says (same_Some (make r column) t same) (is r column places ∙ (sym alike ∙ (sym (is row column ps) ∙ stands)), there r column))

    says_rows : (make : ℕ → ℕ → Atom) (test : Option Place → Option Place → Bool) →
        ((r s : ℕ) (rows : List Place) → atom_holds db rows (make r s) ≡ test (slice_get rows r) (slice_get rows s)) →
        ((r s : ℕ) → (place : Place) × (slice_get places r ≡ Some place) → IsThere (make r s)) →
        (row other : ℕ) (t : Atom) → rows_at rs make row other ≡ Some t → atom_holds db ps (make row other) ≡ true → Says t
    says_rows make test is there row other t at stands =
        option_and_then_some (λ r. option_and_then (λ s. Some (make r s)) (slice_get rs other)) (slice_get rs row) t at
        (λ r r_at more. option_and_then_some (λ s. Some (make r s)) (slice_get rs other) t more
        (λ s s_at same.
        let alike = ap₂ test (named_at places rs ps row r names r_at) (named_at places rs ps other s names s_at) in
        subst Says (same_Some (make r s) t same)
        (is r s places ∙ (sym alike ∙ (sym (is row other ps) ∙ stands)), there r s (named_place places rs ps row r names r_at))))

    pub says_atom : (a t : Atom) → atom_at rs a ≡ Some t → atom_holds db ps a ≡ true → Says t
    says_atom (atom.Le left right most) t at stands =
        says_sides (λ l r. atom.Le l r most) (λ v w. differ_by_at_most v w most) (λ l r rows. refl) (λ l r. tt) left right t at stands
    says_atom (atom.TextEq left right) t at stands =
        says_sides atom.TextEq (are_texts (λ same. same)) (λ l r rows. refl) (λ l r. tt) left right t at stands
    says_atom (atom.TextNe left right) t at stands =
        says_sides atom.TextNe (are_texts not) (λ l r rows. refl) (λ l r. tt) left right t at stands
    says_atom (atom.IsNull row column) t at stands =
        says_cell atom.IsNull is_null (λ r c rows. refl) (λ r c. tt) row column t at stands
    says_atom (atom.NotNull row column) t at stands =
        says_cell atom.NotNull (λ v. not (is_null v)) (λ r c rows. refl) (λ r c. tt) row column t at stands
    says_atom (atom.Same row other) t at stands =
        says_rows atom.Same is_same_place (λ r s rows. refl) (λ r s there. tt) row other t at stands
    says_atom (atom.Other row other) t at stands =
        says_rows atom.Other (λ o p. not (is_same_place o p)) (λ r s rows. refl) (λ r s there. there) row other t at stands
