-- What is known of the places that realize a branch: their tables, what the atoms of facts say of them, and that two rows
-- which a fact says are one have one place.
use Rattle.std.proofs.Common.{◌≡◌, ◌∙◌, sym, ap, ap₂, refl, subst, ℕ, true, List, map}
use Rattle.std.proofs.lemmas.Bool.{and_parts, eqb-true}
use Rattle.std.proofs.lemmas.Option.{option_and_then_some, same_Some, slice_get-map}
use Rattle.std.specs.Prelude.{Option, Some, None, slice_get, nat_eq}
use Rattle.std.specs.Option.{option_map}
use Rattle.lint_base.proofs.Lists.{every_at}
use Rattle.lint_core.specs.declared.database.Database.{Database}
use Rattle.lint_core.specs.Database.{Place}
use Rattle.sort_formula.specs.declared.formula.Atom.{Atom}
use Rattle.sort_formula.specs.declared.formula.Atom.TheVariants as atom
use Rattle.sort_formula.specs.declared.formula.Formula.{Formula, out-Formula}
use Rattle.sort_formula.specs.declared.formula.Formula.TheOpen.{Formula-F}
use Rattle.sort_formula.specs.Facts.{Fact, Branch, atom_in, atom_of, same_rows_in, same_rows_of}
use Rattle.sort_formula.specs.Holds.{is_same_place}
use Rattle.sort_formula.proofs.Holding.{layer_holds, holds_out}
use Rattle.sort_formula.specs.Realized.{Names, Stands, Realized}
use Rattle.formula_laws.proofs.Named.{Says, says_atom}

-- the table of a place among the branch's tables
pub table_at : (places : List Place) (tables : List ℕ) (i : ℕ) (place : Place) → map (λ (p : Place). p.table) places ≡ tables →
    slice_get places i ≡ Some place → slice_get tables i ≡ Some place.table
table_at places tables i place same at =
    ap (λ ts. slice_get ts i) (sym same)
    ∙ (slice_get-map (λ (p : Place). p.table) places i ∙ ap (option_map (λ (p : Place). p.table)) at)

of_table : (places : List Place) (i t : ℕ) (o : Option Place) → slice_get places i ≡ o → option_map (λ (p : Place). p.table) o ≡ Some t →
    (place : Place) × (slice_get places i ≡ Some place) × (place.table ≡ t)
of_table places i t None is none = cc
of_table places i t (Some place) is some = (place, is, same_Some place.table t some)

-- the place of a row whose table is known
pub place_at : (places : List Place) (tables : List ℕ) (i t : ℕ) → map (λ (p : Place). p.table) places ≡ tables →
    slice_get tables i ≡ Some t → (place : Place) × (slice_get places i ≡ Some place) × (place.table ≡ t)
place_at places tables i t same at =
    of_table places i t (slice_get places i) refl (sym (slice_get-map (λ (p : Place). p.table) places i) ∙ (ap (λ ts. slice_get ts i) same ∙ at))

same_place : (o p : Option Place) → is_same_place o p ≡ true → o ≡ p
same_place None p same = cc
same_place (Some a) None same = cc
same_place (Some a) (Some b) same =
    let parts = and_parts (nat_eq a.table b.table) (nat_eq a.row b.row) same in
    let one : a ≡ b = ap₂ (λ table row. record { table = table; row = row }) (eqb-true a.table b.table parts.0) (eqb-true a.row b.row parts.1) in
    ap Some one

module _ (db : Database) (branch : Branch) (places : List Place) (realized : Realized db branch places) where
  says_layer : (rs : List ℕ) (ps : List Place) (layer : Formula-F Formula) (a : Atom) → Names places rs ps →
      layer_holds db layer ps ≡ true → atom_in rs layer ≡ Some a → Says db places a
  says_layer rs ps (Formula-F.Atom a) t names stands at = says_atom db places rs ps names a t at stands
  says_layer rs ps (Formula-F.And parts) t names stands at = cc
  says_layer rs ps (Formula-F.Or parts) t names stands at = cc
  says_layer rs ps (Formula-F.Exists table body) t names stands at = cc
  says_layer rs ps (Formula-F.Forall table body) t names stands at = cc

  -- the atom of a fact holds
  pub says : (fact : ℕ) (a : Atom) → atom_of branch fact ≡ Some a → Says db places a
  says fact a at =
      option_and_then_some (λ (x : Fact). atom_in x.rows (out-Formula x.formula)) (slice_get branch.facts fact) a at
      (λ x here stated.
      let stands = every_at (Stands db places) branch.facts fact x realized.facts here in
      says_layer x.rows stands.0 (out-Formula x.formula) a stands.1 (sym (holds_out db x.formula stands.0) ∙ stands.2) stated)

  abbrev pub OnePlace : ℕ × ℕ → Type 0
  OnePlace rows = slice_get places rows.0 ≡ slice_get places rows.1

  same_atom : (a : Atom) (rows : ℕ × ℕ) → same_rows_in a ≡ Some rows → Says db places a → OnePlace rows
  same_atom (atom.Le left right most) rows at stands = cc
  same_atom (atom.TextEq left right) rows at stands = cc
  same_atom (atom.TextNe left right) rows at stands = cc
  same_atom (atom.IsNull row column) rows at stands = cc
  same_atom (atom.NotNull row column) rows at stands = cc
  same_atom (atom.Same row other) rows at stands =
      subst OnePlace (same_Some (row, other) rows at) (same_place (slice_get places row) (slice_get places other) stands.0)
  same_atom (atom.Other row other) rows at stands = cc

  -- two rows that a fact says are one have one place
  pub one_place : (fact : ℕ) (rows : ℕ × ℕ) → same_rows_of branch fact ≡ Some rows → OnePlace rows
  one_place fact rows at =
      option_and_then_some same_rows_in (atom_of branch fact) rows at (λ a here stated. same_atom a rows stated (says fact a here))
