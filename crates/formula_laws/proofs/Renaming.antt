-- A formula in another place holds of the rows that its variables are renamed to.
use Rattle.std.proofs.Common.{◌≡◌, ◌∙◌, refl, sym, ap, ap₂, subst, ℕ, zero, suc, not, ◌+◌, ◌-◌, ◌&&◌, ◌||◌, List, [], ◌∷◌, ◌++◌, map, length, arith}
use Rattle.std.proofs.lemmas.List.{append_assoc, append-nil}
use Rattle.std.specs.List.{list_any, list_all}
use Rattle.std.specs.Option.{option_and_then}
use Rattle.std.specs.Prelude.{Option, Some, slice_get, unwrap_or}
use Rattle.lint_core.specs.declared.database.Database.{Database}
use Rattle.lint_core.specs.declared.database.Value.TheVariants.{Null}
use Rattle.lint_core.specs.Comparison.{is_null}
use Rattle.lint_core.specs.Database.{Place, value_at, places_of}
use Rattle.sort_formula.specs.declared.formula.Side.{Side}
use Rattle.sort_formula.specs.declared.formula.Side.TheVariants as side
use Rattle.sort_formula.specs.declared.formula.Atom.{Atom}
use Rattle.sort_formula.specs.declared.formula.Atom.TheVariants as atom
use Rattle.sort_formula.specs.declared.formula.Formula.{Formula, ind-Formula, roll-Formula, map-Formula}
use Rattle.sort_formula.specs.declared.formula.Formula.TheVariants as f
use Rattle.sort_formula.specs.declared.formula.Formula.TheOpen.{Formula-F}
use Rattle.sort_formula.specs.Holds.{holds, atom_holds, side_value, differ_by_at_most, are_texts, is_same_place}
use Rattle.sort_formula.specs.Placed.{placed, placed_row, placed_side, placed_atom}
use Rattle.sort_formula.proofs.Holding.{holds_atom, holds_and, holds_or, holds_exists, holds_forall, placed_of_atom, placed_and, placed_or, placed_exists, placed_forall}
use Rattle.lint_base.proofs.Lists.{slice_get_front, get_behind, all_alike, any_alike}

row_at : (others inner : List Place) (numbers : List ℕ) (rows : List Place) (row past : ℕ) →
    map (slice_get others) numbers ≡ map (λ place. Some place) rows → past ≡ length others + (row - length numbers) →
    slice_get (others ++ inner) (unwrap_or (slice_get numbers row) past) ≡ slice_get (rows ++ inner) row
row_at others inner [] [] row past same is =
    let here : past ≡ length others + row = omega arith in
    ap (slice_get (others ++ inner)) here ∙ get_behind others inner row
row_at others inner [] (r ∷ rows) row past same is = cc
row_at others inner (n ∷ numbers) [] row past same is = cc
row_at others inner (n ∷ numbers) (r ∷ rows) zero past same is =
    let first : slice_get others n ≡ Some r = cc in
    slice_get_front others inner n r first
row_at others inner (n ∷ numbers) (r ∷ rows) (suc row) past same is =
    let rest : map (slice_get others) numbers ≡ map (λ place. Some place) rows = cc in
    let here : past ≡ length others + (row - length numbers) = omega arith in
    row_at others inner numbers rows row past rest here

module _ (db : Database) (numbers : List ℕ) (depth : ℕ) (rows others : List Place) (deep : length others ≡ depth) (same : map (slice_get others) numbers ≡ map (λ place. Some place) rows) where
  -- the row of a variable, below some quantifiers of the formula
  row_is : (inner : List Place) (row : ℕ) → slice_get (others ++ inner) (placed_row numbers depth row) ≡ slice_get (rows ++ inner) row
  row_is inner row = row_at others inner numbers rows row (depth + (row - length numbers)) same (ap (λ d. d + (row - length numbers)) (sym deep))

  side_is : (inner : List Place) (s : Side) → side_value db (others ++ inner) (placed_side numbers depth s) ≡ side_value db (rows ++ inner) s
  side_is inner (side.Cell row column) = ap (λ (o : Option Place). unwrap_or (option_and_then (λ place. value_at db place column) o) Null) (row_is inner row)
  side_is inner side.Zero = refl
  side_is inner (side.Text text) = refl

  atom_is : (inner : List Place) (a : Atom) → atom_holds db (others ++ inner) (placed_atom numbers depth a) ≡ atom_holds db (rows ++ inner) a
  atom_is inner (atom.Le left right most) = ap₂ (λ v w. differ_by_at_most v w most) (side_is inner left) (side_is inner right)
  atom_is inner (atom.TextEq left right) = ap₂ (are_texts (λ same. same)) (side_is inner left) (side_is inner right)
  atom_is inner (atom.TextNe left right) = ap₂ (are_texts not) (side_is inner left) (side_is inner right)
  atom_is inner (atom.IsNull row column) = ap is_null (side_is inner (side.Cell row column))
  atom_is inner (atom.NotNull row column) = ap (λ v. not (is_null v)) (side_is inner (side.Cell row column))
  atom_is inner (atom.Same row other) = ap₂ is_same_place (row_is inner row) (row_is inner other)
  atom_is inner (atom.Other row other) = ap₂ (λ a b. not (is_same_place a b)) (row_is inner row) (row_is inner other)

  abbrev Renamed : Formula → Type 0
  Renamed g = (inner : List Place) → holds db (placed numbers depth g) (others ++ inner) ≡ holds db g (rows ++ inner)

  abbrev Part : Type 0
  Part = (g : Formula) × Renamed g

  abbrev formulas : List Part → List Formula
  formulas parts = map (λ (part : Part). part.0) parts

  of_atom : (a : Atom) → Renamed (f.Atom a)
  of_atom a inner = rw (placed_of_atom numbers depth a, holds_atom db (placed_atom numbers depth a) (others ++ inner), holds_atom db a (rows ++ inner)) (atom_is inner a)

  all_each : (parts : List Part) (inner : List Place) →
      list_all (λ g. holds db g (others ++ inner)) (map (placed numbers depth) (formulas parts)) ≡ list_all (λ g. holds db g (rows ++ inner)) (formulas parts)
  all_each [] inner = refl
  all_each (part ∷ parts) inner = ap₂ (λ a b. a && b) (part.1 inner) (all_each parts inner)

  any_each : (parts : List Part) (inner : List Place) →
      list_any (λ g. holds db g (others ++ inner)) (map (placed numbers depth) (formulas parts)) ≡ list_any (λ g. holds db g (rows ++ inner)) (formulas parts)
  any_each [] inner = refl
  any_each (part ∷ parts) inner = ap₂ (λ a b. a || b) (part.1 inner) (any_each parts inner)

  of_and : (parts : List Part) → Renamed (f.And (formulas parts))
  of_and parts inner =
      let gs = formulas parts in
      rw (placed_and numbers depth gs, holds_and db (map (placed numbers depth) gs) (others ++ inner), holds_and db gs (rows ++ inner)) (all_each parts inner)

  of_or : (parts : List Part) → Renamed (f.Or (formulas parts))
  of_or parts inner =
      let gs = formulas parts in
      rw (placed_or numbers depth gs, holds_or db (map (placed numbers depth) gs) (others ++ inner), holds_or db gs (rows ++ inner)) (any_each parts inner)

  -- the body of a quantifier at one more row
  inside : (body : Formula) → Renamed body → (inner : List Place) (place : Place) →
      holds db (placed numbers depth body) (others ++ inner ++ place ∷ []) ≡ holds db body (rows ++ inner ++ place ∷ [])
  inside body renamed inner place =
      ap (holds db (placed numbers depth body)) (append_assoc others inner (place ∷ []))
      ∙ (renamed (inner ++ place ∷ []) ∙ ap (holds db body) (sym (append_assoc rows inner (place ∷ []))))

  of_exists : (table : ℕ) (body : Formula) → Renamed body → Renamed (f.Exists table body)
  of_exists table body renamed inner =
      rw (placed_exists numbers depth table body, holds_exists db table (placed numbers depth body) (others ++ inner), holds_exists db table body (rows ++ inner))
      (any_alike (λ place. holds db body (rows ++ inner ++ place ∷ [])) (λ place. holds db (placed numbers depth body) (others ++ inner ++ place ∷ [])) (inside body renamed inner) (places_of db table))

  of_forall : (table : ℕ) (body : Formula) → Renamed body → Renamed (f.Forall table body)
  of_forall table body renamed inner =
      rw (placed_forall numbers depth table body, holds_forall db table (placed numbers depth body) (others ++ inner), holds_forall db table body (rows ++ inner))
      (all_alike (λ place. holds db body (rows ++ inner ++ place ∷ [])) (λ place. holds db (placed numbers depth body) (others ++ inner ++ place ∷ [])) (inside body renamed inner) (places_of db table))

  at_layer : (y : Formula-F Part) → Renamed (roll-Formula (map-Formula Part Formula (λ e. e.0) y))
  at_layer (Formula-F.Atom a) = subst Renamed (sym (f.rolls-Atom a)) (of_atom a)
  at_layer (Formula-F.And parts) = subst Renamed (sym (f.rolls-And (formulas parts))) (of_and parts)
  at_layer (Formula-F.Or parts) = subst Renamed (sym (f.rolls-Or (formulas parts))) (of_or parts)
  at_layer (Formula-F.Exists table body) = subst Renamed (sym (f.rolls-Exists table body.0)) (of_exists table body.0 body.1)
  at_layer (Formula-F.Forall table body) = subst Renamed (sym (f.rolls-Forall table body.0)) (of_forall table body.0 body.1)

  renamed_at : (g : Formula) → Renamed g
  renamed_at = ind-Formula Renamed (λ x y is. subst (λ z. Renamed (roll-Formula z)) is (at_layer y))

  pub renames : (g : Formula) → holds db (placed numbers depth g) others ≡ holds db g rows
  renames g =
      ap (holds db (placed numbers depth g)) (sym (append-nil others)) ∙ (renamed_at g [] ∙ ap (holds db g) (append-nil rows))
