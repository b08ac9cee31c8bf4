-- A cell that no literal names in a row of its class is NULL.
use Rattle.std.proofs.Common.{◌≡◌, ◌∙◌, sym, ap, refl, subst, ℕ, zero, suc, ◌<◌, Bool, true, false, ◌||◌, List, [], ◌∷◌, length, inl, inr, arith}
use Rattle.std.specs.Prelude.{Option, Some, None, slice_get, nat_eq}
use Rattle.std.specs.List.{list_all, list_any}
use Rattle.std.proofs.lemmas.Bool.{and_parts, and_from, or_cases, or_left, or_right, eqb-true, cases_lt}
use Rattle.std.proofs.lemmas.List.Elements.{Contains-get_or}
use Rattle.std.proofs.lemmas.Option.{same_Some}
use Rattle.lint_core.specs.declared.database.Value.TheVariants as value
use Rattle.lint_core.specs.declared.schema.Domain.{Domain}
use Rattle.sort_formula.specs.declared.formula.Side.{Side}
use Rattle.sort_formula.specs.declared.formula.Side.TheVariants as side
use Rattle.sort_formula.specs.declared.formula.Atom.{Atom}
use Rattle.sort_formula.specs.declared.formula.Atom.TheVariants as atom
use Rattle.sort_formula.specs.Chains.{says_not_null, is_cell}
use Rattle.ground_theory.specs.declared.assignment.Solution.{Solution}
use Rattle.ground_theory.specs.declared.joining.Joined.{Joined}
use Rattle.ground_theory.specs.declared.literal.Assignment.{Assignment}
use Rattle.ground_theory.specs.declared.literal.Frame.{Frame}
use Rattle.ground_theory.specs.declared.literal.Literal.{Literal}
use Rattle.ground_theory.specs.declared.numbering.Named.{Named}
use Rattle.ground_theory.specs.Assignments.{domains_at, are_one, side_names, names_cell, is_named, IsPlain}
use Rattle.ground_theory.specs.Judgeable.{is_frame, can_be_judged}
use Rattle.ground_theory.specs.inner.Found.{IsFound}
use Rattle.ground_theory.specs.inner.Numbering.{number_at, named_at}
use Rattle.ground_theory.specs.inner.Sifting.{gathered, firm_of}
use Rattle.ground_theory.proofs.Moving.{one_side, equal_self}
use Rattle.ground_theory.proofs.Named.{cell_there, firm_there}
use Rattle.ground_theory.proofs.SettlingCells.{labelled, few_columns, firm_cell, value_is}
use Rattle.ground_theory.proofs.SettlingRows.{value_of, assigned, cell_past, one_from}

any_from : {A : Type 0} (p : A → Bool) (xs : List A) (i : ℕ) (x : A) → slice_get xs i ≡ Some x → p x ≡ true → list_any p xs ≡ true
any_from p [] i x at is = cc at
any_from p (y ∷ ys) zero x at is = or_left (p y) (list_any p ys) (subst (λ z. p z ≡ true) (sym (same_Some y x at)) is)
any_from p (y ∷ ys) (suc i) x at is = or_right (p y) (list_any p ys) (any_from p ys i x at is)

-- ---- an atom that says of a cell that it is not NULL names it

module _ (row column : ℕ) (of_class : ℕ → Bool) (one : of_class row ≡ true) where
  side_is_named : (x : Side) → is_cell row column x ≡ true → side_names column of_class x ≡ true
  side_is_named x is = ap (side_names column of_class) (one_side x (side.Cell row column) is) ∙ and_from (of_class row) (nat_eq column column) one (equal_self column)

  either_is_named : (left right : Side) → (is_cell row column left || is_cell row column right) ≡ true → (side_names column of_class left || side_names column of_class right) ≡ true
  either_is_named left right says = elim (or_cases (is_cell row column left) (is_cell row column right) says) [
    | inl e ↦ or_left (side_names column of_class left) (side_names column of_class right) (side_is_named left e)
    | inr e ↦ or_right (side_names column of_class left) (side_names column of_class right) (side_is_named right e)
  ]

  cell_is_named : (a : Atom) → says_not_null row column a ≡ true → names_cell column of_class a ≡ true
  cell_is_named (atom.Le left right most) says = either_is_named left right says
  cell_is_named (atom.TextEq left right) says = either_is_named left right says
  cell_is_named (atom.TextNe left right) says = either_is_named left right says
  cell_is_named (atom.NotNull other second) says =
      let parts = and_parts (nat_eq row other) (nat_eq column second) says in
      and_from (of_class other) (nat_eq column second) (subst (λ (r : ℕ). of_class r ≡ true) (eqb-true row other parts.0) one) parts.1
  cell_is_named (atom.IsNull other second) says = cc says
  cell_is_named (atom.Same other second) says = cc says
  cell_is_named (atom.Other other second) says = cc says

module _ (frame : Frame) (literals : List Literal) (joined : Joined) (s : Solution) (frame_is : is_frame frame ≡ true) (judged : list_all (can_be_judged frame) literals ≡ true)
    (found : IsFound frame literals joined s) where
  abbrev labels : List ℕ
  labels = joined.labels.items

  abbrev firms : List Named
  firms = gathered firm_of 0 literals

  abbrev given : Assignment
  given = assigned frame s labels

  -- a literal names a cell that has a variable
  variable_named : (row column n : ℕ) → row < length labels → column < 64 → number_at s.numbering.places.items row column ≡ Some n → is_named given literals row column ≡ true
  variable_named row column n low few some =
      let firm = firm_cell frame literals joined s frame_is judged found row column n few some in
      let x : Named = named_at firms firm.place in
      let is = firm_there frame frame_is literals judged x (Contains-get_or firms firm.place (record { fact = 0; row = 0; column = 0 }) firm.listed) in
      let x_low : x.row < length labels = labelled frame literals joined s frame_is judged found x.row (cell_there frame frame_is x.row x.column is.there).0 in
      let one : are_one given row x.row ≡ true = one_from frame s labels row x.row low x_low (sym firm.label) in
      let names : names_cell x.column (are_one given row) is.literal.atom ≡ true = cell_is_named x.row x.column (are_one given row) one is.literal.atom is.says in
      any_from (λ (l : Literal). names_cell column (are_one given row) l.atom) literals x.fact is.literal is.listed
      (subst (λ (c : ℕ). names_cell c (are_one given row) is.literal.atom ≡ true) firm.column_is names)

  pub is_plain : IsPlain literals given
  is_plain row column none = elim (cases_lt row (length labels)) [
    | inr past ↦ cell_past frame s labels row column past
    | inl low ↦
        value_is frame literals joined s frame_is judged found row column (let c = found.joined_are.count in omega arith)
        ∙ go low (number_at s.numbering.places.items row column) refl (slice_get (domains_at frame row) column) refl
  ]
    where
      go : row < length labels → (o : Option ℕ) → number_at s.numbering.places.items row column ≡ o → (d : Option Domain) → slice_get (domains_at frame row) column ≡ d → value_of frame s o d ≡ value.Null
      go low o some None dom = refl
      go low None some (Some d) dom = refl
      go low (Some n) some (Some d) dom =
          let few = few_columns frame literals joined s frame_is judged found row column d dom in
          let f : false ≡ true = sym none ∙ variable_named row column n low few some in
          cc f
