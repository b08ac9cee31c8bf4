-- A formula negated twice says what the formula says.
use Rattle.std.proofs.Common.{◌≡◌, ◌∙◌, refl, sym, ap, subst, ℕ, ℤ, pos, neg_ℤ, ◌-ℤ◌, Bool, true, false, not, ◌&&◌, ◌||◌, List, [], ◌∷◌, ◌++◌, map, arith}
use Rattle.std.proofs.lemmas.Int.{ints}
use Rattle.std.proofs.lemmas.List.{append_assoc}
use Rattle.std.specs.List.{list_any, list_all}
use Rattle.lint_core.specs.declared.database.Database.{Database}
use Rattle.lint_core.specs.declared.database.Value.{Value}
use Rattle.lint_core.specs.declared.database.Value.TheVariants.{Null, Int, Text}
use Rattle.lint_core.specs.Comparison.{is_null}
use Rattle.lint_core.specs.Database.{Place, places_of}
use Rattle.sort_formula.specs.declared.formula.Side.{Side}
use Rattle.sort_formula.specs.declared.formula.Side.TheVariants as side
use Rattle.sort_formula.specs.declared.formula.Atom.{Atom}
use Rattle.sort_formula.specs.declared.formula.Atom.TheVariants as atom
use Rattle.sort_formula.specs.declared.formula.Formula.{Formula, ind-Formula, roll-Formula, map-Formula}
use Rattle.sort_formula.specs.declared.formula.Formula.TheVariants as f
use Rattle.sort_formula.specs.declared.formula.Formula.TheOpen.{Formula-F}
use Rattle.sort_formula.specs.Holds.{holds, atom_holds, side_value, differ_by_at_most, are_texts}
use Rattle.sort_formula.specs.Negated.{negated, negated_atom, null_of, fails}
use Rattle.sort_formula.proofs.Holding.{holds_atom, holds_and, holds_or, holds_exists, holds_forall, negated_of_atom, negated_and, negated_or, negated_exists, negated_forall}
use Rattle.lint_base.proofs.Lists.{all_alike, any_alike}

-- ---- comparisons of two values

-- a side is NULL, or the opposite holds
abbrev pub one_fails : Value → Value → Bool → Bool
one_fails v w opposite = is_null v || (is_null w || (opposite || false))

-- neither is NULL, and the opposite fails
abbrev none_fails : Value → Value → Bool → Bool
none_fails v w opposite_fails = not (is_null v) && (not (is_null w) && (opposite_fails && true))

kept : (b : Bool) → ((b || false) && true) ≡ b
kept true = refl
kept false = refl

-- a comparison that never holds of a NULL
twice_compared : (compared : Value → Value → Bool) → ((w : Value) → compared Null w ≡ false) → ((v : Value) → compared v Null ≡ false) →
    (v w : Value) → none_fails v w (one_fails w v (compared v w)) ≡ compared v w
twice_compared compared left right Null w = sym (left w)
twice_compared compared left right (Int a) Null = sym (right (Int a))
twice_compared compared left right (Int a) (Int b) = kept (compared (Int a) (Int b))
twice_compared compared left right (Int a) (Text b) = kept (compared (Int a) (Text b))
twice_compared compared left right (Text a) Null = sym (right (Text a))
twice_compared compared left right (Text a) (Int b) = kept (compared (Text a) (Int b))
twice_compared compared left right (Text a) (Text b) = kept (compared (Text a) (Text b))

differ_left : (most : ℤ) (w : Value) → differ_by_at_most Null w most ≡ false
differ_left most w = refl

differ_right : (most : ℤ) (v : Value) → differ_by_at_most v Null most ≡ false
differ_right most Null = refl
differ_right most (Int a) = refl
differ_right most (Text a) = refl

texts_left : (test : Bool → Bool) (w : Value) → are_texts test Null w ≡ false
texts_left test w = refl

texts_right : (test : Bool → Bool) (v : Value) → are_texts test v Null ≡ false
texts_right test Null = refl
texts_right test (Int a) = refl
texts_right test (Text a) = refl

exchanged : (p q b : Bool) → (p || (q || b)) ≡ (q || (p || b))
exchanged true true b = refl
exchanged true false b = refl
exchanged false q b = refl

most_twice : (most : ℤ) → (neg_ℤ (neg_ℤ most -ℤ pos 1) -ℤ pos 1) ≡ most
most_twice most = omega (arith, ints)

module _ (db : Database) where
  -- ---- atoms

  null_or : (s : Side) (parts : List Formula) (rows : List Place) →
      list_any (λ g. holds db g rows) (null_of s ++ parts) ≡ (is_null (side_value db rows s) || list_any (λ g. holds db g rows) parts)
  null_or (side.Cell row column) parts rows = ap (λ b. b || list_any (λ g. holds db g rows) parts) (holds_atom db (atom.IsNull row column) rows)
  null_or side.Zero parts rows = refl
  null_or (side.Text text) parts rows = refl

  pub fails_is : (left right : Side) (opposite : Atom) (rows : List Place) →
      holds db (fails left right opposite) rows ≡ one_fails (side_value db rows left) (side_value db rows right) (atom_holds db rows opposite)
  fails_is left right opposite rows =
      let last = f.Atom opposite ∷ [] in
      holds_or db (null_of left ++ null_of right ++ last) rows
      ∙ (ap (list_any (λ g. holds db g rows)) (append_assoc (null_of left) (null_of right) last)
      ∙ (null_or left (null_of right ++ last) rows
      ∙ ap (λ b. is_null (side_value db rows left) || b)
      (null_or right last rows
      ∙ ap (λ b. is_null (side_value db rows right) || (b || false)) (holds_atom db opposite rows))))

  null_and : (s : Side) (parts : List Formula) (rows : List Place) →
      list_all (λ g. holds db g rows) (map negated (null_of s ++ parts)) ≡ (not (is_null (side_value db rows s)) && list_all (λ g. holds db g rows) (map negated parts))
  null_and (side.Cell row column) parts rows =
      ap (λ b. b && list_all (λ g. holds db g rows) (map negated parts))
      (ap (λ g. holds db g rows) (negated_of_atom (atom.IsNull row column)) ∙ holds_atom db (atom.NotNull row column) rows)
  null_and side.Zero parts rows = refl
  null_and (side.Text text) parts rows = refl

  not_fails : (left right : Side) (opposite : Atom) (rows : List Place) →
      holds db (negated (fails left right opposite)) rows ≡ none_fails (side_value db rows left) (side_value db rows right) (holds db (negated_atom opposite) rows)
  not_fails left right opposite rows =
      let last = f.Atom opposite ∷ [] in
      ap (λ g. holds db g rows) (negated_or (null_of left ++ null_of right ++ last))
      ∙ (holds_and db (map negated (null_of left ++ null_of right ++ last)) rows
      ∙ (ap (λ gs. list_all (λ g. holds db g rows) (map negated gs)) (append_assoc (null_of left) (null_of right) last)
      ∙ (null_and left (null_of right ++ last) rows
      ∙ ap (λ b. not (is_null (side_value db rows left)) && b)
      (null_and right last rows
      ∙ ap (λ g. not (is_null (side_value db rows right)) && (holds db g rows && true)) (negated_of_atom opposite)))))

  atom_twice : (a : Atom) (rows : List Place) → holds db (negated (negated_atom a)) rows ≡ atom_holds db rows a
  atom_twice (atom.Le left right most) rows =
      let v = side_value db rows left in
      let w = side_value db rows right in
      let opposite = neg_ℤ most -ℤ pos 1 in
      not_fails left right (atom.Le right left opposite) rows
      ∙ (ap (none_fails v w) (fails_is right left (atom.Le left right (neg_ℤ opposite -ℤ pos 1)) rows)
      ∙ (ap (λ m. none_fails v w (one_fails w v (differ_by_at_most v w m))) (most_twice most)
      ∙ twice_compared (λ v w. differ_by_at_most v w most) (differ_left most) (differ_right most) v w))
  atom_twice (atom.TextEq left right) rows =
      let v = side_value db rows left in
      let w = side_value db rows right in
      not_fails left right (atom.TextNe left right) rows
      ∙ (ap (none_fails v w) (fails_is left right (atom.TextEq left right) rows ∙ exchanged (is_null v) (is_null w) (are_texts (λ same. same) v w || false))
      ∙ twice_compared (are_texts (λ same. same)) (texts_left (λ same. same)) (texts_right (λ same. same)) v w)
  atom_twice (atom.TextNe left right) rows =
      let v = side_value db rows left in
      let w = side_value db rows right in
      not_fails left right (atom.TextEq left right) rows
      ∙ (ap (none_fails v w) (fails_is left right (atom.TextNe left right) rows ∙ exchanged (is_null v) (is_null w) (are_texts not v w || false))
      ∙ twice_compared (are_texts not) (texts_left not) (texts_right not) v w)
  atom_twice (atom.IsNull row column) rows = ap (λ g. holds db g rows) (negated_of_atom (atom.NotNull row column)) ∙ holds_atom db (atom.IsNull row column) rows
  atom_twice (atom.NotNull row column) rows = ap (λ g. holds db g rows) (negated_of_atom (atom.IsNull row column)) ∙ holds_atom db (atom.NotNull row column) rows
  atom_twice (atom.Same row other) rows = ap (λ g. holds db g rows) (negated_of_atom (atom.Other row other)) ∙ holds_atom db (atom.Same row other) rows
  atom_twice (atom.Other row other) rows = ap (λ g. holds db g rows) (negated_of_atom (atom.Same row other)) ∙ holds_atom db (atom.Other row other) rows

  -- ---- formulas

  abbrev pub Twice : Formula → Type 0
  Twice g = (rows : List Place) → holds db (negated (negated g)) rows ≡ holds db g rows

  abbrev Part : Type 0
  Part = (g : Formula) × Twice g

  abbrev formulas : List Part → List Formula
  formulas parts = map (λ (part : Part). part.0) parts

  of_atom : (a : Atom) → Twice (f.Atom a)
  of_atom a rows = rw (negated_of_atom a, holds_atom db a rows) (atom_twice a rows)

  all_twice : (parts : List Part) (rows : List Place) → list_all (λ g. holds db g rows) (map negated (map negated (formulas parts))) ≡ list_all (λ g. holds db g rows) (formulas parts)
  all_twice [] rows = refl
  all_twice (part ∷ parts) rows = rw (part.1 rows, all_twice parts rows) refl

  any_twice : (parts : List Part) (rows : List Place) → list_any (λ g. holds db g rows) (map negated (map negated (formulas parts))) ≡ list_any (λ g. holds db g rows) (formulas parts)
  any_twice [] rows = refl
  any_twice (part ∷ parts) rows = rw (part.1 rows, any_twice parts rows) refl

  of_and : (parts : List Part) → Twice (f.And (formulas parts))
  of_and parts rows =
      let gs = formulas parts in
      rw (negated_and gs, negated_or (map negated gs), holds_and db (map negated (map negated gs)) rows, holds_and db gs rows) (all_twice parts rows)

  of_or : (parts : List Part) → Twice (f.Or (formulas parts))
  of_or parts rows =
      let gs = formulas parts in
      rw (negated_or gs, negated_and (map negated gs), holds_or db (map negated (map negated gs)) rows, holds_or db gs rows) (any_twice parts rows)

  of_exists : (table : ℕ) (body : Formula) → Twice body → Twice (f.Exists table body)
  of_exists table body twice rows =
      rw (negated_exists table body, negated_forall table (negated body), holds_exists db table (negated (negated body)) rows, holds_exists db table body rows)
      (any_alike (λ place. holds db body (rows ++ place ∷ [])) (λ place. holds db (negated (negated body)) (rows ++ place ∷ [])) (λ place. twice (rows ++ place ∷ [])) (places_of db table))

  of_forall : (table : ℕ) (body : Formula) → Twice body → Twice (f.Forall table body)
  of_forall table body twice rows =
      rw (negated_forall table body, negated_exists table (negated body), holds_forall db table (negated (negated body)) rows, holds_forall db table body rows)
      (all_alike (λ place. holds db body (rows ++ place ∷ [])) (λ place. holds db (negated (negated body)) (rows ++ place ∷ [])) (λ place. twice (rows ++ place ∷ [])) (places_of db table))

  at_layer : (y : Formula-F Part) → Twice (roll-Formula (map-Formula Part Formula (λ e. e.0) y))
  at_layer (Formula-F.Atom a) = subst Twice (sym (f.rolls-Atom a)) (of_atom a)
  at_layer (Formula-F.And parts) = subst Twice (sym (f.rolls-And (formulas parts))) (of_and parts)
  at_layer (Formula-F.Or parts) = subst Twice (sym (f.rolls-Or (formulas parts))) (of_or parts)
  at_layer (Formula-F.Exists table body) = subst Twice (sym (f.rolls-Exists table body.0)) (of_exists table body.0 body.1)
  at_layer (Formula-F.Forall table body) = subst Twice (sym (f.rolls-Forall table body.0)) (of_forall table body.0 body.1)

  pub twice : (g : Formula) → Twice g
  twice = ind-Formula Twice (λ x y is. subst (λ z. Twice (roll-Formula z)) is (at_layer y))
