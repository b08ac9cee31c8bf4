-- A negated formula that fits holds, in a database of the domains, exactly where the formula does not.
use Rattle.std.proofs.Common.{◌≡◌, ◌∙◌, refl, sym, ap, subst, ℕ, ℤ, pos, neg_ℤ, ◌-ℤ◌, Bool, true, false, not, ◌&&◌, ◌||◌, List, [], ◌∷◌, ◌++◌, map, length, arith}
use Rattle.std.proofs.lemmas.Int.{ints}
use Rattle.std.proofs.lemmas.List.{map-append, append_assoc}
use Rattle.std.specs.List.{list_any, list_all}
use Rattle.std.specs.Prelude.{nat_lt}
use Rattle.lint_core.specs.declared.database.Database.{Database}
use Rattle.lint_core.specs.declared.database.Value.{Value}
use Rattle.lint_core.specs.declared.database.Value.TheVariants.{Null, Int, Text}
use Rattle.lint_core.specs.declared.schema.Table.{Table}
use Rattle.lint_core.specs.Comparison.{is_null, is_same_text}
use Rattle.lint_core.specs.Database.{Place, below, rows_of}
use Rattle.lint_core.specs.Domain.{int_le}
use Rattle.lint_core.specs.Meets.{is_of_domains}
use Rattle.sort_formula.specs.declared.formula.Side.{Side}
use Rattle.sort_formula.specs.declared.formula.Side.TheVariants as side
use Rattle.sort_formula.specs.declared.formula.Atom.{Atom}
use Rattle.sort_formula.specs.declared.formula.Atom.TheVariants as atom
use Rattle.sort_formula.specs.declared.formula.Formula.{Formula, ind-Formula, roll-Formula, map-Formula}
use Rattle.sort_formula.specs.declared.formula.Formula.TheVariants as f
use Rattle.sort_formula.specs.declared.formula.Formula.TheOpen.{Formula-F}
use Rattle.sort_formula.specs.Holds.{holds, atom_holds, side_value, cell_value, differ_by_at_most, are_texts}
use Rattle.sort_formula.specs.Negated.{negated, negated_atom, null_of, fails}
use Rattle.sort_formula.specs.Rows.{tables_of_rows}
use Rattle.sort_formula.specs.Sentences.{formula_fits, atom_fits, is_number_side, is_text_side}
use Rattle.formula_laws.proofs.Cells.{may_be_number, may_be_text, number_side, text_side}
use Rattle.sort_formula.proofs.Fitting.{fits_atom, fits_and, fits_or, fits_exists, fits_forall}
use Rattle.sort_formula.proofs.Holding.{holds_atom, holds_and, holds_or, holds_exists, holds_forall, negated_of_atom, negated_and, negated_or, negated_exists, negated_forall}
use Rattle.lint_base.proofs.Lists.{not_and, not_or, not_not, or_false, both_left, both_right}

-- ---- comparisons of two values

-- a side is NULL, or the opposite holds
abbrev one_fails : Value → Value → Bool → Bool
one_fails v w opposite = is_null v || (is_null w || (opposite || false))

le_opposite : (a b most : ℤ) → (int_le (b -ℤ a) (neg_ℤ most -ℤ pos 1) || false) ≡ not (int_le (a -ℤ b) most)
le_opposite a b most = grind (arith, ints)

le_fails : (v w : Value) (most : ℤ) → may_be_number v ≡ true → may_be_number w ≡ true →
    one_fails v w (differ_by_at_most w v (neg_ℤ most -ℤ pos 1)) ≡ not (differ_by_at_most v w most)
le_fails Null Null most left right = refl
le_fails Null (Int b) most left right = refl
le_fails Null (Text b) most left right = cc
le_fails (Int a) Null most left right = refl
le_fails (Int a) (Int b) most left right = le_opposite a b most
le_fails (Int a) (Text b) most left right = cc
le_fails (Text a) w most left right = cc

same_fails : (v w : Value) → may_be_text v ≡ true → may_be_text w ≡ true → one_fails v w (are_texts not v w) ≡ not (are_texts (λ same. same) v w)
same_fails Null Null left right = refl
same_fails Null (Int b) left right = cc
same_fails Null (Text b) left right = refl
same_fails (Int a) w left right = cc
same_fails (Text a) Null left right = refl
same_fails (Text a) (Int b) left right = cc
same_fails (Text a) (Text b) left right = or_false (not (is_same_text a b))

other_fails : (v w : Value) → may_be_text v ≡ true → may_be_text w ≡ true → one_fails v w (are_texts (λ same. same) v w) ≡ not (are_texts not v w)
other_fails Null Null left right = refl
other_fails Null (Int b) left right = cc
other_fails Null (Text b) left right = refl
other_fails (Int a) w left right = cc
other_fails (Text a) Null left right = refl
other_fails (Text a) (Int b) left right = cc
other_fails (Text a) (Text b) left right = or_false (is_same_text a b) ∙ sym (not_not (is_same_text a b))

-- De Morgan over the image of a list
all_not : {A B : Type 0} (p q : B → Bool) (g : A → B) → ((x : A) → q (g x) ≡ not (p (g x))) → (xs : List A) → list_all q (map g xs) ≡ not (list_any p (map g xs))
all_not p q g opposite [] = refl
all_not p q g opposite (x ∷ xs) = rw (opposite x, all_not p q g opposite xs) (sym (not_or (p (g x)) (list_any p (map g xs))))

any_not : {A B : Type 0} (p q : B → Bool) (g : A → B) → ((x : A) → q (g x) ≡ not (p (g x))) → (xs : List A) → list_any q (map g xs) ≡ not (list_all p (map g xs))
any_not p q g opposite [] = refl
any_not p q g opposite (x ∷ xs) = rw (opposite x, any_not p q g opposite xs) (sym (not_and (p (g x)) (list_all p (map g xs))))

abbrev place_in : ℕ → ℕ → Place
place_in table row = record { table = table; row = row }

tables_inside : (rows : List Place) (table row : ℕ) → tables_of_rows (rows ++ place_in table row ∷ []) ≡ tables_of_rows rows ++ table ∷ []
tables_inside rows table row = map-append (λ (place : Place). place.table) rows (place_in table row ∷ [])

module _ (schema : List Table) (db : Database) (domains : is_of_domains schema db ≡ true) where
  -- ---- atoms

  null_or : (s : Side) (parts : List Formula) (rows : List Place) →
      list_any (λ g. holds db g rows) (null_of s ++ parts) ≡ (is_null (side_value db rows s) || list_any (λ g. holds db g rows) parts)
  null_or (side.Cell row column) parts rows = ap (λ b. b || list_any (λ g. holds db g rows) parts) (holds_atom db (atom.IsNull row column) rows)
  null_or side.Zero parts rows = refl
  null_or (side.Text text) parts rows = refl

  fails_is : (left right : Side) (opposite : Atom) (rows : List Place) →
      holds db (fails left right opposite) rows ≡ one_fails (side_value db rows left) (side_value db rows right) (atom_holds db rows opposite)
  fails_is left right opposite rows =
      let last = f.Atom opposite ∷ [] in
      holds_or db (null_of left ++ null_of right ++ last) rows
      ∙ (ap (list_any (λ g. holds db g rows)) (append_assoc (null_of left) (null_of right) last)
      ∙ (null_or left (null_of right ++ last) rows
      ∙ ap (λ b. is_null (side_value db rows left) || b)
      (null_or right last rows
      ∙ ap (λ b. is_null (side_value db rows right) || (b || false)) (holds_atom db opposite rows))))

  atom_not : (a : Atom) (rows : List Place) → atom_fits schema (tables_of_rows rows) a ≡ true → holds db (negated_atom a) rows ≡ not (atom_holds db rows a)
  atom_not (atom.Le left right most) rows fits =
      let tables = tables_of_rows rows in
      let first = both_left (is_number_side schema tables left) (is_number_side schema tables right) fits in
      let second = both_right (is_number_side schema tables left) (is_number_side schema tables right) fits in
      fails_is left right (atom.Le right left (neg_ℤ most -ℤ pos 1)) rows
      ∙ le_fails (side_value db rows left) (side_value db rows right) most (number_side schema db domains rows left first) (number_side schema db domains rows right second)
  atom_not (atom.TextEq left right) rows fits =
      let tables = tables_of_rows rows in
      let first = both_left (is_text_side schema tables left) (is_text_side schema tables right) fits in
      let second = both_right (is_text_side schema tables left) (is_text_side schema tables right) fits in
      fails_is left right (atom.TextNe left right) rows
      ∙ same_fails (side_value db rows left) (side_value db rows right) (text_side schema db domains rows left first) (text_side schema db domains rows right second)
  atom_not (atom.TextNe left right) rows fits =
      let tables = tables_of_rows rows in
      let first = both_left (is_text_side schema tables left) (is_text_side schema tables right) fits in
      let second = both_right (is_text_side schema tables left) (is_text_side schema tables right) fits in
      fails_is left right (atom.TextEq left right) rows
      ∙ other_fails (side_value db rows left) (side_value db rows right) (text_side schema db domains rows left first) (text_side schema db domains rows right second)
  atom_not (atom.IsNull row column) rows fits = holds_atom db (atom.NotNull row column) rows
  atom_not (atom.NotNull row column) rows fits = holds_atom db (atom.IsNull row column) rows ∙ sym (not_not (is_null (cell_value db rows row column)))
  atom_not (atom.Same row other) rows fits = holds_atom db (atom.Other row other) rows
  atom_not (atom.Other row other) rows fits = holds_atom db (atom.Same row other) rows ∙ sym (not_not (atom_holds db rows (atom.Same row other)))

  -- ---- formulas

  abbrev pub Complement : Formula → Type 0
  Complement g = (rows : List Place) → formula_fits schema g (tables_of_rows rows) ≡ true → holds db (negated g) rows ≡ not (holds db g rows)

  abbrev Part : Type 0
  Part = (g : Formula) × Complement g

  abbrev formulas : List Part → List Formula
  formulas parts = map (λ (part : Part). part.0) parts

  of_atom : (a : Atom) → Complement (f.Atom a)
  of_atom a rows fits = rw (negated_of_atom a, holds_atom db a rows) (atom_not a rows (sym (fits_atom schema a (tables_of_rows rows)) ∙ fits))

  any_each : (parts : List Part) (rows : List Place) → list_all (λ g. formula_fits schema g (tables_of_rows rows)) (formulas parts) ≡ true →
      list_any (λ g. holds db g rows) (map negated (formulas parts)) ≡ not (list_all (λ g. holds db g rows) (formulas parts))
  any_each [] rows fits = refl
  any_each (part ∷ parts) rows fits =
      let here = formula_fits schema part.0 (tables_of_rows rows) in
      let rest = list_all (λ g. formula_fits schema g (tables_of_rows rows)) (formulas parts) in
      rw (part.1 rows (both_left here rest fits), any_each parts rows (both_right here rest fits))
      (sym (not_and (holds db part.0 rows) (list_all (λ g. holds db g rows) (formulas parts))))

  all_each : (parts : List Part) (rows : List Place) → list_all (λ g. formula_fits schema g (tables_of_rows rows)) (formulas parts) ≡ true →
      list_all (λ g. holds db g rows) (map negated (formulas parts)) ≡ not (list_any (λ g. holds db g rows) (formulas parts))
  all_each [] rows fits = refl
  all_each (part ∷ parts) rows fits =
      let here = formula_fits schema part.0 (tables_of_rows rows) in
      let rest = list_all (λ g. formula_fits schema g (tables_of_rows rows)) (formulas parts) in
      rw (part.1 rows (both_left here rest fits), all_each parts rows (both_right here rest fits))
      (sym (not_or (holds db part.0 rows) (list_any (λ g. holds db g rows) (formulas parts))))

  of_and : (parts : List Part) → Complement (f.And (formulas parts))
  of_and parts rows fits =
      let gs = formulas parts in
      rw (negated_and gs, holds_or db (map negated gs) rows, holds_and db gs rows)
      (any_each parts rows (sym (fits_and schema gs (tables_of_rows rows)) ∙ fits))

  of_or : (parts : List Part) → Complement (f.Or (formulas parts))
  of_or parts rows fits =
      let gs = formulas parts in
      rw (negated_or gs, holds_and db (map negated gs) rows, holds_or db gs rows)
      (all_each parts rows (sym (fits_or schema gs (tables_of_rows rows)) ∙ fits))

  -- the body of a quantifier at one more row
  inside : (table : ℕ) (body : Formula) → Complement body → (rows : List Place) →
      (nat_lt table (length schema) && formula_fits schema body (tables_of_rows rows ++ table ∷ [])) ≡ true →
      (row : ℕ) → holds db (negated body) (rows ++ place_in table row ∷ []) ≡ not (holds db body (rows ++ place_in table row ∷ []))
  inside table body complement rows fits row =
      complement (rows ++ place_in table row ∷ [])
      (ap (formula_fits schema body) (tables_inside rows table row)
      ∙ both_right (nat_lt table (length schema)) (formula_fits schema body (tables_of_rows rows ++ table ∷ [])) fits)

  of_exists : (table : ℕ) (body : Formula) → Complement body → Complement (f.Exists table body)
  of_exists table body complement rows fits =
      let at_row = inside table body complement rows (sym (fits_exists schema table body (tables_of_rows rows)) ∙ fits) in
      rw (negated_exists table body, holds_forall db table (negated body) rows, holds_exists db table body rows)
      (all_not (λ place. holds db body (rows ++ place ∷ [])) (λ place. holds db (negated body) (rows ++ place ∷ [])) (place_in table) at_row (below (length (rows_of db table))))

  of_forall : (table : ℕ) (body : Formula) → Complement body → Complement (f.Forall table body)
  of_forall table body complement rows fits =
      let at_row = inside table body complement rows (sym (fits_forall schema table body (tables_of_rows rows)) ∙ fits) in
      rw (negated_forall table body, holds_exists db table (negated body) rows, holds_forall db table body rows)
      (any_not (λ place. holds db body (rows ++ place ∷ [])) (λ place. holds db (negated body) (rows ++ place ∷ [])) (place_in table) at_row (below (length (rows_of db table))))

  at_layer : (y : Formula-F Part) → Complement (roll-Formula (map-Formula Part Formula (λ e. e.0) y))
  at_layer (Formula-F.Atom a) = subst Complement (sym (f.rolls-Atom a)) (of_atom a)
  at_layer (Formula-F.And parts) = subst Complement (sym (f.rolls-And (formulas parts))) (of_and parts)
  at_layer (Formula-F.Or parts) = subst Complement (sym (f.rolls-Or (formulas parts))) (of_or parts)
  at_layer (Formula-F.Exists table body) = subst Complement (sym (f.rolls-Exists table body.0)) (of_exists table body.0 body.1)
  at_layer (Formula-F.Forall table body) = subst Complement (sym (f.rolls-Forall table body.0)) (of_forall table body.0 body.1)

  pub complements : (g : Formula) → Complement g
  complements = ind-Formula Complement (λ x y is. subst (λ z. Complement (roll-Formula z)) is (at_layer y))
