-- Two formulas, each at rows of its own, that hold alike, and whose negations do: by their parts.
use Rattle.std.proofs.Common.{◌≡◌, ◌∙◌, refl, sym, ap, ap₂, subst, ℕ, suc, ℤ, pos, neg_ℤ, ◌-ℤ◌, Bool, not, ◌&&◌, ◌||◌, List, [], ◌∷◌, ◌++◌, map, length}
use Rattle.std.proofs.lemmas.List.{append-nil, append_assoc}
use Rattle.std.specs.List.{list_any, list_all, AllByRecursion}
use Rattle.lint_core.specs.declared.database.Database.{Database}
use Rattle.lint_core.specs.declared.database.Value.{Value}
use Rattle.lint_core.specs.Comparison.{is_null}
use Rattle.lint_core.specs.Database.{Place, places_of}
use Rattle.sort_formula.specs.declared.formula.Side.{Side}
use Rattle.sort_formula.specs.declared.formula.Atom.{Atom}
use Rattle.sort_formula.specs.declared.formula.Atom.TheVariants as atom
use Rattle.sort_formula.specs.declared.formula.Formula.{Formula}
use Rattle.sort_formula.specs.declared.formula.Formula.TheVariants as f
use Rattle.sort_formula.specs.Holds.{holds, atom_holds, side_value, cell_value, differ_by_at_most, are_texts}
use Rattle.sort_formula.specs.Negated.{negated, fails}
use Rattle.sort_formula.specs.Translation.{exist_rows, for_all_rows}
use Rattle.sort_formula.proofs.Holding.{holds_atom, holds_and, holds_or, holds_exists, holds_forall, negated_of_atom, negated_and, negated_or, negated_exists, negated_forall}
use Rattle.lint_base.proofs.Lists.{all_alike, any_alike}
use Rattle.question_laws.proofs.Twice.{one_fails, fails_is, twice}

module _ (db : Database) where
  pub record Alike (g h : Formula) (rows others : List Place) : Type 0 where
    pub hold : holds db g rows ≡ holds db h others
    pub fail : holds db (negated g) rows ≡ holds db (negated h) others

  pub of_negated : (g h : Formula) (rows others : List Place) → Alike g h rows others → Alike (negated g) (negated h) rows others
  of_negated g h rows others alike = record { hold = alike.fail; fail = twice db g rows ∙ (alike.hold ∙ sym (twice db h others)) }

  -- what the negations are
  by_negations : (g h g_not h_not : Formula) (rows others : List Place) → negated g ≡ g_not → negated h ≡ h_not → holds db g_not rows ≡ holds db h_not others →
      holds db (negated g) rows ≡ holds db (negated h) others
  by_negations g h g_not h_not rows others one other same = ap (λ x. holds db x rows) one ∙ (same ∙ sym (ap (λ x. holds db x others) other))

  -- ---- And and Or

  module _ (A : Type 0) (g h : A → Formula) (rows others : List Place) where
    abbrev pub AreAlike : List A → Type 0
    AreAlike xs = AllByRecursion (λ x. Alike (g x) (h x) rows others) xs

    all_hold : (xs : List A) → AreAlike xs → list_all (λ p. holds db p rows) (map g xs) ≡ list_all (λ p. holds db p others) (map h xs)
    all_hold [] alike = refl
    all_hold (x ∷ xs) alike = ap₂ (λ a b. a && b) alike.0.hold (all_hold xs alike.1)

    any_holds : (xs : List A) → AreAlike xs → list_any (λ p. holds db p rows) (map g xs) ≡ list_any (λ p. holds db p others) (map h xs)
    any_holds [] alike = refl
    any_holds (x ∷ xs) alike = ap₂ (λ a b. a || b) alike.0.hold (any_holds xs alike.1)

    all_fail : (xs : List A) → AreAlike xs → list_all (λ p. holds db p rows) (map negated (map g xs)) ≡ list_all (λ p. holds db p others) (map negated (map h xs))
    all_fail [] alike = refl
    all_fail (x ∷ xs) alike = ap₂ (λ a b. a && b) alike.0.fail (all_fail xs alike.1)

    any_fails : (xs : List A) → AreAlike xs → list_any (λ p. holds db p rows) (map negated (map g xs)) ≡ list_any (λ p. holds db p others) (map negated (map h xs))
    any_fails [] alike = refl
    any_fails (x ∷ xs) alike = ap₂ (λ a b. a || b) alike.0.fail (any_fails xs alike.1)

    pub of_and : (xs : List A) → AreAlike xs → Alike (f.And (map g xs)) (f.And (map h xs)) rows others
    of_and xs alike = record {
      hold = holds_and db (map g xs) rows ∙ (all_hold xs alike ∙ sym (holds_and db (map h xs) others));
      fail =
          by_negations (f.And (map g xs)) (f.And (map h xs)) _ _ rows others (negated_and (map g xs)) (negated_and (map h xs))
          (holds_or db (map negated (map g xs)) rows ∙ (any_fails xs alike ∙ sym (holds_or db (map negated (map h xs)) others)));
    }

    pub of_or : (xs : List A) → AreAlike xs → Alike (f.Or (map g xs)) (f.Or (map h xs)) rows others
    of_or xs alike = record {
      hold = holds_or db (map g xs) rows ∙ (any_holds xs alike ∙ sym (holds_or db (map h xs) others));
      fail =
          by_negations (f.Or (map g xs)) (f.Or (map h xs)) _ _ rows others (negated_or (map g xs)) (negated_or (map h xs))
          (holds_and db (map negated (map g xs)) rows ∙ (all_fail xs alike ∙ sym (holds_and db (map negated (map h xs)) others)));
    }

  abbrev Pair : Type 0
  Pair = Formula × Formula

  pub both_and : (a b c d : Formula) (rows others : List Place) → Alike a c rows others → Alike b d rows others → Alike (f.And (a ∷ b ∷ [])) (f.And (c ∷ d ∷ [])) rows others
  both_and a b c d rows others one two = of_and Pair (λ p. p.0) (λ p. p.1) rows others ((a, c) ∷ (b, d) ∷ []) (one, (two, tt))

  pub both_or : (a b c d : Formula) (rows others : List Place) → Alike a c rows others → Alike b d rows others → Alike (f.Or (a ∷ b ∷ [])) (f.Or (c ∷ d ∷ [])) rows others
  both_or a b c d rows others one two = of_or Pair (λ p. p.0) (λ p. p.1) rows others ((a, c) ∷ (b, d) ∷ []) (one, (two, tt))

  pub no_and : (rows others : List Place) → Alike (f.And []) (f.And []) rows others
  no_and rows others = of_and Pair (λ p. p.0) (λ p. p.1) rows others [] tt

  pub no_or : (rows others : List Place) → Alike (f.Or []) (f.Or []) rows others
  no_or rows others = of_or Pair (λ p. p.0) (λ p. p.1) rows others [] tt

  -- ---- quantifiers

  module _ (g h : Formula) where
    exists_alike : (table : ℕ) (rows others : List Place) → ((place : Place) → Alike g h (rows ++ place ∷ []) (others ++ place ∷ [])) → Alike (f.Exists table g) (f.Exists table h) rows others
    exists_alike table rows others alike = record {
      hold =
          holds_exists db table g rows
          ∙ (any_alike (λ place. holds db h (others ++ place ∷ [])) (λ place. holds db g (rows ++ place ∷ [])) (λ place. (alike place).hold) (places_of db table)
          ∙ sym (holds_exists db table h others));
      fail =
          by_negations (f.Exists table g) (f.Exists table h) _ _ rows others (negated_exists table g) (negated_exists table h)
          (holds_forall db table (negated g) rows
          ∙ (all_alike (λ place. holds db (negated h) (others ++ place ∷ [])) (λ place. holds db (negated g) (rows ++ place ∷ [])) (λ place. (alike place).fail) (places_of db table)
          ∙ sym (holds_forall db table (negated h) others)));
    }

    forall_alike : (table : ℕ) (rows others : List Place) → ((place : Place) → Alike g h (rows ++ place ∷ []) (others ++ place ∷ [])) → Alike (f.Forall table g) (f.Forall table h) rows others
    forall_alike table rows others alike = record {
      hold =
          holds_forall db table g rows
          ∙ (all_alike (λ place. holds db h (others ++ place ∷ [])) (λ place. holds db g (rows ++ place ∷ [])) (λ place. (alike place).hold) (places_of db table)
          ∙ sym (holds_forall db table h others));
      fail =
          by_negations (f.Forall table g) (f.Forall table h) _ _ rows others (negated_forall table g) (negated_forall table h)
          (holds_exists db table (negated g) rows
          ∙ (any_alike (λ place. holds db (negated h) (others ++ place ∷ [])) (λ place. holds db (negated g) (rows ++ place ∷ [])) (λ place. (alike place).fail) (places_of db table)
          ∙ sym (holds_exists db table (negated h) others)));
    }

  module _ (g h : Formula) where
    -- with one row more for each table
    abbrev pub AlikeInside : List ℕ → List Place → List Place → Type 0
    AlikeInside own rows others = (places : List Place) → length places ≡ length own → Alike g h (rows ++ places) (others ++ places)

    no_more : (rows others : List Place) → AlikeInside [] rows others → Alike g h rows others
    no_more rows others alike =
        subst (λ r. Alike g h r others) (append-nil rows) (subst (λ o. Alike g h (rows ++ []) o) (append-nil others) (alike [] refl))

    one_more : (table : ℕ) (own : List ℕ) (rows others : List Place) → AlikeInside (table ∷ own) rows others → (place : Place) → AlikeInside own (rows ++ place ∷ []) (others ++ place ∷ [])
    one_more table own rows others alike place places same =
        subst (λ r. Alike g h r ((others ++ place ∷ []) ++ places)) (sym (append_assoc rows (place ∷ []) places))
        (subst (λ o. Alike g h (rows ++ place ∷ places) o) (sym (append_assoc others (place ∷ []) places)) (alike (place ∷ places) (ap suc same)))

    pub of_exist : (own : List ℕ) (rows others : List Place) → AlikeInside own rows others → Alike (exist_rows own g) (exist_rows own h) rows others
    of_exist [] rows others alike = no_more rows others alike
    of_exist (table ∷ own) rows others alike =
        exists_alike (exist_rows own g) (exist_rows own h) table rows others
        (λ place. of_exist own (rows ++ place ∷ []) (others ++ place ∷ []) (one_more table own rows others alike place))

    pub of_for_all : (own : List ℕ) (rows others : List Place) → AlikeInside own rows others → Alike (for_all_rows own g) (for_all_rows own h) rows others
    of_for_all [] rows others alike = no_more rows others alike
    of_for_all (table ∷ own) rows others alike =
        forall_alike (for_all_rows own g) (for_all_rows own h) table rows others
        (λ place. of_for_all own (rows ++ place ∷ []) (others ++ place ∷ []) (one_more table own rows others alike place))

  -- ---- atoms

  atoms_hold : (a b : Atom) (rows others : List Place) → atom_holds db rows a ≡ atom_holds db others b → holds db (f.Atom a) rows ≡ holds db (f.Atom b) others
  atoms_hold a b rows others same = holds_atom db a rows ∙ (same ∙ sym (holds_atom db b others))

  module _ (left right left_too right_too : Side) (rows others : List Place)
      (lefts : side_value db rows left ≡ side_value db others left_too) (rights : side_value db rows right ≡ side_value db others right_too) where
    -- by what is computed of the two values
    fail_alike : (compared : Value → Value → Bool) (opposite opposite_too : Atom) →
        atom_holds db rows opposite ≡ compared (side_value db rows left) (side_value db rows right) →
        atom_holds db others opposite_too ≡ compared (side_value db others left_too) (side_value db others right_too) →
        holds db (fails left right opposite) rows ≡ holds db (fails left_too right_too opposite_too) others
    fail_alike compared opposite opposite_too is too =
        fails_is db left right opposite rows
        ∙ (ap (one_fails (side_value db rows left) (side_value db rows right)) is
        ∙ (ap₂ (λ v w. one_fails v w (compared v w)) lefts rights
        ∙ (sym (ap (one_fails (side_value db others left_too) (side_value db others right_too)) too)
        ∙ sym (fails_is db left_too right_too opposite_too others))))

    pub of_le : (most : ℤ) → Alike (f.Atom (atom.Le left right most)) (f.Atom (atom.Le left_too right_too most)) rows others
    of_le most = record {
      hold = atoms_hold (atom.Le left right most) (atom.Le left_too right_too most) rows others (ap₂ (λ v w. differ_by_at_most v w most) lefts rights);
      fail =
          by_negations (f.Atom (atom.Le left right most)) (f.Atom (atom.Le left_too right_too most)) _ _ rows others
          (negated_of_atom (atom.Le left right most)) (negated_of_atom (atom.Le left_too right_too most))
          (fail_alike (λ v w. differ_by_at_most w v (neg_ℤ most -ℤ pos 1)) (atom.Le right left (neg_ℤ most -ℤ pos 1)) (atom.Le right_too left_too (neg_ℤ most -ℤ pos 1)) refl refl);
    }

    pub of_text_eq : Alike (f.Atom (atom.TextEq left right)) (f.Atom (atom.TextEq left_too right_too)) rows others
    of_text_eq = record {
      hold = atoms_hold (atom.TextEq left right) (atom.TextEq left_too right_too) rows others (ap₂ (are_texts (λ same. same)) lefts rights);
      fail =
          by_negations (f.Atom (atom.TextEq left right)) (f.Atom (atom.TextEq left_too right_too)) _ _ rows others
          (negated_of_atom (atom.TextEq left right)) (negated_of_atom (atom.TextEq left_too right_too))
          (fail_alike (are_texts not) (atom.TextNe left right) (atom.TextNe left_too right_too) refl refl);
    }

    pub of_text_ne : Alike (f.Atom (atom.TextNe left right)) (f.Atom (atom.TextNe left_too right_too)) rows others
    of_text_ne = record {
      hold = atoms_hold (atom.TextNe left right) (atom.TextNe left_too right_too) rows others (ap₂ (are_texts not) lefts rights);
      fail =
          by_negations (f.Atom (atom.TextNe left right)) (f.Atom (atom.TextNe left_too right_too)) _ _ rows others
          (negated_of_atom (atom.TextNe left right)) (negated_of_atom (atom.TextNe left_too right_too))
          (fail_alike (are_texts (λ same. same)) (atom.TextEq left right) (atom.TextEq left_too right_too) refl refl);
    }

  module _ (row row_too column : ℕ) (rows others : List Place) (same : cell_value db rows row column ≡ cell_value db others row_too column) where
    pub of_is_null : Alike (f.Atom (atom.IsNull row column)) (f.Atom (atom.IsNull row_too column)) rows others
    of_is_null = record {
      hold = atoms_hold (atom.IsNull row column) (atom.IsNull row_too column) rows others (ap is_null same);
      fail =
          by_negations (f.Atom (atom.IsNull row column)) (f.Atom (atom.IsNull row_too column)) _ _ rows others
          (negated_of_atom (atom.IsNull row column)) (negated_of_atom (atom.IsNull row_too column))
          (atoms_hold (atom.NotNull row column) (atom.NotNull row_too column) rows others (ap (λ v. not (is_null v)) same));
    }

    pub of_not_null : Alike (f.Atom (atom.NotNull row column)) (f.Atom (atom.NotNull row_too column)) rows others
    of_not_null = record {
      hold = atoms_hold (atom.NotNull row column) (atom.NotNull row_too column) rows others (ap (λ v. not (is_null v)) same);
      fail =
          by_negations (f.Atom (atom.NotNull row column)) (f.Atom (atom.NotNull row_too column)) _ _ rows others
          (negated_of_atom (atom.NotNull row column)) (negated_of_atom (atom.NotNull row_too column))
          (atoms_hold (atom.IsNull row column) (atom.IsNull row_too column) rows others (ap is_null same));
    }
