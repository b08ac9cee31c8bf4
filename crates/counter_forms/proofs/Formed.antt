-- Formulas that fit the schema and in which, where the bounds are moderate, each variable is bound. Those that join no
-- rows are so with their negations.
use Rattle.std.proofs.Common.{◌≡◌, ◌∙◌, ◌^◌, ap, sym, refl, subst, ℕ, Bool, true, false, List, [], ◌∷◌, ◌++◌, length, inl, inr}
use Rattle.std.proofs.lemmas.Option.{slice_get_within}
use Rattle.std.proofs.lemmas.Bool.{eq-eqb}
use Rattle.std.proofs.lemmas.List.{append_assoc, append-nil}
use Rattle.std.specs.List.{AllByRecursion, list_all}
use Rattle.std.specs.Option.{option_map_or}
use Rattle.std.specs.Prelude.{Some, nat_eq, nat_lt, slice_get}
use Rattle.lint_base.proofs.Lists.{both_left, both_right, true_below}
use Rattle.lint_core.specs.declared.condition.Cond.{Cond}
use Rattle.lint_core.specs.declared.schema.Table.{Table}
use Rattle.lint_core.specs.declared.scope.Scope.{Scope}
use Rattle.lint_core.specs.Fits.{cond_fits}
use Rattle.lint_core.specs.Naming.{names}
use Rattle.sort_formula.specs.declared.formula.Atom.{Atom}
use Rattle.sort_formula.specs.declared.formula.Atom.TheVariants as atom
use Rattle.sort_formula.specs.declared.formula.Formula.{Formula}
use Rattle.sort_formula.specs.declared.formula.Formula.TheVariants as f
use Rattle.sort_formula.specs.Bounds.{atom_is_within, is_within}
use Rattle.sort_formula.specs.Negated.{negated}
use Rattle.sort_formula.specs.Sentences.{atom_fits, formula_fits, is_bound, is_variable}
use Rattle.sort_formula.specs.Translation.{exist_rows, is_true_formula}
use Rattle.sort_formula.proofs.Fitting.{bound_atom, bound_exists, bound_parts, fits_atom, fits_and, fits_or, fits_exists, fits_forall}
use Rattle.truth_laws.proofs.Atoms.{atoms_and, atoms_or, atoms_atom, atoms_exists, atoms_forall}
use Rattle.truth_laws.proofs.Bound.{condition_joins_none, fitting_is_bound, has_no_joins, joins_none, negated_joins_none}
use Rattle.truth_laws.proofs.Fits as fitting
use Rattle.truth_laws.proofs.Fitting.{both_are, negation_fits}
use Rattle.truth_laws.proofs.Outside.{AreOutside}

module _ (schema : List Table) where
  -- fits, and joins no rows
  pub record Plain (outside : List ℕ) (g : Formula) : Type 0 where
    pub fits : formula_fits schema g outside ≡ true
    pub joins : has_no_joins g ≡ true

  -- fits, and is bound where its bounds are moderate
  pub record Formed (outside : List ℕ) (g : Formula) : Type 0 where
    pub fits : formula_fits schema g outside ≡ true
    pub bound : is_within (2 ^ 66) g ≡ true → is_bound g outside ≡ true

  -- ---- formulas that join no rows

  module _ (outside : List ℕ) where
    abbrev all_fit : List Formula → Bool
    all_fit parts = list_all (λ g. formula_fits schema g outside) parts

    each_fits : (parts : List Formula) → AllByRecursion (Plain outside) parts → all_fit parts ≡ true
    each_fits [] each = refl
    each_fits (g ∷ gs) each = both_are (formula_fits schema g outside) (all_fit gs) each.0.fits (each_fits gs each.1)

    each_joins : (parts : List Formula) → AllByRecursion (Plain outside) parts → list_all has_no_joins parts ≡ true
    each_joins [] each = refl
    each_joins (g ∷ gs) each = both_are (has_no_joins g) (list_all has_no_joins gs) each.0.joins (each_joins gs each.1)

    pub plain_and : (parts : List Formula) → AllByRecursion (Plain outside) parts → Plain outside (f.And parts)
    plain_and parts each = record {
      fits = fits_and schema parts outside ∙ each_fits parts each;
      joins = atoms_and joins_none parts ∙ each_joins parts each;
    }

    pub plain_or : (parts : List Formula) → AllByRecursion (Plain outside) parts → Plain outside (f.Or parts)
    plain_or parts each = record {
      fits = fits_or schema parts outside ∙ each_fits parts each;
      joins = atoms_or joins_none parts ∙ each_joins parts each;
    }

    pub plain_not : (g : Formula) → Plain outside g → Plain outside (negated g)
    plain_not g plain = record {
      fits = negation_fits schema g outside plain.fits;
      joins = negated_joins_none g plain.joins;
    }

    pub plain_atom : (a : Atom) → atom_fits schema outside a ≡ true → joins_none a ≡ true → Plain outside (f.Atom a)
    plain_atom a fits none = record {
      fits = fits_atom schema a outside ∙ fits;
      joins = atoms_atom joins_none a ∙ none;
    }

    pub plain_condition : (cond : Cond) (scope : Scope) → cond_fits schema scope.tables cond ≡ true → AreOutside scope outside (λ entry. names entry cond) → Plain outside (is_true_formula schema cond scope)
    plain_condition cond scope fits are = record {
      fits = (fitting.cond_fits schema cond scope outside fits are).0;
      joins = (condition_joins_none schema cond scope).0;
    }

  pub plain_forall : (outside : List ℕ) (table : ℕ) (body : Formula) → nat_lt table (length schema) ≡ true → Plain (outside ++ table ∷ []) body → Plain outside (f.Forall table body)
  plain_forall outside table body there plain = record {
    fits = fits_forall schema table body outside ∙ both_are (nat_lt table (length schema)) (formula_fits schema body (outside ++ table ∷ [])) there plain.fits;
    joins = atoms_forall joins_none table body ∙ plain.joins;
  }

  -- ---- formulas that may join rows

  module _ (outside : List ℕ) where
    pub plain_is_formed : (g : Formula) → Plain outside g → Formed outside g
    plain_is_formed g plain = record {
      fits = plain.fits;
      bound = fitting_is_bound schema g outside plain.fits plain.joins;
    }

    abbrev within : Formula → Bool
    within = is_within (2 ^ 66)

    each_formed_fits : (parts : List Formula) → AllByRecursion (Formed outside) parts → all_fit outside parts ≡ true
    each_formed_fits [] each = refl
    each_formed_fits (g ∷ gs) each = both_are (formula_fits schema g outside) (all_fit outside gs) each.0.fits (each_formed_fits gs each.1)

    each_bound : (parts : List Formula) → AllByRecursion (Formed outside) parts → list_all within parts ≡ true → list_all (λ g. is_bound g outside) parts ≡ true
    each_bound [] each low = refl
    each_bound (g ∷ gs) each low =
        both_are (is_bound g outside) (list_all (λ g. is_bound g outside) gs)
        (each.0.bound (both_left (within g) (list_all within gs) low)) (each_bound gs each.1 (both_right (within g) (list_all within gs) low))

    pub formed_and : (parts : List Formula) → AllByRecursion (Formed outside) parts → Formed outside (f.And parts)
    formed_and parts each = record {
      fits = fits_and schema parts outside ∙ each_formed_fits parts each;
      bound = λ low. bound_parts (f.And parts) parts outside (inl refl) ∙ each_bound parts each (sym (atoms_and (atom_is_within (2 ^ 66)) parts) ∙ low);
    }

    pub formed_or : (parts : List Formula) → AllByRecursion (Formed outside) parts → Formed outside (f.Or parts)
    formed_or parts each = record {
      fits = fits_or schema parts outside ∙ each_formed_fits parts each;
      bound = λ low. bound_parts (f.Or parts) parts outside (inr refl) ∙ each_bound parts each (sym (atoms_or (atom_is_within (2 ^ 66)) parts) ∙ low);
    }

    -- two variables of one table
    pub formed_other : (row other table : ℕ) → slice_get outside row ≡ Some table → slice_get outside other ≡ Some table → Formed outside (f.Atom (atom.Other row other))
    formed_other row other table at at_other = record {
      fits =
          fits_atom schema (atom.Other row other) outside
          ∙ both_are (is_variable outside row) (is_variable outside other)
          (true_below row (length outside) (slice_get_within outside row table at)) (true_below other (length outside) (slice_get_within outside other table at_other));
      bound = λ low.
          bound_atom (atom.Other row other) outside
          ∙ (ap (λ t. option_map_or (λ t. option_map_or (nat_eq t) (slice_get outside other) false) t false) at
          ∙ (ap (λ t. option_map_or (nat_eq table) t false) at_other
          ∙ eq-eqb table table refl));
    }

  pub formed_exists : (outside : List ℕ) (table : ℕ) (body : Formula) → nat_lt table (length schema) ≡ true → Formed (outside ++ table ∷ []) body → Formed outside (f.Exists table body)
  formed_exists outside table body there formed = record {
    fits = fits_exists schema table body outside ∙ both_are (nat_lt table (length schema)) (formula_fits schema body (outside ++ table ∷ [])) there formed.fits;
    bound = λ low. bound_exists table body outside ∙ formed.bound (sym (atoms_exists (atom_is_within (2 ^ 66)) table body) ∙ low);
  }

  pub formed_rows : (own outside : List ℕ) (body : Formula) → list_all (λ table. nat_lt table (length schema)) own ≡ true → Formed (outside ++ own) body → Formed outside (exist_rows own body)
  formed_rows [] outside body there formed = subst (λ (tables : List ℕ). Formed tables body) (append-nil outside) formed
  formed_rows (table ∷ own) outside body there formed =
      let here = nat_lt table (length schema) in
      let rest = list_all (λ table. nat_lt table (length schema)) own in
      formed_exists outside table (exist_rows own body) (both_left here rest there)
      (formed_rows own (outside ++ table ∷ []) body (both_right here rest there)
      (subst (λ (tables : List ℕ). Formed tables body) (sym (append_assoc outside (table ∷ []) own)) formed))
