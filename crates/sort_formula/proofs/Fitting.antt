-- When a formula of each kind fits, by its parts.
use Rattle.std.proofs.Common.{◌≡◌, ◌∙◌, ◌⊎◌, inl, inr, ap, ℕ, Bool, ◌&&◌, List, [], ◌∷◌, ◌++◌, length}
use Rattle.std.proofs.lemmas.List.Folds.{list_all-map}
use Rattle.std.specs.List.{list_all}
use Rattle.std.specs.Prelude.{nat_lt, true}
use Rattle.lint_core.specs.declared.schema.Table.{Table}
use Rattle.sort_formula.specs.declared.formula.Atom.{Atom}
use Rattle.sort_formula.specs.declared.formula.Formula.{Formula, fold-Formula, fold_out-Formula, map-Formula, out-Formula}
use Rattle.sort_formula.specs.declared.formula.Formula.TheVariants as f
use Rattle.sort_formula.specs.declared.formula.Formula.TheOpen.{Formula-F}
use Rattle.sort_formula.specs.Sentences.{Meaning, layer_is, atom_is_bound, is_bound, atom_fits, formula_fits}

-- of any test that is said of atoms and of the table of a quantifier
module _ (atom_is : List ℕ → Atom → Bool) (table_is : ℕ → Bool) where
  abbrev test : Formula → Meaning
  test = fold-Formula Meaning (layer_is atom_is table_is)

  abbrev layer_test : Formula-F Formula → Meaning
  layer_test layer = layer_is atom_is table_is (map-Formula Formula Meaning test layer)

  test_out : (g : Formula) (tables : List ℕ) → test g tables ≡ layer_test (out-Formula g) tables
  test_out g tables = ap (λ (m : Meaning). m tables) (fold_out-Formula Meaning (layer_is atom_is table_is) g)

  test_atom : (a : Atom) (tables : List ℕ) → test (f.Atom a) tables ≡ atom_is tables a
  test_atom a tables = test_out (f.Atom a) tables ∙ ap (λ layer. layer_test layer tables) (f.outs-Atom a)

  test_and : (parts : List Formula) (tables : List ℕ) → test (f.And parts) tables ≡ list_all (λ g. test g tables) parts
  test_and parts tables =
      test_out (f.And parts) tables
      ∙ (ap (λ layer. layer_test layer tables) (f.outs-And parts) ∙ list_all-map (λ (m : Meaning). m tables) test parts)

  test_or : (parts : List Formula) (tables : List ℕ) → test (f.Or parts) tables ≡ list_all (λ g. test g tables) parts
  test_or parts tables =
      test_out (f.Or parts) tables
      ∙ (ap (λ layer. layer_test layer tables) (f.outs-Or parts) ∙ list_all-map (λ (m : Meaning). m tables) test parts)

  test_exists : (table : ℕ) (body : Formula) (tables : List ℕ) → test (f.Exists table body) tables ≡ (table_is table && test body (tables ++ table ∷ []))
  test_exists table body tables = test_out (f.Exists table body) tables ∙ ap (λ layer. layer_test layer tables) (f.outs-Exists table body)

  test_forall : (table : ℕ) (body : Formula) (tables : List ℕ) → test (f.Forall table body) tables ≡ (table_is table && test body (tables ++ table ∷ []))
  test_forall table body tables = test_out (f.Forall table body) tables ∙ ap (λ layer. layer_test layer tables) (f.outs-Forall table body)

pub bound_parts : (g : Formula) (parts : List Formula) (tables : List ℕ) → (g ≡ f.And parts) ⊎ (g ≡ f.Or parts) → is_bound g tables ≡ list_all (λ part. is_bound part tables) parts
bound_parts g parts tables (inl is_and) = ap (λ g. is_bound g tables) is_and ∙ test_and atom_is_bound (λ table. true) parts tables
bound_parts g parts tables (inr is_or) = ap (λ g. is_bound g tables) is_or ∙ test_or atom_is_bound (λ table. true) parts tables

pub bound_atom : (a : Atom) (tables : List ℕ) → is_bound (f.Atom a) tables ≡ atom_is_bound tables a
bound_atom = test_atom atom_is_bound (λ table. true)

pub bound_exists : (table : ℕ) (body : Formula) (tables : List ℕ) → is_bound (f.Exists table body) tables ≡ is_bound body (tables ++ table ∷ [])
bound_exists = test_exists atom_is_bound (λ table. true)

module _ (schema : List Table) where
  abbrev is_table : ℕ → Bool
  is_table table = nat_lt table (length schema)

  pub fits_atom : (a : Atom) (tables : List ℕ) → formula_fits schema (f.Atom a) tables ≡ atom_fits schema tables a
  fits_atom = test_atom (atom_fits schema) is_table

  pub fits_and : (parts : List Formula) (tables : List ℕ) → formula_fits schema (f.And parts) tables ≡ list_all (λ g. formula_fits schema g tables) parts
  fits_and = test_and (atom_fits schema) is_table

  pub fits_or : (parts : List Formula) (tables : List ℕ) → formula_fits schema (f.Or parts) tables ≡ list_all (λ g. formula_fits schema g tables) parts
  fits_or = test_or (atom_fits schema) is_table

  pub fits_parts : (g : Formula) (parts : List Formula) (tables : List ℕ) → (g ≡ f.And parts) ⊎ (g ≡ f.Or parts) →
      formula_fits schema g tables ≡ list_all (λ part. formula_fits schema part tables) parts
  fits_parts g parts tables (inl is_and) = ap (λ g. formula_fits schema g tables) is_and ∙ fits_and parts tables
  fits_parts g parts tables (inr is_or) = ap (λ g. formula_fits schema g tables) is_or ∙ fits_or parts tables

  pub fits_exists : (table : ℕ) (body : Formula) (tables : List ℕ) →
      formula_fits schema (f.Exists table body) tables ≡ (is_table table && formula_fits schema body (tables ++ table ∷ []))
  fits_exists = test_exists (atom_fits schema) is_table

  pub fits_forall : (table : ℕ) (body : Formula) (tables : List ℕ) →
      formula_fits schema (f.Forall table body) tables ≡ (is_table table && formula_fits schema body (tables ++ table ∷ []))
  fits_forall = test_forall (atom_fits schema) is_table
