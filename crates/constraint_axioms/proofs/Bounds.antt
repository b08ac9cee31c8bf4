-- The axioms are sentences.
use Rattle.std.proofs.Common.{◌≡◌, ◌∙◌, refl, ap, ap₂, ℕ, pos, neg_ℤ, Bool, true, false, ◌&&◌, List, [], ◌∷◌, ◌++◌, map}
use Rattle.std.proofs.lemmas.List.Folds.{list_all-map, list_all-append}
use Rattle.std.proofs.lemmas.Bool.{eq-eqb}
use Rattle.std.specs.List.{list_all, flat_map, zip}
use Rattle.lint_core.specs.declared.schema.ForeignKey.{ForeignKey}
use Rattle.lint_core.specs.declared.schema.Key.{Key}
use Rattle.lint_core.specs.declared.schema.Table.{Table}
use Rattle.sort_formula.specs.declared.formula.Atom.{Atom}
use Rattle.sort_formula.specs.declared.formula.Atom.TheVariants as atom
use Rattle.sort_formula.specs.declared.formula.Formula.{Formula, fold_out-Formula, map-Formula, out-Formula}
use Rattle.sort_formula.specs.declared.formula.Formula.TheVariants as f
use Rattle.sort_formula.specs.declared.formula.Formula.TheOpen.{Formula-F}
use Rattle.sort_formula.specs.declared.formula.Side.TheVariants as side
use Rattle.sort_formula.specs.Axioms.{foreign_sentence, is_text_column, key_axiom, key_column, pair_equal}
use Rattle.sort_formula.specs.Cells.{equal_cells, different_cells}
use Rattle.sort_formula.specs.Sentences.{Meaning, layer_is, atom_is_bound, is_bound, is_sentence}

-- ---- when a formula of each kind is bound, by its parts

abbrev step : Formula-F Meaning → Meaning
step = layer_is atom_is_bound (λ table. true)

abbrev layer_bound : Formula-F Formula → Meaning
layer_bound layer = step (map-Formula Formula Meaning is_bound layer)

bound_out : (g : Formula) (tables : List ℕ) → is_bound g tables ≡ layer_bound (out-Formula g) tables
bound_out g tables = ap (λ (m : Meaning). m tables) (fold_out-Formula Meaning step g)

pub bound_atom : (a : Atom) (tables : List ℕ) → is_bound (f.Atom a) tables ≡ atom_is_bound tables a
bound_atom a tables = bound_out (f.Atom a) tables ∙ ap (λ layer. layer_bound layer tables) (f.outs-Atom a)

pub bound_and : (parts : List Formula) (tables : List ℕ) → is_bound (f.And parts) tables ≡ list_all (λ g. is_bound g tables) parts
bound_and parts tables = bound_out (f.And parts) tables ∙ (ap (λ layer. layer_bound layer tables) (f.outs-And parts) ∙ list_all-map (λ (m : Meaning). m tables) is_bound parts)

pub bound_or : (parts : List Formula) (tables : List ℕ) → is_bound (f.Or parts) tables ≡ list_all (λ g. is_bound g tables) parts
bound_or parts tables = bound_out (f.Or parts) tables ∙ (ap (λ layer. layer_bound layer tables) (f.outs-Or parts) ∙ list_all-map (λ (m : Meaning). m tables) is_bound parts)

pub bound_exists : (table : ℕ) (body : Formula) (tables : List ℕ) → is_bound (f.Exists table body) tables ≡ is_bound body (tables ++ table ∷ [])
bound_exists table body tables = bound_out (f.Exists table body) tables ∙ ap (λ layer. layer_bound layer tables) (f.outs-Exists table body)

pub bound_forall : (table : ℕ) (body : Formula) (tables : List ℕ) → is_bound (f.Forall table body) tables ≡ is_bound body (tables ++ table ∷ [])
bound_forall table body tables = bound_out (f.Forall table body) tables ∙ ap (λ layer. layer_bound layer tables) (f.outs-Forall table body)

-- ---- columns of two rows

all_flat : {A : Type 0} (p : Formula → Bool) (g : A → List Formula) → ((x : A) → list_all p (g x) ≡ true) → (xs : List A) → list_all p (flat_map g xs) ≡ true
all_flat p g each [] = refl
all_flat p g each (x ∷ xs) = list_all-append p (g x) (flat_map g xs) ∙ ap₂ (λ a b. a && b) (each x) (all_flat p g each xs)

module _ (schema : List Table) (table : Table) (first second number : ℕ) where
  abbrev two : List ℕ
  two = first ∷ second ∷ []

  abbrev bound : Formula → Bool
  bound g = is_bound g two

  different_bound : (text : Bool) (column : ℕ) → list_all bound (different_cells text (side.Cell 0 column) (side.Cell 1 column)) ≡ true
  different_bound true column = ap (λ b. b && true) (bound_atom (atom.TextNe (side.Cell 0 column) (side.Cell 1 column)) two)
  different_bound false column =
      ap₂ (λ a b. a && (b && true))
      (bound_atom (atom.Le (side.Cell 0 column) (side.Cell 1 column) (neg_ℤ (pos 1))) two)
      (bound_atom (atom.Le (side.Cell 1 column) (side.Cell 0 column) (neg_ℤ (pos 1))) two)

  equal_bound : (text : Bool) (column other : ℕ) → list_all bound (equal_cells text (side.Cell 0 column) (side.Cell 1 other)) ≡ true
  equal_bound true column other = ap (λ b. b && true) (bound_atom (atom.TextEq (side.Cell 0 column) (side.Cell 1 other)) two)
  equal_bound false column other =
      ap (λ b. b && true)
      (bound_and (f.Atom (atom.Le (side.Cell 0 column) (side.Cell 1 other) (pos 0)) ∷ f.Atom (atom.Le (side.Cell 1 other) (side.Cell 0 column) (pos 0)) ∷ []) two
      ∙ ap₂ (λ a b. a && (b && true))
      (bound_atom (atom.Le (side.Cell 0 column) (side.Cell 1 other) (pos 0)) two)
      (bound_atom (atom.Le (side.Cell 1 other) (side.Cell 0 column) (pos 0)) two))

  column_bound : (column : ℕ) → list_all bound (key_column schema number table column) ≡ true
  column_bound column =
      ap₂ (λ a b. a && b) (bound_atom (atom.IsNull 0 column) two)
      (ap₂ (λ a b. a && b) (bound_atom (atom.IsNull 1 column) two) (different_bound (is_text_column table column) column))

  columns_bound : (columns : List ℕ) → list_all bound (flat_map (key_column schema number table) columns) ≡ true
  columns_bound = all_flat bound (key_column schema number table) column_bound

  pairs_bound : (pairs : List (ℕ × ℕ)) → list_all bound (flat_map (pair_equal schema number table) pairs) ≡ true
  pairs_bound = all_flat bound (pair_equal schema number table) (λ pair. equal_bound (is_text_column table pair.0) pair.0 pair.1)

-- ---- the axioms

pub not_null_sentence : (number column : ℕ) → is_sentence (f.Forall number (f.Atom (atom.NotNull 0 column))) ≡ true
not_null_sentence number column = bound_forall number (f.Atom (atom.NotNull 0 column)) [] ∙ bound_atom (atom.NotNull 0 column) (number ∷ [])

same_bound : (number : ℕ) → atom_is_bound (number ∷ number ∷ []) (atom.Same 0 1) ≡ true
same_bound number = eq-eqb number number refl

pub key_sentence : (schema : List Table) (number : ℕ) (table : Table) (key : Key) → is_sentence (key_axiom schema number table key).sentence ≡ true
key_sentence schema number table key =
    let ways = f.Atom (atom.Same 0 1) ∷ flat_map (key_column schema number table) key.columns in
    bound_forall number (f.Forall number (f.Or ways)) []
    ∙ (bound_forall number (f.Or ways) (number ∷ [])
    ∙ (bound_or ways (number ∷ number ∷ [])
    ∙ ap₂ (λ a b. a && b)
    (bound_atom (atom.Same 0 1) (number ∷ number ∷ []) ∙ same_bound number)
    (columns_bound schema table number number number key.columns)))

nulls_bound : (number : ℕ) (columns : List ℕ) → list_all (λ g. is_bound g (number ∷ [])) (map (λ column. f.Atom (atom.IsNull 0 column)) columns) ≡ true
nulls_bound number [] = refl
nulls_bound number (column ∷ columns) = ap₂ (λ a b. a && b) (bound_atom (atom.IsNull 0 column) (number ∷ [])) (nulls_bound number columns)

pub foreign_is_sentence : (schema : List Table) (number : ℕ) (table : Table) (key : ForeignKey) → is_sentence (foreign_sentence schema number table key) ≡ true
foreign_is_sentence schema number table key =
    let pairs = flat_map (pair_equal schema number table) (zip key.columns key.target_columns) in
    let nulls = map (λ column. f.Atom (atom.IsNull 0 column)) key.columns in
    let found = f.Exists key.target (f.And pairs) in
    let p = λ (g : Formula). is_bound g (number ∷ []) in
    bound_forall number (f.Or (nulls ++ found ∷ [])) []
    ∙ (bound_or (nulls ++ found ∷ []) (number ∷ [])
    ∙ (list_all-append p nulls (found ∷ [])
    ∙ ap₂ (λ a b. a && (b && true)) (nulls_bound number key.columns)
    (bound_exists key.target (f.And pairs) (number ∷ [])
    ∙ (bound_and pairs (number ∷ key.target ∷ [])
    ∙ pairs_bound schema table number key.target number (zip key.columns key.target_columns)))))
