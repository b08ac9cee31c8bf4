-- What is asked of a sentence holds of its parts: variables are bound, tables and columns are there, and nodes are few.
use Rattle.std.proofs.Common.{◌≡◌, ◌∙◌, sym, ap, subst, ℕ, zero, suc, ◌+◌, ◌<◌, ◌≤◌, ◌^◌, Bool, true, ◌&&◌, List, [], ◌∷◌, ◌++◌, length, map, arith}
use Rattle.std.proofs.lemmas.Bool.{and_parts}
use Rattle.std.proofs.lemmas.List.Folds.{list_all-map}
use Rattle.std.proofs.lemmas.List.Sums.{sum_by-cons}
use Rattle.std.proofs.lemmas.Option.{same_Some}
use Rattle.std.specs.Prelude.{Some, slice_get, nat_lt, sum}
use Rattle.std.specs.List.{list_all}
use Rattle.lint_base.proofs.Lists.{all_at}
use Rattle.lint_core.specs.declared.schema.Table.{Table}
use Rattle.sort_formula.specs.declared.formula.Formula.{Formula, out-Formula, fold_out-Formula, map-Formula}
use Rattle.sort_formula.specs.declared.formula.Formula.TheOpen.{Formula-F}
use Rattle.sort_formula.specs.Nodes.{nodes, nodes_step}
use Rattle.sort_formula.specs.Sentences.{Meaning, layer_is, atom_is_bound, is_bound, atom_fits, formula_fits}
use Rattle.instantiate.proofs.Flattening.{some_nodes}

-- ---- nodes of parts

part_nodes : (parts : List Formula) (i : ℕ) (g : Formula) → slice_get parts i ≡ Some g → nodes g ≤ sum (map nodes parts)
part_nodes [] i g at = cc
part_nodes (part ∷ parts) zero g at =
    let whole : sum (map nodes (part ∷ parts)) ≡ nodes part + sum (map nodes parts) = sum_by-cons (λ k. k) (nodes part) (map nodes parts) in
    let same : nodes part ≡ nodes g = ap nodes (same_Some part g at) in
    omega arith
part_nodes (part ∷ parts) (suc i) g at =
    let whole : sum (map nodes (part ∷ parts)) ≡ nodes part + sum (map nodes parts) = sum_by-cons (λ k. k) (nodes part) (map nodes parts) in
    let rest = part_nodes parts i g at in
    omega arith

count_nodes : (parts : List Formula) → length parts ≤ sum (map nodes parts)
count_nodes [] = omega arith
count_nodes (part ∷ parts) =
    let whole : sum (map nodes (part ∷ parts)) ≡ nodes part + sum (map nodes parts) = sum_by-cons (λ k. k) (nodes part) (map nodes parts) in
    let some = some_nodes part in
    let rest = count_nodes parts in
    omega arith

-- ---- layers

abbrev any_table : ℕ → Bool
any_table table = true

module _ (schema : List Table) where
  abbrev pub is_table : ℕ → Bool
  is_table table = nat_lt table (length schema)

  -- of the outermost layer of a formula, with these tables outside
  pub record IsFine (layer : Formula-F Formula) (tables : List ℕ) : Type 0 where
    pub bound : layer_is atom_is_bound any_table (map-Formula Formula Meaning is_bound layer) tables ≡ true
    pub fits : layer_is (atom_fits schema) is_table (map-Formula Formula Meaning (formula_fits schema) layer) tables ≡ true
    pub few : nodes_step (map-Formula Formula ℕ nodes layer) < 2 ^ 32

  pub fine_out : (g : Formula) (tables : List ℕ) → is_bound g tables ≡ true → formula_fits schema g tables ≡ true → nodes g < 2 ^ 32 → IsFine (out-Formula g) tables
  fine_out g tables bound fits few = record {
    bound = sym (ap (λ (m : Meaning). m tables) (fold_out-Formula Meaning (layer_is atom_is_bound any_table) g)) ∙ bound;
    fits = sym (ap (λ (m : Meaning). m tables) (fold_out-Formula Meaning (layer_is (atom_fits schema) is_table) g)) ∙ fits;
    few = subst (λ n. n < 2 ^ 32) (fold_out-Formula ℕ nodes_step g) few;
  }

  fine_part : (parts : List Formula) (tables : List ℕ) → list_all (λ (m : Meaning). m tables) (map is_bound parts) ≡ true →
      list_all (λ (m : Meaning). m tables) (map (formula_fits schema) parts) ≡ true → 1 + sum (map nodes parts) < 2 ^ 32 →
      (i : ℕ) (g : Formula) → slice_get parts i ≡ Some g → IsFine (out-Formula g) tables
  fine_part parts tables bound fits few i g at =
      let size = part_nodes parts i g at in
      fine_out g tables
      (all_at (λ part. is_bound part tables) parts i g (sym (list_all-map (λ (m : Meaning). m tables) is_bound parts) ∙ bound) at)
      (all_at (λ part. formula_fits schema part tables) parts i g (sym (list_all-map (λ (m : Meaning). m tables) (formula_fits schema) parts) ∙ fits) at)
      (omega arith)

  pub fine_and : (parts : List Formula) (tables : List ℕ) → IsFine (Formula-F.And parts) tables → (i : ℕ) (g : Formula) → slice_get parts i ≡ Some g → IsFine (out-Formula g) tables
  fine_and parts tables fine = fine_part parts tables fine.bound fine.fits fine.few

  pub fine_or : (parts : List Formula) (tables : List ℕ) → IsFine (Formula-F.Or parts) tables → (i : ℕ) (g : Formula) → slice_get parts i ≡ Some g → IsFine (out-Formula g) tables
  fine_or parts tables fine = fine_part parts tables fine.bound fine.fits fine.few

  pub few_parts : (parts : List Formula) (tables : List ℕ) → IsFine (Formula-F.Or parts) tables → length parts < 2 ^ 32
  few_parts parts tables fine =
      let size = count_nodes parts in
      let few : 1 + sum (map nodes parts) < 2 ^ 32 = fine.few in
      omega arith

  fine_body : (table : ℕ) (body : Formula) (tables : List ℕ) → is_bound body (tables ++ table ∷ []) ≡ true →
      (is_table table && formula_fits schema body (tables ++ table ∷ [])) ≡ true → 1 + nodes body < 2 ^ 32 → IsFine (out-Formula body) (tables ++ table ∷ [])
  fine_body table body tables bound fits few =
      fine_out body (tables ++ table ∷ []) bound (and_parts (is_table table) (formula_fits schema body (tables ++ table ∷ [])) fits).1 (omega arith)

  pub fine_exists : (table : ℕ) (body : Formula) (tables : List ℕ) → IsFine (Formula-F.Exists table body) tables → IsFine (out-Formula body) (tables ++ table ∷ [])
  fine_exists table body tables fine = fine_body table body tables fine.bound fine.fits fine.few

  pub fine_forall : (table : ℕ) (body : Formula) (tables : List ℕ) → IsFine (Formula-F.Forall table body) tables → IsFine (out-Formula body) (tables ++ table ∷ [])
  fine_forall table body tables fine = fine_body table body tables fine.bound fine.fits fine.few

  pub table_there : (table : ℕ) (body : Formula) (tables : List ℕ) → IsFine (Formula-F.Exists table body) tables → is_table table ≡ true
  table_there table body tables fine = (and_parts (is_table table) (formula_fits schema body (tables ++ table ∷ [])) fine.fits).0
