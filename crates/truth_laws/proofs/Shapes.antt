-- Bindings have a row for each of their tables; what else a query that fits gives for its clauses.
use Rattle.std.proofs.Common.{◌≡◌, ◌∙◌, ◌+◌, ◌<◌, sym, ap, ap₂, refl, ℕ, zero, suc, Bool, true, false, ◌&&◌, List, [], ◌∷◌, length, map, nat_lt, nat_le, arith, if◌then◌else◌}
use Rattle.std.proofs.lemmas.List.Edits.{length-remove, length-insert}
use Rattle.std.specs.List.{list_all, filter}
use Rattle.std.specs.Option.{option_map_or}
use Rattle.std.specs.Prelude.{Option, Some, None, slice_get, remove}
use Rattle.lint_core.specs.declared.condition.Block.{out-Block}
use Rattle.lint_core.specs.declared.database.Database.{Database}
use Rattle.lint_core.specs.declared.query.Query.{Query}
use Rattle.lint_core.specs.declared.schema.Table.{Table}
use Rattle.lint_core.specs.Asked.{main_condition}
use Rattle.lint_core.specs.Database.{rows_of}
use Rattle.lint_core.specs.Fits.{cond_fits, block_fits, selection_fits, query_fits, main_tables, count_conditions}
use Rattle.lint_core.specs.Fits as fitting
use Rattle.lint_core.specs.Points.{are_rows, is_binding, with_row}
use Rattle.lint_base.proofs.Lists.{both_left, both_right}
use Rattle.truth_laws.proofs.Fitting.{both_are}
use Rattle.truth_laws.proofs.FittingParts.{inner_fits}
use Rattle.truth_laws.proofs.Layers.{block_fit_is}

-- ---- lists

pub filter_keeps : {A : Type 0} (p q : A → Bool) (xs : List A) → list_all p xs ≡ true → list_all p (filter q xs) ≡ true
filter_keeps p q [] all = refl
filter_keeps p q (x ∷ xs) all =
    let rest = filter_keeps p q xs (both_right (p x) (list_all p xs) all) in
    elim (q x) as (λ b. list_all p (if b then x ∷ filter q xs else filter q xs) ≡ true) [
      | true ↦ both_are (p x) (list_all p (filter q xs)) (both_left (p x) (list_all p xs) all) rest
      | false ↦ rest
    ]

pub at_place : {A : Type 0} (p : A → Bool) (xs : List A) (i : ℕ) → list_all p xs ≡ true → option_map_or p (slice_get xs i) true ≡ true
at_place p [] i all = refl
at_place p (x ∷ xs) zero all = both_left (p x) (list_all p xs) all
at_place p (x ∷ xs) (suc i) all = at_place p xs i (both_right (p x) (list_all p xs) all)

pub found_too : {A : Type 0} (p q : A → Bool) → ((x : A) → p x ≡ true → q x ≡ true) → (found : Option A) → option_map_or p found false ≡ true → option_map_or q found false ≡ true
found_too p q leads None is = is
found_too p q leads (Some x) is = leads x is

-- ---- bindings

module _ (db : Database) where
  rows_shape : (tables rows : List ℕ) → are_rows db tables rows ≡ true → length rows ≡ length tables
  rows_shape [] [] are = refl
  rows_shape [] (row ∷ rows) are = cc
  rows_shape (table ∷ tables) [] are = cc
  rows_shape (table ∷ tables) (row ∷ rows) are = ap suc (rows_shape tables rows (both_right (nat_lt row (length (rows_of db table))) (are_rows db tables rows) are))

  pub binding_shape : (tables levels : List (List ℕ)) → is_binding db tables levels ≡ true → map length levels ≡ map length tables
  binding_shape [] [] is = refl
  binding_shape [] (rows ∷ levels) is = cc
  binding_shape (own ∷ tables) [] is = cc
  binding_shape (own ∷ tables) (rows ∷ levels) is =
      let here = are_rows db own rows in
      let rest = is_binding db tables levels in
      ap₂ (λ n ns. n ∷ ns) (rows_shape own rows (both_left here rest is)) (binding_shape tables levels (both_right here rest is))

-- the rows of the other entries, with one of this entry
pub with_row_shape : (own : List ℕ) (entry row : ℕ) (levels : List (List ℕ)) → entry < length own → map length levels ≡ map length (remove own entry ∷ []) →
    map length (with_row entry row levels) ≡ map length (own ∷ [])
with_row_shape own entry row [] low same = cc
with_row_shape own entry row (rows ∷ []) low same =
    let others : length rows ≡ length (remove own entry) = cc in
    let one : length (remove own entry) + 1 ≡ length own = length-remove own entry low in
    ap (λ n. n ∷ []) (length-insert rows entry row (omega (arith, others, one)) ∙ (ap (λ n. n + 1) others ∙ one))
with_row_shape own entry row (rows ∷ more ∷ most) low same = cc

-- ---- the main condition

pub main_fits : (schema : List Table) (query : Query) → query_fits schema query ≡ true → cond_fits schema (main_tables query) (main_condition query) ≡ true
main_fits schema query fits =
    let selected = selection_fits schema query in
    let block = block_fits schema [] query.block in
    let few = nat_le (count_conditions (out-Block query.block).cond) 65536 in
    inner_fits schema query.block []
    (ap (λ (m : fitting.BlockMeaning). m.fits []) (sym (block_fit_is schema query.block)) ∙ both_right selected block (both_left (selected && block) few fits))
