-- What foreign keys refer to.
use Rattle.std.proofs.Common.{◌≡◌, ℕ, zero, suc, ◌+◌, ◌<◌, ◌≤◌, Bool, true, false, List, [], ◌∷◌, ◌++◌, length, min, drop, get_or, Option, Some, None, refl, sym, ap, ◌∙◌, append_assoc, arith}
use Rattle.std.specs.Prelude.{◌==◌, slice_get}
use Rattle.std.specs.Option.{option_map, option_and_then}
use Rattle.std.proofs.lemmas.List.{append-nil, drop_all}
use Rattle.std.proofs.lemmas.Option.{slice_get_past}
use Rattle.lint_base.specs.declared.place.Span.{Span}
use Rattle.lint_base.specs.declared.place.Fault.TheVariants.{UnknownTable}
use Rattle.sql_tree.specs.declared.term.NameTree.{NameTree}
use Rattle.sql_tree.specs.declared.schema.CreateTable.{CreateTable}
use Rattle.lint_core.specs.declared.schema.Column.{Column}
use Rattle.lint_core.specs.declared.schema.Table.{Table}
use Rattle.sql_bind.specs.declared.keys.NamedKeys.{NamedKeys}
use Rattle.sql_bind.specs.Bound.{refused}
use Rattle.sql_bind.specs.Names.{column_place, table_place}
use Rattle.sql_bind.specs.Schemas.{rules_at, named_columns, target_columns, with_table, with_target}
use Rattle.sql_bind.specs.inner.Passes.{keys_named, all_keys, targets_named, referred}
use Rattle.sql_bind.proofs.Loops.{drop_next}

-- the columns so far, and those of the rest
pub named_start : (none : List ℕ) (more : Option (List ℕ)) → none ≡ [] → option_map (λ places. none ++ places) more ≡ more
named_start none None e = refl
named_start none (Some places) e = ap (λ front. Some (front ++ places)) e

module _ (columns : List Column) (so_far : List ℕ) (names : List NameTree) (whole : Option (List ℕ)) (i : ℕ) (invariant : option_map (λ places. so_far ++ places) (named_columns columns (drop i names)) ≡ whole) where
  at_name : (name : NameTree) → i < length names → name ≡ get_or names i name →
      whole ≡ option_map (λ places. so_far ++ places) (option_and_then (λ place. option_map (λ places. place ∷ places) (named_columns columns (drop (i + 1) names))) (column_place columns name.text))
  unfolding named_columns
  at_name name low is = sym invariant ∙ ap (λ ns. option_map (λ places. so_far ++ places) (named_columns columns ns)) (drop_next names i name low is)

  pub named_none : (name : NameTree) → i < length names → name ≡ get_or names i name → column_place columns name.text ≡ None → None ≡ whole
  named_none name low is none =
      sym (at_name name low is ∙ ap (λ found. option_map (λ places. so_far ++ places) (option_and_then (λ place. option_map (λ places. place ∷ places) (named_columns columns (drop (i + 1) names))) found)) none)

  regrouped : (place : ℕ) (more : Option (List ℕ)) → option_map (λ places. so_far ++ places) (option_map (λ places. place ∷ places) more) ≡ option_map (λ places. (so_far ++ place ∷ []) ++ places) more
  regrouped place None = refl
  regrouped place (Some places) = ap Some (sym (append_assoc so_far (place ∷ []) places))

  pub named_next : (name : NameTree) → i < length names → name ≡ get_or names i name → (place number : ℕ) (longer : List ℕ) → column_place columns name.text ≡ Some place → number ≡ place → longer ≡ so_far ++ number ∷ [] →
      option_map (λ places. longer ++ places) (named_columns columns (drop (i + 1) names)) ≡ whole
  named_next name low is place number longer found same last =
      let rest = named_columns columns (drop (i + 1) names) in
      ap (λ front. option_map (λ places. front ++ places) rest) (last ∙ ap (λ n. so_far ++ n ∷ []) same) ∙ sym (regrouped place rest)
      ∙ sym (at_name name low is ∙ ap (λ found. option_map (λ places. so_far ++ places) (option_and_then (λ place. option_map (λ places. place ∷ places) rest) found)) found)

  pub named_end : length names ≤ i → Some so_far ≡ whole
  unfolding named_columns
  named_end end = ap Some (sym (append-nil so_far)) ∙ ap (λ ns. option_map (λ places. so_far ++ places) (named_columns columns ns)) (sym (drop_all i names end)) ∙ invariant

module _ (primary : Option (List ℕ)) (columns : List Column) where
  pub target_list : (names : List NameTree) (empty : Bool) (found : Option (List ℕ)) → empty ≡ (length names == 0) → empty ≡ false → found ≡ named_columns columns names → found ≡ targets_named primary columns names
  target_list [] empty found is full e = absurd cc
  target_list (name ∷ names) empty found is full e = e

module _ (outlines : List Table) (trees : List CreateTable) where
  key_at : (number : ℕ) (tables : List Table) (n : ℕ) → slice_get (all_keys trees number tables) n ≡ option_map (λ (t : Table). keys_named t.columns (rules_at outlines trees (number + n))) (slice_get tables n)
  unfolding all_keys
  key_at number [] n = refl
  key_at number (table ∷ tables) zero =
      let here : number ≡ number + 0 = omega arith in
      ap (λ (k : ℕ). Some (keys_named table.columns (rules_at outlines trees k))) here
  key_at number (table ∷ tables) (suc n) =
      let here : suc number + n ≡ number + suc n = omega arith in
      key_at (suc number) tables n ∙ ap (λ (k : ℕ). option_map (λ (t : Table). keys_named t.columns (rules_at outlines trees k)) (slice_get tables n)) here

  at_start : (n : ℕ) → slice_get (all_keys trees 0 outlines) n ≡ option_map (λ (t : Table). keys_named t.columns (rules_at outlines trees n)) (slice_get outlines n)
  at_start n =
      let here : 0 + n ≡ n = omega arith in
      key_at 0 outlines n ∙ ap (λ (k : ℕ). option_map (λ (t : Table). keys_named t.columns (rules_at outlines trees k)) (slice_get outlines n)) here

  length-all_keys : (number : ℕ) (tables : List Table) → length (all_keys trees number tables) ≡ length tables
  unfolding all_keys
  length-all_keys number [] = refl
  length-all_keys number (table ∷ tables) = ap suc (length-all_keys (suc number) tables)

  -- a table has its keys
  pub no_target : (keys : List NamedKeys) (seen : List Table) (n : ℕ) → keys ≡ all_keys trees 0 outlines → seen ≡ outlines → min (length seen) (length keys) ≤ n → slice_get outlines n ≡ None
  no_target keys seen n is same past =
      let size : length keys ≡ length outlines = ap length is ∙ length-all_keys 0 outlines in
      let other : length seen ≡ length outlines = ap length same in
      slice_get_past outlines n (omega arith)

  pub keys_found : (keys : List NamedKeys) (n : ℕ) (table : Table) (found : NamedKeys) → keys ≡ all_keys trees 0 outlines → slice_get outlines n ≡ Some table → slice_get keys n ≡ Some found → found ≡ keys_named table.columns (rules_at outlines trees n)
  keys_found keys n table found is there here =
      let e : Some found ≡ Some (keys_named table.columns (rules_at outlines trees n)) =
      sym here ∙ ap (λ ks. slice_get ks n) is ∙ at_start n ∙ ap (option_map (λ (t : Table). keys_named t.columns (rules_at outlines trees n))) there
      in cc

  module _ (table : Table) (name : NameTree) (columns : List ℕ) (target_name : NameTree) (target_names : List NameTree) (at : Span) where
    pub target_unknown : (place : ℕ) → table_place outlines target_name.text ≡ Some place → slice_get outlines place ≡ None →
        with_target outlines trees table name columns target_name target_names at (table_place outlines target_name.text) ≡ refused UnknownTable target_name.span
    target_unknown place placed none =
        ap (with_target outlines trees table name columns target_name target_names at) placed ∙ ap (with_table outlines trees table name columns target_name target_names at place) none

    same_targets : (target : Table) (number : ℕ) (names : List NameTree) → targets_named (keys_named target.columns (rules_at outlines trees number)).primary target.columns names ≡ target_columns outlines trees number target names
    same_targets target number [] = refl
    same_targets target number (n ∷ ns) = refl

    pub target_refers : (place number : ℕ) (target : Table) (keys : NamedKeys) (targets : Option (List ℕ)) → table_place outlines target_name.text ≡ Some place → slice_get outlines place ≡ Some target → number ≡ place →
        keys ≡ keys_named target.columns (rules_at outlines trees place) → targets ≡ targets_named keys.primary target.columns target_names →
        referred table target keys number columns at targets ≡ with_target outlines trees table name columns target_name target_names at (table_place outlines target_name.text)
    target_refers place number target keys targets placed there same keyed targeted =
        let other = keys_named target.columns (rules_at outlines trees place) in
        let named : targets ≡ target_columns outlines trees place target target_names = targeted ∙ ap (λ (k : NamedKeys). targets_named k.primary target.columns target_names) keyed ∙ same_targets target place target_names in
        ap (λ (n : ℕ). referred table target keys n columns at targets) same ∙ ap (λ k. referred table target k place columns at targets) keyed
        ∙ ap (λ ts. referred table target other place columns at ts) named
        ∙ sym (ap (with_target outlines trees table name columns target_name target_names at) placed ∙ ap (with_table outlines trees table name columns target_name target_names at place) there)
