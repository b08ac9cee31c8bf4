-- The entries of a FROM list, and what a SELECT selects from them.
use Rattle.std.proofs.Common.{ℕ, suc, ◌+◌, ◌≤◌, ◌≡◌, refl, sym, ap, ◌∙◌, subst, Bool, true, pos, List, [], ◌∷◌, ◌++◌, length, Option, Some, None, Ok, slice_get, nat_le, nat_lt, option_map, is_some, unwrap_or, arith, leb-true, leb-false, le-leb, length-append, add-zero, add-suc, suc-add, zero-add}
use Rattle.std.proofs.lemmas.Bool.{and_parts, and_from}
use Rattle.std.specs.List.{list_all}
use Rattle.std.specs.Str.{bytes_eq}
use Rattle.lint_base.proofs.Lists.{all_append}
use Rattle.lint_base.specs.declared.place.Span.{Span}
use Rattle.lint_base.specs.declared.place.Fault.TheVariants.{DuplicateName}
use Rattle.sql_tree.specs.declared.term.NameTree.{NameTree}
use Rattle.sql_tree.specs.declared.select.ItemTree.{ItemTree}
use Rattle.sql_tree.specs.declared.select.ItemTree.TheVariants.{Star, StarOf, Term as Written}
use Rattle.lint_core.specs.declared.condition.Entry.{Entry}
use Rattle.lint_core.specs.declared.condition.Term.{Term}
use Rattle.lint_core.specs.declared.condition.Term.TheVariants.{Cell}
use Rattle.lint_core.specs.declared.schema.Column.{Column}
use Rattle.lint_core.specs.declared.schema.Table.{Table}
use Rattle.lint_core.specs.Fits.{term_fits, item_fits}
use Rattle.sql_bind.specs.Bound.{and_then}
use Rattle.sql_bind.specs.Names.{Level, whole_level, level_tables, table_place, entry_place, columns_of, columns_at}
use Rattle.sql_bind.specs.Terms.{bind_term}
use Rattle.sql_bind.specs.Conditions.{Selected, EntryMeaning, tree_span}
use Rattle.sql_bind.specs.Selects.{visible_name, entry_span, of_table, bind_entry, bind_entries, column_items, star_items, at_most_256, own_levels, written_item, entry_items, bind_item, bind_items, aliased_span}
use Rattle.sql_bind.specs.Shape.{item_shaped}
use Rattle.sql_bind.proofs.FitsBound.{and_then_ok, same_ok, if_not, limit_ok, limit_not}
use Rattle.sql_bind.proofs.FitsLists.{position_inside, position_there, all_push}
use Rattle.sql_bind.proofs.FitsNames.{cell_fits}
use Rattle.sql_bind.proofs.FitsTerms.{Plain, item_term_fits}

module _ (schema : List Table) where
  abbrev pub is_there : Entry → Bool
  is_there e = nat_lt e.table (length schema)

  of_table_there : (earlier : List Entry) (entry : EntryMeaning) (place : Option ℕ) (e : Entry) → table_place schema entry.table.text ≡ place →
      of_table schema earlier entry place ≡ Ok e → is_there e ≡ true
  of_table_there earlier entry None e at is = absurd (cc)
  of_table_there earlier entry (Some table) e at is =
      let here : Entry = record { table = table; name = (visible_name entry).text; span = entry_span entry } in
      let passed = if_not (is_some (entry_place earlier (visible_name entry).text)) (Ok here) DuplicateName (visible_name entry).span e is in
      ap is_there (sym (same_ok here e passed.1)) ∙ position_inside (λ (t : Table). bytes_eq t.name entry.table.text) schema table at

  -- the entries: at most 16, each of a table that exists
  pub entries_there : (earlier : List Entry) (entries : List EntryMeaning) (bound : List Entry) → nat_le (length earlier) 16 ≡ true → list_all is_there earlier ≡ true →
      bind_entries schema earlier entries ≡ Ok bound → (nat_le (length bound) 16 ≡ true) × (list_all is_there bound ≡ true)
  unfolding bind_entries
  entries_there earlier [] bound few there is =
      (ap (λ (es : List Entry). nat_le (length es) 16) (sym (same_ok earlier bound is)) ∙ few, ap (list_all is_there) (sym (same_ok earlier bound is)) ∙ there)
  entries_there earlier (entry ∷ entries) bound few there is =
      let first = and_then_ok (bind_entry schema earlier entry) (λ e. bind_entries schema (earlier ++ e ∷ []) entries) bound is in
      let room = limit_not (nat_le 16 (length earlier)) (of_table schema earlier entry (table_place schema entry.table.text)) 17 (entry_span entry) first.0 first.1 in
      let more : length (earlier ++ first.0 ∷ []) ≤ 16 = omega (arith, leb-false 16 (length earlier) room.0, length-append earlier (first.0 ∷ [])) in
      entries_there (earlier ++ first.0 ∷ []) entries bound (le-leb (length (earlier ++ first.0 ∷ [])) 16 more)
      (all_push is_there earlier first.0 there (of_table_there earlier entry (table_place schema entry.table.text) first.0 refl room.1)) first.2

  module _ (entries : List Entry) (outer : List Level) where
    abbrev pub selected_fits : Selected → Bool
    selected_fits s = item_fits schema (level_tables (own_levels schema entries outer)) s.item

    -- those that stand for the columns of an entry
    columns_fit : (number : ℕ) (at : Span) (e : Entry) → slice_get entries number ≡ Some e → (column : ℕ) (columns : List Column) →
        ((i : ℕ) (c : Column) → slice_get columns i ≡ Some c → slice_get (columns_of schema e) (column + i) ≡ Some c) →
        list_all selected_fits (column_items schema (length outer) number at column columns) ≡ true
    unfolding column_items
    columns_fit number at e is column [] there = refl
    columns_fit number at e is column (c ∷ cs) there =
        let here : term_fits schema (level_tables (whole_level entries ∷ outer)) (Cell (length outer) number column (pos 0)) ≡ true =
        cell_fits schema (whole_level entries) outer number column e c is (ap (slice_get (columns_of schema e)) (sym (add-zero column)) ∙ there 0 c refl) in
        and_from _ _ (and_from _ _ here refl)
        (columns_fit number at e is (suc column) cs (λ i d h. ap (slice_get (columns_of schema e)) (suc-add column i ∙ sym (add-suc column i)) ∙ there (suc i) d h))

    all_columns_fit : (number : ℕ) (at : Span) (e : Entry) → slice_get entries number ≡ Some e → list_all selected_fits (column_items schema (length outer) number at 0 (columns_of schema e)) ≡ true
    all_columns_fit number at e is = columns_fit number at e is 0 (columns_of schema e) (λ i c h. ap (slice_get (columns_of schema e)) (zero-add i) ∙ h)

    star_fit : (at : Span) (number : ℕ) (es : List Entry) → ((i : ℕ) (e : Entry) → slice_get es i ≡ Some e → slice_get entries (number + i) ≡ Some e) →
        list_all selected_fits (star_items schema (length outer) at number es) ≡ true
    unfolding star_items
    star_fit at number [] there = refl
    star_fit at number (e ∷ es) there =
        all_append selected_fits (column_items schema (length outer) number at 0 (columns_of schema e)) (star_items schema (length outer) at (suc number) es)
        (all_columns_fit number at e (ap (slice_get entries) (sym (add-zero number)) ∙ there 0 e refl))
        (star_fit at (suc number) es (λ i d h. ap (slice_get entries) (suc-add number i ∙ sym (add-suc number i)) ∙ there (suc i) d h))

    -- what an item gives, after so many
    pub record Part (count : ℕ) (part : List Selected) : Type 0 where
      pub few : count + length part ≤ 256
      pub fit : list_all selected_fits part ≡ true

    limited : (count : ℕ) (at : Span) (items part : List Selected) → list_all selected_fits items ≡ true → at_most_256 schema count at items ≡ Ok part → Part count part
    limited count at items part fit is =
        let passed = limit_ok (nat_le (count + length items) 256) (Ok items) 257 at part is in
        subst (Part count) (same_ok items part passed.1) (record { few = leb-true (count + length items) 256 passed.0; fit = fit })

    entry_part : (count : ℕ) (table : NameTree) (at : Span) (place : Option ℕ) (part : List Selected) → entry_place entries table.text ≡ place →
        entry_items schema entries outer count table at place ≡ Ok part → Part count part
    entry_part count table at None part which is = absurd (cc)
    entry_part count table at (Some number) part which is =
        let e = position_there (λ (e : Entry). bytes_eq e.name table.text) entries number which in
        limited count at (column_items schema (length outer) number at 0 (columns_at schema entries number)) part
        (ap (λ o. list_all selected_fits (column_items schema (length outer) number at 0 (unwrap_or (option_map (columns_of schema) o) []))) e.1 ∙ all_columns_fit number at e.0 e.1) is

    item_part : (count : ℕ) (item : ItemTree) (part : List Selected) → item_shaped item ≡ true → bind_item schema entries outer count item ≡ Ok part → Part count part
    item_part count (Star at) part shaped is =
        limited count at (star_items schema (length outer) at 0 entries) part (star_fit at 0 entries (λ i e h. ap (slice_get entries) (zero-add i) ∙ h)) is
    item_part count (StarOf table at) part shaped is = entry_part count table at (entry_place entries table.text) part refl is
    item_part count (Written tree alias) part shaped is =
        let made = λ (term : Term). written_item schema entries outer tree alias term ∷ [] in
        let passed = limit_not (nat_le 256 count) (and_then (bind_term schema (own_levels schema entries outer) tree) (λ term. Ok (made term))) 257 (aliased_span (tree_span tree) alias) part is in
        let term = and_then_ok (bind_term schema (own_levels schema entries outer) tree) (λ term. Ok (made term)) part passed.1 in
        let plain : Plain schema (own_levels schema entries outer) term.0 = item_term_fits schema (own_levels schema entries outer) tree term.0 shaped term.1 in
        subst (Part count) (same_ok (made term.0) part term.2)
        (record { few = omega (arith, leb-false 256 count passed.0); fit = and_from _ _ (and_from _ _ plain.fits plain.plain) refl })

    -- the items: at most 256, each of which fits
    pub items_fit : (count : ℕ) (items : List ItemTree) (selected : List Selected) → count ≤ 256 → list_all item_shaped items ≡ true → bind_items schema entries outer count items ≡ Ok selected → Part count selected
    unfolding bind_items
    items_fit count [] selected few shaped is = subst (Part count) (same_ok [] selected is) (record { few = omega arith; fit = refl })
    items_fit count (item ∷ items) selected few shaped is =
        let shapes = and_parts (item_shaped item) (list_all item_shaped items) shaped in
        let part = and_then_ok (bind_item schema entries outer count item) (λ part. and_then (bind_items schema entries outer (count + length part) items) (λ rest. Ok (part ++ rest))) selected is in
        let rest = and_then_ok (bind_items schema entries outer (count + length part.0) items) (λ rest. Ok (part.0 ++ rest)) selected part.2 in
        let first : Part count part.0 = item_part count item part.0 shapes.0 part.1 in
        let others : Part (count + length part.0) rest.0 = items_fit (count + length part.0) items rest.0 first.few shapes.1 rest.1 in
        subst (Part count) (same_ok (part.0 ++ rest.0) selected rest.2)
        (record { few = omega (arith, others.few, length-append part.0 rest.0); fit = all_append selected_fits part.0 rest.0 first.fit others.fit })
