-- What a query's tree binds to fits the schema.
use Rattle.std.proofs.Common.{ℕ, ◌-◌, ◌≡◌, refl, sym, ◌∙◌, subst, true, pos, List, [], ◌∷◌, ◌++◌, length, map, Option, Some, None, Ok, slice_get, nat_le, int_le, nat_abs, arith, le-leb}
use Rattle.std.proofs.lemmas.Bool.{and_parts, and_from}
use Rattle.std.proofs.lemmas.List.{length-map}
use Rattle.std.proofs.lemmas.List.Folds.{find_at, list_all-map}
use Rattle.std.specs.List.{list_all, find, position_or_len}
use Rattle.lint_base.proofs.Lists.{all_at, all_append}
use Rattle.lint_base.specs.declared.place.Span.{Span}
use Rattle.lint_base.specs.declared.place.Fault.TheVariants.{UnknownColumn}
use Rattle.sql_tree.specs.declared.term.TermTree.{TermTree}
use Rattle.sql_tree.specs.declared.term.TermTree.TheVariants as tree
use Rattle.sql_tree.specs.declared.select.OrderTree.{OrderTree}
use Rattle.sql_tree.specs.declared.select.OrderTree.TheVariants.{Place, Column as ByColumn}
use Rattle.sql_tree.specs.declared.select.SelectTree.{out-SelectTree}
use Rattle.sql_tree.specs.declared.select.QueryTree.{QueryTree}
use Rattle.lint_core.specs.declared.condition.Term.{Term}
use Rattle.lint_core.specs.declared.condition.Term.TheVariants.{Cell, Number, Text, Null}
use Rattle.lint_core.specs.declared.condition.Block.{out-Block}
use Rattle.lint_core.specs.declared.query.Query.{Query}
use Rattle.lint_core.specs.declared.schema.Table.{Table}
use Rattle.lint_core.specs.Fits.{term_fits, is_plain, item_fits, order_fits, count_conditions, query_fits, selection_fits_in, tables_of}
use Rattle.lint_core.specs.Schema.{is_schema}
use Rattle.sql_bind.specs.Bound.{Bound, refused, and_then}
use Rattle.sql_bind.specs.Terms.{bind_term}
use Rattle.sql_bind.specs.Conditions.{Selected, BoundSelect}
use Rattle.sql_bind.specs.Selects.{bind_select}
use Rattle.sql_bind.specs.Queries.{key_of, has_alias, key_item, main_levels, bind_column_key, bind_key, bind_keys, limited_query, bind_query}
use Rattle.sql_bind.specs.Shape.{select_shaped, key_shaped, is_bare_column, query_shaped}
use Rattle.sql_bind.proofs.FitsBound.{and_then_ok, same_ok, if_ok, limit_ok}
use Rattle.sql_bind.proofs.FitsConditions.{select_fits}
use Rattle.sql_bind.proofs.FitsItems.{selected_fits}
use Rattle.sql_bind.proofs.FitsNames.{Found}
use Rattle.sql_bind.proofs.FitsPredicates.{Fitting}
use Rattle.sql_bind.proofs.FitsTerms.{column_fits}

module _ (schema : List Table) (select : BoundSelect) (fitting : Fitting schema [] select) where
  abbrev tables : List (List ℕ)
  tables = tables_of (out-Block select.block).entries ∷ []

  abbrev KeysFit : List Term → Type 0
  KeysFit keys = list_all (order_fits schema tables) keys ≡ true

  -- a term that fits with nothing added orders, if it is a column
  term_key : (term : Term) → term_fits schema tables term ≡ true → is_plain term ≡ true → KeysFit (key_of term)
  term_key (Cell level entry column added) fits plain = rw (fits, plain) refl
  term_key (Number value unit) fits plain = refl
  term_key (Text text) fits plain = refl
  term_key Null fits plain = refl

  selected_key : (s : Selected) → selected_fits schema (out-Block select.block).entries [] s ≡ true → KeysFit (key_of s.item.term)
  selected_key s fits = let both = and_parts (term_fits schema tables s.item.term) (is_plain s.item.term) fits in term_key s.item.term both.0 both.1

  column_key : (t : TermTree) (keys : List Term) → is_bare_column t ≡ true → bind_column_key schema select t ≡ Ok keys → KeysFit keys
  column_key t keys bare is =
      let term = and_then_ok (bind_term schema (main_levels schema select) t) (λ bound. Ok (key_of bound)) keys is in
      let found : Found schema (main_levels schema select) term.0 = column_fits schema (main_levels schema select) t term.0 bare term.1 in
      subst KeysFit (same_ok (key_of term.0) keys term.2) (subst (λ t. KeysFit (key_of t)) (sym found.is) (term_key (Cell found.level found.entry found.column (pos 0)) found.fits refl))

  -- the key of a selected item, if there is that item
  item_key : (place : ℕ) (o : Option Selected) (other : Bound (List Term)) (keys : List Term) → slice_get select.selected place ≡ o → (other ≡ Ok keys → KeysFit keys) →
      key_item schema select o other ≡ Ok keys → KeysFit keys
  item_key place None other keys at otherwise is = otherwise is
  item_key place (Some s) other keys at otherwise is =
      subst KeysFit (same_ok (key_of s.item.term) keys is) (selected_key s (all_at (selected_fits schema (out-Block select.block).entries []) select.selected place s fitting.items.fit at))

  key_fits : (key : OrderTree) (keys : List Term) → key_shaped key ≡ true → bind_key schema select key ≡ Ok keys → KeysFit keys
  key_fits (Place number at) keys shaped is =
      let place = nat_abs number - 1 in
      let passed = if_ok (int_le (pos 1) number) (key_item schema select (slice_get select.selected place) (refused UnknownColumn at)) UnknownColumn at keys is in
      item_key place (slice_get select.selected place) (refused UnknownColumn at) keys refl (λ e. absurd (cc)) passed.1
  key_fits (ByColumn (tree.Column None name added span)) keys shaped is =
      item_key (position_or_len (has_alias name.text) select.selected) (find (has_alias name.text) select.selected) (bind_column_key schema select (tree.Column None name added span)) keys
      (sym (find_at (has_alias name.text) select.selected)) (column_key (tree.Column None name added span) keys shaped) is
  key_fits (ByColumn (tree.Column (Some table) name added span)) keys shaped is = column_key (tree.Column (Some table) name added span) keys shaped is
  key_fits (ByColumn (tree.Number value span)) keys shaped is = absurd (cc)
  key_fits (ByColumn (tree.Text text span)) keys shaped is = absurd (cc)
  key_fits (ByColumn (tree.Null span)) keys shaped is = absurd (cc)

  pub keys_fit : (order : List OrderTree) (keys : List Term) → list_all key_shaped order ≡ true → bind_keys schema select order ≡ Ok keys → KeysFit keys
  unfolding bind_keys
  keys_fit [] keys shaped is = subst KeysFit (same_ok [] keys is) refl
  keys_fit (key ∷ order) keys shaped is =
      let shapes = and_parts (key_shaped key) (list_all key_shaped order) shaped in
      let first = and_then_ok (bind_key schema select key) (λ terms. and_then (bind_keys schema select order) (λ more. Ok (terms ++ more))) keys is in
      let rest = and_then_ok (bind_keys schema select order) (λ more. Ok (first.0 ++ more)) keys first.2 in
      subst KeysFit (same_ok (first.0 ++ rest.0) keys rest.2)
      (all_append (order_fits schema tables) first.0 rest.0 (key_fits key first.0 shapes.0 first.1) (keys_fit order rest.0 shapes.1 rest.1))

  -- the query of these parts
  whole_fits : (distinct : Option Span) (at : Span) (keys : List Term) (query : Query) → KeysFit keys → limited_query distinct at select keys ≡ Ok query → query_fits schema query ≡ true
  unfolding selection_fits_in
  whole_fits distinct at keys query ordered is =
      let made : Query = record { distinct = distinct; items = map (λ (s : Selected). s.item) select.selected; block = select.block; order = keys } in
      let passed = limit_ok (nat_le (count_conditions (out-Block select.block).cond) 65536) (Ok made) 65537 at query is in
      let few : nat_le (length made.items) 256 ≡ true = le-leb (length made.items) 256 (omega (arith, fitting.items.few, length-map select.selected (λ (s : Selected). s.item))) in
      let fit : list_all (item_fits schema tables) made.items ≡ true = list_all-map (item_fits schema tables) (λ (s : Selected). s.item) select.selected ∙ fitting.items.fit in
      subst (λ q. query_fits schema q ≡ true) (same_ok made query passed.1)
      (and_from _ _ (and_from _ _ (and_from _ _ (and_from _ _ few fit) ordered) fitting.fits) passed.0)

pub query_bound_fits : (schema : List Table) (tree : QueryTree) (query : Query) → is_schema schema ≡ true → query_shaped tree ≡ true → bind_query schema tree ≡ Ok query → query_fits schema query ≡ true
query_bound_fits schema tree query is_good shaped is =
    let shapes = and_parts (select_shaped tree.select) (list_all key_shaped tree.order) shaped in
    let last = limited_query (out-SelectTree tree.select).distinct (out-SelectTree tree.select).span in
    let select = and_then_ok (bind_select schema [] tree.select) (λ select. and_then (bind_keys schema select tree.order) (last select)) query is in
    let keys = and_then_ok (bind_keys schema select.0 tree.order) (last select.0) query select.2 in
    let fitting = select_fits schema tree.select [] select.0 shapes.0 select.1 in
    whole_fits schema select.0 fitting (out-SelectTree tree.select).distinct (out-SelectTree tree.select).span keys.0 query (keys_fit schema select.0 fitting tree.order keys.0 shapes.1 keys.1) keys.2
