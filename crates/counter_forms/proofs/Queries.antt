-- What a query that fits gives for its counter sentences: its tables exist, and its items are columns and constants
-- that fit.
use Rattle.std.proofs.Common.{◌≡◌, ap, refl, ℕ, Bool, true, ◌&&◌, List, [], ◌∷◌, length}
use Rattle.std.specs.List.{list_all}
use Rattle.std.specs.Prelude.{Some, nat_le, nat_lt, slice_get}
use Rattle.lint_base.proofs.Lists.{all_append, all_at, both_left, both_right}
use Rattle.lint_core.specs.declared.condition.Block.{out-Block}
use Rattle.lint_core.specs.declared.query.Item.{Item}
use Rattle.lint_core.specs.declared.query.Query.{Query}
use Rattle.lint_core.specs.declared.schema.Table.{Table}
use Rattle.lint_core.specs.Fits.{block_fits, count_conditions, is_plain, item_fits, main_tables, order_fits, query_fits, selection_fits, selection_fits_in, term_fits}
use Rattle.sort_formula.specs.Counters.{own}
use Rattle.sort_formula.specs.Sides.{all_of}
use Rattle.question_truths.specs.SubqueryFits.{tables_exist}

items_fit : (schema : List Table) (query : Query) → query_fits schema query ≡ true → list_all (item_fits schema (main_tables query)) query.items ≡ true
unfolding selection_fits_in
items_fit schema query fits =
    let selected = selection_fits schema query in
    let block = block_fits schema [] query.block in
    let few = nat_le (count_conditions (out-Block query.block).cond) 65536 in
    let items = list_all (item_fits schema (main_tables query)) query.items in
    let orders = list_all (order_fits schema (main_tables query)) query.order in
    both_right (nat_le (length query.items) 256) items
    (both_left (nat_le (length query.items) 256 && items) orders (both_left selected block (both_left (selected && block) few fits)))

-- an item's term
pub item_there : (schema : List Table) (query : Query) → query_fits schema query ≡ true → (number : ℕ) (item : Item) → slice_get query.items number ≡ Some item →
    term_fits schema (main_tables query) item.term ≡ true
item_there schema query fits number item at =
    both_left (term_fits schema (main_tables query) item.term) (is_plain item.term)
    (all_at (item_fits schema (main_tables query)) query.items number item (items_fit schema query fits) at)

pub each_item : (schema : List Table) (query : Query) → query_fits schema query ≡ true → list_all (λ (item : Item). term_fits schema (main_tables query) item.term) query.items ≡ true
each_item schema query fits = terms query.items (items_fit schema query fits)
  where
    terms : (items : List Item) → list_all (item_fits schema (main_tables query)) items ≡ true → list_all (λ (item : Item). term_fits schema (main_tables query) item.term) items ≡ true
    terms [] all = refl
    terms (item ∷ items) all =
        let here = term_fits schema (main_tables query) item.term in
        let rest = list_all (item_fits schema (main_tables query)) items in
        all_append (λ (item : Item). term_fits schema (main_tables query) item.term) (item ∷ []) items
        (ap (λ b. b && true) (both_left here (is_plain item.term) (both_left (item_fits schema (main_tables query) item) rest all)))
        (terms items (both_right (item_fits schema (main_tables query) item) rest all))

-- ---- tables

module _ (schema : List Table) where
  abbrev pub is_there : ℕ → Bool
  is_there table = nat_lt table (length schema)

  pub own_there : (query : Query) → tables_exist schema (main_tables query) ≡ true → list_all is_there (own schema query) ≡ true
  own_there query exist = both_left (list_all is_there (own schema query)) true exist

  pub all_there : (tables : List (List ℕ)) → tables_exist schema tables ≡ true → list_all is_there (all_of tables) ≡ true
  all_there [] exist = refl
  all_there (level ∷ tables) exist =
      all_append is_there level (all_of tables)
      (both_left (list_all is_there level) (tables_exist schema tables) exist) (all_there tables (both_right (list_all is_there level) (tables_exist schema tables) exist))
