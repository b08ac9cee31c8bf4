-- Terms to which nothing is added.
use Rattle.std.proofs.Common.{◌≡◌, ◌∙◌, ap, refl, ℕ, ℤ, pos, zero, suc, ◌<◌, true, List, [], ◌∷◌, length, arith}
use Rattle.std.proofs.lemmas.Int.{ints}
use Rattle.std.specs.Prelude.{nat_le, ◌&&◌}
use Rattle.std.specs.List.{list_all}
use Rattle.std.specs.Ordering.{int_eq}
use Rattle.lint_base.proofs.Lists.{all_append, both_left, both_right}
use Rattle.lint_core.specs.declared.condition.Block.{out-Block}
use Rattle.lint_core.specs.declared.condition.Term.TheVariants as term
use Rattle.lint_core.specs.declared.database.Database.{Database}
use Rattle.lint_core.specs.declared.database.Value.{Value}
use Rattle.lint_core.specs.declared.database.Value.TheVariants.{Null, Int, Text}
use Rattle.lint_core.specs.declared.query.Item.{Item}
use Rattle.lint_core.specs.declared.query.Query.{Query}
use Rattle.lint_core.specs.declared.schema.Table.{Table}
use Rattle.lint_core.specs.Comparison.{plus}
use Rattle.lint_core.specs.Condition.{cell_value, term_value}
use Rattle.lint_core.specs.Fits.{block_fits, count_conditions, is_plain, item_fits, main_tables, order_fits, query_fits, selection_fits, selection_fits_in, term_fits}
use Rattle.lint_engine.specs.inner.Plain.{are_plain}

plain_sum : (v : Value) (added : ℤ) → int_eq added (pos 0) ≡ true → plus v added ≡ v
plain_sum Null added none = refl
plain_sum (Int n) added none = ap Int (grind (arith, ints))
plain_sum (Text text) added none = refl

-- a cell of the main query
pub near_cell : (db : Database) (own : List ℕ) (levels : List (List ℕ)) (level entry column : ℕ) (added : ℤ) → level ≡ 0 → int_eq added (pos 0) ≡ true →
    term_value db (own ∷ []) levels (term.Cell level entry column added) ≡ cell_value db (own ∷ []) levels 0 entry column
near_cell db own levels level entry column added here none =
    plain_sum (cell_value db (own ∷ []) levels level entry column) added none ∙ ap (λ (l : ℕ). cell_value db (own ∷ []) levels l entry column) here

-- one of another level is not there
pub far_cell : (db : Database) (own : List ℕ) (levels : List (List ℕ)) (level entry column : ℕ) (added : ℤ) → 0 < level →
    term_value db (own ∷ []) levels (term.Cell level entry column added) ≡ Null
far_cell db own levels zero entry column added low = absurd (omega arith)
far_cell db own levels (suc level) entry column added low = refl

items_fit : (schema : List Table) (query : Query) → query_fits schema query ≡ true → list_all (item_fits schema (main_tables query)) query.items ≡ true
unfolding selection_fits_in
items_fit schema query fits =
    let selected = selection_fits schema query in
    let block = block_fits schema [] query.block in
    let few = nat_le (count_conditions (out-Block query.block).cond) 65536 in
    let items = list_all (item_fits schema (main_tables query)) query.items in
    let orders = list_all (order_fits schema (main_tables query)) query.order in
    both_right (nat_le (length query.items) 256) items
    (both_left (nat_le (length query.items) 256 && items) orders (both_left selected block (both_left (selected && block) few fits)))

pub items_are_plain : (schema : List Table) (query : Query) → query_fits schema query ≡ true → are_plain query ≡ true
items_are_plain schema query fits = plain query.items (items_fit schema query fits)
  where
    plain : (items : List Item) → list_all (item_fits schema (main_tables query)) items ≡ true → list_all (λ (item : Item). is_plain item.term) items ≡ true
    plain [] all = refl
    plain (item ∷ items) all =
        let fits = item_fits schema (main_tables query) item in
        let rest = list_all (item_fits schema (main_tables query)) items in
        all_append (λ (item : Item). is_plain item.term) (item ∷ []) items
        (ap (λ b. b && true) (both_right (term_fits schema (main_tables query) item.term) (is_plain item.term) (both_left fits rest all)))
        (plain items (both_right fits rest all))
