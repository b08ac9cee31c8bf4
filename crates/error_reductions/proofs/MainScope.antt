-- The condition of WHERE stands in a scope of the main entries, and which scope that is.
use Rattle.std.proofs.Common.{◌≡◌, ◌∙◌, sym, ap, ap₂, ℕ, ◌+◌, ◌*◌, ◌^◌, ◌<◌, ◌≤◌, Bool, true, ◌&&◌, List, [], ◌∷◌, length, nat_lt, arith}
use Rattle.std.proofs.lemmas.Bool.{and_parts, leb-true}
use Rattle.std.proofs.lemmas.List.{append-nil, length-map}
use Rattle.std.specs.List.{list_all}
use Rattle.std.specs.Prelude.{nat_le}
use Rattle.lint_core.specs.declared.condition.Block.{fold_out-Block, out-Block}
use Rattle.lint_core.specs.declared.condition.Cond.{Cond}
use Rattle.lint_core.specs.declared.condition.Entry.{Entry}
use Rattle.lint_core.specs.declared.query.Query.{Query}
use Rattle.lint_core.specs.declared.schema.Table.{Table}
use Rattle.lint_core.specs.declared.scope.Scope.{Scope}
use Rattle.lint_core.specs.Asked.{main_entries}
use Rattle.lint_core.specs.Fits.{Meaning, BlockMeaning, fits_step, block_step, block_fits, cond_fits, count_conditions, main_tables, query_fits, selection_fits, tables_of}
use Rattle.question_truths.specs.Room.{entries_in}
use Rattle.lint_core.specs.declared.condition.Term.{Term}
use Rattle.sort_formula.specs.declared.formula.Formula.{Formula}
use Rattle.sort_formula.specs.declared.formula.Side.{Side}
use Rattle.sort_formula.specs.Cells.{not_distinct_cells}
use Rattle.sort_formula.specs.Counters.{distinct_counter, not_distinct, scope}
use Rattle.sort_formula.specs.Sides.{from_number, is_null_formula, side_of}
use Rattle.truth_formula.specs.Scopes.{CanStand, count_entries}
use Rattle.error_reductions.specs.declared.columns.Column.{Column}
use Rattle.error_reductions.specs.inner.Columns.{IsColumn}
use Rattle.error_reductions.specs.inner.Parts.{alike, null_of, side_of_cell, twice_at}
use Rattle.error_reductions.proofs.Variables.{AllBelow, length_from, numbers_below}

pub few_entries : (schema : List Table) (query : Query) → query_fits schema query ≡ true → length (main_entries query) ≤ 16
few_entries schema query fits =
    let block = out-Block query.block in
    let few = nat_le (length block.entries) 16 in
    let exist = list_all (λ (e : Entry). nat_lt e.table (length schema)) block.entries in
    let inside = cond_fits schema (main_tables query) block.cond in
    let size = nat_le (count_conditions block.cond) 65536 in
    let right = (and_parts (selection_fits schema query) (block_fits schema [] query.block) (and_parts (selection_fits schema query && block_fits schema [] query.block) size fits).0).1 in
    let main : (few && exist && inside) ≡ true = ap (λ (m : BlockMeaning). m.fits []) (sym (fold_out-Block Meaning BlockMeaning (fits_step schema) (block_step schema) query.block)) ∙ right in
    leb-true (length block.entries) 16 (and_parts few exist (and_parts (few && exist) inside main).0).0

pub own_count : (entries : List Entry) → length (tables_of entries) ≡ length entries
own_count entries = length-map entries (λ (e : Entry). e.table)

abbrev pub level_scope : Query → List ℕ → ℕ → Scope
level_scope query variables depth = record { levels = variables ∷ []; tables = tables_of (main_entries query) ∷ []; depth = depth }

-- the scope of the main entries alone
pub own_is : (schema : List Table) (query : Query) → scope schema query ≡ level_scope query (from_number 0 (length (main_entries query))) (length (main_entries query))
own_is schema query =
    let own = tables_of (main_entries query) in
    let entries = own_count (main_entries query) in
    ap₂ (level_scope query) (ap (from_number 0) entries) (ap length (append-nil own) ∙ entries)

-- a condition that fits at the main entries stands where each of them has a variable
pub stands : (schema : List Table) (query : Query) (cond : Cond) (variables : List ℕ) (depth : ℕ) → cond_fits schema (main_tables query) cond ≡ true →
    length variables ≡ length (main_entries query) → AllBelow depth variables ≡ true → depth + count_entries cond < 2 ^ 32 → CanStand schema cond (level_scope query variables depth)
stands schema query cond variables depth fits same low room = record {
  fits = fits;
  variables = ap (λ n. n ∷ []) (same ∙ sym (own_count (main_entries query)));
  below = ap (λ b. b && true) low;
  room = room;
}

-- of some conditions no more entries are left than the query has room for
pub room_is : (query : Query) (count depth : ℕ) → length (main_entries query) ≤ 16 → entries_in (main_tables query) + count ≤ 16 + 16 * 65536 → depth ≤ 32 → depth + count < 2 ^ 32
room_is query count depth few room shallow = omega (arith, room, shallow)

-- WHERE in the scope of the main entries from a variable on
pub where_stands : (schema : List Table) (query : Query) (cond : Cond) (first depth : ℕ) → cond_fits schema (main_tables query) cond ≡ true →
    first + length (main_entries query) ≤ depth → depth + count_entries cond < 2 ^ 32 → CanStand schema cond (level_scope query (from_number first (length (main_entries query))) depth)
where_stands schema query cond first depth fits low room =
    stands schema query cond (from_number first (length (main_entries query))) depth fits (length_from first (length (main_entries query))) (numbers_below first (length (main_entries query)) depth low) room

-- ---- two columns

pub columns_alike : (schema : List Table) (here there : Scope) (a b : Term) (one two : Column) → IsColumn schema here a one → IsColumn schema there b two → alike one two ≡ not_distinct schema here a there b
columns_alike schema here there a b one two is other =
    let null_a = is_null_formula schema here a in
    let null_b = is_null_formula schema there b in
    let side_a = side_of schema here a in
    let side_b = side_of schema there b in
    sym (
    ap (λ (t : Bool). not_distinct_cells t null_a null_b side_a side_b) is.texts
    ∙ (ap (λ (n : Formula). not_distinct_cells one.texts n null_b side_a side_b) is.null
    ∙ (ap (λ (n : Formula). not_distinct_cells one.texts (null_of one.cell) n side_a side_b) other.null
    ∙ (ap (λ (s : Side). not_distinct_cells one.texts (null_of one.cell) (null_of two.cell) s side_b) is.side
    ∙ ap (λ (s : Side). not_distinct_cells one.texts (null_of one.cell) (null_of two.cell) (side_of_cell one.cell) s) other.side)))
    )

-- ---- E2

pub twice_is : (schema : List Table) (query : Query) (n : ℕ) (one two : Scope) (body : Formula) → n ≡ length (main_entries query) →
    one ≡ level_scope query (from_number 0 (length (main_entries query))) (length (main_entries query) + length (main_entries query)) →
    two ≡ level_scope query (from_number n (length (main_entries query))) (length (main_entries query) + length (main_entries query)) →
    body ≡ twice_at schema query one two n → body ≡ (distinct_counter schema query).body
twice_is schema query n one two body count one_is two_is is =
    let own = own_count (main_entries query) in
    let at = λ (m : ℕ). level_scope query (from_number 0 m) (m + m) in
    let second = λ (m : ℕ). level_scope query (from_number m m) (m + m) in
    let first_same : one ≡ at (length (tables_of (main_entries query))) = one_is ∙ ap at (sym own) in
    let second_same : two ≡ second (length (tables_of (main_entries query))) =
    two_is
    ∙ (ap (λ (m : ℕ). level_scope query (from_number m (length (main_entries query))) (length (main_entries query) + length (main_entries query))) count
    ∙ ap second (sym own))
    in
    is
    ∙ (ap (λ (s : Scope). twice_at schema query s two n) first_same
    ∙ (ap (λ (s : Scope). twice_at schema query (at (length (tables_of (main_entries query)))) s n) second_same
    ∙ ap (twice_at schema query (at (length (tables_of (main_entries query)))) (second (length (tables_of (main_entries query))))) (count ∙ sym own)))
