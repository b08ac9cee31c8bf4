-- What can stand at the scopes of the counter sentences.
use Rattle.std.proofs.Common.{◌≡◌, ◌∙◌, ◌+◌, ◌-◌, ◌^◌, ◌<◌, ◌≤◌, ap, ℕ, true, ◌&&◌, List, [], ◌∷◌, ◌++◌, map, length, arith}
use Rattle.std.proofs.lemmas.List.{length-append, length-map}
use Rattle.std.proofs.lemmas.List.Edits.{length-insert}
use Rattle.std.specs.Prelude.{nat_lt, insert}
use Rattle.lint_base.proofs.Lists.{all_append, both_right, true_below}
use Rattle.lint_core.specs.declared.condition.Cond.{Cond}
use Rattle.lint_core.specs.declared.query.Query.{Query}
use Rattle.lint_core.specs.declared.schema.Table.{Table}
use Rattle.lint_core.specs.Asked.{main_entries}
use Rattle.lint_core.specs.Fits.{cond_fits, is_plain, main_tables, term_fits}
use Rattle.lint_core.specs.Subqueries.{Subquery}
use Rattle.lint_core.specs.declared.condition.Entry.{Entry}
use Rattle.sort_formula.specs.Counters.{own, count, scope, one_scope, two_scope, join_scope, first_scope, second_scope, deeper, outer_levels, last_level}
use Rattle.sort_formula.specs.Sides.{from_number, numbered_from, all_of}
use Rattle.truth_formula.specs.Scopes.{CanStand, count_entries}
use Rattle.truth_laws.proofs.Outside.{length_from, lengths_inside}
use Rattle.question_truths.specs.Room.{entries_in}
use Rattle.question_truths.specs.SubqueryFits.{subquery_fits, tables_exist}
use Rattle.counter_forms.proofs.LastLevels.{split_last, length_with_last}
use Rattle.counter_forms.proofs.Variables.{numbered_lengths, entries_are, all_below, from_below, numbered_below, insert_passes}

module _ (schema : List Table) (cond : Cond) where
  -- at levels that are numbered from 0 on, under any further quantifiers
  pub numbered_stand : (tables : List (List ℕ)) (depth : ℕ) → cond_fits schema tables cond ≡ true → length (all_of tables) ≤ depth → depth + count_entries cond < 2 ^ 32 →
      CanStand schema cond (record { levels = numbered_from 0 tables; tables = tables; depth = depth })
  numbered_stand tables depth fits long room = record {
    fits = fits;
    variables = numbered_lengths 0 tables;
    below = numbered_below depth 0 tables (omega arith);
    room = room;
  }

  -- at one level
  pub level_stands : (tables variables : List ℕ) (depth : ℕ) → cond_fits schema (tables ∷ []) cond ≡ true → length variables ≡ length tables → all_below depth variables ≡ true →
      depth + count_entries cond < 2 ^ 32 → CanStand schema cond (record { levels = variables ∷ []; tables = tables ∷ []; depth = depth })
  level_stands tables variables depth fits same low room = record {
    fits = fits;
    variables = ap (λ n. n ∷ []) same;
    below = ap (λ b. b && true) low;
    room = room;
  }

  -- ---- where the last level has other variables

  pub second_stands : (tables : List (List ℕ)) → 0 < length tables → cond_fits schema tables cond ≡ true → length (all_of tables) + length (last_level tables) + count_entries cond < 2 ^ 32 →
      CanStand schema cond (record {
        levels = numbered_from 0 (outer_levels tables) ++ from_number (length (all_of tables)) (length (last_level tables)) ∷ [];
        tables = tables;
        depth = length (all_of tables) + length (last_level tables);
      })
  second_stands tables some fits room =
      let outer = outer_levels tables in
      let last = last_level tables in
      let first = length (all_of tables) in
      let depth = first + length last in
      let own = from_number first (length last) in
      let long = length_with_last tables some in
      record {
        fits = fits;
        variables = lengths_inside (numbered_from 0 outer) outer own last (numbered_lengths 0 outer) (length_from first (length last)) ∙ ap (map length) (split_last tables some);
        below =
            all_append (all_below depth) (numbered_from 0 outer) (own ∷ []) (numbered_below depth 0 outer (omega (arith, long)))
            (ap (λ b. b && true) (from_below depth first (length last) (omega arith)));
        room = room;
      }

-- ---- of a query

length_own : (schema : List Table) (query : Query) → count schema query ≡ length (main_entries query)
length_own schema query = length-map (main_entries query) (λ (e : Entry). e.table)

module _ (schema : List Table) (query : Query) (cond : Cond) (fits : cond_fits schema (main_tables query) cond ≡ true)
    (room : entries_in (main_tables query) + count_entries cond < 2 ^ 31) where
  long : length (all_of (main_tables query)) ≡ entries_in (main_tables query)
  long = entries_are (main_tables query)

  counted : length (all_of (main_tables query)) ≡ count schema query
  counted = length-append (own schema query) [] ∙ omega arith

  pub main_stands : CanStand schema cond (scope schema query)
  main_stands = numbered_stand schema cond (main_tables query) (length (all_of (main_tables query))) fits (omega arith) (omega (arith, long, room))

  pub one_stands : CanStand schema cond (one_scope schema query)
  one_stands =
      let n = count schema query in
      level_stands schema cond (own schema query) (from_number 0 n) (n + n) fits (length_from 0 n) (from_below (n + n) 0 n (omega arith)) (omega (arith, long, counted, room))

  pub two_stands : CanStand schema cond (two_scope schema query)
  two_stands =
      let n = count schema query in
      level_stands schema cond (own schema query) (from_number n n) (n + n) fits (length_from n n) (from_below (n + n) n n (omega arith)) (omega (arith, long, counted, room))

  -- an entry has a variable behind those of the others
  module _ (entry variable depth : ℕ) (there : entry < length (main_entries query)) (least : length (main_entries query) ≤ depth + 1) (most : depth < 2 ^ 31)
      (low : variable < depth) where
    pub join_stands : CanStand schema cond (join_scope schema query entry variable depth)
    join_stands =
        let n = count schema query in
        let others = from_number 0 (n - 1) in
        let same = length_own schema query in
        let many = length_from 0 (n - 1) in
        let longer = length-insert others entry variable (omega (arith, same, many, there)) in
        level_stands schema cond (own schema query) (insert others entry variable) depth fits (omega (arith, same, many, longer, there))
        (insert_passes (λ v. nat_lt v depth) others entry variable (from_below depth 0 (n - 1) (omega (arith, same, least))) (true_below variable depth low))
        (omega (arith, long, counted, room, same, most))

-- ---- of a subquery

pub sub_cond_fits : (schema : List Table) (sub : Subquery) → subquery_fits schema sub ≡ true → cond_fits schema sub.tables sub.cond ≡ true
sub_cond_fits schema sub fits = both_right (tables_exist schema sub.tables && term_fits schema sub.tables sub.item && is_plain sub.item) (cond_fits schema sub.tables sub.cond) fits

module _ (schema : List Table) (sub : Subquery) (fits : cond_fits schema sub.tables sub.cond ≡ true) (room : entries_in sub.tables + count_entries sub.cond < 2 ^ 31) where
  long_inside : length (all_of sub.tables) ≡ entries_in sub.tables
  long_inside = entries_are sub.tables

  pub sub_stands : CanStand schema sub.cond (first_scope schema sub)
  sub_stands = numbered_stand schema sub.cond sub.tables (length (all_of sub.tables)) fits (omega arith) (omega (arith, long_inside, room))

  module _ (some : 0 < length sub.tables) where
    last_room : length (all_of sub.tables) + length (last_level sub.tables) + count_entries sub.cond < 2 ^ 32
    last_room = omega (arith, length_with_last sub.tables some, long_inside, room)

    pub first_row_stands : CanStand schema sub.cond (deeper schema sub (first_scope schema sub))
    first_row_stands = numbered_stand schema sub.cond sub.tables (length (all_of sub.tables) + length (last_level sub.tables)) fits (omega arith) last_room

    pub second_row_stands : CanStand schema sub.cond (second_scope schema sub)
    second_row_stands = second_stands schema sub.cond sub.tables some fits last_room
