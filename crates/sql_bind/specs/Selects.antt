-- SELECTs. Of each the entries of FROM are bound from left to right, then the items, then the ON conditions in text
-- order, then WHERE (ISO/IEC 9075:1992, 7.4, 7.5 and 7.9).
use Rattle.std.specs.Prelude.{ℕ, suc, ◌+◌, pos, true, false, if◌then◌else◌, List, [], ◌∷◌, ◌++◌, length, Option, Some, None, nat_le, is_some, unwrap_or, option_map, Ok}
use Rattle.lint_base.specs.declared.place.Span.{Span}
use Rattle.lint_base.specs.declared.place.Fault.TheVariants.{UnknownTable, DuplicateName}
use Rattle.sql_tree.specs.declared.term.NameTree.{NameTree}
use Rattle.sql_tree.specs.declared.term.TermTree.{TermTree}
use Rattle.sql_tree.specs.declared.select.ItemTree.{ItemTree}
use Rattle.sql_tree.specs.declared.select.ItemTree.TheVariants.{Star, StarOf, Term as Written}
use Rattle.sql_tree.specs.declared.select.CondTree.{CondTree, fold-CondTree}
use Rattle.sql_tree.specs.declared.select.SelectTree.{SelectTree, fold-SelectTree}
use Rattle.sql_tree.specs.declared.select.CondTree.TheOpen.{EntryTree-F, SelectTree-F}
use Rattle.lint_core.specs.declared.condition.Term.{Term}
use Rattle.lint_core.specs.declared.condition.Term.TheVariants.{Cell}
use Rattle.lint_core.specs.declared.condition.Cond.{Cond}
use Rattle.lint_core.specs.declared.condition.Cond.TheVariants.{True, And}
use Rattle.lint_core.specs.declared.condition.Block.{roll-Block}
use Rattle.lint_core.specs.declared.condition.Entry.{Entry}
use Rattle.lint_core.specs.declared.schema.Column.{Column}
use Rattle.lint_core.specs.declared.schema.Table.{Table}
use Rattle.sql_bind.specs.Bound.{Bound, refused, too_many, and_then}
use Rattle.sql_bind.specs.Names.{Level, whole_level, table_place, entry_place, columns_of, columns_at}
use Rattle.sql_bind.specs.Terms.{bind_term}
use Rattle.sql_bind.specs.Conditions.{Selected, BoundSelect, CondMeaning, EntryMeaning, SelectMeaning, cond_step, tree_span}

-- from a part to its alias, where there is one
abbrev pub aliased_span : Span → Option NameTree → Span
aliased_span at None = at
aliased_span at (Some alias) = record { from = at.from; to = alias.span.to }

-- the visible name of an entry: its alias or else its table's name
abbrev pub visible_name : EntryMeaning → NameTree
visible_name entry = unwrap_or entry.alias entry.table

-- from the table's name to the alias
abbrev pub entry_span : EntryMeaning → Span
entry_span entry = aliased_span entry.table.span entry.alias

-- the AND of conditions; one stands alone, and none is true
abbrev pub conjunction : List Cond → Cond
conjunction [] = True
conjunction (cond ∷ []) = cond
conjunction (cond ∷ next ∷ conds) = And (cond ∷ next ∷ conds)

module _ (schema : List Table) where
  abbrev pub of_table : List Entry → EntryMeaning → Option ℕ → Bound Entry
  of_table earlier entry None = refused UnknownTable entry.table.span
  of_table earlier entry (Some table) =
      if is_some (entry_place earlier (visible_name entry).text)
      then refused DuplicateName (visible_name entry).span
      else Ok (record { table = table; name = (visible_name entry).text; span = entry_span entry })

  -- an entry after these: at most 16, of a table that is there, with a name of its own
  abbrev pub bind_entry : List Entry → EntryMeaning → Bound Entry
  bind_entry earlier entry =
      if nat_le 16 (length earlier) then too_many 17 (entry_span entry) else of_table earlier entry (table_place schema entry.table.text)

  -- the entries after these
  unfoldable pub bind_entries : List Entry → List EntryMeaning → Bound (List Entry)
  bind_entries earlier [] = Ok earlier
  bind_entries earlier (entry ∷ entries) = and_then (bind_entry earlier entry) (λ bound. bind_entries (earlier ++ bound ∷ []) entries)

  -- the items that stand for the columns of an entry, from a column on
  unfoldable pub column_items : ℕ → ℕ → Span → ℕ → List Column → List Selected
  column_items level number at column [] = []
  column_items level number at column (c ∷ cs) =
      record { item = record { term = Cell level number column (pos 0); star = true; span = at }; alias = None } ∷ column_items level number at (suc column) cs

  -- those for the columns of all entries, from an entry on
  unfoldable pub star_items : ℕ → Span → ℕ → List Entry → List Selected
  star_items level at number [] = []
  star_items level at number (entry ∷ entries) = column_items level number at 0 (columns_of schema entry) ++ star_items level at (suc number) entries

  -- after so many items at most 256 of them
  abbrev pub at_most_256 : ℕ → Span → List Selected → Bound (List Selected)
  at_most_256 count at items = if nat_le (count + length items) 256 then Ok items else too_many 257 at

  module _ (entries : List Entry) (outer : List Level) where
    abbrev pub own_levels : List Level
    own_levels = whole_level entries ∷ outer

    abbrev pub written_item : TermTree → Option NameTree → Term → Selected
    written_item tree alias term =
        record { item = record { term = term; star = false; span = aliased_span (tree_span tree) alias }; alias = option_map (λ (name : NameTree). name.text) alias }

    -- all columns of an entry
    abbrev pub entry_items : ℕ → NameTree → Span → Option ℕ → Bound (List Selected)
    entry_items count table at None = refused UnknownTable table.span
    entry_items count table at (Some number) = at_most_256 count at (column_items (length outer) number at 0 (columns_at schema entries number))

    -- an item after so many
    abbrev pub bind_item : ℕ → ItemTree → Bound (List Selected)
    bind_item count (Star at) = at_most_256 count at (star_items (length outer) at 0 entries)
    bind_item count (StarOf table at) = entry_items count table at (entry_place entries table.text)
    bind_item count (Written tree alias) =
        if nat_le 256 count
        then too_many 257 (aliased_span (tree_span tree) alias)
        else and_then (bind_term schema own_levels tree) (λ term. Ok (written_item tree alias term ∷ []))

    -- the items after so many
    unfoldable pub bind_items : ℕ → List ItemTree → Bound (List Selected)
    bind_items count [] = Ok []
    bind_items count (item ∷ items) =
        and_then (bind_item count item) (λ part. and_then (bind_items (count + length part) items) (λ rest. Ok (part ++ rest)))

    -- a condition at these levels, where there is one
    abbrev pub bind_optional : List Level → Option CondMeaning → Bound (List Cond)
    bind_optional levels None = Ok []
    bind_optional levels (Some meaning) = and_then (meaning levels) (λ cond. Ok (cond ∷ []))

    -- an ON sees the entries of its joined group up to its own
    abbrev pub bind_on : ℕ → EntryMeaning → Bound (List Cond)
    bind_on number entry = bind_optional (record { entries = entries; first = entry.first; end = suc number } ∷ outer) entry.on

    -- the ON conditions of the entries from a number on
    unfoldable pub bind_ons : ℕ → List EntryMeaning → Bound (List Cond)
    bind_ons number [] = Ok []
    bind_ons number (entry ∷ rest) = and_then (bind_on number entry) (λ cond. and_then (bind_ons (suc number) rest) (λ conds. Ok (cond ++ conds)))

    abbrev pub bind_filter : Option CondMeaning → Bound (List Cond)
    bind_filter filter = bind_optional own_levels filter

  abbrev pub entry_step : EntryTree-F CondMeaning EntryMeaning SelectMeaning → EntryMeaning
  entry_step entry = record { table = entry.table; alias = entry.alias; on = entry.on; first = entry.first }

  abbrev pub select_step : SelectTree-F CondMeaning EntryMeaning SelectMeaning → SelectMeaning
  select_step select outer =
      and_then (bind_entries [] select.from) (λ entries. and_then (bind_items entries outer 0 select.items) (λ selected. and_then (bind_ons entries outer 0 select.from) (λ ons.
      and_then (bind_filter entries outer select.filter) (λ filter.
      Ok (record { selected = selected; block = roll-Block (record { entries = entries; cond = conjunction (ons ++ filter); span = select.span }) })))))

  abbrev pub bind_cond : List Level → CondTree → Bound Cond
  bind_cond levels tree = fold-CondTree CondMeaning EntryMeaning SelectMeaning (cond_step schema) entry_step select_step tree levels

  abbrev pub bind_select : List Level → SelectTree → Bound BoundSelect
  bind_select outer tree = fold-SelectTree CondMeaning EntryMeaning SelectMeaning (cond_step schema) entry_step select_step tree outer
