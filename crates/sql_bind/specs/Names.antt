-- What the names of tables and columns name (ISO/IEC 9075:1992, 6.4, and 5.4 on the comparison of names). The
-- levels stand from the inside out: the first is that of the FROM list in hand, the last that of the main query.
use Rattle.std.specs.Prelude.{ℕ, suc, ◌+◌, ◌-◌, pos, List, [], ◌∷◌, length, map, reverse, take, drop, Option, Some, None, slice_get, unwrap_or, option_map, Ok}
use Rattle.std.specs.List.{position}
use Rattle.std.specs.Str.{bytes_eq}
use Rattle.lint_base.specs.declared.place.Span.{Span}
use Rattle.lint_base.specs.declared.place.Fault.TheVariants.{UnknownTable, UnknownColumn, AmbiguousColumn}
use Rattle.sql_tree.specs.declared.term.NameTree.{NameTree}
use Rattle.lint_core.specs.declared.condition.Entry.{Entry}
use Rattle.lint_core.specs.declared.condition.Term.{Term}
use Rattle.lint_core.specs.declared.condition.Term.TheVariants.{Cell}
use Rattle.lint_core.specs.declared.schema.Column.{Column}
use Rattle.lint_core.specs.declared.schema.Table.{Table}
use Rattle.lint_core.specs.Fits.{tables_of}
use Rattle.sql_bind.specs.Bound.{Bound, refused}

-- a FROM list: its entries, and of them those that are seen, by the numbers from the first to before the end
pub record Level : Type 0 where
  pub entries : List Entry
  pub first : ℕ
  pub end : ℕ

-- all entries are seen
abbrev pub whole_level : List Entry → Level
whole_level entries = record { entries = entries; first = 0; end = length entries }

abbrev pub seen_entries : Level → List Entry
seen_entries level = take (level.end - level.first) (drop level.first level.entries)

-- the tables of each level, the main query's first
abbrev pub level_tables : List Level → List (List ℕ)
level_tables levels = reverse (map (λ (level : Level). tables_of level.entries) levels)

-- the number of the table of this name
abbrev pub table_place : List Table → List ℕ → Option ℕ
table_place schema name = position (λ (t : Table). bytes_eq t.name name) schema

-- the number of the column of this name
abbrev pub column_place : List Column → List ℕ → Option ℕ
column_place columns name = position (λ (c : Column). bytes_eq c.name name) columns

-- the number of the entry of this visible name, among those seen
abbrev pub entry_place : List Entry → List ℕ → Option ℕ
entry_place entries name = position (λ (e : Entry). bytes_eq e.name name) entries

module _ (schema : List Table) where
  -- the columns of an entry's table
  abbrev pub columns_of : Entry → List Column
  columns_of entry = unwrap_or (option_map (λ (t : Table). t.columns) (slice_get schema entry.table)) []

  -- a column of an entry, by their numbers
  pub record Place : Type 0 where
    pub entry : ℕ
    pub column : ℕ

  abbrev pub with_place : ℕ → Option ℕ → List Place → List Place
  with_place number None places = places
  with_place number (Some column) places = record { entry = number; column = column } ∷ places

  -- each of the entries, counted from a number on, that has the column
  unfoldable pub places_named : List ℕ → ℕ → List Entry → List Place
  places_named name number [] = []
  places_named name number (e ∷ es) = with_place number (column_place (columns_of e) name) (places_named name (suc number) es)

  -- one place is the column's; where there is none in this level, it is looked for outside
  abbrev pub among : ℕ → Span → List Place → Bound Term → Bound Term
  among level at [] outside = outside
  among level at (place ∷ []) outside = Ok (Cell level place.entry place.column (pos 0))
  among level at (place ∷ other ∷ places) outside = refused AmbiguousColumn at

  -- a column without the name of a table belongs to the innermost level with an entry that has it
  unfoldable pub find_unqualified : List ℕ → Span → List Level → Bound Term
  find_unqualified name at [] = refused UnknownColumn at
  find_unqualified name at (level ∷ outer) = among (length outer) at (places_named name level.first (seen_entries level)) (find_unqualified name at outer)

  -- the column of an entry
  abbrev pub in_entry : ℕ → ℕ → Span → Option ℕ → Bound Term
  in_entry level number at None = refused UnknownColumn at
  in_entry level number at (Some column) = Ok (Cell level number column (pos 0))

  -- the columns of the entry of this number
  abbrev pub columns_at : List Entry → ℕ → List Column
  columns_at entries number = unwrap_or (option_map columns_of (slice_get entries number)) []

  abbrev pub at_entry : ℕ → Level → List ℕ → Span → Option ℕ → Bound Term → Bound Term
  at_entry number level name at None outside = outside
  at_entry number level name at (Some entry) outside =
      in_entry number (level.first + entry) at (column_place (columns_at (seen_entries level) entry) name)

  -- one with the name of a table belongs to the innermost level that has an entry of that name
  unfoldable pub find_qualified : List ℕ → List ℕ → Span → List Level → Bound Term
  find_qualified table name at [] = refused UnknownTable at
  find_qualified table name at (level ∷ outer) =
      at_entry (length outer) level name at (entry_place (seen_entries level) table) (find_qualified table name at outer)

  -- from the name of the table, if there is one, to that of the column
  abbrev pub column_span : Option NameTree → NameTree → Span
  column_span None name = name.span
  column_span (Some table) name = record { from = table.span.from; to = name.span.to }

  -- [ table . ] name
  abbrev pub find_column : Option NameTree → NameTree → List Level → Bound Term
  find_column None name levels = find_unqualified name.text name.span levels
  find_column (Some table) name levels = find_qualified table.text name.text (column_span (Some table) name) levels
