-- A database as INSERT statements, each with a line end (ISO/IEC 9075:1992, 13.8): those of a table in the order of its rows.
use Rattle.std.specs.Prelude.{ℕ, List, [], ◌∷◌, ◌++◌, if◌then◌else◌, nat_eq, slice_get, codes, encode_utf8_all}
use Rattle.std.specs.Fmt.{signed_decimal}
use Rattle.std.specs.Option.{option_map_or}
use Rattle.lint_core.specs.declared.database.Database.{Database}
use Rattle.lint_core.specs.declared.database.Row.{Row}
use Rattle.lint_core.specs.declared.database.Value.{Value}
use Rattle.lint_core.specs.declared.database.Value.TheVariants as value
use Rattle.lint_core.specs.declared.schema.Table.{Table}
use Rattle.lint_core.specs.Database.{rows_of}
use Rattle.lint_core.specs.PlainWord.{is_plain_word}
use Rattle.insert_lines.specs.InsertOrder.{insert_order}

-- the texts of the items one after another
abbrev pub texts : {A : Type 0} → (A → List ℕ) → List A → List ℕ
texts text [] = []
texts text (item ∷ items) = text item ++ texts text items

-- the texts of the items, each but the first behind a separator
abbrev pub joined : {A : Type 0} → List ℕ → (A → List ℕ) → List A → List ℕ
joined separator text [] = []
joined separator text (item ∷ items) = text item ++ texts (λ next. separator ++ text next) items

-- each such character stands twice
unfoldable pub doubled : ℕ → List ℕ → List ℕ
doubled mark [] = []
doubled mark (c ∷ cs) = if nat_eq c mark then c ∷ c ∷ doubled mark cs else c ∷ doubled mark cs

-- between two such marks, each mark in it twice
unfoldable pub quoted : ℕ → List ℕ → List ℕ
quoted mark text = encode_utf8_all (mark ∷ []) ++ encode_utf8_all (doubled mark text) ++ encode_utf8_all (mark ∷ [])

-- a plain word stands as it is, another name between double quotes (5.2)
unfoldable pub name_text : List ℕ → List ℕ
name_text name = if is_plain_word name then encode_utf8_all name else quoted 34 name

-- a text stands between single quotes (5.3)
unfoldable pub value_text : Value → List ℕ
value_text value.Null = codes "NULL"
value_text (value.Int n) = signed_decimal n
value_text (value.Text text) = quoted 39 text

-- how the lines of a table begin
unfoldable pub target_text : Table → List ℕ
target_text table = codes "INSERT INTO " ++ name_text table.name ++ codes " VALUES ("

-- a row of the table
unfoldable pub row_text : Table → Row → List ℕ
row_text table row = target_text table ++ joined (codes ", ") value_text row.values ++ codes ");\n"

-- behind an indent, as in a report
abbrev pub insert_line : List ℕ → Table → Row → List ℕ
insert_line indent table row = indent ++ row_text table row

module _ (indent : List ℕ) (schema : List Table) (db : Database) where
  -- the rows of the table
  abbrev pub table_lines : ℕ → List ℕ
  table_lines table = option_map_or (λ t. texts (insert_line indent t) (rows_of db table)) (slice_get schema table) []

  abbrev pub insert_lines : List ℕ
  insert_lines = texts table_lines (insert_order schema)

abbrev pub insert_text : List Table → Database → List ℕ
insert_text schema db = insert_lines [] schema db
