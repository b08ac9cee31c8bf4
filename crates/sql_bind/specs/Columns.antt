-- The tables of a schema with their columns, before their constraints are bound. Statements are taken in text order,
-- and so are the columns of each.
use Rattle.std.specs.Prelude.{ℕ, pos, ◌-◌, ◌^◌, neg_ℤ, nat_abs, Bool, true, false, ◌&&◌, ◌||◌, if◌then◌else◌, List, [], ◌∷◌, ◌++◌, length, nat_le, int_le, is_some, Ok}
use Rattle.std.specs.List.{list_any}
use Rattle.std.specs.Str.{bytes_eq}
use Rattle.lint_base.specs.declared.place.Fault.TheVariants.{DuplicateName, BadLength}
use Rattle.sql_tree.specs.declared.term.NameTree.{NameTree}
use Rattle.sql_tree.specs.declared.schema.TypeTree.{TypeTree}
use Rattle.sql_tree.specs.declared.schema.TypeTree.TheVariants as type
use Rattle.sql_tree.specs.declared.schema.RuleTree.{RuleTree}
use Rattle.sql_tree.specs.declared.schema.RuleTree.TheVariants.{NotNull, Primary}
use Rattle.sql_tree.specs.declared.schema.Element.{Element}
use Rattle.sql_tree.specs.declared.schema.Element.TheVariants as element
use Rattle.sql_tree.specs.declared.schema.CreateTable.{CreateTable}
use Rattle.lint_core.specs.declared.schema.Domain.{Domain}
use Rattle.lint_core.specs.declared.schema.Domain.TheVariants.{Number, Text}
use Rattle.lint_core.specs.declared.schema.Unit.TheVariants.{Whole}
use Rattle.lint_core.specs.declared.schema.Column.{Column}
use Rattle.lint_core.specs.declared.schema.Table.{Table}
use Rattle.sql_bind.specs.Bound.{Bound, refused, too_many, and_then}
use Rattle.sql_bind.specs.Names.{table_place, column_place}

-- all rules of a table in text order, those of its columns among them
unfoldable pub rules_of : List Element → List RuleTree
rules_of [] = []
rules_of (element.Column name kind rules ∷ elements) = rules ++ rules_of elements
rules_of (element.Rule rule ∷ elements) = rule ∷ rules_of elements

-- the whole numbers of so many bits, one of them the sign
abbrev pub signed : ℕ → Domain
signed bits = Number (neg_ℤ (pos (2 ^ (bits - 1)))) (pos (2 ^ (bits - 1) - 1)) Whole

-- a text has a length of 1 to 65,535
abbrev pub bind_type : TypeTree → Bound Domain
bind_type type.Small = Ok (signed 16)
bind_type type.Integer = Ok (signed 32)
bind_type type.Big = Ok (signed 64)
bind_type (type.Text size at) = if int_le (pos 1) size && int_le size (pos 65535) then Ok (Text (nat_abs size)) else refused BadLength at

abbrev pub is_not_null : RuleTree → Bool
is_not_null NotNull = true
is_not_null _ = false

-- the rule is a PRIMARY KEY that has the column
abbrev pub is_primary_with : List ℕ → RuleTree → Bool
is_primary_with name (Primary columns at) = list_any (λ (c : NameTree). bytes_eq c.text name) columns
is_primary_with name _ = false

-- a column is not NULL where a rule at it says so, or where it is in the primary key
abbrev pub is_marked : List RuleTree → List RuleTree → List ℕ → Bool
is_marked own all name = list_any is_not_null own || list_any (is_primary_with name) all

module _ (all : List RuleTree) where
  -- a column after these: a new name, a type, and at most 64
  abbrev pub bind_column : List Column → NameTree → TypeTree → List RuleTree → Bound Column
  bind_column earlier name kind rules =
      if is_some (column_place earlier name.text)
      then refused DuplicateName name.span
      else and_then (bind_type kind) (λ domain.
      if nat_le 64 (length earlier)
      then too_many 65 name.span
      else Ok (record { name = name.text; domain = domain; not_null = is_marked rules all name.text }))

  -- the columns after these
  unfoldable pub bind_columns : List Column → List Element → Bound (List Column)
  bind_columns earlier [] = Ok earlier
  bind_columns earlier (element.Column name kind rules ∷ elements) =
      and_then (bind_column earlier name kind rules) (λ column. bind_columns (earlier ++ column ∷ []) elements)
  bind_columns earlier (element.Rule rule ∷ elements) = bind_columns earlier elements

abbrev pub without_constraints : List ℕ → List Column → Table
without_constraints name columns = record { name = name; columns = columns; keys = []; checks = []; foreign = [] }

-- a table after these: a new name, and at most 200
abbrev pub bind_outline : List Table → CreateTable → Bound Table
bind_outline earlier table =
    if is_some (table_place earlier table.name.text)
    then refused DuplicateName table.name.span
    else if nat_le 200 (length earlier)
    then too_many 201 table.name.span
    else and_then (bind_columns (rules_of table.elements) [] table.elements) (λ columns. Ok (without_constraints table.name.text columns))

-- the tables after these
unfoldable pub bind_outlines : List Table → List CreateTable → Bound (List Table)
bind_outlines earlier [] = Ok earlier
bind_outlines earlier (table ∷ tables) = and_then (bind_outline earlier table) (λ bound. bind_outlines (earlier ++ bound ∷ []) tables)
