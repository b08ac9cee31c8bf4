-- What the two passes over the declarations of a schema hand on to each other.
use Rattle.std.specs.Prelude.{ℕ, suc, Bool, ◌&&◌, nat_eq, if◌then◌else◌, List, [], ◌∷◌, ◌++◌, map, nat_le, is_some, length, Option, Some, None, Ok}
use Rattle.std.specs.List.{list_any, filter_map}
use Rattle.std.specs.Borrow.{Bor}
use Rattle.lint_base.specs.declared.place.Fault.TheVariants.{NotAKey, TypeMismatch}
use Rattle.lint_base.specs.declared.place.Span.{Span}
use Rattle.sql_tree.specs.declared.term.NameTree.{NameTree}
use Rattle.sql_tree.specs.declared.schema.TypeTree.{TypeTree}
use Rattle.sql_tree.specs.declared.schema.RuleTree.{RuleTree}
use Rattle.sql_tree.specs.declared.schema.Element.{Element}
use Rattle.sql_tree.specs.declared.schema.Element.TheVariants as element
use Rattle.sql_tree.specs.declared.schema.CreateTable.{CreateTable}
use Rattle.lint_core.specs.declared.schema.Column.{Column}
use Rattle.lint_core.specs.declared.schema.Key.{Key}
use Rattle.lint_core.specs.declared.schema.ForeignKey.{ForeignKey}
use Rattle.lint_core.specs.declared.schema.Table.{Table}
use Rattle.sql_bind.specs.declared.keys.NamedKeys.{NamedKeys}
use Rattle.sql_bind.specs.Bound.{Bound, refused, too_many, and_then}
use Rattle.lint_core.specs.Schema.{are_columns_of, are_paired}
use Rattle.sql_bind.specs.Columns.{rules_of, bind_type, bind_column, bind_columns, bind_outline, without_constraints}
use Rattle.sql_bind.specs.Keys.{primary_key, unique_columns, key_rules, bind_name, option_list}
use Rattle.sql_bind.specs.Schemas.{rules_at, named_columns, bind_rules, with_constraints, no_constraints}

-- the rules of an element
abbrev pub rules_in : Element → List RuleTree
rules_in (element.Column name kind rules) = rules
rules_in (element.Rule rule) = rule ∷ []

-- what is behind references
abbrev pub behind : {A : Type 0} → List (Bor A) → List A
behind {A} = map (λ (r : Bor A). r.now)

-- a column with a new name after so many
abbrev pub new_column : ℕ → NameTree → TypeTree → Bool → Bound Column
new_column count name kind not_null =
    and_then (bind_type kind) (λ domain. if nat_le 64 count then too_many 65 name.span else Ok (record { name = name.text; domain = domain; not_null = not_null }))

-- the columns with that of one more element
abbrev pub column_step : List RuleTree → List Column → Element → Bound (List Column)
column_step all earlier (element.Column name kind rules) = and_then (bind_column all earlier name kind rules) (λ column. Ok (earlier ++ column ∷ []))
column_step all earlier (element.Rule rule) = Ok earlier

-- a table with its columns
abbrev pub new_outline : CreateTable → Bound Table
new_outline tree = and_then (bind_columns (rules_of tree.elements) [] tree.elements) (λ columns. Ok (without_constraints tree.name.text columns))

-- the tables with one more
abbrev pub outline_step : List Table → CreateTable → Bound (List Table)
outline_step earlier tree = and_then (bind_outline earlier tree) (λ table. Ok (earlier ++ table ∷ []))

-- the columns of a key with that of one more name
abbrev pub name_step : List Column → List ℕ → NameTree → Bound (List ℕ)
name_step columns earlier name = and_then (bind_name columns earlier name) (λ place. Ok (earlier ++ place ∷ []))

-- the keys that the rules of a table name
abbrev pub keys_named : List Column → List RuleTree → NamedKeys
keys_named columns rules = record { primary = primary_key columns (key_rules rules); unique = filter_map (unique_columns columns) (key_rules rules) }

-- those of each table, from a number on
unfoldable pub all_keys : List CreateTable → ℕ → List Table → List NamedKeys
all_keys trees number [] = []
all_keys trees number (table ∷ tables) = keys_named table.columns (rules_at [] trees number) ∷ all_keys trees (suc number) tables

-- a table with the constraints of its declaration
abbrev pub bind_table : List Table → List CreateTable → ℕ → Table → CreateTable → Bound Table
bind_table outlines trees number table tree =
    and_then (bind_rules outlines trees table tree.name number no_constraints (rules_of tree.elements)) (λ c. Ok (with_constraints outlines trees table tree.name c))

-- the columns that a foreign key refers to: those of its list, or of the primary key where there is none
abbrev pub targets_named : Option (List ℕ) → List Column → List NameTree → Option (List ℕ)
targets_named primary columns [] = primary
targets_named primary columns (name ∷ names) = named_columns columns (name ∷ names)

-- the target columns are, as a set, those of a key, and as many as the own columns
abbrev pub is_named_key : NamedKeys → List ℕ → List ℕ → Bool
is_named_key keys columns targets =
    nat_eq (length columns) (length targets) && list_any (λ key. are_columns_of targets (record { columns = key })) (option_list keys.primary ++ keys.unique)

-- a foreign key of a table to a target with these keys
abbrev pub referred : Table → Table → NamedKeys → ℕ → List ℕ → Span → Option (List ℕ) → Bound ForeignKey
referred table target keys number columns at None = refused NotAKey at
referred table target keys number columns at (Some targets) =
    if is_named_key keys columns targets
    then (if are_paired table target columns targets then Ok (record { columns = columns; target = number; target_columns = targets }) else refused TypeMismatch at)
    else refused NotAKey at

-- the primary key, and then the others
abbrev pub with_all : Option Key → List Key → List Key
with_all primary unique = option_list primary ++ unique
