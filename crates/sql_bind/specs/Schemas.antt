-- A schema is bound in two passes: the tables with their columns, and then, in text order, each key, CHECK and
-- foreign key (ISO/IEC 9075:1992, 11.3 and 11.6 to 11.9).
use Rattle.std.specs.Prelude.{ℕ, suc, Bool, ◌&&◌, if◌then◌else◌, List, [], ◌∷◌, ◌++◌, length, Option, Some, None, nat_eq, nat_le, is_some, slice_get, unwrap_or, option_map, option_and_then, Ok}
use Rattle.std.specs.List.{list_any}
use Rattle.lint_base.specs.declared.place.Span.{Span}
use Rattle.lint_base.specs.declared.place.Fault.TheVariants.{UnknownTable, DuplicateName, TypeMismatch, NotAKey}
use Rattle.sql_tree.specs.declared.term.NameTree.{NameTree}
use Rattle.sql_tree.specs.declared.select.CondTree.{CondTree}
use Rattle.sql_tree.specs.declared.schema.RuleTree.{RuleTree}
use Rattle.sql_tree.specs.declared.schema.RuleTree.TheVariants.{NotNull, Unique, Primary, Check, Foreign}
use Rattle.sql_tree.specs.declared.schema.CreateTable.{CreateTable}
use Rattle.lint_core.specs.declared.condition.Cond.{Cond}
use Rattle.lint_core.specs.declared.schema.Column.{Column}
use Rattle.lint_core.specs.declared.schema.Key.{Key}
use Rattle.lint_core.specs.declared.schema.ForeignKey.{ForeignKey}
use Rattle.lint_core.specs.declared.schema.Table.{Table}
use Rattle.lint_core.specs.Fits.{count_conditions}
use Rattle.lint_core.specs.Schema.{are_columns_of, are_paired}
pub use Rattle.sql_bind.specs.declared.schemas.Constraints.{Constraints}
use Rattle.sql_bind.specs.Bound.{Bound, refused, too_many, and_then}
use Rattle.sql_bind.specs.Names.{Level, whole_level, table_place, column_place}
use Rattle.sql_bind.specs.Selects.{bind_cond}
use Rattle.sql_bind.specs.Columns.{rules_of, bind_outlines}
use Rattle.sql_bind.specs.Keys.{bind_names, primary_key, named_keys, key_rules, option_list}

abbrev pub no_constraints : Constraints
no_constraints = record { primary = None; unique = []; checks = []; foreign = [] }

-- the primary key first
abbrev pub keys_of : Constraints → List Key
keys_of c = option_list c.primary ++ c.unique

-- a 1,001st is one too many
abbrev pub one_more : {A B : Type 0} → List A → Span → Bound B → Bound B
one_more list at more = if nat_le 1000 (length list) then too_many 1001 at else more

-- the columns with these names, each of which is there; one may stand twice
unfoldable pub named_columns : List Column → List NameTree → Option (List ℕ)
named_columns columns [] = Some []
named_columns columns (name ∷ names) =
    option_and_then (λ place. option_map (λ places. place ∷ places) (named_columns columns names)) (column_place columns name.text)

-- the tables with their columns, and the declarations that they come from
module _ (outlines : List Table) (trees : List CreateTable) where
  -- the rules of the table of a number
  abbrev pub rules_at : ℕ → List RuleTree
  rules_at number = unwrap_or (option_map (λ (tree : CreateTable). rules_of tree.elements) (slice_get trees number)) []

  -- the target columns: those of the list, or of the primary key where there is none
  abbrev pub target_columns : ℕ → Table → List NameTree → Option (List ℕ)
  target_columns number target [] = primary_key target.columns (key_rules (rules_at number))
  target_columns number target (name ∷ names) = named_columns target.columns (name ∷ names)

  -- they are, as a set, those of a key of the target, and as many as the own columns
  abbrev pub are_a_key : ℕ → Table → List ℕ → List ℕ → Bool
  are_a_key number target columns targets =
      nat_eq (length columns) (length targets)
      && list_any (λ key. are_columns_of targets (record { columns = key })) (named_keys target.columns (key_rules (rules_at number)))

  module _ (table : Table) (name : NameTree) where
    abbrev pub paired : ℕ → Table → List ℕ → Span → Option (List ℕ) → Bound ForeignKey
    paired number target columns at None = refused NotAKey at
    paired number target columns at (Some targets) =
        if are_a_key number target columns targets
        then (if are_paired table target columns targets
        then Ok (record { columns = columns; target = number; target_columns = targets })
        else refused TypeMismatch at)
        else refused NotAKey at

    -- the target is the table of this number
    abbrev pub with_table : List ℕ → NameTree → List NameTree → Span → ℕ → Option Table → Bound ForeignKey
    with_table columns target_name target_names at number None = refused UnknownTable target_name.span
    with_table columns target_name target_names at number (Some target) = paired number target columns at (target_columns number target target_names)

    abbrev pub with_target : List ℕ → NameTree → List NameTree → Span → Option ℕ → Bound ForeignKey
    with_target columns target_name target_names at None = refused UnknownTable target_name.span
    with_target columns target_name target_names at (Some number) = with_table columns target_name target_names at number (slice_get outlines number)

    -- a foreign key: its own columns, then its target, then the target's columns, then the kinds
    abbrev pub bind_foreign : List NameTree → NameTree → List NameTree → Span → Bound ForeignKey
    bind_foreign own target_name target_names at =
        and_then (bind_names table.columns [] own) (λ columns. with_target columns target_name target_names at (table_place outlines target_name.text))

    -- the one level of a CHECK: its table, by its name
    abbrev pub check_levels : ℕ → List Level
    check_levels number = whole_level (record { table = number; name = name.text; span = name.span } ∷ []) ∷ []

    abbrev pub bind_check : ℕ → CondTree → Bound Cond
    bind_check number tree =
        and_then (bind_cond outlines (check_levels number) tree) (λ cond. if nat_le (count_conditions cond) 65536 then Ok cond else too_many 65537 name.span)

    -- the constraints with one more, that of a rule
    abbrev pub bind_rule : ℕ → Constraints → RuleTree → Bound Constraints
    bind_rule number c NotNull = Ok c
    bind_rule number c (Unique names) =
        one_more (keys_of c) name.span (and_then (bind_names table.columns [] names) (λ columns.
        Ok (record { primary = c.primary; unique = c.unique ++ record { columns = columns } ∷ []; checks = c.checks; foreign = c.foreign })))
    bind_rule number c (Primary names at) =
        one_more (keys_of c) name.span (and_then (bind_names table.columns [] names) (λ columns.
        if is_some c.primary
        then refused DuplicateName at
        else Ok (record { primary = Some (record { columns = columns }); unique = c.unique; checks = c.checks; foreign = c.foreign })))
    bind_rule number c (Check tree) =
        one_more c.checks name.span (and_then (bind_check number tree) (λ cond.
        Ok (record { primary = c.primary; unique = c.unique; checks = c.checks ++ cond ∷ []; foreign = c.foreign })))
    bind_rule number c (Foreign own target_name target_names at) =
        one_more c.foreign name.span (and_then (bind_foreign own target_name target_names at) (λ foreign.
        Ok (record { primary = c.primary; unique = c.unique; checks = c.checks; foreign = c.foreign ++ foreign ∷ [] })))

    unfoldable pub bind_rules : ℕ → Constraints → List RuleTree → Bound Constraints
    bind_rules number c [] = Ok c
    bind_rules number c (rule ∷ rules) = and_then (bind_rule number c rule) (λ more. bind_rules number more rules)

    abbrev pub with_constraints : Constraints → Table
    with_constraints c = record { name = table.name; columns = table.columns; keys = keys_of c; checks = c.checks; foreign = c.foreign }

  -- the tables from a number on
  unfoldable pub bind_tables : ℕ → List Table → List CreateTable → Bound (List Table)
  bind_tables number [] trees = Ok []
  bind_tables number (table ∷ tables) [] = Ok []
  bind_tables number (table ∷ tables) (tree ∷ trees) =
      and_then (bind_rules table tree.name number no_constraints (rules_of tree.elements)) (λ c.
      and_then (bind_tables (suc number) tables trees) (λ bound. Ok (with_constraints table tree.name c ∷ bound)))

abbrev pub bind_schema : List CreateTable → Bound (List Table)
bind_schema trees = and_then (bind_outlines [] trees) (λ outlines. bind_tables outlines trees 0 outlines trees)
