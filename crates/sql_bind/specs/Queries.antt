-- A query: its SELECT, then its ORDER BY; and after all else the number of its conditions.
use Rattle.std.specs.Prelude.{ℕ, pos, ◌-◌, Bool, false, if◌then◌else◌, List, [], ◌∷◌, ◌++◌, map, Option, Some, None, nat_le, int_le, nat_abs, slice_get, unwrap_or, option_map, Ok}
use Rattle.std.specs.List.{find}
use Rattle.std.specs.Str.{bytes_eq}
use Rattle.lint_base.specs.declared.place.Span.{Span}
use Rattle.lint_base.specs.declared.place.Fault.TheVariants.{UnknownColumn}
use Rattle.sql_tree.specs.declared.term.TermTree.{TermTree}
use Rattle.sql_tree.specs.declared.term.TermTree.TheVariants as tree
use Rattle.sql_tree.specs.declared.select.OrderTree.{OrderTree}
use Rattle.sql_tree.specs.declared.select.OrderTree.TheVariants.{Place, Column as ByColumn}
use Rattle.sql_tree.specs.declared.select.SelectTree.{out-SelectTree}
use Rattle.sql_tree.specs.declared.select.QueryTree.{QueryTree}
use Rattle.lint_core.specs.declared.condition.Term.{Term}
use Rattle.lint_core.specs.declared.condition.Term.TheVariants.{Cell, Number, Text, Null}
use Rattle.lint_core.specs.declared.condition.Block.{out-Block}
use Rattle.lint_core.specs.declared.query.Query.{Query}
use Rattle.lint_core.specs.declared.schema.Table.{Table}
use Rattle.lint_core.specs.Fits.{count_conditions}
use Rattle.sql_bind.specs.Bound.{Bound, refused, too_many, and_then}
use Rattle.sql_bind.specs.Names.{Level, whole_level}
use Rattle.sql_bind.specs.Terms.{bind_term}
use Rattle.sql_bind.specs.Conditions.{Selected, BoundSelect}
use Rattle.sql_bind.specs.Selects.{bind_select}

-- a column orders; a literal leaves nothing
abbrev pub key_of : Term → List Term
key_of (Cell level entry column added) = Cell level entry column added ∷ []
key_of (Number value unit) = []
key_of (Text text) = []
key_of Null = []

-- the item of this alias
abbrev pub has_alias : List ℕ → Selected → Bool
has_alias name s = unwrap_or (option_map (λ alias. bytes_eq alias name) s.alias) false

module _ (schema : List Table) (select : BoundSelect) where
  abbrev pub key_item : Option Selected → Bound (List Term) → Bound (List Term)
  key_item None other = other
  key_item (Some s) other = Ok (key_of s.item.term)

  abbrev pub main_levels : List Level
  main_levels = whole_level (out-Block select.block).entries ∷ []

  abbrev pub bind_column_key : TermTree → Bound (List Term)
  bind_column_key term = and_then (bind_term schema main_levels term) (λ bound. Ok (key_of bound))

  -- a number is the place of an item, from 1; a name alone is the first item of that alias, else a column
  abbrev pub bind_key : OrderTree → Bound (List Term)
  bind_key (Place number at) =
      if int_le (pos 1) number then key_item (slice_get select.selected (nat_abs number - 1)) (refused UnknownColumn at) else refused UnknownColumn at
  bind_key (ByColumn (tree.Column None name added span)) =
      key_item (find (has_alias name.text) select.selected) (bind_column_key (tree.Column None name added span))
  bind_key (ByColumn term) = bind_column_key term

  unfoldable pub bind_keys : List OrderTree → Bound (List Term)
  bind_keys [] = Ok []
  bind_keys (key ∷ keys) = and_then (bind_key key) (λ terms. and_then (bind_keys keys) (λ more. Ok (terms ++ more)))

-- the query, if it has at most 65,536 conditions
abbrev pub limited_query : Option Span → Span → BoundSelect → List Term → Bound Query
limited_query distinct at select order =
    if nat_le (count_conditions (out-Block select.block).cond) 65536
    then Ok (record { distinct = distinct; items = map (λ (s : Selected). s.item) select.selected; block = select.block; order = order })
    else too_many 65537 at

abbrev pub bind_query : List Table → QueryTree → Bound Query
bind_query schema query =
    and_then (bind_select schema [] query.select) (λ select. and_then (bind_keys schema select query.order) (λ order.
    limited_query (out-SelectTree query.select).distinct (out-SelectTree query.select).span select order))
