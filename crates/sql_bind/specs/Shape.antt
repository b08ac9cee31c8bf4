-- The shape that the grammar gives to trees, as far as binding rests on it: a CHECK has no subquery, a rule beside
-- the columns is not NOT NULL, an item is a column to which nothing is added or a literal, an order key that is
-- no number is such a column, and a joined group begins at or before each of its entries.
use Rattle.std.specs.Prelude.{ℕ, suc, pos, Bool, true, false, ◌&&◌, List, [], ◌∷◌, nat_le, unwrap_or}
use Rattle.std.specs.List.{list_all}
use Rattle.std.specs.Ordering.{int_eq}
use Rattle.sql_tree.specs.declared.term.TermTree.{TermTree}
use Rattle.sql_tree.specs.declared.term.TermTree.TheVariants as tree
use Rattle.sql_tree.specs.declared.select.ItemTree.{ItemTree}
use Rattle.sql_tree.specs.declared.select.ItemTree.TheVariants.{Star, StarOf, Term}
use Rattle.sql_tree.specs.declared.select.OrderTree.{OrderTree}
use Rattle.sql_tree.specs.declared.select.OrderTree.TheVariants.{Place, Column as ByColumn}
use Rattle.sql_tree.specs.declared.select.CondTree.{CondTree, fold-CondTree}
use Rattle.sql_tree.specs.declared.select.SelectTree.{SelectTree, fold-SelectTree}
use Rattle.sql_tree.specs.declared.select.CondTree.TheOpen.{CondTree-F, EntryTree-F, SelectTree-F}
use Rattle.sql_tree.specs.declared.select.QueryTree.{QueryTree}
use Rattle.sql_tree.specs.declared.schema.RuleTree.{RuleTree}
use Rattle.sql_tree.specs.declared.schema.RuleTree.TheVariants.{NotNull, Check}
use Rattle.sql_tree.specs.declared.schema.Element.{Element}
use Rattle.sql_tree.specs.declared.schema.Element.TheVariants as element
use Rattle.sql_tree.specs.declared.schema.CreateTable.{CreateTable}

-- a column to which nothing is added
abbrev pub is_bare_column : TermTree → Bool
is_bare_column (tree.Column table name added span) = int_eq added (pos 0)
is_bare_column (tree.Number value span) = false
is_bare_column (tree.Text text span) = false
is_bare_column (tree.Null span) = false

-- such a column or a literal
abbrev pub is_item_term : TermTree → Bool
is_item_term (tree.Column table name added span) = int_eq added (pos 0)
is_item_term (tree.Number value span) = true
is_item_term (tree.Text text span) = true
is_item_term (tree.Null span) = false

abbrev pub item_shaped : ItemTree → Bool
item_shaped (Star at) = true
item_shaped (StarOf table at) = true
item_shaped (Term term alias) = is_item_term term

-- an entry: the number of its group's first entry, and whether its ON is shaped
pub record EntryShape : Type 0 where
  pub first : ℕ
  pub on : Bool

-- each group begins at or before each of its entries, which are counted from a number on
abbrev pub entries_shaped : ℕ → List EntryShape → Bool
entries_shaped number [] = true
entries_shaped number (e ∷ es) = nat_le e.first number && e.on && entries_shaped (suc number) es

abbrev pub cond_step : CondTree-F Bool EntryShape Bool → Bool
cond_step (CondTree-F.And parts) = list_all (λ part. part) parts
cond_step (CondTree-F.Or parts) = list_all (λ part. part) parts
cond_step (CondTree-F.Not part) = part
cond_step (CondTree-F.Compare op left right span) = true
cond_step (CondTree-F.Scalar op left select span) = select
cond_step (CondTree-F.IsNull term negated span) = true
cond_step (CondTree-F.Between term low high negated span) = true
cond_step (CondTree-F.InList term values negated span) = true
cond_step (CondTree-F.InSelect term select negated span) = select
cond_step (CondTree-F.Exists select span) = select

abbrev pub entry_step : EntryTree-F Bool EntryShape Bool → EntryShape
entry_step entry = record { first = entry.first; on = unwrap_or entry.on true }

abbrev pub select_step : SelectTree-F Bool EntryShape Bool → Bool
select_step select = list_all item_shaped select.items && entries_shaped 0 select.from && unwrap_or select.filter true

abbrev pub cond_shaped : CondTree → Bool
cond_shaped = fold-CondTree Bool EntryShape Bool cond_step entry_step select_step

abbrev pub select_shaped : SelectTree → Bool
select_shaped = fold-SelectTree Bool EntryShape Bool cond_step entry_step select_step

abbrev pub key_shaped : OrderTree → Bool
key_shaped (Place number at) = true
key_shaped (ByColumn term) = is_bare_column term

abbrev pub query_shaped : QueryTree → Bool
query_shaped query = select_shaped query.select && list_all key_shaped query.order

-- a condition without subqueries
abbrev pub flat_step : CondTree-F Bool Bool Bool → Bool
flat_step (CondTree-F.And parts) = list_all (λ part. part) parts
flat_step (CondTree-F.Or parts) = list_all (λ part. part) parts
flat_step (CondTree-F.Not part) = part
flat_step (CondTree-F.Compare op left right span) = true
flat_step (CondTree-F.Scalar op left select span) = false
flat_step (CondTree-F.IsNull term negated span) = true
flat_step (CondTree-F.Between term low high negated span) = true
flat_step (CondTree-F.InList term values negated span) = true
flat_step (CondTree-F.InSelect term select negated span) = false
flat_step (CondTree-F.Exists select span) = false

abbrev pub is_flat : CondTree → Bool
is_flat = fold-CondTree Bool Bool Bool flat_step (λ entry. false) (λ select. false)

abbrev pub rule_shaped : RuleTree → Bool
rule_shaped (Check tree) = is_flat tree
rule_shaped _ = true

abbrev pub table_rule_shaped : RuleTree → Bool
table_rule_shaped NotNull = false
table_rule_shaped rule = rule_shaped rule

abbrev pub element_shaped : Element → Bool
element_shaped (element.Column name kind rules) = list_all rule_shaped rules
element_shaped (element.Rule rule) = table_rule_shaped rule

abbrev pub schema_shaped : List CreateTable → Bool
schema_shaped tables = list_all (λ (table : CreateTable). list_all element_shaped table.elements) tables
