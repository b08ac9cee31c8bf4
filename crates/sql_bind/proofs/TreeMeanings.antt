-- What trees mean, one layer at a time.
use Rattle.std.proofs.Common.{◌≡◌, ◌∙◌, ap, refl, sym, ℕ, List, map, Option, Some, None, option_map}
use Rattle.lint_base.specs.declared.place.Span.{Span}
use Rattle.lint_core.specs.declared.schema.Table.{Table}
use Rattle.sql_tree.specs.declared.term.NameTree.{NameTree}
use Rattle.sql_tree.specs.declared.select.ItemTree.{ItemTree}
use Rattle.sql_tree.specs.declared.select.CondTree.{CondTree, fold-CondTree}
use Rattle.sql_tree.specs.declared.select.CondTree.TheOpen.{EntryTree-F, SelectTree-F}
use Rattle.sql_tree.specs.declared.select.EntryTree.{EntryTree, out-EntryTree, fold_out-EntryTree, map-EntryTree}
use Rattle.sql_tree.specs.declared.select.SelectTree.{SelectTree, out-SelectTree, fold_out-SelectTree, map-SelectTree}
use Rattle.sql_bind.specs.Conditions.{CondMeaning, EntryMeaning, SelectMeaning, cond_step}
use Rattle.sql_bind.specs.Selects.{entry_step, select_step}
use Rattle.sql_bind.specs.inner.Meanings.{cond_meaning, entry_meaning, select_meaning, filter_meaning}

module _ (schema : List Table) where
  -- an entry's tree means its parts
  abbrev pub entry_parts : EntryTree → EntryMeaning
  entry_parts tree = record { table = (out-EntryTree tree).table; alias = (out-EntryTree tree).alias; on = filter_meaning schema (out-EntryTree tree).on; first = (out-EntryTree tree).first }

  entry_mapped : (table : NameTree) (alias : Option NameTree) (on : Option CondTree) (first : ℕ) →
      entry_step schema (map-EntryTree CondTree EntryTree SelectTree CondMeaning EntryMeaning SelectMeaning (cond_meaning schema) (entry_meaning schema) (select_meaning schema) (record { table = table; alias = alias; on = on; first = first }))
      ≡ record { table = table; alias = alias; on = filter_meaning schema on; first = first }
  entry_mapped table alias None first = refl
  entry_mapped table alias (Some on) first = refl

  pub entry_is : (tree : EntryTree) → entry_meaning schema tree ≡ entry_parts tree
  entry_is tree =
      fold_out-EntryTree CondMeaning EntryMeaning SelectMeaning (cond_step schema) (entry_step schema) (select_step schema) tree
      ∙ entry_mapped (out-EntryTree tree).table (out-EntryTree tree).alias (out-EntryTree tree).on (out-EntryTree tree).first

  -- a SELECT's tree means what its parts mean
  abbrev pub select_layer : SelectTree → SelectTree-F CondMeaning EntryMeaning SelectMeaning
  select_layer tree = record {
    distinct = (out-SelectTree tree).distinct;
    items = (out-SelectTree tree).items;
    from = map (entry_meaning schema) (out-SelectTree tree).from;
    filter = filter_meaning schema (out-SelectTree tree).filter;
    span = (out-SelectTree tree).span;
  }

  select_mapped : (distinct : Option Span) (items : List ItemTree) (from : List EntryTree) (filter : Option CondTree) (span : Span) →
      select_step schema (map-SelectTree CondTree EntryTree SelectTree CondMeaning EntryMeaning SelectMeaning (cond_meaning schema) (entry_meaning schema) (select_meaning schema) (record { distinct = distinct; items = items; from = from; filter = filter; span = span }))
      ≡ select_step schema (record { distinct = distinct; items = items; from = map (entry_meaning schema) from; filter = filter_meaning schema filter; span = span })
  select_mapped distinct items from None span = refl
  select_mapped distinct items from (Some filter) span = refl

  pub select_is : (tree : SelectTree) → select_meaning schema tree ≡ select_step schema (select_layer tree)
  select_is tree =
      fold_out-SelectTree CondMeaning EntryMeaning SelectMeaning (cond_step schema) (entry_step schema) (select_step schema) tree
      ∙ select_mapped (out-SelectTree tree).distinct (out-SelectTree tree).items (out-SelectTree tree).from (out-SelectTree tree).filter (out-SelectTree tree).span
