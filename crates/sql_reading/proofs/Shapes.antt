-- The trees that the grammar spells have the shape that binding asks of them: by induction over the derivations.
use Rattle.std.proofs.Common.{ℕ, suc, ◌+◌, ◌≤◌, ◌≡◌, refl, ap, sym, ◌∙◌, subst, Bool, true, ◌&&◌, ◌⊎◌, inl, inr, List, [], ◌∷◌, ◌++◌, length, map, Option, Some, None, option_map, unwrap_or, nat_le, le-leb, arith}
use Rattle.std.proofs.lemmas.Bool.{and_parts, and_from}
use Rattle.std.proofs.lemmas.List.Folds.{list_all-map, list_all-append}
use Rattle.std.specs.List.{list_all}
use Rattle.lint_base.specs.declared.place.Span.{Span}
use Rattle.sql_lex.specs.declared.token.Token.{Token}
use Rattle.sql_tree.specs.declared.term.NameTree.{NameTree}
use Rattle.sql_tree.specs.declared.term.TermTree.{TermTree}
use Rattle.sql_tree.specs.declared.select.ItemTree.{ItemTree}
use Rattle.sql_tree.specs.declared.select.ItemTree.TheVariants.{Star, StarOf, Term}
use Rattle.sql_tree.specs.declared.select.OrderTree.{OrderTree}
use Rattle.sql_tree.specs.declared.select.OrderTree.TheVariants.{Place, Column as ByColumn}
use Rattle.sql_tree.specs.declared.select.EntryTree.{EntryTree, fold-EntryTree, fold_out-EntryTree}
use Rattle.sql_tree.specs.declared.select.SelectTree.{SelectTree, fold-roll-SelectTree}
use Rattle.sql_tree.specs.declared.select.CondTree.{CondTree, roll-CondTree, map-CondTree, fold-roll-CondTree}
use Rattle.sql_tree.specs.declared.select.CondTree.TheOpen.{CondTree-F}
use Rattle.sql_tree.specs.declared.select.CondTree.TheVariants.{And, Or, rolls-And, rolls-Or, rolls-Not, rolls-Compare, rolls-Scalar, rolls-IsNull, rolls-Between, rolls-InList, rolls-InSelect, rolls-Exists}
use Rattle.sql_tree.specs.declared.select.QueryTree.{QueryTree}
use Rattle.sql_tree.specs.declared.schema.RuleTree.{RuleTree}
use Rattle.sql_tree.specs.declared.schema.RuleTree.TheVariants.{Check}
use Rattle.sql_tree.specs.declared.schema.Element.{Element}
use Rattle.sql_tree.specs.declared.schema.Element.TheVariants.{Column, Rule}
use Rattle.sql_tree.specs.declared.schema.CreateTable.{CreateTable}
use Rattle.sql_parse.specs.grammar.Words.{span_of, AND, OR}
use Rattle.sql_parse.specs.grammar.Lists.{SpellsMore, SpellsList}
use Rattle.sql_parse.specs.grammar.Terms.{SpellsBareColumn, SpellsLiteral}
use Rattle.sql_parse.specs.grammar.Terms as term
use Rattle.sql_parse.specs.grammar.Predicates.{SpellsPredicate}
use Rattle.sql_parse.specs.grammar.Predicates as predicate
use Rattle.sql_parse.specs.grammar.Items.{SpellsItem, SpellsItems}
use Rattle.sql_parse.specs.grammar.Items as item
use Rattle.sql_parse.specs.grammar.Selects.{alone_or, select_tree, entry_tree, Level, Disjunction, Conjunction, Factor, Primary, SpellsCond, SpellsJoined, SpellsSubquery, SpellsSelect, SpellsWhere, SpellsGroups, SpellsGroup, SpellsJoins}
use Rattle.sql_parse.specs.grammar.Selects as c
use Rattle.sql_parse.specs.grammar.Queries.{SpellsKey, SpellsOrder, SpellsQuery}
use Rattle.sql_parse.specs.grammar.Queries as query
use Rattle.sql_parse.specs.grammar.Tables.{SpellsCheck, SpellsColumnRule, SpellsTableRule, SpellsColumnRules, SpellsElement, SpellsCreate}
use Rattle.sql_parse.specs.grammar.Tables as declaration
use Rattle.sql_parse.specs.grammar.Schemas.{SpellsStatement, SpellsSchema}
use Rattle.sql_parse.specs.grammar.Schemas as schema
use Rattle.sql_bind.specs.Shape.{EntryShape, is_bare_column, is_item_term, item_shaped, entries_shaped, cond_step, entry_step, select_step, cond_shaped, select_shaped, key_shaped, query_shaped, is_flat, rule_shaped, table_rule_shaped, element_shaped, schema_shaped}

-- parts with commas between them
module _ {A : Type 0} (Spells : A → List Token → Type 0) (shaped : A → Bool) (each : (part : A) (tokens : List Token) → Spells part tokens → shaped part ≡ true) where
  more_shape : (parts : List A) (tokens : List Token) → SpellsMore Spells parts tokens → list_all shaped parts ≡ true
  more_shape [] tokens spelled = refl
  more_shape (part ∷ parts) tokens (comma, own, rest, whole, first, others) = and_from _ _ (each part own first) (more_shape parts rest others)

  list_shape : (parts : List A) (tokens : List Token) → SpellsList Spells parts tokens → list_all shaped parts ≡ true
  list_shape [] tokens spelled = refl
  list_shape (part ∷ parts) tokens (own, rest, whole, first, others) = and_from _ _ (each part own first) (more_shape parts rest others)

-- items and order keys
bare_column : (tree : TermTree) (tokens : List Token) → SpellsBareColumn tree tokens → is_bare_column tree ≡ true
bare_column tree tokens spelled = ap is_bare_column spelled.tree

bare_item : (tree : TermTree) (tokens : List Token) → SpellsBareColumn tree tokens → is_item_term tree ≡ true
bare_item tree tokens spelled = ap is_item_term spelled.tree

literal_item : (tree : TermTree) (tokens : List Token) → SpellsLiteral tree tokens → is_item_term tree ≡ true
literal_item tree tokens (term.unsigned value at e whole) = ap is_item_term e
literal_item tree tokens (term.signed value e spelled) = ap is_item_term e
literal_item tree tokens (term.quoted characters at e whole) = ap is_item_term e

item_term : (tree : TermTree) (tokens : List Token) → SpellsBareColumn tree tokens ⊎ SpellsLiteral tree tokens → is_item_term tree ≡ true
item_term tree tokens (inl spelled) = bare_item tree tokens spelled
item_term tree tokens (inr spelled) = literal_item tree tokens spelled

item_shape : (part : ItemTree) (tokens : List Token) → SpellsItem part tokens → item_shaped part ≡ true
item_shape (Star at) tokens spelled = refl
item_shape (StarOf table star) tokens spelled = refl
item_shape (Term tree alias) tokens (own, rest, whole, spelled, visible) = item_term tree own spelled

items_shape : (items : List ItemTree) (tokens : List Token) → SpellsItems items tokens → list_all item_shaped items ≡ true
items_shape items tokens (item.star at e whole) = ap (list_all item_shaped) e
items_shape items tokens (item.listed spelled) = list_shape SpellsItem item_shaped item_shape items tokens spelled

key_shape : (key : OrderTree) (tokens : List Token) → SpellsKey key tokens → key_shaped key ≡ true
key_shape (Place number at) tokens spelled = refl
key_shape (ByColumn tree) tokens (own, rest, whole, spelled, direction) = bare_column tree own spelled

order_shape : (keys : List OrderTree) (tokens : List Token) → SpellsOrder keys tokens → list_all key_shaped keys ≡ true
order_shape keys tokens (query.unordered e whole) = ap (list_all key_shaped) e
order_shape keys tokens (query.ordered order_at by_at listed whole spelled) = list_shape SpellsKey key_shaped key_shape keys listed spelled

-- the shape of a tree by those of its parts
abbrev entry_shape : EntryTree → EntryShape
entry_shape = fold-EntryTree Bool EntryShape Bool cond_step entry_step select_step

optional_shape : Option CondTree → Bool
optional_shape tree = unwrap_or (option_map cond_shaped tree) true

cond_form : (x : CondTree-F CondTree EntryTree SelectTree) (tree : CondTree) → roll-CondTree x ≡ tree →
    cond_shaped tree ≡ cond_step (map-CondTree CondTree EntryTree SelectTree Bool EntryShape Bool cond_shaped entry_shape select_shaped x)
cond_form x tree e = ap cond_shaped (sym e) ∙ fold-roll-CondTree Bool EntryShape Bool cond_step entry_step select_step x

entry_form : (table : NameTree) (alias : Option NameTree) (on : Option CondTree) (first : ℕ) → entry_shape (entry_tree table alias on first) ≡ record { first = first; on = optional_shape on }
unfolding optional_shape
entry_form table alias None first = fold_out-EntryTree Bool EntryShape Bool cond_step entry_step select_step (entry_tree table alias None first)
entry_form table alias (Some tree) first = fold_out-EntryTree Bool EntryShape Bool cond_step entry_step select_step (entry_tree table alias (Some tree) first)

select_form : (distinct : Option Span) (items : List ItemTree) (entries : List EntryTree) (filter : Option CondTree) (span : Span) →
    select_shaped (select_tree distinct items entries filter span) ≡ ((list_all item_shaped items && entries_shaped 0 (map entry_shape entries)) && optional_shape filter)
unfolding optional_shape
select_form distinct items entries None span =
    fold-roll-SelectTree Bool EntryShape Bool cond_step entry_step select_step (record { distinct = distinct; items = items; from = entries; filter = None; span = span })
select_form distinct items entries (Some tree) span =
    fold-roll-SelectTree Bool EntryShape Bool cond_step entry_step select_step (record { distinct = distinct; items = items; from = entries; filter = Some tree; span = span })

-- what each kind of derivation shows
abbrev AllShaped : List CondTree → Type 0
AllShaped parts = list_all cond_shaped parts ≡ true

abbrev WhereShaped : Option CondTree → Type 0
WhereShaped filter = optional_shape filter ≡ true

-- entries that are counted from a number on
abbrev EntriesShaped : ℕ → List EntryTree → Type 0
EntriesShaped number entries = entries_shaped number (map entry_shape entries) ≡ true

-- those of one group, from any number on that is not before the group's first
abbrev GroupShaped : ℕ → List EntryTree → Type 0
GroupShaped first entries = (number : ℕ) → first ≤ number → EntriesShaped number entries

-- conditions
and_shape : (parts : List CondTree) → AllShaped parts → cond_shaped (And parts) ≡ true
and_shape parts shaped = cond_form (CondTree-F.And parts) (And parts) (rolls-And parts) ∙ (list_all-map (λ part. part) cond_shaped parts ∙ shaped)

or_shape : (parts : List CondTree) → AllShaped parts → cond_shaped (Or parts) ≡ true
or_shape parts shaped = cond_form (CondTree-F.Or parts) (Or parts) (rolls-Or parts) ∙ (list_all-map (λ part. part) cond_shaped parts ∙ shaped)

alone_shape : (join : List CondTree → CondTree) → ((parts : List CondTree) → AllShaped parts → cond_shaped (join parts) ≡ true) → (parts : List CondTree) → AllShaped parts → cond_shaped (alone_or join parts) ≡ true
alone_shape join each [] shaped = each [] shaped
alone_shape join each (part ∷ []) shaped = (and_parts (cond_shaped part) true shaped).0
alone_shape join each (part ∷ next ∷ parts) shaped = each (part ∷ next ∷ parts) shaped

predicate_shape : (tree : CondTree) (tokens : List Token) → SpellsPredicate tree tokens → cond_shaped tree ≡ true
predicate_shape tree tokens (predicate.compare s) = ap cond_shaped s.tree_is ∙ cond_form (CondTree-F.Compare s.op s.left s.right (span_of tokens)) _ (rolls-Compare s.op s.left s.right (span_of tokens))
predicate_shape tree tokens (predicate.is_null s) = ap cond_shaped s.tree_is ∙ cond_form (CondTree-F.IsNull s.term s.negated (span_of tokens)) _ (rolls-IsNull s.term s.negated (span_of tokens))
predicate_shape tree tokens (predicate.between s) =
    ap cond_shaped s.tree_is ∙ cond_form (CondTree-F.Between s.term s.low s.high s.negated (span_of tokens)) _ (rolls-Between s.term s.low s.high s.negated (span_of tokens))
predicate_shape tree tokens (predicate.in_list s) =
    ap cond_shaped s.tree_is ∙ cond_form (CondTree-F.InList s.term s.values s.negated (span_of tokens)) _ (rolls-InList s.term s.values s.negated (span_of tokens))

-- entries
entry_before : (table : NameTree) (alias : Option NameTree) (on : Option CondTree) (others : List EntryTree) (first : ℕ) → optional_shape on ≡ true → GroupShaped first others →
    GroupShaped first (entry_tree table alias on first ∷ others)
entry_before table alias on others first shaped rest number h =
    ap (λ (e : EntryShape). (nat_le e.first number && e.on) && entries_shaped (suc number) (map entry_shape others)) (entry_form table alias on first)
    ∙ and_from _ _ (and_from _ _ (le-leb first number h) shaped) (rest (suc number) (omega arith))

groups_after : (number : ℕ) (group others : List EntryTree) → EntriesShaped number group → EntriesShaped (number + length group) others → EntriesShaped number (group ++ others)
groups_after number [] others shaped rest = let e : number + 0 ≡ number = omega arith in subst (λ n. EntriesShaped n others) e rest
groups_after number (entry ∷ group) others shaped rest =
    let both = and_parts (nat_le (entry_shape entry).first number && (entry_shape entry).on) (entries_shaped (suc number) (map entry_shape group)) shaped in
    let e : number + suc (length group) ≡ suc number + length group = omega arith in
    and_from _ _ both.0 (groups_after (suc number) group others both.1 (subst (λ n. EntriesShaped n others) e rest))

mutual
  unfolding optional_shape

  cond_shape : (level : Level) (tree : CondTree) (tokens : List Token) → SpellsCond level tree tokens → cond_shaped tree ≡ true
  cond_shape Disjunction tree tokens (c.disjunction parts e s) = ap cond_shaped e ∙ alone_shape Or or_shape parts (joined_shape Conjunction OR parts tokens s)
  cond_shape Conjunction tree tokens (c.conjunction parts e s) = ap cond_shaped e ∙ alone_shape And and_shape parts (joined_shape Factor AND parts tokens s)
  cond_shape Factor tree tokens (c.plain s) = cond_shape Primary tree tokens s
  cond_shape Factor tree tokens (c.negation inner not_at own e whole s) = ap cond_shaped e ∙ (cond_form (CondTree-F.Not inner) _ (rolls-Not inner) ∙ cond_shape Primary inner own s)
  cond_shape Primary tree tokens (c.parenthesized open_at own close_at whole s) = cond_shape Disjunction tree own s
  cond_shape Primary tree tokens (c.exists select exists_at inner e whole s) =
      ap cond_shaped e ∙ (cond_form (CondTree-F.Exists select (span_of tokens)) _ (rolls-Exists select (span_of tokens)) ∙ subquery_shape select inner s)
  cond_shape Primary tree tokens (c.scalar op left select own op_at inner e whole s t u) =
      ap cond_shaped e ∙ (cond_form (CondTree-F.Scalar op left select (span_of tokens)) _ (rolls-Scalar op left select (span_of tokens)) ∙ subquery_shape select inner t)
  cond_shape Primary tree tokens (c.in_select term select negated own not_word in_at inner e whole s n t) =
      ap cond_shaped e ∙ (cond_form (CondTree-F.InSelect term select negated (span_of tokens)) _ (rolls-InSelect term select negated (span_of tokens)) ∙ subquery_shape select inner t)
  cond_shape Primary tree tokens (c.predicate s) = predicate_shape tree tokens s

  joined_shape : (level : Level) (joint : ℕ) (parts : List CondTree) (tokens : List Token) → SpellsJoined level joint parts tokens → AllShaped parts
  joined_shape level joint parts tokens (c.last part e s) = ap (list_all cond_shaped) e ∙ and_from _ true (cond_shape level part tokens s) refl
  joined_shape level joint parts tokens (c.more part others own joint_at rest e whole s t) =
      ap (list_all cond_shaped) e ∙ and_from _ _ (cond_shape level part own s) (joined_shape level joint others rest t)

  subquery_shape : (select : SelectTree) (tokens : List Token) → SpellsSubquery select tokens → select_shaped select ≡ true
  subquery_shape select tokens (c.subquery open_at own close_at whole s) = select_shape (span_of tokens) select own s

  select_shape : (span : Span) (tree : SelectTree) (tokens : List Token) → SpellsSelect span tree tokens → select_shaped tree ≡ true
  select_shape span tree tokens (c.select distinct items entries filter select_at quantifier listed from_at groups condition e whole q i g w) =
      ap select_shaped e
      ∙ (select_form distinct items entries filter span
      ∙ and_from _ _ (and_from _ _ (items_shape items listed i) (groups_shape 0 entries groups g)) (where_shape filter condition w))

  where_shape : (filter : Option CondTree) (tokens : List Token) → SpellsWhere filter tokens → WhereShaped filter
  where_shape filter tokens (c.everything e whole) = ap optional_shape e
  where_shape filter tokens (c.filtered tree where_at own e whole s) = ap optional_shape e ∙ cond_shape Disjunction tree own s

  groups_shape : (first : ℕ) (entries : List EntryTree) (tokens : List Token) → SpellsGroups first entries tokens → EntriesShaped first entries
  groups_shape first entries tokens (c.last_group s) = group_shape first entries tokens s first (omega arith)
  groups_shape first entries tokens (c.more_groups group others own comma_at rest e whole s t) =
      ap (λ all. entries_shaped first (map entry_shape all)) e
      ∙ groups_after first group others (group_shape first group own s first (omega arith)) (groups_shape (first + length group) others rest t)

  group_shape : (first : ℕ) (entries : List EntryTree) (tokens : List Token) → SpellsGroup first entries tokens → GroupShaped first entries
  group_shape first entries tokens (c.group table alias others own rest e whole s t) =
      subst (GroupShaped first) (sym e) (entry_before table alias None others first refl (joins_shape first others rest t))

  joins_shape : (first : ℕ) (entries : List EntryTree) (tokens : List Token) → SpellsJoins first entries tokens → GroupShaped first entries
  joins_shape first entries tokens (c.no_join e whole) = subst (GroupShaped first) (sym e) (λ number h. refl)
  joins_shape first entries tokens (c.inner_join table alias tree others inner_word join_at own on_at condition rest e whole w s t u) =
      subst (GroupShaped first) (sym e) (entry_before table alias (Some tree) others first (cond_shape Disjunction tree condition t) (joins_shape first others rest u))
  joins_shape first entries tokens (c.cross_join table alias others cross_at join_at own rest e whole s t) =
      subst (GroupShaped first) (sym e) (entry_before table alias None others first refl (joins_shape first others rest t))

-- a query that the grammar spells has the shape
pub query_shape : (tree : QueryTree) (tokens : List Token) → SpellsQuery tree tokens → query_shaped tree ≡ true
query_shape tree tokens spelled = and_from _ _ (select_shape (span_of tokens) tree.select spelled.own spelled.main) (order_shape tree.order spelled.rest spelled.order)

-- the condition of a CHECK has no subquery, as the grammar says it and as the binder asks it
flat_same : (tree : CondTree) → declaration.is_flat tree ≡ is_flat tree
flat_same tree = refl

check_shape : (tree : CondTree) (tokens : List Token) → SpellsCheck tree tokens → rule_shaped (Check tree) ≡ true
check_shape tree tokens spelled = sym (flat_same tree) ∙ spelled.flat

column_rule_shape : (column : NameTree) (rules : List RuleTree) (tokens : List Token) → SpellsColumnRule column rules tokens → list_all rule_shaped rules ≡ true
column_rule_shape column rules tokens (declaration.not_null not_at null_at e whole) = ap (list_all rule_shaped) e
column_rule_shape column rules tokens (declaration.null null_at e whole) = ap (list_all rule_shaped) e
column_rule_shape column rules tokens (declaration.unique at e whole) = ap (list_all rule_shaped) e
column_rule_shape column rules tokens (declaration.primary at key_at e whole) = ap (list_all rule_shaped) e
column_rule_shape column rules tokens (declaration.check tree e s) = ap (list_all rule_shaped) e ∙ and_from _ true (check_shape tree tokens s) refl
column_rule_shape column rules tokens (declaration.references table target at e few s) = ap (list_all rule_shaped) e

column_rules_shape : (column : NameTree) (rules : List RuleTree) (tokens : List Token) → SpellsColumnRules column rules tokens → list_all rule_shaped rules ≡ true
column_rules_shape column rules tokens (declaration.no_rules e whole) = ap (list_all rule_shaped) e
column_rules_shape column rules tokens (declaration.more_rules left others constraint own rest e whole n s more) =
    ap (list_all rule_shaped) e
    ∙ (list_all-append rule_shaped left others ∙ and_from _ _ (column_rule_shape column left own s) (column_rules_shape column others rest more))

table_rule_shape : (rule : RuleTree) (tokens : List Token) → SpellsTableRule rule tokens → table_rule_shaped rule ≡ true
table_rule_shape rule tokens (declaration.unique_names columns at listed e whole s) = ap table_rule_shaped e
table_rule_shape rule tokens (declaration.primary_names columns at key_at listed e whole s) = ap table_rule_shaped e
table_rule_shape rule tokens (declaration.table_check tree e s) = ap table_rule_shaped e ∙ check_shape tree tokens s
table_rule_shape rule tokens (declaration.foreign_names columns table target at key_at references_at listed rest e whole s r) = ap table_rule_shaped e

element_shape : (element : Element) (tokens : List Token) → SpellsElement element tokens → element_shaped element ≡ true
element_shape (Column name kind rules) tokens (quoted, type_tokens, default_tokens, rest, whole, type, value, more) = column_rules_shape name rules rest more
element_shape (Rule rule) tokens (constraint, own, whole, constraint_named, s) = table_rule_shape rule own s

create_shape : (table : CreateTable) (tokens : List Token) → SpellsCreate table tokens → list_all element_shaped table.elements ≡ true
create_shape table tokens spelled = list_shape SpellsElement element_shaped element_shape table.elements spelled.listed spelled.elements

statement_shape : (tables : List CreateTable) (tokens : List Token) → SpellsStatement tables tokens → schema_shaped tables ≡ true
statement_shape tables tokens (schema.empty e whole) = ap schema_shaped e
statement_shape tables tokens (schema.create table e spelled) = ap schema_shaped e ∙ and_from _ true (create_shape table tokens spelled) refl

-- a schema that the grammar spells has the shape
pub schema_shape : (tables : List CreateTable) (tokens : List Token) → SpellsSchema tables tokens → schema_shaped tables ≡ true
schema_shape tables tokens (schema.last spelled) = statement_shape tables tokens spelled
schema_shape tables tokens (schema.more left others own semicolon_at rest e whole first spelled) =
    ap schema_shaped e
    ∙ (list_all-append (λ (table : CreateTable). list_all element_shaped table.elements) left others
    ∙ and_from _ _ (statement_shape left own first) (schema_shape others rest spelled))
