-- Conditions and SELECTs, which hold each other (ISO/IEC 9075:1992, 7.4 to 7.6, 7.9, 7.11 and 8.12).
--
--     cond   := conj { OR conj }
--     conj   := factor { AND factor }
--     factor := [ NOT ] ( "(" cond ")" | EXISTS "(" select ")" | predicate )
--     select := SELECT [ ALL | DISTINCT ] list FROM joined { "," joined } [ WHERE cond ]
--     joined := entry { [ INNER ] JOIN entry ON cond | CROSS JOIN entry }
use Rattle.std.specs.Prelude.{ℕ, ◌+◌, ◌≡◌, Bool, List, [], ◌∷◌, ◌++◌, length, Option, Some, None}
use Rattle.lint_base.specs.declared.place.Span.{Span}
use Rattle.lint_tables.specs.declared.op.Op.{Op}
use Rattle.sql_lex.specs.declared.token.Sign.TheVariants.{Open, Close, Comma, Compare as Operator}
use Rattle.sql_lex.specs.declared.token.Token.{Token}
use Rattle.sql_tree.specs.declared.term.NameTree.{NameTree}
use Rattle.sql_tree.specs.declared.term.TermTree.{TermTree}
use Rattle.sql_tree.specs.declared.select.ItemTree.{ItemTree}
use Rattle.sql_tree.specs.declared.select.EntryTree.{EntryTree}
use Rattle.sql_tree.specs.declared.select.SelectTree.{SelectTree, out-SelectTree, roll-SelectTree}
use Rattle.sql_tree.specs.declared.select.CondTree.{CondTree}
use Rattle.sql_tree.specs.declared.select.CondTree.TheVariants.{And, Or, Not, Scalar, InSelect, Exists}
use Rattle.sql_parse.specs.grammar.Words.{word, sign, span_of, MayBe, AND, CROSS, EXISTS, FROM, IN, INNER, JOIN, NOT, ON, OR, SELECT, WHERE}
use Rattle.sql_parse.specs.grammar.Terms.{SpellsTerm}
use Rattle.sql_parse.specs.grammar.Predicates.{SpellsNot, SpellsPredicate}
use Rattle.sql_parse.specs.grammar.Items.{SpellsQuantifier, SpellsItems, SpellsEntry}

-- the levels of a condition: cond, conj, factor, and what NOT stands before
pub data Level : Type 0 where
  Disjunction : Level
  Conjunction : Level
  Factor : Level
  Primary : Level

-- one part alone is that part; more are joined
abbrev pub alone_or : (List CondTree → CondTree) → List CondTree → CondTree
alone_or join [] = join []
alone_or join (part ∷ []) = part
alone_or join (part ∷ next ∷ parts) = join (part ∷ next ∷ parts)

abbrev pub select_tree : Option Span → List ItemTree → List EntryTree → Option CondTree → Span → SelectTree
select_tree distinct items from filter span = roll-SelectTree (record { distinct = distinct; items = items; from = from; filter = filter; span = span })

abbrev pub entry_tree : NameTree → Option NameTree → Option CondTree → ℕ → EntryTree
entry_tree table alias on first = record { table = table; alias = alias; on = on; first = first }

mutual
  -- a condition of a level
  pub data SpellsCond : Level → CondTree → List Token → Type 0 where
    -- conj { OR conj }
    disjunction : {tree : CondTree} {tokens : List Token} (parts : List CondTree) →
        tree ≡ alone_or Or parts →
        SpellsJoined Conjunction OR parts tokens →
        SpellsCond Disjunction tree tokens
    -- factor { AND factor }
    conjunction : {tree : CondTree} {tokens : List Token} (parts : List CondTree) →
        tree ≡ alone_or And parts →
        SpellsJoined Factor AND parts tokens →
        SpellsCond Conjunction tree tokens
    plain : {tree : CondTree} {tokens : List Token} →
        SpellsCond Primary tree tokens →
        SpellsCond Factor tree tokens
    -- NOT
    negation : {tree : CondTree} {tokens : List Token} (inner : CondTree) (not_at : Span) (own : List Token) →
        tree ≡ Not inner →
        tokens ≡ word NOT not_at ∷ own →
        SpellsCond Primary inner own →
        SpellsCond Factor tree tokens
    -- "(" cond ")"
    parenthesized : {tree : CondTree} {tokens : List Token} (open_at : Span) (own : List Token) (close_at : Span) →
        tokens ≡ sign Open open_at ∷ own ++ sign Close close_at ∷ [] →
        SpellsCond Disjunction tree own →
        SpellsCond Primary tree tokens
    -- EXISTS "(" select ")"
    exists : {tree : CondTree} {tokens : List Token} (select : SelectTree) (exists_at : Span) (inner : List Token) →
        tree ≡ Exists select (span_of tokens) →
        tokens ≡ word EXISTS exists_at ∷ inner →
        SpellsSubquery select inner →
        SpellsCond Primary tree tokens
    -- term op "(" scalar ")", where scalar is a select without DISTINCT
    scalar : {tree : CondTree} {tokens : List Token} (op : Op) (left : TermTree) (select : SelectTree) (own : List Token) (op_at : Span) (inner : List Token) →
        tree ≡ Scalar op left select (span_of tokens) →
        tokens ≡ own ++ sign (Operator op) op_at ∷ inner →
        SpellsTerm left own →
        SpellsSubquery select inner →
        (out-SelectTree select).distinct ≡ None →
        SpellsCond Primary tree tokens
    -- term [ NOT ] IN "(" select ")"
    in_select : {tree : CondTree} {tokens : List Token} (term : TermTree) (select : SelectTree) (negated : Bool) (own not_word : List Token) (in_at : Span) (inner : List Token) →
        tree ≡ InSelect term select negated (span_of tokens) →
        tokens ≡ own ++ (not_word ++ word IN in_at ∷ inner) →
        SpellsTerm term own →
        SpellsNot negated not_word →
        SpellsSubquery select inner →
        SpellsCond Primary tree tokens
    predicate : {tree : CondTree} {tokens : List Token} →
        SpellsPredicate tree tokens →
        SpellsCond Primary tree tokens

  -- part { joint part }, where the parts are of one level
  pub data SpellsJoined : Level → ℕ → List CondTree → List Token → Type 0 where
    last : {level : Level} {joint : ℕ} {parts : List CondTree} {tokens : List Token} (part : CondTree) →
        parts ≡ part ∷ [] →
        SpellsCond level part tokens →
        SpellsJoined level joint parts tokens
    more : {level : Level} {joint : ℕ} {parts : List CondTree} {tokens : List Token} (part : CondTree) (others : List CondTree) (own : List Token) (joint_at : Span) (rest : List Token) →
        parts ≡ part ∷ others →
        tokens ≡ own ++ word joint joint_at ∷ rest →
        SpellsCond level part own →
        SpellsJoined level joint others rest →
        SpellsJoined level joint parts tokens

  -- "(" select ")", whose place runs from parenthesis to parenthesis
  pub data SpellsSubquery : SelectTree → List Token → Type 0 where
    subquery : {select : SelectTree} {tokens : List Token} (open_at : Span) (own : List Token) (close_at : Span) →
        tokens ≡ sign Open open_at ∷ own ++ sign Close close_at ∷ [] →
        SpellsSelect (span_of tokens) select own →
        SpellsSubquery select tokens

  -- a select, which is given its place
  pub data SpellsSelect : Span → SelectTree → List Token → Type 0 where
    select : {span : Span} {tree : SelectTree} {tokens : List Token} (distinct : Option Span) (items : List ItemTree) (entries : List EntryTree) (filter : Option CondTree) →
        (select_at : Span) (quantifier listed : List Token) (from_at : Span) (groups condition : List Token) →
        tree ≡ select_tree distinct items entries filter span →
        tokens ≡ word SELECT select_at ∷ quantifier ++ (listed ++ (word FROM from_at ∷ groups ++ condition)) →
        SpellsQuantifier distinct quantifier →
        SpellsItems items listed →
        SpellsGroups 0 entries groups →
        SpellsWhere filter condition →
        SpellsSelect span tree tokens

  -- [ WHERE cond ]
  pub data SpellsWhere : Option CondTree → List Token → Type 0 where
    everything : {filter : Option CondTree} {tokens : List Token} →
        filter ≡ None →
        tokens ≡ [] →
        SpellsWhere filter tokens
    filtered : {filter : Option CondTree} {tokens : List Token} (tree : CondTree) (where_at : Span) (own : List Token) →
        filter ≡ Some tree →
        tokens ≡ word WHERE where_at ∷ own →
        SpellsCond Disjunction tree own →
        SpellsWhere filter tokens

  -- joined { "," joined }, from the entry of this number on
  pub data SpellsGroups : ℕ → List EntryTree → List Token → Type 0 where
    last_group : {first : ℕ} {entries : List EntryTree} {tokens : List Token} →
        SpellsGroup first entries tokens →
        SpellsGroups first entries tokens
    more_groups : {first : ℕ} {entries : List EntryTree} {tokens : List Token} (group others : List EntryTree) (own : List Token) (comma_at : Span) (rest : List Token) →
        entries ≡ group ++ others →
        tokens ≡ own ++ sign Comma comma_at ∷ rest →
        SpellsGroup first group own →
        SpellsGroups (first + length group) others rest →
        SpellsGroups first entries tokens

  -- joined := entry { join }: each entry has the number of the group's first
  pub data SpellsGroup : ℕ → List EntryTree → List Token → Type 0 where
    group : {first : ℕ} {entries : List EntryTree} {tokens : List Token} (table : NameTree) (alias : Option NameTree) (others : List EntryTree) (own rest : List Token) →
        entries ≡ entry_tree table alias None first ∷ others →
        tokens ≡ own ++ rest →
        SpellsEntry table alias own →
        SpellsJoins first others rest →
        SpellsGroup first entries tokens

  -- { [ INNER ] JOIN entry ON cond | CROSS JOIN entry }
  pub data SpellsJoins : ℕ → List EntryTree → List Token → Type 0 where
    no_join : {first : ℕ} {entries : List EntryTree} {tokens : List Token} →
        entries ≡ [] →
        tokens ≡ [] →
        SpellsJoins first entries tokens
    inner_join : {first : ℕ} {entries : List EntryTree} {tokens : List Token} (table : NameTree) (alias : Option NameTree) (tree : CondTree) (others : List EntryTree) →
        (inner_word : List Token) (join_at : Span) (own : List Token) (on_at : Span) (condition rest : List Token) →
        entries ≡ entry_tree table alias (Some tree) first ∷ others →
        tokens ≡ inner_word ++ (word JOIN join_at ∷ own ++ (word ON on_at ∷ condition ++ rest)) →
        MayBe INNER inner_word →
        SpellsEntry table alias own →
        SpellsCond Disjunction tree condition →
        SpellsJoins first others rest →
        SpellsJoins first entries tokens
    cross_join : {first : ℕ} {entries : List EntryTree} {tokens : List Token} (table : NameTree) (alias : Option NameTree) (others : List EntryTree) (cross_at join_at : Span) (own rest : List Token) →
        entries ≡ entry_tree table alias None first ∷ others →
        tokens ≡ word CROSS cross_at ∷ word JOIN join_at ∷ own ++ rest →
        SpellsEntry table alias own →
        SpellsJoins first others rest →
        SpellsJoins first entries tokens
