-- What a SELECT begins with, and its entries by themselves, are read whole.
use Rattle.std.proofs.Common.{pos, ◌≤◌, ◌≡◌, refl, ◌∙◌, Bool, false, List, [], ◌∷◌, ◌++◌, length, Option, Some, None, lit≤, arith, ◌⊎◌, inl, inr}
use Rattle.std.proofs.lemmas.List.{append_assoc}
use Rattle.lint_base.specs.declared.place.Span.{Span}
use Rattle.sql_lex.specs.declared.token.Token.{Token}
use Rattle.sql_tree.specs.declared.term.NameTree.{NameTree}
use Rattle.sql_tree.specs.declared.term.TermTree.{TermTree}
use Rattle.sql_tree.specs.declared.term.TermTree.TheVariants.{Column}
use Rattle.sql_tree.specs.declared.select.ItemTree.{ItemTree}
use Rattle.sql_tree.specs.declared.select.ItemTree.TheVariants.{Star, StarOf, Term}
use Rattle.sql_parse.specs.grammar.Words.{MayBe, ALL, AS}
use Rattle.sql_parse.specs.grammar.Lists.{SpellsList}
use Rattle.sql_parse.specs.grammar.Names.{name_token, SpellsAlias}
use Rattle.sql_parse.specs.grammar.Terms as term
use Rattle.sql_parse.specs.grammar.Terms.{SpellsBareColumn, SpellsLiteral, SpellsColumn}
use Rattle.sql_parse.specs.grammar.Items as item
use Rattle.sql_parse.specs.grammar.Items.{SpellsQuantifier, SpellsItem, SpellsItems, SpellsEntry}
use Rattle.sql_parse.specs.inner.readers.Tokens.{found, and_then, is_word, is_dot, is_star, is_open, is_name, at_head, expect, place_before, read_after}
use Rattle.sql_parse.specs.inner.readers.Terms.{name_from, read_name, read_alias}
use Rattle.sql_parse.specs.inner.readers.Items.{read_quantifier, item_after, dotted_item, named_item, read_item, read_items, read_entry}
use Rattle.sql_parse.proofs.CompleteTokens.{place_is, kind_rank, place_rank, rank, no_dot, no_name, no_word}
use Rattle.sql_parse.proofs.CompleteLists.{list_read}
use Rattle.sql_parse.proofs.CompleteTerms.{literal_read, literal_not_named}
use Rattle.sql_parse.proofs.CompletePredicates.{Heads, column_heads, value_heads}

-- [ [ AS ] name ]
named_alias : (name : NameTree) (quoted : Bool) (as_word tokens : List Token) → tokens ≡ as_word ++ name_token name quoted ∷ [] → MayBe AS as_word →
    (rest : List Token) → read_alias (tokens ++ rest) ≡ found (Some name) rest
unfolding read_alias read_after expect read_name name_from and_then at_head is_word is_name
named_alias name quoted as_word tokens whole (inl e) rest = rw (whole, e) refl
named_alias name quoted as_word tokens whole (inr s) rest = rw (whole, s.1) refl

alias_read : (alias : Option NameTree) (tokens : List Token) → SpellsAlias alias tokens → (rest : List Token) → 5 ≤ rank rest → read_alias (tokens ++ rest) ≡ found alias rest
unfolding read_alias place_rank
alias_read None tokens s rest h = rw (s, no_word AS rest h, no_name rest h) refl
alias_read (Some name) tokens s rest h = named_alias name s.0 s.1 tokens s.2 s.3 rest

named_rank : (name : NameTree) (quoted : Bool) (as_word tokens : List Token) → tokens ≡ as_word ++ name_token name quoted ∷ [] → MayBe AS as_word →
    (rest : List Token) → 1 ≤ rank (tokens ++ rest)
unfolding rank kind_rank place_rank
named_rank name quoted as_word tokens whole (inl e) rest = rw (whole, e) (lit≤ tt)
named_rank name quoted as_word tokens whole (inr s) rest = rw (whole, s.1) (lit≤ tt)

alias_rank : (alias : Option NameTree) (tokens : List Token) → SpellsAlias alias tokens → (rest : List Token) → 5 ≤ rank rest → 1 ≤ rank (tokens ++ rest)
alias_rank None tokens s rest h = rw s (omega arith)
alias_rank (Some name) tokens s rest h = named_rank name s.0 s.1 tokens s.2 s.3 rest

-- [ ALL | DISTINCT ], where DISTINCT may stand only if the SELECT is no scalar one
abbrev pub MayHave : Bool → Option Span → Type 0
MayHave scalar distinct = (scalar ≡ false) ⊎ (distinct ≡ None)

maybe_all : (scalar : Bool) (tokens : List Token) → MayBe ALL tokens → (rest : List Token) → Heads rest → read_quantifier scalar (tokens ++ rest) ≡ found None rest
unfolding read_quantifier expect and_then at_head is_word Heads
maybe_all scalar tokens (inl e) rest h = rw (e, h.4, h.5) refl
maybe_all scalar tokens (inr s) rest h = rw s.1 refl

distinct_read : (scalar : Bool) (at : Span) (tokens : List Token) → SpellsQuantifier (Some at) tokens → MayHave scalar (Some at) → (rest : List Token) →
    read_quantifier scalar (tokens ++ rest) ≡ found (Some at) rest
unfolding read_quantifier expect and_then at_head is_word
distinct_read scalar at tokens s (inl e) rest = rw (s, e) refl
distinct_read scalar at tokens s (inr e) rest = cc

quantifier_read : (scalar : Bool) (distinct : Option Span) (tokens : List Token) → SpellsQuantifier distinct tokens → MayHave scalar distinct → (rest : List Token) → Heads rest →
    read_quantifier scalar (tokens ++ rest) ≡ found distinct rest
quantifier_read scalar None tokens s m rest h = maybe_all scalar tokens s rest h
quantifier_read scalar (Some at) tokens s m rest h = distinct_read scalar at tokens s m rest

-- an item
column_item : (table : Option NameTree) (name : NameTree) (tokens : List Token) → SpellsColumn table name tokens → (rest : List Token) → 1 ≤ rank rest →
    read_item (tokens ++ rest) ≡ item_after (tokens ++ rest) (Column table name (pos 0) (place_before (tokens ++ rest) rest)) rest
unfolding read_item named_item dotted_item expect read_name name_from and_then at_head is_name is_dot is_star
column_item None name tokens s rest h = rw (s.1, no_dot rest h) refl
column_item (Some table) name tokens s rest h = rw s.3 refl

literal_item : (tree : TermTree) (tokens : List Token) → SpellsLiteral tree tokens → (rest : List Token) → read_item (tokens ++ rest) ≡ item_after (tokens ++ rest) tree rest
unfolding read_item and_then
literal_item tree tokens s rest = rw (literal_not_named tree tokens s rest, literal_read tree tokens s rest) refl

term_item : (tree : TermTree) (tokens : List Token) → SpellsBareColumn tree tokens ⊎ SpellsLiteral tree tokens → (rest : List Token) → 1 ≤ rank rest →
    read_item (tokens ++ rest) ≡ item_after (tokens ++ rest) tree rest
term_item tree tokens (inl s) rest h = column_item s.table s.name tokens s.column rest h ∙ rw (place_is tokens rest, s.tree) refl
term_item tree tokens (inr s) rest h = literal_item tree tokens s rest

aliased : (tokens : List Token) (tree : TermTree) (alias : Option NameTree) (own : List Token) → SpellsAlias alias own → (rest : List Token) → 5 ≤ rank rest →
    item_after tokens tree (own ++ rest) ≡ found (Term tree alias) rest
unfolding item_after and_then
aliased tokens tree alias own s rest h = rw (alias_read alias own s rest h) refl

item_read : (tree : ItemTree) (tokens : List Token) → SpellsItem tree tokens → (rest : List Token) → 5 ≤ rank rest → read_item (tokens ++ rest) ≡ found tree rest
unfolding read_item named_item dotted_item expect read_name name_from and_then at_head is_name is_dot is_star
item_read (Star at) tokens s rest h = absurd s
item_read (StarOf table star) tokens s rest h = rw s.2 refl
item_read (Term tree alias) tokens s rest h =
    rw (s.2, append_assoc s.0 s.1 rest)
    (term_item tree s.0 s.3 (s.1 ++ rest) (alias_rank alias s.1 s.4 rest h) ∙ aliased (s.0 ++ (s.1 ++ rest)) tree alias s.1 s.4 rest h)

-- a list of items
term_item_heads : (tree : TermTree) (tokens : List Token) → SpellsBareColumn tree tokens ⊎ SpellsLiteral tree tokens → (rest : List Token) → Heads (tokens ++ rest)
term_item_heads tree tokens (inl s) rest = column_heads s.table s.name tokens s.column rest
term_item_heads tree tokens (inr s) rest = value_heads tree tokens (term.literal s) rest

item_heads : (tree : ItemTree) (tokens : List Token) → SpellsItem tree tokens → (rest : List Token) → Heads (tokens ++ rest)
unfolding Heads at_head is_open is_star is_word
item_heads (Star at) tokens s rest = absurd s
item_heads (StarOf table star) tokens s rest = rw s.2 (refl, refl, refl, refl, refl, refl, refl)
item_heads (Term tree alias) tokens s rest = rw (s.2, append_assoc s.0 s.1 rest) (term_item_heads tree s.0 s.3 (s.1 ++ rest))

list_heads : (items : List ItemTree) (tokens : List Token) → SpellsList SpellsItem items tokens → (rest : List Token) → Heads (tokens ++ rest)
list_heads [] tokens s rest = absurd s
list_heads (part ∷ parts) tokens s rest = rw (s.2, append_assoc s.0 s.1 rest) (item_heads part s.0 s.3 (s.1 ++ rest))

-- the quantifier before any items
pub items_quantified : (scalar : Bool) (distinct : Option Span) (tokens : List Token) → SpellsQuantifier distinct tokens → MayHave scalar distinct →
    (items : List ItemTree) (listed : List Token) → SpellsItems items listed → (rest : List Token) → read_quantifier scalar (tokens ++ (listed ++ rest)) ≡ found distinct (listed ++ rest)
unfolding read_quantifier expect and_then at_head is_word
items_quantified scalar distinct tokens s m items listed (item.listed l) rest = quantifier_read scalar distinct tokens s m (listed ++ rest) (list_heads items listed l rest)
items_quantified scalar None tokens (inl e) m items listed (item.star at f whole) rest = rw (e, whole) refl
items_quantified scalar None tokens (inr s) m items listed (item.star at f whole) rest = rw s.1 refl
items_quantified scalar (Some place) tokens s m items listed (item.star at f whole) rest = distinct_read scalar place tokens s m (listed ++ rest)

pub items_read : (items : List ItemTree) (tokens : List Token) → SpellsItems items tokens → (rest : List Token) → 7 ≤ rank rest → read_items (tokens ++ rest) ≡ found items rest
unfolding read_items expect and_then at_head is_star Heads
items_read items tokens (item.star at e whole) rest r = rw (e, whole) refl
items_read items tokens (item.listed l) rest r =
    rw (list_heads items tokens l rest).6
    (list_read SpellsItem read_item 5 (lit≤ tt) (length tokens) (λ a own s small rest r. item_read a own s rest r) items tokens l (omega arith) rest r)

-- an entry
pub entry_read : (table : NameTree) (alias : Option NameTree) (tokens : List Token) → SpellsEntry table alias tokens → (rest : List Token) → 5 ≤ rank rest →
    read_entry (tokens ++ rest) ≡ found (table, alias) rest
unfolding read_entry read_name name_from and_then
entry_read table alias tokens s rest h = rw (s.whole, alias_read alias s.rest s.visible rest h) refl
