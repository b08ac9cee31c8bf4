-- Names, values, columns and terms are read whole.
use Rattle.std.proofs.Common.{ℕ, ℤ, pos, int_le, ◌≤◌, ◌≡◌, refl, ap, ◌∙◌, true, false, List, ◌∷◌, ◌++◌, Option, Some, None, lit≤, arith}
use Rattle.std.proofs.lemmas.Bool.{le-leb}
use Rattle.std.proofs.lemmas.List.{append_assoc}
use Rattle.lint_base.specs.declared.place.Span.{Span}
use Rattle.sql_lex.specs.declared.token.Token.{Token}
use Rattle.sql_tree.specs.declared.term.NameTree.{NameTree}
use Rattle.sql_tree.specs.declared.term.TermTree.{TermTree}
use Rattle.sql_tree.specs.declared.term.TermTree.TheVariants.{Column, Number}
use Rattle.sql_parse.specs.grammar.Words.{number, span_of, NULL}
use Rattle.sql_parse.specs.grammar.Names.{SpellsName}
use Rattle.sql_parse.specs.grammar.Terms as term
use Rattle.sql_parse.specs.grammar.Terms.{SpellsSigned, SpellsLiteral, SpellsValue, SpellsColumn, SpellsBareColumn, SpellsSum, SpellsTerm}
use Rattle.sql_parse.specs.inner.readers.Tokens.{found, and_then, is_word, is_dot, is_plus, is_name, at_head, expect, place_before, read_after}
use Rattle.sql_parse.specs.inner.readers.Terms.{name_from, read_name, number_from, read_number, signed_from, read_signed, literal_from, read_literal, read_value, Named, column_after, read_column, read_bare, term_after, read_term}
use Rattle.sql_parse.proofs.CompleteTokens.{place_is, kind_rank, rank, no_dot, no_plus}

pub name_read : (name : NameTree) (tokens : List Token) → SpellsName name tokens → (rest : List Token) → read_name (tokens ++ rest) ≡ found name rest
unfolding read_name name_from
name_read name tokens s rest = rw s.1 refl

pub column_read : (table : Option NameTree) (name : NameTree) (tokens : List Token) → SpellsColumn table name tokens → (rest : List Token) → 1 ≤ rank rest →
    read_column (tokens ++ rest) ≡ found (table, name) rest
unfolding read_column column_after read_after expect read_name name_from at_head is_dot and_then
column_read None name tokens s rest h = rw (s.1, no_dot rest h) refl
column_read (Some table) name tokens s rest h = rw s.3 refl

pub column_named : (table : Option NameTree) (name : NameTree) (tokens : List Token) → SpellsColumn table name tokens → (rest : List Token) → at_head is_name (tokens ++ rest) ≡ true
unfolding at_head is_name
column_named None name tokens s rest = rw s.1 refl
column_named (Some table) name tokens s rest = rw s.3 refl

-- a number has no sign
unsigned : (n : ℕ) → int_le (pos 0) (pos n) ≡ true
unsigned n = le-leb 0 n (omega arith)

pub number_is_read : (n : ℕ) (at : Span) (rest : List Token) → read_number (number n at ∷ rest) ≡ found (pos n, at) rest
unfolding read_number number_from
number_is_read n at rest = rw (unsigned n) refl

pub signed_read : (value : ℤ) (tokens : List Token) → SpellsSigned value tokens → (rest : List Token) → read_signed (tokens ++ rest) ≡ found value rest
unfolding read_signed signed_from and_then
signed_read value tokens (term.plus at place n e whole) rest = rw (whole, e, number_is_read n place rest) refl
signed_read value tokens (term.minus at place n e whole) rest = rw (whole, e, number_is_read n place rest) refl

placed_number : (tokens : List Token) (value : ℤ) (rest : List Token) → read_signed (tokens ++ rest) ≡ found value rest →
    and_then (read_signed (tokens ++ rest)) (λ n left. found (Number n (place_before (tokens ++ rest) left)) left) ≡ found (Number value (span_of tokens)) rest
unfolding and_then
placed_number tokens value rest e = rw (e, place_is tokens rest) refl

signed_begins : (value : ℤ) (tokens : List Token) → SpellsSigned value tokens → (rest : List Token) →
    read_literal (tokens ++ rest) ≡ and_then (read_signed (tokens ++ rest)) (λ n left. found (Number n (place_before (tokens ++ rest) left)) left)
unfolding read_literal literal_from
signed_begins value tokens (term.plus at place n v whole) rest = rw whole refl
signed_begins value tokens (term.minus at place n v whole) rest = rw whole refl

pub literal_read : (tree : TermTree) (tokens : List Token) → SpellsLiteral tree tokens → (rest : List Token) → read_literal (tokens ++ rest) ≡ found tree rest
unfolding read_literal literal_from and_then
literal_read tree tokens (term.unsigned value at e whole) rest = rw (e, whole, number_is_read value at rest) refl
literal_read tree tokens (term.signed value e s) rest = rw e (signed_begins value tokens s rest ∙ placed_number tokens value rest (signed_read value tokens s rest))
literal_read tree tokens (term.quoted characters at e whole) rest = rw (e, whole) refl

literal_not_null : (tree : TermTree) (tokens : List Token) → SpellsLiteral tree tokens → (rest : List Token) → at_head (is_word NULL) (tokens ++ rest) ≡ false
unfolding at_head is_word
literal_not_null tree tokens (term.unsigned value at e whole) rest = rw whole refl
literal_not_null tree tokens (term.signed value e (term.plus at place n v whole)) rest = rw whole refl
literal_not_null tree tokens (term.signed value e (term.minus at place n v whole)) rest = rw whole refl
literal_not_null tree tokens (term.quoted characters at e whole) rest = rw whole refl

pub literal_not_named : (tree : TermTree) (tokens : List Token) → SpellsLiteral tree tokens → (rest : List Token) → at_head is_name (tokens ++ rest) ≡ false
unfolding at_head is_name
literal_not_named tree tokens (term.unsigned value at e whole) rest = rw whole refl
literal_not_named tree tokens (term.signed value e (term.plus at place n v whole)) rest = rw whole refl
literal_not_named tree tokens (term.signed value e (term.minus at place n v whole)) rest = rw whole refl
literal_not_named tree tokens (term.quoted characters at e whole) rest = rw whole refl

literal_value : (tree : TermTree) (tokens : List Token) → SpellsLiteral tree tokens → (rest : List Token) → read_value (tokens ++ rest) ≡ found tree rest
unfolding read_value
literal_value tree tokens s rest = rw (literal_not_null tree tokens s rest) (literal_read tree tokens s rest)

pub value_read : (tree : TermTree) (tokens : List Token) → SpellsValue tree tokens → (rest : List Token) → read_value (tokens ++ rest) ≡ found tree rest
unfolding read_value at_head is_word expect and_then
value_read tree tokens (term.literal s) rest = literal_value tree tokens s rest
value_read tree tokens (term.null at e whole) rest = rw (e, whole) refl

value_not_named : (tree : TermTree) (tokens : List Token) → SpellsValue tree tokens → (rest : List Token) → at_head is_name (tokens ++ rest) ≡ false
unfolding at_head is_name
value_not_named tree tokens (term.literal s) rest = literal_not_named tree tokens s rest
value_not_named tree tokens (term.null at e whole) rest = rw whole refl

-- a column to which nothing is added
pub bare_read : (tree : TermTree) (tokens : List Token) → SpellsBareColumn tree tokens → (rest : List Token) → 1 ≤ rank rest → read_bare (tokens ++ rest) ≡ found tree rest
unfolding read_bare and_then
bare_read tree tokens s rest h = rw (column_read s.table s.name tokens s.column rest h, place_is tokens rest, s.tree) refl

-- a term
begun_term : (tokens rest : List Token) (c : Named) → at_head is_name tokens ≡ true → read_column tokens ≡ found c rest → read_term tokens ≡ term_after tokens c rest
unfolding read_term and_then
begun_term tokens rest c h e = rw (h, e) refl

bare_term : (tree : TermTree) (tokens : List Token) → SpellsBareColumn tree tokens → (rest : List Token) → 2 ≤ rank rest → read_term (tokens ++ rest) ≡ found tree rest
unfolding term_after
bare_term tree tokens s rest h =
    begun_term (tokens ++ rest) rest (s.table, s.name) (column_named s.table s.name tokens s.column rest) (column_read s.table s.name tokens s.column rest (omega arith))
    ∙ rw (no_plus rest h, place_is tokens rest, s.tree) refl

signed_rank : (value : ℤ) (tokens : List Token) → SpellsSigned value tokens → (rest : List Token) → 1 ≤ rank (tokens ++ rest)
unfolding rank kind_rank
signed_rank value tokens (term.plus at place n v whole) rest = rw whole (lit≤ tt)
signed_rank value tokens (term.minus at place n v whole) rest = rw whole (lit≤ tt)

signed_head : (value : ℤ) (tokens : List Token) → SpellsSigned value tokens → (rest : List Token) → at_head is_plus (tokens ++ rest) ≡ true
unfolding at_head is_plus
signed_head value tokens (term.plus at place n v whole) rest = rw whole refl
signed_head value tokens (term.minus at place n v whole) rest = rw whole refl

sum_after : (whole : List Token) (c : Named) (added : ℤ) (own : List Token) → SpellsSigned added own → (rest : List Token) →
    term_after whole c (own ++ rest) ≡ found (Column c.0 c.1 added (place_before whole rest)) rest
unfolding term_after and_then
sum_after whole c added own s rest = rw (signed_head added own s rest, signed_read added own s rest) refl

sum_term : (tree : TermTree) (tokens : List Token) → SpellsSum tree tokens → (rest : List Token) → read_term (tokens ++ rest) ≡ found tree rest
sum_term tree tokens s rest =
    let split : tokens ++ rest ≡ s.own ++ (s.rest ++ rest) = ap (λ ts. ts ++ rest) s.whole ∙ append_assoc s.own s.rest rest in
    begun_term (tokens ++ rest) (s.rest ++ rest) (s.table, s.name)
    (rw split (column_named s.table s.name s.own s.column (s.rest ++ rest)))
    (rw split (column_read s.table s.name s.own s.column (s.rest ++ rest) (signed_rank s.added s.rest s.sum rest)))
    ∙ sum_after (tokens ++ rest) (s.table, s.name) s.added s.rest s.sum rest
    ∙ rw (place_is tokens rest, s.tree) refl

value_term : (tree : TermTree) (tokens : List Token) → SpellsValue tree tokens → (rest : List Token) → read_term (tokens ++ rest) ≡ found tree rest
unfolding read_term
value_term tree tokens s rest = rw (value_not_named tree tokens s rest) (value_read tree tokens s rest)

pub term_read : (tree : TermTree) (tokens : List Token) → SpellsTerm tree tokens → (rest : List Token) → 2 ≤ rank rest → read_term (tokens ++ rest) ≡ found tree rest
term_read tree tokens (term.column s) rest h = bare_term tree tokens s rest h
term_read tree tokens (term.sum s) rest h = sum_term tree tokens s rest
term_read tree tokens (term.value s) rest h = value_term tree tokens s rest
