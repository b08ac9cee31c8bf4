-- Predicates without a subquery are read whole, whatever reads subqueries.
use Rattle.std.proofs.Common.{ℕ, ◌≤◌, ◌≡◌, refl, ap, ◌∙◌, Bool, true, false, nat_eq, List, [], ◌∷◌, ◌++◌, length, Option, Some, None, lit≤, arith}
use Rattle.std.proofs.lemmas.List.{append_assoc}
use Rattle.lint_base.specs.declared.place.Span.{Span}
use Rattle.sql_lex.specs.declared.token.Sign.TheVariants.{Open, Close, Compare as Operator}
use Rattle.sql_lex.specs.declared.token.Token.{Token}
use Rattle.sql_tree.specs.declared.term.NameTree.{NameTree}
use Rattle.sql_tree.specs.declared.term.TermTree.{TermTree}
use Rattle.sql_tree.specs.declared.select.SelectTree.{SelectTree}
use Rattle.sql_tree.specs.declared.select.CondTree.{CondTree}
use Rattle.sql_parse.specs.grammar.Words.{word, sign, ALL, AND, BETWEEN, DISTINCT, EXISTS, IN, IS, NOT, NULL, SELECT}
use Rattle.sql_parse.specs.grammar.Lists.{SpellsList}
use Rattle.sql_parse.specs.grammar.Terms as term
use Rattle.sql_parse.specs.grammar.Terms.{SpellsTerm, SpellsValue, SpellsColumn}
use Rattle.sql_parse.specs.grammar.Predicates as predicate
use Rattle.sql_parse.specs.grammar.Predicates.{SpellsNot, SpellsPredicate, SpellsCompare, SpellsIsNull, SpellsBetween, SpellsInList}
use Rattle.sql_parse.specs.inner.readers.Tokens.{Read, found, and_then, is_word, is_comma, is_open, is_close, is_star, at_head, expect, read_separated}
use Rattle.sql_parse.specs.inner.readers.Terms.{read_term, read_value}
use Rattle.sql_parse.specs.inner.readers.Predicates.{read_not, comparison_rest, null_rest, between_rest, values_rest, list_or_select, in_rest, negatable, predicate_from, predicate_rest, read_predicate}
use Rattle.sql_parse.proofs.CompleteTokens.{place_is, kind_rank, place_rank, rank}
use Rattle.sql_parse.proofs.CompleteLists.{list_read}
use Rattle.sql_parse.proofs.CompleteTerms.{term_read, value_read}

pub not_read : (negated : Bool) (tokens : List Token) → SpellsNot negated tokens → (rest : List Token) → at_head (is_word NOT) rest ≡ false →
    read_not (tokens ++ rest) ≡ found negated rest
unfolding read_not expect and_then at_head is_word
not_read false tokens s rest h = rw (s, h) refl
not_read true tokens s rest h = rw s.1 refl

pub not_rank : (negated : Bool) (tokens : List Token) → SpellsNot negated tokens → (rest : List Token) → 2 ≤ rank rest → 2 ≤ rank (tokens ++ rest)
unfolding rank kind_rank place_rank
not_rank false tokens s rest r = rw s r
not_rank true tokens s rest r = rw s.1 (lit≤ tt)

-- a predicate from its term on
pub predicate_started : (sub : Bool → List Token → Read SelectTree) (tokens : List Token) (tree : TermTree) (rest : List Token) → read_term tokens ≡ found tree rest →
    read_predicate sub tokens ≡ predicate_rest sub tokens tree rest
unfolding read_predicate and_then
predicate_started sub tokens tree rest e = rw e refl

-- from BETWEEN or IN on, which NOT may stand before
pub negatable_started : (sub : Bool → List Token → Read SelectTree) (tokens : List Token) (tree : TermTree) (negated : Bool) (not_word : List Token) (place : ℕ) (at : Span) (rest : List Token) →
    SpellsNot negated not_word → nat_eq place IS ≡ false → nat_eq place NOT ≡ false →
    predicate_rest sub tokens tree (not_word ++ word place at ∷ rest) ≡ negatable sub tokens tree negated (word place at ∷ rest)
unfolding predicate_rest predicate_from read_not expect and_then at_head is_word
negatable_started sub tokens tree false not_word place at rest s e f = rw (s, e, f) refl
negatable_started sub tokens tree true not_word place at rest s e f = rw s.1 refl

-- what a term begins with
unfoldable pub Heads : List Token → Type 0
Heads tokens =
    (at_head is_open tokens ≡ false) × (at_head (is_word NOT) tokens ≡ false) × (at_head (is_word EXISTS) tokens ≡ false) × (at_head (is_word SELECT) tokens ≡ false)
    × (at_head (is_word DISTINCT) tokens ≡ false) × (at_head (is_word ALL) tokens ≡ false) × (at_head is_star tokens ≡ false)

pub column_heads : (table : Option NameTree) (name : NameTree) (tokens : List Token) → SpellsColumn table name tokens → (rest : List Token) → Heads (tokens ++ rest)
unfolding Heads at_head is_open is_star is_word
column_heads None name tokens s rest = rw s.1 (refl, refl, refl, refl, refl, refl, refl)
column_heads (Some table) name tokens s rest = rw s.3 (refl, refl, refl, refl, refl, refl, refl)

pub value_heads : (tree : TermTree) (tokens : List Token) → SpellsValue tree tokens → (rest : List Token) → Heads (tokens ++ rest)
unfolding Heads at_head is_open is_star is_word
value_heads tree tokens (term.literal (term.unsigned value at e whole)) rest = rw whole (refl, refl, refl, refl, refl, refl, refl)
value_heads tree tokens (term.literal (term.signed value e (term.plus at place n v whole))) rest = rw whole (refl, refl, refl, refl, refl, refl, refl)
value_heads tree tokens (term.literal (term.signed value e (term.minus at place n v whole))) rest = rw whole (refl, refl, refl, refl, refl, refl, refl)
value_heads tree tokens (term.literal (term.quoted characters at e whole)) rest = rw whole (refl, refl, refl, refl, refl, refl, refl)
value_heads tree tokens (term.null at e whole) rest = rw whole (refl, refl, refl, refl, refl, refl, refl)

pub term_heads : (tree : TermTree) (tokens : List Token) → SpellsTerm tree tokens → (rest : List Token) → Heads (tokens ++ rest)
term_heads tree tokens (term.column s) rest = column_heads s.table s.name tokens s.column rest
term_heads tree tokens (term.sum s) rest = rw (s.whole, append_assoc s.own s.rest rest) (column_heads s.table s.name s.own s.column (s.rest ++ rest))
term_heads tree tokens (term.value s) rest = value_heads tree tokens s rest

values_heads : (values : List TermTree) (tokens : List Token) → SpellsList SpellsValue values tokens → (rest : List Token) → at_head (is_word SELECT) (tokens ++ rest) ≡ false
unfolding Heads
values_heads [] tokens s rest = absurd s
values_heads (part ∷ parts) tokens s rest = rw (s.2, append_assoc s.0 s.1 rest) (value_heads part s.0 s.3 (s.1 ++ rest)).3

-- what begins with a term
pub begun_heads : {tree : TermTree} {tokens own : List Token} (tail : List Token) → tokens ≡ own ++ tail → SpellsTerm tree own → (rest : List Token) → Heads (tokens ++ rest)
begun_heads {tree} {tokens} {own} tail whole s rest = rw (whole, append_assoc own tail rest) (term_heads tree own s (tail ++ rest))

pub predicate_heads : (tree : CondTree) (tokens : List Token) → SpellsPredicate tree tokens → (rest : List Token) → Heads (tokens ++ rest)
predicate_heads tree tokens (predicate.compare s) rest = begun_heads _ s.whole s.left_term rest
predicate_heads tree tokens (predicate.is_null s) rest = begun_heads _ s.whole s.own_term rest
predicate_heads tree tokens (predicate.between s) rest = begun_heads _ s.whole s.own_term rest
predicate_heads tree tokens (predicate.in_list s) rest = begun_heads _ s.whole s.own_term rest

values_read : (values : List TermTree) (listed : List Token) → SpellsList SpellsValue values listed → (rest : List Token) → 7 ≤ rank rest →
    read_separated is_comma read_value (listed ++ rest) ≡ found values rest
values_read values listed s rest r =
    list_read SpellsValue read_value 0 (lit≤ tt) (length listed) (λ a tokens v small rest r. value_read a tokens v rest) values listed s (omega arith) rest r

module _ (sub : Bool → List Token → Read SelectTree) where
  compare_read : (tree : CondTree) (tokens : List Token) → SpellsCompare tree tokens → (rest : List Token) → 2 ≤ rank rest → read_predicate sub (tokens ++ rest) ≡ found tree rest
  unfolding predicate_rest predicate_from comparison_rest and_then rank kind_rank Heads
  compare_read tree tokens s rest r =
      let after : List Token = sign (Operator s.op) s.op_at ∷ s.after ++ rest in
      let split : tokens ++ rest ≡ s.before ++ after = ap (λ ts. ts ++ rest) s.whole ∙ append_assoc s.before (sign (Operator s.op) s.op_at ∷ s.after) rest in
      predicate_started sub (tokens ++ rest) s.left after (rw split (term_read s.left s.before s.left_term after (lit≤ tt)))
      ∙ rw ((term_heads s.right s.after s.right_term rest).0, term_read s.right s.after s.right_term rest r, place_is tokens rest, s.tree_is) refl

  is_null_read : (tree : CondTree) (tokens : List Token) → SpellsIsNull tree tokens → (rest : List Token) → read_predicate sub (tokens ++ rest) ≡ found tree rest
  unfolding predicate_rest predicate_from null_rest expect and_then at_head is_word rank kind_rank place_rank
  is_null_read tree tokens s rest =
      let tail : List Token = word IS s.is_at ∷ s.not_word ++ word NULL s.null_at ∷ [] in
      let after : List Token = word IS s.is_at ∷ s.not_word ++ word NULL s.null_at ∷ rest in
      let split : tokens ++ rest ≡ s.own ++ after =
      ap (λ ts. ts ++ rest) s.whole ∙ append_assoc s.own tail rest ∙ ap (λ ts. s.own ++ word IS s.is_at ∷ ts) (append_assoc s.not_word (word NULL s.null_at ∷ []) rest) in
      predicate_started sub (tokens ++ rest) s.term after (rw split (term_read s.term s.own s.own_term after (lit≤ tt)))
      ∙ rw (not_read s.negated s.not_word s.negation (word NULL s.null_at ∷ rest) refl, place_is tokens rest, s.tree_is) refl

  between_read : (tree : CondTree) (tokens : List Token) → SpellsBetween tree tokens → (rest : List Token) → 2 ≤ rank rest → read_predicate sub (tokens ++ rest) ≡ found tree rest
  unfolding negatable between_rest expect and_then at_head is_word rank kind_rank place_rank
  between_read tree tokens s rest r =
      let low : List Token = word BETWEEN s.between_at ∷ s.lower ++ word AND s.and_at ∷ s.upper in
      let high : List Token = word AND s.and_at ∷ s.upper ++ rest in
      let after : List Token = word BETWEEN s.between_at ∷ s.lower ++ high in
      let split : tokens ++ rest ≡ s.own ++ (s.not_word ++ after) =
      ap (λ ts. ts ++ rest) s.whole ∙ append_assoc s.own (s.not_word ++ low) rest ∙ ap (λ ts. s.own ++ ts) (append_assoc s.not_word low rest)
      ∙ ap (λ ts. s.own ++ (s.not_word ++ word BETWEEN s.between_at ∷ ts)) (append_assoc s.lower (word AND s.and_at ∷ s.upper) rest) in
      predicate_started sub (tokens ++ rest) s.term (s.not_word ++ after)
      (rw split (term_read s.term s.own s.own_term (s.not_word ++ after) (not_rank s.negated s.not_word s.negation after (lit≤ tt))))
      ∙ negatable_started sub (tokens ++ rest) s.term s.negated s.not_word BETWEEN s.between_at (s.lower ++ high) s.negation refl refl
      ∙ rw (term_read s.low s.lower s.low_term high (lit≤ tt), term_read s.high s.upper s.high_term rest r, place_is tokens rest, s.tree_is) refl

  in_list_read : (tree : CondTree) (tokens : List Token) → SpellsInList tree tokens → (rest : List Token) → read_predicate sub (tokens ++ rest) ≡ found tree rest
  unfolding negatable in_rest list_or_select values_rest expect and_then at_head is_word is_open is_close rank kind_rank place_rank
  in_list_read tree tokens s rest =
      let close : List Token = sign Close s.close_at ∷ rest in
      let list : List Token = word IN s.in_at ∷ sign Open s.open_at ∷ s.listed ++ sign Close s.close_at ∷ [] in
      let after : List Token = word IN s.in_at ∷ sign Open s.open_at ∷ s.listed ++ close in
      let split : tokens ++ rest ≡ s.own ++ (s.not_word ++ after) =
      ap (λ ts. ts ++ rest) s.whole ∙ append_assoc s.own (s.not_word ++ list) rest ∙ ap (λ ts. s.own ++ ts) (append_assoc s.not_word list rest)
      ∙ ap (λ ts. s.own ++ (s.not_word ++ word IN s.in_at ∷ sign Open s.open_at ∷ ts)) (append_assoc s.listed (sign Close s.close_at ∷ []) rest) in
      predicate_started sub (tokens ++ rest) s.term (s.not_word ++ after)
      (rw split (term_read s.term s.own s.own_term (s.not_word ++ after) (not_rank s.negated s.not_word s.negation after (lit≤ tt))))
      ∙ negatable_started sub (tokens ++ rest) s.term s.negated s.not_word IN s.in_at (sign Open s.open_at ∷ s.listed ++ close) s.negation refl refl
      ∙ rw (values_heads s.values s.listed s.values_listed close, values_read s.values s.listed s.values_listed close (lit≤ tt), place_is tokens rest, s.tree_is) refl

  pub predicate_read : (tree : CondTree) (tokens : List Token) → SpellsPredicate tree tokens → (rest : List Token) → 2 ≤ rank rest → read_predicate sub (tokens ++ rest) ≡ found tree rest
  predicate_read tree tokens (predicate.compare s) rest r = compare_read tree tokens s rest r
  predicate_read tree tokens (predicate.is_null s) rest r = is_null_read tree tokens s rest
  predicate_read tree tokens (predicate.between s) rest r = between_read tree tokens s rest r
  predicate_read tree tokens (predicate.in_list s) rest r = in_list_read tree tokens s rest
