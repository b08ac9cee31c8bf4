-- The steps by which conditions are read whole, each from what its parts read.
use Rattle.std.proofs.Common.{ℕ, ◌≡◌, refl, ap, ◌∙◌, Bool, true, false, nat_eq, List, [], ◌∷◌, ◌++◌, lit≤, arith}
use Rattle.std.proofs.Math.Dec.{eqb_refl}
use Rattle.std.proofs.lemmas.List.{append_assoc}
use Rattle.lint_base.specs.declared.place.Span.{Span}
use Rattle.lint_tables.specs.declared.op.Op.{Op}
use Rattle.sql_lex.specs.declared.token.Sign.TheVariants.{Open, Close, Compare as Operator}
use Rattle.sql_lex.specs.declared.token.Token.{Token}
use Rattle.sql_tree.specs.declared.term.TermTree.{TermTree}
use Rattle.sql_tree.specs.declared.select.SelectTree.{SelectTree}
use Rattle.sql_tree.specs.declared.select.CondTree.{CondTree}
use Rattle.sql_tree.specs.declared.select.CondTree.TheVariants.{And, Or, Not, Exists, Scalar, InSelect}
use Rattle.sql_parse.specs.grammar.Words.{word, sign, span_of, AND, EXISTS, IN, NOT, OR, SELECT}
use Rattle.sql_parse.specs.grammar.Terms.{SpellsTerm}
use Rattle.sql_parse.specs.grammar.Predicates.{SpellsNot}
use Rattle.sql_parse.specs.grammar.Selects.{alone_or, Level, Disjunction, Conjunction, Factor, Primary}
use Rattle.sql_parse.specs.inner.readers.Tokens.{Read, found, and_then, is_word, is_open, is_close, at_head, expect, read_after, read_separated}
use Rattle.sql_parse.specs.inner.readers.Predicates.{comparison_rest, list_or_select, in_rest, negatable, predicate_from, predicate_rest, read_predicate}
use Rattle.sql_parse.specs.inner.readers.Selects.{read_subquery, read_parenthesized, read_exists, read_primary, read_factor, read_conjunction, read_disjunction}
use Rattle.sql_parse.proofs.CompleteTokens.{place_is, kind_rank, place_rank, rank}
use Rattle.sql_parse.proofs.CompleteTerms.{term_read}
use Rattle.sql_parse.proofs.CompletePredicates.{Heads, not_rank, predicate_started, negatable_started}

-- what a part of a level cannot be followed by
unfoldable pub level_rank : Level → ℕ
level_rank Disjunction = 4
level_rank Conjunction = 3
level_rank Factor = 2
level_rank Primary = 2

unfoldable pub read_level : Bool → (List Token → Read CondTree) → Level → List Token → Read CondTree
read_level flat self Disjunction = read_disjunction flat self
read_level flat self Conjunction = read_conjunction flat self
read_level flat self Factor = read_factor flat self
read_level flat self Primary = read_primary flat self

pub same_word : (place : ℕ) → nat_eq place place ≡ true
same_word place = grind (arith, eqb_refl place)

-- a comparison with a subquery
pub scalar_read : (sub : Bool → List Token → Read SelectTree) (op : Op) (left : TermTree) (select : SelectTree) (tokens own : List Token) (op_at : Span) (inner rest : List Token) →
    tokens ≡ own ++ sign (Operator op) op_at ∷ inner → SpellsTerm left own → at_head is_open (inner ++ rest) ≡ true → sub true (inner ++ rest) ≡ found select rest →
    read_predicate sub (tokens ++ rest) ≡ found (Scalar op left select (span_of tokens)) rest
unfolding predicate_rest predicate_from comparison_rest and_then rank kind_rank
scalar_read sub op left select tokens own op_at inner rest whole s h e =
    let after : List Token = sign (Operator op) op_at ∷ inner ++ rest in
    let split : tokens ++ rest ≡ own ++ after = ap (λ ts. ts ++ rest) whole ∙ append_assoc own (sign (Operator op) op_at ∷ inner) rest in
    predicate_started sub (tokens ++ rest) left after (rw split (term_read left own s after (lit≤ tt))) ∙ rw (h, e, place_is tokens rest) refl

-- IN with a subquery
pub in_select_read : (sub : Bool → List Token → Read SelectTree) (tree : TermTree) (select : SelectTree) (negated : Bool) (tokens own not_word : List Token) (in_at open_at : Span) (inside rest : List Token) →
    tokens ≡ own ++ (not_word ++ word IN in_at ∷ sign Open open_at ∷ inside) → SpellsTerm tree own → SpellsNot negated not_word →
    at_head (is_word SELECT) (inside ++ rest) ≡ true → sub false (sign Open open_at ∷ inside ++ rest) ≡ found select rest →
    read_predicate sub (tokens ++ rest) ≡ found (InSelect tree select negated (span_of tokens)) rest
unfolding negatable in_rest list_or_select expect and_then at_head is_word is_open rank kind_rank place_rank
in_select_read sub tree select negated tokens own not_word in_at open_at inside rest whole s n h e =
    let tail : List Token = word IN in_at ∷ sign Open open_at ∷ inside in
    let after : List Token = tail ++ rest in
    let split : tokens ++ rest ≡ own ++ (not_word ++ after) =
    ap (λ ts. ts ++ rest) whole ∙ append_assoc own (not_word ++ tail) rest ∙ ap (λ ts. own ++ ts) (append_assoc not_word tail rest) in
    predicate_started sub (tokens ++ rest) tree (not_word ++ after) (rw split (term_read tree own s (not_word ++ after) (not_rank negated not_word n after (lit≤ tt))))
    ∙ negatable_started sub (tokens ++ rest) tree negated not_word IN in_at (sign Open open_at ∷ inside ++ rest) n refl refl
    ∙ rw (h, e, place_is tokens rest) refl

module _ (flat : Bool) (self : List Token → Read CondTree) where
  pub parenthesized_step : (tree : CondTree) (open_at close_at : Span) (own rest : List Token) →
      self (own ++ (sign Close close_at ∷ rest)) ≡ found tree (sign Close close_at ∷ rest) →
      read_primary flat self ((sign Open open_at ∷ own ++ sign Close close_at ∷ []) ++ rest) ≡ found tree rest
  unfolding read_primary read_parenthesized read_after expect and_then at_head is_open is_close
  parenthesized_step tree open_at close_at own rest e = rw (append_assoc own (sign Close close_at ∷ []) rest, e) refl

  pub exists_step : (select : SelectTree) (exists_at : Span) (inner rest : List Token) → read_subquery flat self false (inner ++ rest) ≡ found select rest →
      read_primary flat self ((word EXISTS exists_at ∷ inner) ++ rest) ≡ found (Exists select (span_of (word EXISTS exists_at ∷ inner))) rest
  unfolding read_primary read_exists read_after expect and_then at_head is_open is_word
  exists_step select exists_at inner rest e = rw (e, place_is (word EXISTS exists_at ∷ inner) rest) refl

  pub predicate_primary : (tokens : List Token) → Heads tokens → read_primary flat self tokens ≡ read_predicate (read_subquery flat self) tokens
  unfolding read_primary Heads
  predicate_primary tokens h = rw (h.0, h.2) refl

  pub plain_step : (tokens : List Token) → at_head (is_word NOT) tokens ≡ false → read_factor flat self tokens ≡ read_primary flat self tokens
  unfolding read_factor
  plain_step tokens h = rw h refl

  pub negation_step : (inner : CondTree) (not_at : Span) (own rest : List Token) → read_primary flat self (own ++ rest) ≡ found inner rest →
      read_factor flat self ((word NOT not_at ∷ own) ++ rest) ≡ found (Not inner) rest
  unfolding read_factor read_after expect and_then at_head is_word
  negation_step inner not_at own rest e = rw e refl

  pub conjunction_step : (parts : List CondTree) (tokens rest : List Token) → read_separated (is_word AND) (read_factor flat self) tokens ≡ found parts rest →
      read_conjunction flat self tokens ≡ found (alone_or And parts) rest
  unfolding read_conjunction and_then
  conjunction_step parts tokens rest e = rw e refl

  pub disjunction_step : (parts : List CondTree) (tokens rest : List Token) → read_separated (is_word OR) (read_conjunction flat self) tokens ≡ found parts rest →
      read_disjunction flat self tokens ≡ found (alone_or Or parts) rest
  unfolding read_disjunction and_then
  disjunction_step parts tokens rest e = rw e refl
