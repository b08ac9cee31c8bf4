-- Which part of a predicate is read after its term.
use Rattle.std.proofs.Common.{◌≡◌, Bool, true, false, if◌then◌else◌, List, [], ◌∷◌, Some, None, Result, refl, sym, ap, subst, ◌∙◌}
use Rattle.std.specs.Borrow.{Bor}
use Rattle.lint_tables.specs.declared.op.Op.{Op}
use Rattle.sql_lex.specs.declared.token.Sign.TheVariants.{Compare as Operator}
use Rattle.sql_lex.specs.declared.token.Kind.{Kind}
use Rattle.sql_lex.specs.declared.token.Kind.TheVariants as kind
use Rattle.sql_lex.specs.declared.token.Token.{Token}
use Rattle.sql_tree.specs.declared.term.TermTree.{TermTree}
use Rattle.sql_tree.specs.declared.select.SelectTree.{SelectTree}
use Rattle.sql_tree.specs.declared.select.CondTree.{CondTree}
use Rattle.sql_parse.specs.declared.front.ParseStop.{ParseStop}
use Rattle.sql_parse.specs.grammar.Words.{BETWEEN, IS, SELECT}
use Rattle.sql_parse.specs.inner.readers.Tokens.{Read, found, and_then, is_word, is_open, at_head, expect}
use Rattle.sql_parse.specs.inner.readers.Terms.{read_term}
use Rattle.sql_parse.specs.inner.readers.Predicates.{read_not, comparison_rest, null_rest, between_rest, values_rest, list_or_select, in_rest, negatable, predicate_from, predicate_rest, read_predicate}
use Rattle.sql_parse.specs.inner.readers.Gives.{Stops, Gives}
use Rattle.sql_parse.specs.inner.readers.Operators.{operator_of, first_operator, IsOperator, BeginsOtherwise}
use Rattle.sql_parse.proofs.Conditions.{stops_then}

found_rest : {A : Type 0} (x y : A × List Token) → ◌≡◌ {A = Read A} (Some x) (Some y) → x.1 ≡ y.1
found_rest x y e = let same : x ≡ y = cc in ap (λ p. p.1) same

pub gives_same : {A : Type 0} (f g : Read A) (result : Result (A × Bor (List Token)) ParseStop) → f ≡ g → Gives g result → Gives f result
gives_same f g result e h = subst (λ (x : Read _). Gives x result) (sym e) h

module _ (sub : Bool → List Token → Read SelectTree) (tokens : List Token) (term : TermTree) where
  pub reads_values : (negated : Bool) (rest inside : List Token) (t : Token) → expect is_open rest ≡ found t inside → at_head (is_word SELECT) inside ≡ false
      → in_rest sub tokens term negated rest ≡ values_rest sub tokens term negated inside
  unfolding in_rest list_or_select and_then
  reads_values negated rest inside t e head = rw (e, head) refl

  pub reads_between : (negated : Bool) (rest left : List Token) (t : Token) → at_head (is_word BETWEEN) rest ≡ true → expect (is_word BETWEEN) rest ≡ found t left
      → negatable sub tokens term negated rest ≡ between_rest sub tokens term negated left
  unfolding negatable and_then
  reads_between negated rest left t head e = rw (head, e) refl

  from_operator : (k : Kind) (op : Op) (whole rest : List Token) → operator_of k ≡ Some op → predicate_from sub tokens term k whole rest ≡ comparison_rest sub tokens term op rest
  unfolding predicate_from operator_of
  from_operator (kind.Sign (Operator own)) op whole rest e = let same : own ≡ op = cc in ap (λ (o : Op). comparison_rest sub tokens term o rest) same
  from_operator _ op whole rest e = absurd cc

  from_other : (k : Kind) (whole rest : List Token) → operator_of k ≡ None
      → predicate_from sub tokens term k whole rest ≡ (if is_word IS k then null_rest sub tokens term rest else and_then (read_not whole) (negatable sub tokens term))
  unfolding predicate_from operator_of
  from_other (kind.Sign (Operator own)) whole rest e = absurd cc
  from_other _ whole rest e = refl

  rest_compares : (op : Op) (rest left : List Token) → IsOperator rest op left → predicate_rest sub tokens term rest ≡ comparison_rest sub tokens term op left
  unfolding predicate_rest
  rest_compares op rest left is = rw is.whole (from_operator is.token.kind op (is.token ∷ left) left is.own)

  rest_null : (rest left : List Token) (t : Token) → BeginsOtherwise rest → at_head (is_word IS) rest ≡ true → expect (is_word IS) rest ≡ found t left
      → predicate_rest sub tokens term rest ≡ null_rest sub tokens term left
  unfolding predicate_rest at_head expect first_operator
  rest_null [] left t otherwise head e = absurd cc
  rest_null (first ∷ rest) left t otherwise head e =
      let left_is : rest ≡ left = found_rest (first, rest) (t, left) (rw head at e) in
      from_other first.kind (first ∷ rest) rest otherwise.other ∙ rw head (ap (null_rest sub tokens term) left_is)

  rest_otherwise : (rest : List Token) → BeginsOtherwise rest → at_head (is_word IS) rest ≡ false → predicate_rest sub tokens term rest ≡ and_then (read_not rest) (negatable sub tokens term)
  unfolding predicate_rest at_head expect first_operator read_not and_then negatable
  rest_otherwise [] otherwise head = refl
  rest_otherwise (first ∷ rest) otherwise head = from_other first.kind (first ∷ rest) rest otherwise.other ∙ rw head refl

module _ (sub : Bool → List Token → Read SelectTree) (tokens : List Token) where
  pub stops_term : (stop : ParseStop) → Stops (read_term tokens) stop → Stops (read_predicate sub tokens) stop
  unfolding read_predicate
  stops_term stop e = stops_then stop (read_term tokens) _ e

  module _ (term : TermTree) (rest : List Token) (own : read_term tokens ≡ found term rest) where
    whole : read_predicate sub tokens ≡ predicate_rest sub tokens term rest
    unfolding read_predicate and_then
    whole = rw own refl

    pub reads_comparison : (op : Op) (left : List Token) → IsOperator rest op left → read_predicate sub tokens ≡ comparison_rest sub tokens term op left
    reads_comparison op left is = whole ∙ rest_compares sub tokens term op rest left is

    pub reads_null : (left : List Token) (t : Token) → BeginsOtherwise rest → at_head (is_word IS) rest ≡ true → expect (is_word IS) rest ≡ found t left
        → read_predicate sub tokens ≡ null_rest sub tokens term left
    reads_null left t otherwise head e = whole ∙ rest_null sub tokens term rest left t otherwise head e

    pub reads_negatable : (left : List Token) (negated : Bool) → BeginsOtherwise rest → at_head (is_word IS) rest ≡ false → read_not rest ≡ found negated left
        → read_predicate sub tokens ≡ negatable sub tokens term negated left
    unfolding and_then
    reads_negatable left negated otherwise head e =
        whole ∙ rest_otherwise sub tokens term rest otherwise head ∙ ap (λ (f : Read Bool). and_then f (negatable sub tokens term)) e

    pub stops_not : (stop : ParseStop) → BeginsOtherwise rest → at_head (is_word IS) rest ≡ false → Stops (read_not rest) stop → Stops (read_predicate sub tokens) stop
    stops_not stop otherwise head e =
        subst (λ (f : Read CondTree). Stops f stop) (sym (whole ∙ rest_otherwise sub tokens term rest otherwise head)) (stops_then stop (read_not rest) (negatable sub tokens term) e)

pub ruleset predicate_rules = (reads_comparison, reads_negatable, stops_term, stops_not)
