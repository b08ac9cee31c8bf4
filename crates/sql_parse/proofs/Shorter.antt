-- What is read leaves fewer tokens, or no more where it may read nothing; and the steps of reading part after part.
use Rattle.std.proofs.Common.{ℕ, zero, suc, ◌+◌, ◌≤◌, ◌≡◌, refl, ap, Bool, true, false, if◌then◌else◌, List, [], ◌∷◌, ◌++◌, length, Some, None, le_refl, arith}
use Rattle.lint_base.specs.declared.place.Span.{Span}
use Rattle.lint_tables.specs.declared.op.Op.{Op}
use Rattle.sql_lex.specs.declared.token.Sign.TheVariants.{Plus, Minus, Compare as Operator}
use Rattle.sql_lex.specs.declared.token.Kind.{Kind}
use Rattle.sql_lex.specs.declared.token.Kind.TheVariants as kind
use Rattle.sql_lex.specs.declared.token.Token.{Token}
use Rattle.sql_tree.specs.declared.term.NameTree.{NameTree}
use Rattle.sql_tree.specs.declared.term.TermTree.{TermTree}
use Rattle.sql_tree.specs.declared.select.SelectTree.{SelectTree}
use Rattle.sql_tree.specs.declared.select.CondTree.{CondTree}
use Rattle.sql_tree.specs.declared.select.OrderTree.{OrderTree}
pub use Rattle.sql_parse.specs.inner.readers.Separated.{Shorter}
use Rattle.sql_parse.specs.inner.readers.Tokens.{Read, found, and_then, expect, read_while, read_parts, read_alone, read_after, read_separated}
use Rattle.sql_parse.specs.inner.readers.Terms.{Named, read_name, name_from, read_names, read_alias, number_from, read_number, signed_from, read_signed, literal_from, read_literal, read_value, column_after, read_column, read_bare, term_after, read_term}
use Rattle.sql_parse.specs.inner.readers.Predicates.{read_not, comparison_rest, null_rest, between_rest, values_rest, list_or_select, in_rest, negatable, predicate_from, predicate_rest, read_predicate}
use Rattle.sql_parse.specs.inner.readers.Items.{read_quantifier, item_after, dotted_item, named_item, read_item, read_items, read_entry}
use Rattle.sql_parse.specs.inner.readers.Selects.{without_inner, cross_joined, inner_joined, read_join, read_group, read_groups, read_where, read_select, read_subquery, read_parenthesized, read_exists, read_primary, read_factor, read_conjunction, read_disjunction, read_cond}
use Rattle.sql_parse.specs.inner.readers.Queries.{directed, read_key}
use Rattle.sql_parse.specs.inner.readers.Tables.{read_length, character_rest, type_from, read_type, read_default, read_constraint, action_from, read_action, read_event, read_actions, read_one_name, read_target, read_reference, read_check, word_rule, column_rule_from, read_column_rule, read_named_rule, read_rules, read_key_names, table_rule_from, read_table_rule, read_declared_column, read_element, read_elements, read_create}
use Rattle.sql_parse.specs.inner.readers.Schemas.{read_statement, read_next_statement}

-- what was read, if anything, is so
abbrev pub Meets : {A : Type 0} → (A → List Token → Type 0) → Read A → Type 0
Meets So None = Unit {0}
Meets So (Some r) = So r.0 r.1

pub meets_weaker : {A : Type 0} (So Then : A → List Token → Type 0) → ((a : A) (rest : List Token) → So a rest → Then a rest) → (f : Read A) → Meets So f → Meets Then f
meets_weaker So Then g None h = tt
meets_weaker So Then g (Some r) h = g r.0 r.1 h

-- fewer than so many tokens are left
pub record Below {A : Type 0} (n : ℕ) (f : Read A) : Type 0 where
  pub left : Meets (λ a rest. suc (length rest) ≤ n) f

-- at most so many tokens are left
pub record Within {A : Type 0} (n : ℕ) (f : Read A) : Type 0 where
  pub left : Meets (λ a rest. length rest ≤ n) f

pub within : {A : Type 0} {n : ℕ} {f : Read A} → Below n f → Within n f
within {n = n} {f} h = record { left = meets_weaker (λ a rest. suc (length rest) ≤ n) (λ a rest. length rest ≤ n) (λ a rest l. omega arith) f h.left }

within_more : {A : Type 0} {n m : ℕ} {f : Read A} → n ≤ m → Within n f → Within m f
within_more {n = n} {m} {f} l h = record { left = meets_weaker (λ a rest. length rest ≤ n) (λ a rest. length rest ≤ m) (λ a rest k. omega arith) f h.left }

pub below_within : {A : Type 0} {n m : ℕ} {f : Read A} → suc n ≤ m → Within n f → Below m f
below_within {n = n} {m} {f} l h = record { left = meets_weaker (λ a rest. length rest ≤ n) (λ a rest. suc (length rest) ≤ m) (λ a rest k. omega arith) f h.left }

below_more : {A : Type 0} {n m : ℕ} {f : Read A} → n ≤ m → Below n f → Below m f
below_more {n = n} {m} {f} l h = record { left = meets_weaker (λ a rest. suc (length rest) ≤ n) (λ a rest. suc (length rest) ≤ m) (λ a rest k. omega arith) f h.left }

pub below_found : {A : Type 0} {n : ℕ} {a : A} {rest : List Token} → suc (length rest) ≤ n → Below n (found a rest)
below_found h = record { left = h }

pub within_found : {A : Type 0} {n : ℕ} {a : A} {rest : List Token} → length rest ≤ n → Within n (found a rest)
within_found h = record { left = h }

pub below_none : {A : Type 0} {n : ℕ} → Below {A = A} n None
below_none = record { left = tt }

pub within_none : {A : Type 0} {n : ℕ} → Within {A = A} n None
within_none = record { left = tt }

-- a first part that takes a token, and more
pub below_then : {A B : Type 0} {n : ℕ} {f : Read A} {k : A → List Token → Read B} → Below n f → ((a : A) (rest : List Token) → Within (length rest) (k a rest)) → Below n (and_then f k)
unfolding and_then
below_then {f = None} h g = below_none
below_then {n = n} {f = Some r} {k} h g = below_within h.left (g r.0 r.1)

pub then_below : {A B : Type 0} {n : ℕ} {f : Read A} {k : A → List Token → Read B} → Within n f → ((a : A) (rest : List Token) → Below (length rest) (k a rest)) → Below n (and_then f k)
unfolding and_then
then_below {f = None} h g = below_none
then_below {n = n} {f = Some r} {k} h g = below_more h.left (g r.0 r.1)

pub within_then : {A B : Type 0} {n : ℕ} {f : Read A} {k : A → List Token → Read B} → Within n f → ((a : A) (rest : List Token) → Within (length rest) (k a rest)) → Within n (and_then f k)
unfolding and_then
within_then {f = None} h g = within_none
within_then {n = n} {f = Some r} {k} h g = within_more h.left (g r.0 r.1)

-- where the rest is known to be no longer
within_keeps : {A B : Type 0} {n m : ℕ} {f : Read A} {k : A → List Token → Read B} → Within n f → ((a : A) (rest : List Token) → length rest ≤ n → Within m (k a rest)) → Within m (and_then f k)
unfolding and_then
within_keeps {f = None} h g = within_none
within_keeps {f = Some r} h g = g r.0 r.1 h.left

pub below_if : {A : Type 0} {n : ℕ} (b : Bool) (f g : Read A) → Below n f → Below n g → Below n (if b then f else g)
below_if true f g h k = h
below_if false f g h k = k

pub within_if : {A : Type 0} {n : ℕ} (b : Bool) (f g : Read A) → Within n f → Within n g → Within n (if b then f else g)
within_if true f g h k = h
within_if false f g h k = k

pub expect_below : (test : Kind → Bool) (tokens : List Token) → Below (length tokens) (expect test tokens)
unfolding expect
expect_below test [] = below_none
expect_below test (t ∷ rest) = below_if _ _ _ (below_found (le_refl (suc (length rest)))) below_none

pub after_below : {A : Type 0} (test : Kind → Bool) (read : List Token → Read A) (tokens : List Token) → ((rest : List Token) → Within (length rest) (read rest)) → Below (length tokens) (read_after test read tokens)
unfolding read_after
after_below test read tokens h = below_then (expect_below test tokens) (λ t rest. h rest)

pub alone_below : {A : Type 0} (read : List Token → Read A) (count : ℕ) (tokens : List Token) → Below (length tokens) (read tokens) → Below (length tokens) (read_alone read count tokens)
unfolding read_alone
alone_below read count tokens h = below_then h (λ part left. within_found (le_refl (length left)))

-- parts that each take a token, or none
module _ {A : Type 0} (begins : List Token → Bool) (read : ℕ → List Token → Read (List A)) (shorter : (count : ℕ) (tokens : List Token) → Below (length tokens) (read count tokens)) where
  pub while_within : (clock count : ℕ) (tokens : List Token) → Within (length tokens) (read_while begins read clock count tokens)
  unfolding read_while
  while_within zero count tokens = within_none
  while_within (suc clock) count tokens =
      within_if _ _ _ (within_then (within (shorter count tokens)) (λ part left. within_then (while_within clock (count + length part) left) (λ parts after. within_found (le_refl (length after)))))
      (within_found (le_refl (length tokens)))

  pub parts_within : (count : ℕ) (tokens : List Token) → Within (length tokens) (read_parts begins read count tokens)
  unfolding read_parts
  parts_within count tokens = while_within (suc (length tokens)) count tokens

pub separated_below : {A : Type 0} (test : Kind → Bool) (read : List Token → Read A) (tokens : List Token) → ((tokens : List Token) → Below (length tokens) (read tokens)) → Below (length tokens) (read_separated test read tokens)
unfolding read_separated
separated_below test read tokens h =
    below_then (h tokens) (λ part left. within_then (parts_within _ _ (λ count tokens. alone_below _ _ _ (after_below _ _ _ (λ rest. within (h rest)))) _ _) (λ parts after. within_found (le_refl (length after))))

ruleset shortening = (within_found, below_found, below_none, within_none, below_then, then_below, within_then, below_if, within_if, expect_below, after_below, separated_below, parts_within, within, le_refl)

-- names and terms
pub name_from_below : (k : Kind) (at : Span) (rest : List Token) → Below (suc (length rest)) (name_from k at rest)
unfolding name_from
name_from_below (kind.Name text quoted) at rest = below_found (le_refl (suc (length rest)))
name_from_below _ at rest = below_none

pub name_below : (tokens : List Token) → Below (length tokens) (read_name tokens)
unfolding read_name
name_below [] = below_none
name_below (t ∷ rest) = name_from_below t.kind t.span rest

pub names_below : (tokens : List Token) → Below (length tokens) (read_names tokens)
unfolding read_names
names_below tokens = search (shortening, name_below) depth 20 fits 3000

pub alias_within : (tokens : List Token) → Within (length tokens) (read_alias tokens)
unfolding read_alias
alias_within tokens = search (shortening, name_below) depth 20 fits 3000

pub number_from_below : (k : Kind) (at : Span) (rest : List Token) → Below (suc (length rest)) (number_from k at rest)
unfolding number_from
number_from_below (kind.Number value) at rest = search shortening depth 20 fits 3000
number_from_below _ at rest = below_none

pub number_below : (tokens : List Token) → Below (length tokens) (read_number tokens)
unfolding read_number
number_below [] = below_none
number_below (t ∷ rest) = number_from_below t.kind t.span rest

pub signed_from_within : (k : Kind) (rest : List Token) → Within (length rest) (signed_from k rest)
unfolding signed_from
signed_from_within (kind.Sign Plus) rest = search (shortening, number_below) depth 20 fits 3000
signed_from_within (kind.Sign Minus) rest = search (shortening, number_below) depth 20 fits 3000
signed_from_within _ rest = within_none

pub signed_below : (tokens : List Token) → Below (length tokens) (read_signed tokens)
unfolding read_signed
signed_below [] = below_none
signed_below (t ∷ rest) = below_within (le_refl (suc (length rest))) (signed_from_within t.kind rest)

pub literal_from_below : (k : Kind) (at : Span) (tokens rest : List Token) → suc (length rest) ≤ length tokens → Below (length tokens) (literal_from k at tokens rest)
unfolding literal_from
literal_from_below (kind.Number value) at tokens rest h = search (shortening, number_below) depth 20 fits 3000
literal_from_below (kind.Text text) at tokens rest h = below_found h
literal_from_below (kind.Sign s) at tokens rest h = search (shortening, signed_below) depth 20 fits 3000
literal_from_below _ at tokens rest h = below_none

pub literal_below : (tokens : List Token) → Below (length tokens) (read_literal tokens)
unfolding read_literal
literal_below [] = below_none
literal_below (t ∷ rest) = literal_from_below t.kind t.span (t ∷ rest) rest (le_refl (suc (length rest)))

pub value_below : (tokens : List Token) → Below (length tokens) (read_value tokens)
unfolding read_value
value_below tokens = search (shortening, literal_below) depth 20 fits 3000

pub column_after_within : (first : NameTree) (rest : List Token) → Within (length rest) (column_after first rest)
unfolding column_after
column_after_within first rest = search (shortening, name_below) depth 20 fits 3000

pub column_below : (tokens : List Token) → Below (length tokens) (read_column tokens)
unfolding read_column
column_below tokens = search (shortening, name_below, column_after_within) depth 20 fits 3000

pub bare_below : (tokens : List Token) → Below (length tokens) (read_bare tokens)
unfolding read_bare
bare_below tokens = search (shortening, column_below) depth 20 fits 3000

pub term_after_within : (tokens : List Token) (c : Named) (rest : List Token) → Within (length rest) (term_after tokens c rest)
unfolding term_after
term_after_within tokens c rest = search (shortening, signed_below) depth 20 fits 3000

pub term_below : (tokens : List Token) → Below (length tokens) (read_term tokens)
unfolding read_term
term_below tokens = search (shortening, column_below, term_after_within, value_below) depth 20 fits 3000

-- predicates, over a reading of subqueries
pub not_within : (tokens : List Token) → Within (length tokens) (read_not tokens)
unfolding read_not
not_within tokens = search shortening depth 20 fits 3000

module _ (sub : Bool → List Token → Read SelectTree) (sub_below : (scalar : Bool) (tokens : List Token) → Below (length tokens) (sub scalar tokens)) (tokens : List Token) (term : TermTree) where
  pub comparison_within : (op : Op) (rest : List Token) → Within (length rest) (comparison_rest sub tokens term op rest)
  unfolding comparison_rest
  comparison_within op rest = search (shortening, sub_below, term_below) depth 20 fits 3000

  pub null_within : (rest : List Token) → Within (length rest) (null_rest sub tokens term rest)
  unfolding null_rest
  null_within rest = search (shortening, not_within) depth 20 fits 3000

  pub between_within : (negated : Bool) (rest : List Token) → Within (length rest) (between_rest sub tokens term negated rest)
  unfolding between_rest
  between_within negated rest = search (shortening, term_below) depth 20 fits 3000

  pub values_within : (negated : Bool) (rest : List Token) → Within (length rest) (values_rest sub tokens term negated rest)
  unfolding values_rest
  values_within negated rest = search (shortening, value_below) depth 20 fits 3000

  values_wide : (negated : Bool) (from_open rest : List Token) → length rest ≤ length from_open → Within (length from_open) (values_rest sub tokens term negated rest)
  values_wide negated from_open rest h = within_more h (values_within negated rest)

  pub list_or_select_within : (negated : Bool) (from_open rest : List Token) → length rest ≤ length from_open →
      Within (length from_open) (list_or_select sub tokens term negated from_open rest)
  unfolding list_or_select
  list_or_select_within negated from_open rest h = search (shortening, sub_below, values_wide) depth 20 fits 3000

  pub in_within : (negated : Bool) (rest : List Token) → Within (length rest) (in_rest sub tokens term negated rest)
  unfolding in_rest
  in_within negated rest = within_keeps (within (expect_below _ rest)) (λ t inside h. list_or_select_within negated rest inside h)

  pub negatable_within : (negated : Bool) (rest : List Token) → Within (length rest) (negatable sub tokens term negated rest)
  unfolding negatable
  negatable_within negated rest = search (shortening, between_within, in_within) depth 20 fits 3000

  null_wide : (whole rest : List Token) → length rest ≤ length whole → Within (length whole) (null_rest sub tokens term rest)
  null_wide whole rest h = within_more h (null_within rest)

  pub predicate_from_within : (k : Kind) (whole rest : List Token) → length rest ≤ length whole → Within (length whole) (predicate_from sub tokens term k whole rest)
  unfolding predicate_from
  predicate_from_within (kind.Sign (Operator op)) whole rest h = within_more h (comparison_within op rest)
  predicate_from_within _ whole rest h = search (shortening, null_wide, not_within, negatable_within) depth 20 fits 3000

  pub predicate_rest_within : (rest : List Token) → Within (length rest) (predicate_rest sub tokens term rest)
  unfolding predicate_rest
  predicate_rest_within [] = within_none
  predicate_rest_within (t ∷ rest) = predicate_from_within t.kind (t ∷ rest) rest (omega arith)

pub predicate_below : (sub : Bool → List Token → Read SelectTree) → ((scalar : Bool) (tokens : List Token) → Below (length tokens) (sub scalar tokens)) →
    (tokens : List Token) → Below (length tokens) (read_predicate sub tokens)
unfolding read_predicate
predicate_below sub h tokens = below_then (term_below tokens) (λ term rest. predicate_rest_within sub h tokens term rest)

-- what a SELECT begins with, and the entries of FROM
pub quantifier_within : (scalar : Bool) (tokens : List Token) → Within (length tokens) (read_quantifier scalar tokens)
unfolding read_quantifier
quantifier_within scalar tokens = search shortening depth 20 fits 3000

pub item_after_within : (tokens : List Token) (term : TermTree) (rest : List Token) → Within (length rest) (item_after tokens term rest)
unfolding item_after
item_after_within tokens term rest = search (shortening, alias_within) depth 20 fits 3000

pub dotted_within : (tokens : List Token) (table : NameTree) (rest : List Token) → Within (length rest) (dotted_item tokens table rest)
unfolding dotted_item
dotted_within tokens table rest = search (shortening, name_below, item_after_within) depth 20 fits 3000

pub named_within : (tokens : List Token) (name : NameTree) (rest : List Token) → Within (length rest) (named_item tokens name rest)
unfolding named_item
named_within tokens name rest = search (shortening, dotted_within, item_after_within) depth 20 fits 3000

pub item_below : (tokens : List Token) → Below (length tokens) (read_item tokens)
unfolding read_item
item_below tokens = search (shortening, name_below, named_within, literal_below, item_after_within) depth 20 fits 3000

pub items_below : (tokens : List Token) → Below (length tokens) (read_items tokens)
unfolding read_items
items_below tokens = search (shortening, item_below) depth 20 fits 3000

pub entry_below : (tokens : List Token) → Below (length tokens) (read_entry tokens)
unfolding read_entry
entry_below tokens = search (shortening, name_below, alias_within) depth 20 fits 3000

-- conditions and SELECTs, over a reading of whole conditions
pub inner_within : (tokens : List Token) → Within (length tokens) (without_inner tokens)
unfolding without_inner
inner_within tokens = search shortening depth 20 fits 3000

module _ (flat : Bool) (self : List Token → Read CondTree) (self_below : (tokens : List Token) → Below (length tokens) (self tokens)) where
  pub cross_below : (first : ℕ) (tokens : List Token) → Below (length tokens) (cross_joined flat self first tokens)
  unfolding cross_joined
  cross_below first tokens = search (shortening, entry_below) depth 20 fits 3000

  pub inner_below : (first : ℕ) (tokens : List Token) → Below (length tokens) (inner_joined flat self first tokens)
  unfolding inner_joined
  inner_below first tokens = search (shortening, inner_within, entry_below, self_below) depth 20 fits 3000

  pub join_below : (first : ℕ) (tokens : List Token) → Below (length tokens) (read_join flat self first tokens)
  unfolding read_join
  join_below first tokens = search (shortening, cross_below, inner_below) depth 20 fits 3000

  pub group_below : (first : ℕ) (tokens : List Token) → Below (length tokens) (read_group flat self first tokens)
  unfolding read_group
  group_below first tokens = search (shortening, entry_below, join_below, alone_below) depth 20 fits 3000

  pub groups_below : (tokens : List Token) → Below (length tokens) (read_groups flat self tokens)
  unfolding read_groups
  groups_below tokens = search (shortening, group_below) depth 20 fits 3000

  pub where_within : (tokens : List Token) → Within (length tokens) (read_where flat self tokens)
  unfolding read_where
  where_within tokens = search (shortening, self_below) depth 20 fits 3000

  pub select_below : (scalar : Bool) (tokens : List Token) → Below (length tokens) (read_select flat self scalar tokens)
  unfolding read_select
  select_below scalar tokens = search (shortening, quantifier_within, items_below, groups_below, where_within) depth 20 fits 3000

  pub subquery_below : (scalar : Bool) (tokens : List Token) → Below (length tokens) (read_subquery flat self scalar tokens)
  unfolding read_subquery
  subquery_below scalar tokens = search (shortening, select_below) depth 20 fits 3000

  pub parenthesized_below : (tokens : List Token) → Below (length tokens) (read_parenthesized flat self tokens)
  unfolding read_parenthesized
  parenthesized_below tokens = search (shortening, self_below) depth 20 fits 3000

  pub exists_below : (tokens : List Token) → Below (length tokens) (read_exists flat self tokens)
  unfolding read_exists
  exists_below tokens = search (shortening, subquery_below) depth 20 fits 3000

  pub primary_below : (tokens : List Token) → Below (length tokens) (read_primary flat self tokens)
  unfolding read_primary
  primary_below tokens = search (shortening, parenthesized_below, exists_below, predicate_below, subquery_below) depth 20 fits 3000

  pub factor_below : (tokens : List Token) → Below (length tokens) (read_factor flat self tokens)
  unfolding read_factor
  factor_below tokens = search (shortening, primary_below) depth 20 fits 3000

  pub conjunction_below : (tokens : List Token) → Below (length tokens) (read_conjunction flat self tokens)
  unfolding read_conjunction
  conjunction_below tokens = search (shortening, factor_below) depth 20 fits 3000

  pub disjunction_below : (tokens : List Token) → Below (length tokens) (read_disjunction flat self tokens)
  unfolding read_disjunction
  disjunction_below tokens = search (shortening, conjunction_below) depth 20 fits 3000

pub cond_below : (flat : Bool) (depth : ℕ) (tokens : List Token) → Below (length tokens) (read_cond flat depth tokens)
unfolding read_cond
cond_below flat zero tokens = below_none
cond_below flat (suc depth) tokens = disjunction_below flat (read_cond flat depth) (λ others. cond_below flat depth others) tokens

-- queries
pub directed_within : (key : OrderTree) (tokens : List Token) → Within (length tokens) (directed key tokens)
unfolding directed
directed_within key tokens = search shortening depth 20 fits 3000

pub key_below : (tokens : List Token) → Below (length tokens) (read_key tokens)
unfolding read_key
key_below tokens = search (shortening, bare_below, number_below, directed_within) depth 20 fits 3000

-- declarations of tables
pub length_below : (tokens : List Token) → Below (length tokens) (read_length tokens)
unfolding read_length
length_below tokens = search (shortening, number_below) depth 20 fits 3000

pub character_within : (at : Span) (rest : List Token) → Within (length rest) (character_rest at rest)
unfolding character_rest
character_within at rest = search (shortening, length_below) depth 20 fits 3000

pub type_from_within : (k : Kind) (at : Span) (rest : List Token) → Within (length rest) (type_from k at rest)
unfolding type_from
type_from_within k at rest = search (shortening, length_below, character_within) depth 20 fits 3000

pub type_below : (tokens : List Token) → Below (length tokens) (read_type tokens)
unfolding read_type
type_below [] = below_none
type_below (t ∷ rest) = below_within (le_refl (suc (length rest))) (type_from_within t.kind t.span rest)

pub default_within : (tokens : List Token) → Within (length tokens) (read_default tokens)
unfolding read_default
default_within tokens = search (shortening, value_below) depth 20 fits 3000

pub constraint_within : (tokens : List Token) → Within (length tokens) (read_constraint tokens)
unfolding read_constraint
constraint_within tokens = search (shortening, name_below) depth 20 fits 3000

pub action_from_within : (k : Kind) (rest : List Token) → Within (length rest) (action_from k rest)
unfolding action_from
action_from_within k rest = search shortening depth 20 fits 3000

pub action_below : (tokens : List Token) → Below (length tokens) (read_action tokens)
unfolding read_action
action_below [] = below_none
action_below (t ∷ rest) = below_within (le_refl (suc (length rest))) (action_from_within t.kind rest)

pub event_below : (count : ℕ) (tokens : List Token) → Below (length tokens) (read_event count tokens)
unfolding read_event
event_below count tokens = search (shortening, action_below) depth 20 fits 3000

pub actions_within : (tokens : List Token) → Within (length tokens) (read_actions tokens)
unfolding read_actions
actions_within tokens = search (shortening, event_below) depth 20 fits 3000

pub one_name_below : (tokens : List Token) → Below (length tokens) (read_one_name tokens)
unfolding read_one_name
one_name_below tokens = search (shortening, name_below) depth 20 fits 3000

pub target_within : (one : Bool) (tokens : List Token) → Within (length tokens) (read_target one tokens)
unfolding read_target
target_within one tokens = search (shortening, one_name_below, names_below) depth 20 fits 3000

pub reference_below : (one : Bool) (tokens : List Token) → Below (length tokens) (read_reference one tokens)
unfolding read_reference
reference_below one tokens = search (shortening, name_below, target_within, actions_within) depth 20 fits 3000

module _ (depth : ℕ) where
  pub check_below : (tokens : List Token) → Below (length tokens) (read_check depth tokens)
  unfolding read_check
  check_below tokens = search (shortening, cond_below) depth 20 fits 3000

  pub word_rule_within : (column : NameTree) (k : Kind) (at : Span) (rest : List Token) → Within (length rest) (word_rule depth column k at rest)
  unfolding word_rule
  word_rule_within column k at rest = search shortening depth 20 fits 3000

  pub word_rule_below : (column : NameTree) (k : Kind) (at : Span) (tokens rest : List Token) → suc (length rest) ≤ length tokens → Below (length tokens) (word_rule depth column k at rest)
  word_rule_below column k at tokens rest h = below_within h (word_rule_within column k at rest)

  pub column_rule_from_below : (column : NameTree) (k : Kind) (at : Span) (tokens rest : List Token) → suc (length rest) ≤ length tokens → Below (length tokens) (column_rule_from depth column k at tokens rest)
  unfolding column_rule_from
  column_rule_from_below column k at tokens rest h = search (shortening, check_below, reference_below, word_rule_below) depth 20 fits 3000

  pub column_rule_below : (column : NameTree) (tokens : List Token) → Below (length tokens) (read_column_rule depth column tokens)
  unfolding read_column_rule
  column_rule_below column [] = below_none
  column_rule_below column (t ∷ rest) = column_rule_from_below column t.kind t.span (t ∷ rest) rest (le_refl (suc (length rest)))

  pub named_rule_below : (column : NameTree) (count : ℕ) (tokens : List Token) → Below (length tokens) (read_named_rule depth column count tokens)
  unfolding read_named_rule
  named_rule_below column count tokens = search (shortening, constraint_within, column_rule_below) depth 20 fits 3000

  pub rules_within : (column : NameTree) (tokens : List Token) → Within (length tokens) (read_rules depth column tokens)
  unfolding read_rules
  rules_within column tokens = search (shortening, named_rule_below) depth 20 fits 3000

  pub key_names_below : (tokens : List Token) → Below (length tokens) (read_key_names depth tokens)
  unfolding read_key_names
  key_names_below tokens = search (shortening, names_below) depth 20 fits 3000

  names_wide : (tokens rest : List Token) → suc (length rest) ≤ length tokens → Below (length tokens) (read_names rest)
  names_wide tokens rest h = below_more (omega arith) (names_below rest)

  key_names_wide : (tokens rest : List Token) → suc (length rest) ≤ length tokens → Below (length tokens) (read_key_names depth rest)
  key_names_wide tokens rest h = below_more (omega arith) (key_names_below rest)

  pub table_rule_from_below : (k : Kind) (at : Span) (tokens rest : List Token) → suc (length rest) ≤ length tokens → Below (length tokens) (table_rule_from depth k at tokens rest)
  unfolding table_rule_from
  table_rule_from_below k at tokens rest h = search (shortening, names_wide, key_names_wide, check_below, reference_below) depth 20 fits 3000

  pub table_rule_below : (tokens : List Token) → Below (length tokens) (read_table_rule depth tokens)
  unfolding read_table_rule
  table_rule_below [] = below_none
  table_rule_below (t ∷ rest) = table_rule_from_below t.kind t.span (t ∷ rest) rest (le_refl (suc (length rest)))

  pub declared_column_below : (tokens : List Token) → Below (length tokens) (read_declared_column depth tokens)
  unfolding read_declared_column
  declared_column_below tokens = search (shortening, name_below, type_below, default_within, rules_within) depth 20 fits 3000

  pub element_below : (tokens : List Token) → Below (length tokens) (read_element depth tokens)
  unfolding read_element
  element_below tokens = search (shortening, declared_column_below, constraint_within, table_rule_below) depth 20 fits 3000

  pub elements_below : (tokens : List Token) → Below (length tokens) (read_elements depth tokens)
  unfolding read_elements
  elements_below tokens = search (shortening, element_below) depth 20 fits 3000

  pub create_below : (tokens : List Token) → Below (length tokens) (read_create depth tokens)
  unfolding read_create
  create_below tokens = search (shortening, name_below, elements_below) depth 20 fits 3000

-- schemas
pub statement_within : (depth : ℕ) (tokens : List Token) → Within (length tokens) (read_statement depth tokens)
unfolding read_statement
statement_within depth tokens = search (shortening, create_below) depth 20 fits 3000

pub next_statement_below : (depth : ℕ) (count : ℕ) (tokens : List Token) → Below (length tokens) (read_next_statement depth count tokens)
unfolding read_next_statement
next_statement_below depth count tokens = search (shortening, statement_within) depth 20 fits 3000

-- two ways to go on that agree wherever what is read leaves fewer tokens
then_same : {A B : Type 0} {n : ℕ} {f : Read A} (k l : A → List Token → Read B) → Below n f → ((a : A) (rest : List Token) → suc (length rest) ≤ n → k a rest ≡ l a rest) → and_then f k ≡ and_then f l
unfolding and_then
then_same {f = None} k l h e = refl
then_same {f = Some r} k l h e = e r.0 r.1 h.left

if_same : {A : Type 0} (b : Bool) (f g h : A) → f ≡ g → (if b then f else h) ≡ (if b then g else h)
if_same true f g h e = e
if_same false f g h e = refl

-- the steps of reading part after part
module _ {A : Type 0} (begins : List Token → Bool) (read : ℕ → List Token → Read (List A)) (shorter : (count : ℕ) (tokens : List Token) → Below (length tokens) (read count tokens)) where
  -- each clock that is long enough reads the same
  clock_same : (clock other count : ℕ) (tokens : List Token) → suc (length tokens) ≤ clock → suc (length tokens) ≤ other →
      read_while begins read clock count tokens ≡ read_while begins read other count tokens
  unfolding read_while
  clock_same zero other count tokens h k = absurd (omega arith)
  clock_same (suc clock) zero count tokens h k = absurd (omega arith)
  clock_same (suc clock) (suc other) count tokens h k =
      if_same (begins tokens) _ _ _
      (then_same _ _ (shorter count tokens) (λ part left l. ap (λ (f : Read (List A)). and_then f (λ parts after. found (part ++ parts) after)) (clock_same clock other (count + length part) left (omega arith) (omega arith))))

  pub parts_step : (count : ℕ) (tokens : List Token) → begins tokens ≡ true →
      read_parts begins read count tokens
      ≡ and_then (read count tokens) (λ part left. and_then (read_parts begins read (count + length part) left) (λ parts after. found (part ++ parts) after))
  unfolding read_parts read_while
  parts_step count tokens b =
      rw b
      (then_same _ _ (shorter count tokens) (λ part left l. ap (λ (f : Read (List A)). and_then f (λ parts after. found (part ++ parts) after)) (clock_same (length tokens) (suc (length left)) (count + length part) left (omega arith) (omega arith))))

pub parts_end : {A : Type 0} (begins : List Token → Bool) (read : ℕ → List Token → Read (List A)) (count : ℕ) (tokens : List Token) → begins tokens ≡ false →
    read_parts begins read count tokens ≡ found [] tokens
unfolding read_parts read_while
parts_end begins read count tokens b = rw b refl

-- what was found by a reading leaves fewer tokens, or no more
pub fewer : {A : Type 0} (n : ℕ) (f : Read A) (a : A) (rest : List Token) → Below n f → f ≡ found a rest → suc (length rest) ≤ n
fewer n f a rest h e = (rw e at h).left

pub no_more : {A : Type 0} (n : ℕ) (f : Read A) (a : A) (rest : List Token) → Within n f → f ≡ found a rest → length rest ≤ n
no_more n f a rest h e = (rw e at h).left

pub expect_shorter : (test : Kind → Bool) → Shorter (expect test)
expect_shorter test tokens a rest e = fewer (length tokens) (expect test tokens) a rest (expect_below test tokens) e

pub name_shorter : Shorter read_name
name_shorter tokens a rest e = fewer (length tokens) (read_name tokens) a rest (name_below tokens) e

pub value_shorter : Shorter read_value
value_shorter tokens a rest e = fewer (length tokens) (read_value tokens) a rest (value_below tokens) e

pub item_shorter : Shorter read_item
item_shorter tokens a rest e = fewer (length tokens) (read_item tokens) a rest (item_below tokens) e

pub join_shorter : (flat : Bool) (depth : ℕ) (first : ℕ) → Shorter (read_join flat (read_cond flat depth) first)
join_shorter flat depth first tokens a rest e = fewer (length tokens) (read_join flat (read_cond flat depth) first tokens) a rest (join_below flat (read_cond flat depth) (cond_below flat depth) first tokens) e

pub group_shorter : (flat : Bool) (depth : ℕ) (first : ℕ) → Shorter (read_group flat (read_cond flat depth) first)
group_shorter flat depth first tokens a rest e = fewer (length tokens) (read_group flat (read_cond flat depth) first tokens) a rest (group_below flat (read_cond flat depth) (cond_below flat depth) first tokens) e

pub factor_shorter : (flat : Bool) (depth : ℕ) → Shorter (read_factor flat (read_cond flat depth))
factor_shorter flat depth tokens a rest e = fewer (length tokens) (read_factor flat (read_cond flat depth) tokens) a rest (factor_below flat (read_cond flat depth) (cond_below flat depth) tokens) e

pub conjunction_shorter : (flat : Bool) (depth : ℕ) → Shorter (read_conjunction flat (read_cond flat depth))
conjunction_shorter flat depth tokens a rest e = fewer (length tokens) (read_conjunction flat (read_cond flat depth) tokens) a rest (conjunction_below flat (read_cond flat depth) (cond_below flat depth) tokens) e

pub key_shorter : Shorter read_key
key_shorter tokens a rest e = fewer (length tokens) (read_key tokens) a rest (key_below tokens) e

pub event_shorter : (count : ℕ) → Shorter (read_event count)
event_shorter count tokens a rest e = fewer (length tokens) (read_event count tokens) a rest (event_below count tokens) e

pub named_rule_shorter : (depth : ℕ) (column : NameTree) (count : ℕ) → Shorter (read_named_rule depth column count)
named_rule_shorter depth column count tokens a rest e = fewer (length tokens) (read_named_rule depth column count tokens) a rest (named_rule_below depth column count tokens) e

pub element_shorter : (depth : ℕ) → Shorter (read_element depth)
element_shorter depth tokens a rest e = fewer (length tokens) (read_element depth tokens) a rest (element_below depth tokens) e

pub next_statement_shorter : (depth : ℕ) (count : ℕ) → Shorter (read_next_statement depth count)
next_statement_shorter depth count tokens a rest e = fewer (length tokens) (read_next_statement depth count tokens) a rest (next_statement_below depth count tokens) e
