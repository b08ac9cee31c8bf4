-- The derivations of the worked examples.
use Rattle.std.proofs.Common.{ℕ, pos, ◌≡◌, refl, ap, sym, ◌∙◌, lit≤, Bool, true, false, List, [], ◌∷◌, ◌++◌, take, drop, Some, None, codes, inl, inr}
use Rattle.lint_base.specs.declared.place.Span.{Span}
use Rattle.lint_tables.specs.declared.op.Op.{Op}
use Rattle.lint_tables.specs.declared.op.Op.TheVariants.{Eq, Lt, Gt, Ge}
use Rattle.sql_lex.specs.declared.token.Sign.TheVariants.{Open, Close, Dot, Compare as Operator}
use Rattle.sql_lex.specs.declared.token.Token.{Token}
use Rattle.sql_tree.specs.declared.term.TermTree.{TermTree}
use Rattle.sql_tree.specs.declared.term.TermTree.TheVariants.{Column}
use Rattle.sql_tree.specs.declared.select.CondTree.{CondTree, fold-roll-CondTree}
use Rattle.sql_tree.specs.declared.select.CondTree.TheOpen.{CondTree-F}
use Rattle.sql_tree.specs.declared.select.CondTree.TheVariants.{Compare, rolls-Compare}
use Rattle.sql_tree.specs.declared.select.SelectTree.{out-SelectTree, out-roll-SelectTree}
use Rattle.sql_tree.specs.declared.select.ItemTree.TheVariants.{Term}
use Rattle.sql_tree.specs.declared.schema.TypeTree.TheVariants as type
use Rattle.sql_tree.specs.declared.schema.Element.TheVariants as element
use Rattle.sql_tree.specs.declared.schema.RuleTree.TheVariants as rule
use Rattle.sql_parse.specs.grammar.Words.{word, called, sign, number, span_of, AND, OR}
use Rattle.sql_parse.specs.grammar.Names.{SpellsNames}
use Rattle.sql_parse.specs.grammar.Terms.{SpellsTerm, SpellsValue, SpellsBareColumn}
use Rattle.sql_parse.specs.grammar.Terms as term
use Rattle.sql_parse.specs.grammar.Predicates as predicate
use Rattle.sql_parse.specs.grammar.Items as item
use Rattle.sql_parse.specs.grammar.Selects as c
use Rattle.sql_parse.specs.grammar.Selects.{SpellsCond, SpellsJoined, Level, Disjunction, Conjunction, Factor, Primary}
use Rattle.sql_parse.specs.grammar.Queries as query
use Rattle.sql_parse.specs.grammar.Tables as table
use Rattle.sql_parse.specs.grammar.Schemas as schema
use Rattle.reading_laws.specs.Examples.{at, name, column, integer}
use Rattle.reading_laws.specs.Examples as example

-- a run of the tokens
abbrev part : List Token → ℕ → ℕ → List Token
part tokens base size = take size (drop base tokens)

bare_column : (text : List ℕ) (from to : ℕ) → SpellsBareColumn (column text from to) (called text (at from to) ∷ [])
bare_column text from to = record { table = None; name = name text from to; tree = refl; column = (false, refl) }

column_term : (text : List ℕ) (from to : ℕ) → SpellsTerm (column text from to) (called text (at from to) ∷ [])
column_term text from to = term.column (bare_column text from to)

number_value : (n from to : ℕ) → SpellsValue (integer n from to) (number n (at from to) ∷ [])
number_value n from to = term.literal (term.unsigned n (at from to) refl refl)

number_term : (n from to : ℕ) → SpellsTerm (integer n from to) (number n (at from to) ∷ [])
number_term n from to = term.value (number_value n from to)

comparison : (op : Op) (op_at : Span) {left right : TermTree} {before after : List Token} → SpellsTerm left before → SpellsTerm right after →
    SpellsCond Primary (Compare op left right (span_of (before ++ sign (Operator op) op_at ∷ after))) (before ++ sign (Operator op) op_at ∷ after)
comparison op op_at {left} {right} {before} {after} l r =
    c.predicate (predicate.compare (record {
      op = op;
      left = left;
      right = right;
      tree_is = refl;
      before = before;
      op_at = op_at;
      after = after;
      whole = refl;
      left_term = l;
      right_term = r;
    }))

one_factor : {tree : CondTree} {tokens : List Token} → SpellsCond Factor tree tokens → SpellsCond Conjunction tree tokens
one_factor {tree} d = c.conjunction (tree ∷ []) refl (c.last tree refl d)

one_conjunction : {tree : CondTree} {tokens : List Token} → SpellsCond Conjunction tree tokens → SpellsCond Disjunction tree tokens
one_conjunction {tree} d = c.disjunction (tree ∷ []) refl (c.last tree refl d)

alone : {tree : CondTree} {tokens : List Token} → SpellsCond Primary tree tokens → SpellsCond Disjunction tree tokens
alone d = one_conjunction (one_factor (c.plain d))

both : {level : Level} {left right : CondTree} {before after : List Token} (joint : ℕ) (joint_at : Span) →
    SpellsCond level left before →
    SpellsCond level right after →
    SpellsJoined level joint (left ∷ right ∷ []) (before ++ word joint joint_at ∷ after)
both {left = left} {right = right} {before = before} {after = after} joint joint_at l r =
    c.more left (right ∷ []) before joint_at after refl refl l (c.last right refl r)

pub or_spelled : SpellsCond Disjunction example.or_tree example.or_tokens
or_spelled =
    c.disjunction _ refl (both OR (at 6 8) (one_factor (c.plain (comparison Eq (at 2 3) (column_term (codes "A") 0 1) (number_term 1 4 5)))) (c.conjunction _ refl (both AND (at 15 18) (c.plain (comparison Eq (at 11 12) (column_term (codes "B") 9 10) (number_term 2 13 14))) (c.negation _ (at 19 22) (part example.or_tokens 9 3) refl refl (c.predicate (predicate.is_null (record {
      term = column (codes "C") 23 24;
      negated = false;
      tree_is = refl;
      own = part example.or_tokens 9 1;
      is_at = at 25 27;
      not_word = [];
      null_at = at 28 32;
      whole = refl;
      own_term = column_term (codes "C") 23 24;
      negation = refl;
    })))))))

equation_primary : SpellsCond Primary example.equation_tree example.equation_tokens
equation_primary = comparison Eq (at 3 4) (column_term (codes "A") 1 2) (number_term 1 5 6)

pub equation_spelled : SpellsCond Disjunction example.equation_tree example.equation_tokens
equation_spelled = alone equation_primary

pub parenthesized_spelled : SpellsCond Disjunction example.equation_tree example.parenthesized_tokens
parenthesized_spelled = alone (c.parenthesized (at 0 1) example.equation_tokens (at 6 7) refl equation_spelled)

pub not_in_spelled : SpellsCond Disjunction example.not_in_tree example.not_in_tokens
not_in_spelled =
    alone (c.predicate (predicate.in_list (record {
      term = column (codes "A") 0 1;
      values = integer 1 10 11 ∷ _ ∷ [];
      negated = true;
      tree_is = refl;
      own = part example.not_in_tokens 0 1;
      not_word = part example.not_in_tokens 1 1;
      in_at = at 6 8;
      open_at = at 9 10;
      listed = part example.not_in_tokens 4 3;
      close_at = at 17 18;
      whole = refl;
      own_term = column_term (codes "A") 0 1;
      negation = (at 2 5, refl);
      values_listed = (part example.not_in_tokens 4 1, part example.not_in_tokens 5 2, refl, number_value 1 10 11, (at 11 12, part example.not_in_tokens 6 1, [], refl, term.null (at 13 17) refl refl, refl));
    })))

sum_left : SpellsTerm (Column (Some (name (codes "X") 0 1)) (name (codes "A") 2 3) (pos 3) (at 0 7)) (part example.sum_tokens 0 5)
sum_left =
    term.sum (record {
      table = Some (name (codes "X") 0 1);
      name = name (codes "A") 2 3;
      added = pos 3;
      own = part example.sum_tokens 0 3;
      rest = part example.sum_tokens 3 2;
      tree = refl;
      whole = refl;
      column = (false, at 1 2, false, refl);
      sum = term.plus (at 4 5) (at 6 7) 3 refl refl;
    })

pub sum_spelled : SpellsCond Disjunction example.sum_tree example.sum_tokens
sum_spelled = alone (comparison Lt (at 8 9) sum_left (column_term (codes "B") 10 11))

-- one table with no alias, as the whole of FROM
one_table : (first : ℕ) (text : List ℕ) (from to : ℕ) → c.SpellsGroups first (c.entry_tree (name text from to) None None first ∷ []) (called text (at from to) ∷ [])
one_table first text from to =
    c.last_group (c.group (name text from to) None [] (called text (at from to) ∷ []) [] refl refl (record { quoted = false; rest = []; whole = refl; visible = refl }) (c.no_join refl refl))

pub exists_spelled : SpellsCond Disjunction example.exists_tree example.exists_tokens
exists_spelled =
    alone (c.exists _ (at 0 6) (part example.exists_tokens 1 6) refl refl (c.subquery (at 7 8) (part example.exists_tokens 2 4) (at 23 24) refl (c.select None _ _ None (at 8 14) [] (part example.exists_tokens 3 1) (at 17 21) (part example.exists_tokens 5 1) [] refl refl (inl refl) (item.star (at 15 16) refl refl) (one_table 0 (codes "T") 22 23) (c.everything refl refl))))

scalar_item : item.SpellsItems (Term (column (codes "B") 17 18) None ∷ []) (called (codes "B") (at 17 18) ∷ [])
scalar_item = item.listed (called (codes "B") (at 17 18) ∷ [], [], refl, (called (codes "B") (at 17 18) ∷ [], [], refl, inl (bare_column (codes "B") 17 18), refl), refl)

scalar_subquery : c.SpellsSubquery example.scalar_select (part example.scalar_tokens 2 7)
scalar_subquery =
    c.subquery (at 5 6) (part example.scalar_tokens 3 5) (at 25 26) refl (c.select None _ _ None (at 6 12) (part example.scalar_tokens 4 1) (part example.scalar_tokens 5 1) (at 19 23) (part example.scalar_tokens 7 1) [] refl refl (inr (at 13 16, refl)) scalar_item (one_table 0 (codes "T") 24 25) (c.everything refl refl))

not_distinct : (out-SelectTree example.scalar_select).distinct ≡ None
not_distinct = rw out-roll-SelectTree refl

pub scalar_spelled : SpellsCond Disjunction example.scalar_tree example.scalar_tokens
scalar_spelled =
    alone (c.scalar Ge (column (codes "A") 0 1) example.scalar_select (part example.scalar_tokens 0 1) (at 2 4) (part example.scalar_tokens 2 7) refl refl (column_term (codes "A") 0 1) scalar_subquery not_distinct)

qualified : (table_text : List ℕ) (table_from table_to : ℕ) (dot : Span) (text : List ℕ) (from to : ℕ) →
    SpellsTerm (Column (Some (name table_text table_from table_to)) (name text from to) (pos 0) (at table_from to)) (called table_text (at table_from table_to) ∷ sign Dot dot ∷ called text (at from to) ∷ [])
qualified table_text table_from table_to dot text from to =
    term.column (record { table = Some (name table_text table_from table_to); name = name text from to; tree = refl; column = (false, dot, false, refl) })

join_spelled : SpellsCond Disjunction example.join_tree (part example.query_tokens 11 7)
join_spelled = alone (comparison Eq (at 46 47) (qualified (codes "U") 42 43 (at 43 44) (codes "A") 44 45) (qualified (codes "V") 48 49 (at 49 50) (codes "B") 50 51))

first_group : c.SpellsGroup 0 (c.entry_tree (name (codes "T") 28 29) (Some (name (codes "U") 30 31)) None 0 ∷ c.entry_tree (name (codes "V") 37 38) None (Some example.join_tree) 0 ∷ []) (part example.query_tokens 6 12)
first_group =
    c.group (name (codes "T") 28 29) (Some (name (codes "U") 30 31)) (c.entry_tree (name (codes "V") 37 38) None (Some example.join_tree) 0 ∷ []) (part example.query_tokens 6 2) (part example.query_tokens 8 10) refl refl
    (record { quoted = false; rest = part example.query_tokens 7 1; whole = refl; visible = (false, [], refl, inl refl) })
    (c.inner_join (name (codes "V") 37 38) None example.join_tree [] [] (at 32 36) (part example.query_tokens 9 1) (at 39 41) (part example.query_tokens 11 7) [] refl refl (inl refl)
    (record { quoted = false; rest = []; whole = refl; visible = refl })
    join_spelled
    (c.no_join refl refl))

query_items : item.SpellsItems (Term (column (codes "A") 16 17) (Some (name (codes "X") 21 22)) ∷ []) (part example.query_tokens 2 3)
query_items =
    item.listed (part example.query_tokens 2 3, [], refl, (part example.query_tokens 2 1, part example.query_tokens 3 2, refl, inl (bare_column (codes "A") 16 17), (false, part example.query_tokens 3 1, refl, inr (at 18 20, refl))), refl)

pub query_spelled : query.SpellsQuery example.query_tree example.query_tokens
query_spelled = record {
  own = part example.query_tokens 0 24;
  rest = part example.query_tokens 24 4;
  whole = refl;
  main =
      c.select (Some (at 7 15)) _ (c.entry_tree (name (codes "T") 28 29) (Some (name (codes "U") 30 31)) None 0 ∷ c.entry_tree (name (codes "V") 37 38) None (Some example.join_tree) 0 ∷ c.entry_tree (name (codes "W") 53 54) None None 2 ∷ []) (Some example.filter_tree)
      (at 0 6) (part example.query_tokens 1 1) (part example.query_tokens 2 3) (at 23 27) (part example.query_tokens 6 14) (part example.query_tokens 20 4) refl refl refl query_items
      (c.more_groups _ (c.entry_tree (name (codes "W") 53 54) None None 2 ∷ []) (part example.query_tokens 6 12) (at 51 52) (part example.query_tokens 19 1) refl refl first_group (one_table 2 (codes "W") 53 54))
      (c.filtered example.filter_tree (at 55 60) (part example.query_tokens 21 3) refl refl (alone (comparison Gt (at 63 64) (column_term (codes "A") 61 62) (number_term 1 65 66))));
  order =
      query.ordered (at 67 72) (at 73 75) (part example.query_tokens 26 2) refl
      (part example.query_tokens 26 2, [], refl, (1, part example.query_tokens 27 1, refl, refl, query.descending (at 78 82) refl), refl);
}

primary_column : table.SpellsElement (element.Column (name (codes "A") 16 17) type.Integer (rule.Primary (name (codes "A") 16 17 ∷ []) (at 26 33) ∷ [])) (part example.table_tokens 4 4)
primary_column = (
  false,
  part example.table_tokens 5 1,
  [],
  part example.table_tokens 6 2,
  refl,
  table.integer (at 18 25) refl refl,
  table.no_default refl,
  table.more_rules _ [] [] (part example.table_tokens 6 2) [] refl refl (table.unnamed refl) (table.primary (at 26 33) (at 34 37) refl refl) (table.no_rules refl refl),
)

text_column : table.SpellsElement (element.Column (name (codes "B") 39 40) (type.Text (pos 3) (at 46 47)) (rule.NotNull ∷ [])) (part example.table_tokens 9 9)
text_column = (
  false,
  part example.table_tokens 10 4,
  part example.table_tokens 14 2,
  part example.table_tokens 16 2,
  refl,
  table.fixed 3 (at 46 47) (codes "CHAR") (at 41 45) (at 45 46) (at 47 48) refl refl (inl refl),
  table.default _ (at 49 56) (part example.table_tokens 15 1) refl (term.literal (term.quoted (codes "x") (at 57 60) refl refl)),
  table.more_rules _ [] [] (part example.table_tokens 16 2) [] refl refl (table.unnamed refl) (table.not_null (at 61 64) (at 65 69) refl refl) (table.no_rules refl refl),
)

check_is_flat : table.is_flat example.check_tree ≡ true
check_is_flat =
    ap table.is_flat (sym (rolls-Compare Gt (column (codes "A") 78 79) (integer 0 82 83) (at 78 83))) ∙ fold-roll-CondTree Bool Bool Bool table.is_flat_step (λ entry. false) (λ select. false) (CondTree-F.Compare Gt (column (codes "A") 78 79) (integer 0 82 83) (at 78 83))

check_rule : table.SpellsElement (element.Rule (rule.Check example.check_tree)) (part example.table_tokens 19 6)
check_rule = (
  [],
  part example.table_tokens 19 6,
  refl,
  table.unnamed refl,
  table.table_check example.check_tree refl (record {
    check_at = at 71 76;
    open_at = at 77 78;
    own = part example.table_tokens 21 3;
    close_at = at 83 84;
    whole = refl;
    condition = alone (comparison Gt (at 80 81) (column_term (codes "A") 78 79) (number_term 0 82 83));
    flat = check_is_flat;
  }),
)

-- one name in parentheses
one_name : (open_at close_at : Span) (text : List ℕ) (from to : ℕ) → SpellsNames (name text from to ∷ []) (sign Open open_at ∷ called text (at from to) ∷ sign Close close_at ∷ [])
one_name open_at close_at text from to =
    record { open_at = open_at; listed = called text (at from to) ∷ []; close_at = close_at; whole = refl; names_listed = (called text (at from to) ∷ [], [], refl, (false, refl), refl) }

foreign_rule : table.SpellsElement (element.Rule (rule.Foreign (name (codes "B") 112 113 ∷ []) (name (codes "S") 126 127) (name (codes "C") 129 130 ∷ []) (at 99 130))) (part example.table_tokens 26 15)
foreign_rule = (
  part example.table_tokens 26 2,
  part example.table_tokens 28 13,
  refl,
  table.named (name (codes "K") 97 98) false (at 86 96) refl,
  table.foreign_names _ _ _ (at 99 106) (at 107 110) (at 115 125) (part example.table_tokens 30 3) (part example.table_tokens 33 8) refl refl (one_name (at 111 112) (at 113 114) (codes "B") 112 113)
      (record {
        quoted = false;
        listed = part example.table_tokens 35 3;
        rest = part example.table_tokens 38 3;
        whole = refl;
        names = one_name (at 128 129) (at 130 131) (codes "C") 129 130;
        actions = table.more_actions (codes "DELETE") (at 132 134) (at 135 141) (part example.table_tokens 40 1) [] refl (inl refl) (table.cascade (at 142 149) refl) (table.no_actions refl);
      }),
)

pub table_spelled : table.SpellsCreate example.table_tree example.table_tokens
table_spelled = record {
  create_at = at 0 6;
  table_at = at 7 12;
  quoted = false;
  open_at = at 15 16;
  listed = part example.table_tokens 4 37;
  close_at = at 149 150;
  whole = refl;
  elements = (
    part example.table_tokens 4 4,
    part example.table_tokens 8 33,
    refl,
    primary_column,
    (
      at 37 38,
      part example.table_tokens 9 9,
      part example.table_tokens 18 23,
      refl,
      text_column,
      (at 69 70, part example.table_tokens 19 6, part example.table_tokens 25 16, refl, check_rule, (at 84 85, part example.table_tokens 26 15, [], refl, foreign_rule, refl)),
    ),
  );
}

short_column : table.SpellsElement (element.Column (name (codes "A") 18 19) (type.Text (pos 1) (at 20 24)) (rule.Foreign (name (codes "A") 18 19 ∷ []) (name (codes "S") 36 37) [] (at 25 37) ∷ [])) (part example.schema_tokens 5 4)
short_column = (
  false,
  part example.schema_tokens 6 1,
  [],
  part example.schema_tokens 7 2,
  refl,
  table.single (codes "CHAR") (at 20 24) refl refl (inl refl),
  table.no_default refl,
  table.more_rules _ [] [] (part example.schema_tokens 7 2) [] refl refl (table.unnamed refl)
      (table.references (name (codes "S") 36 37) [] (at 25 35) refl (lit≤ tt) (record { quoted = false; listed = []; rest = []; whole = refl; names = refl; actions = table.no_actions refl }))
      (table.no_rules refl refl),
)

pub schema_spelled : schema.SpellsSchema example.schema_trees example.schema_tokens
schema_spelled =
    schema.more [] _ [] (at 0 1) (part example.schema_tokens 1 10) refl refl (schema.empty refl refl) (schema.more _ [] (part example.schema_tokens 1 9) (at 38 39) [] refl refl (schema.create _ refl (record {
      create_at = at 2 8;
      table_at = at 9 14;
      quoted = false;
      open_at = at 17 18;
      listed = part example.schema_tokens 5 4;
      close_at = at 37 38;
      whole = refl;
      elements = (part example.schema_tokens 5 4, [], refl, short_column, refl);
    })) (schema.last (schema.empty refl refl)))
