-- Declarations of tables and schemas are read whole.
use Rattle.std.proofs.Common.{ℕ, ◌+◌, ◌≤◌, ◌≡◌, refl, sym, Bool, true, false, List, [], ◌∷◌, ◌++◌, length, codes, Some, lit≤, arith}
use Rattle.std.proofs.lemmas.List.{append_assoc, append-nil, length-append}
use Rattle.lint_base.specs.declared.place.Span.{Span}
use Rattle.sql_lex.specs.declared.token.Sign.TheVariants.{Open, Close, Semicolon}
use Rattle.sql_lex.specs.declared.token.Token.{Token}
use Rattle.sql_tree.specs.declared.term.NameTree.{NameTree}
use Rattle.sql_tree.specs.declared.schema.TypeTree.{TypeTree}
use Rattle.sql_tree.specs.declared.schema.RuleTree.{RuleTree}
use Rattle.sql_tree.specs.declared.schema.Element.{Element}
use Rattle.sql_tree.specs.declared.schema.Element.TheVariants as element
use Rattle.sql_tree.specs.declared.schema.CreateTable.{CreateTable}
use Rattle.sql_parse.specs.grammar.Words.{word, sign, CREATE, TABLE}
use Rattle.sql_parse.specs.grammar.Lists.{SpellsList}
use Rattle.sql_parse.specs.grammar.Names.{name_token}
use Rattle.sql_parse.specs.grammar.Tables as table
use Rattle.sql_parse.specs.grammar.Tables.{SpellsDefault, SpellsConstraint, SpellsElement, SpellsCreate}
use Rattle.sql_parse.specs.grammar.Schemas as schema
use Rattle.sql_parse.specs.grammar.Schemas.{SpellsStatement, SpellsSchema}
use Rattle.sql_parse.specs.inner.readers.Tokens.{found, and_then, is_word, is_open, is_close, is_semicolon, is_name, is_called, at_head, expect, read_after}
use Rattle.sql_parse.specs.inner.readers.Terms.{name_from, read_name}
use Rattle.sql_parse.specs.inner.readers.Tables.{read_type, read_default, read_constraint, read_rules, read_table_rule, read_declared_column, read_element, read_elements, read_create}
use Rattle.sql_parse.specs.inner.readers.Schemas.{read_statement, read_next_statement, read_schema, schema_of}
use Rattle.sql_parse.proofs.CompleteTokens.{all_found, rank}
use Rattle.sql_parse.proofs.CompleteLists.{after_read, Looped, loop_end, loop_more, loop_whole, list_read}
use Rattle.sql_parse.proofs.CompleteSelects.{close_rank}
use Rattle.sql_parse.proofs.CompleteTables.{type_read, default_read, constraint_read}
use Rattle.sql_parse.proofs.CompleteRules.{Plain, ended, rules_plain, rules_read, table_rule_read, table_rule_begun}

-- an element
named_no_name : (constraint : List Token) → SpellsConstraint constraint → (rest : List Token) → at_head is_name rest ≡ false → at_head is_name (constraint ++ rest) ≡ false
unfolding at_head is_name
named_no_name constraint (table.unnamed e) rest h = rw (e, h) refl
named_no_name constraint (table.named name quoted at e) rest h = rw e refl

default_plain : (tokens : List Token) → SpellsDefault tokens → (rest : List Token) → Plain rest → (at_head is_open (tokens ++ rest) ≡ false) × (at_head (is_called (codes "VARYING")) (tokens ++ rest) ≡ false)
unfolding at_head is_open is_called
default_plain tokens (table.no_default e) rest p = rw e (p.0, p.3)
default_plain tokens (table.«default» term at own e s) rest p = rw e (refl, refl)

column_step : (depth : ℕ) (name : NameTree) (kind : TypeTree) (rules : List RuleTree) (quoted : Bool) (typed defaulted ruled rest : List Token) →
    read_type (typed ++ (defaulted ++ (ruled ++ rest))) ≡ found kind (defaulted ++ (ruled ++ rest)) →
    read_default (defaulted ++ (ruled ++ rest)) ≡ found false (ruled ++ rest) →
    read_rules depth name (ruled ++ rest) ≡ found rules rest →
    read_element depth ((name_token name quoted ∷ typed ++ (defaulted ++ ruled)) ++ rest) ≡ found (element.Column name kind rules) rest
unfolding read_element read_declared_column read_name name_from and_then at_head is_name
column_step depth name kind rules quoted typed defaulted ruled rest e f g =
    rw (append_assoc typed (defaulted ++ ruled) rest, append_assoc defaulted ruled rest, e, f, g) refl

rule_step : (depth : ℕ) (rule : RuleTree) (constraint own rest : List Token) → at_head is_name (constraint ++ (own ++ rest)) ≡ false →
    read_constraint (constraint ++ (own ++ rest)) ≡ found false (own ++ rest) → read_table_rule depth (own ++ rest) ≡ found rule rest →
    read_element depth ((constraint ++ own) ++ rest) ≡ found (element.Rule rule) rest
unfolding read_element and_then
rule_step depth rule constraint own rest h e f = rw (append_assoc constraint own rest, h, e, f) refl

element_read : (depth : ℕ) (tree : Element) (tokens : List Token) → SpellsElement tree tokens → length tokens ≤ depth → (rest : List Token) → 6 ≤ rank rest → read_element depth (tokens ++ rest) ≡ found tree rest
element_read depth (element.Column name kind rules) tokens s l rest r =
    let fits : length (name_token name s.0 ∷ s.1 ++ (s.2 ++ s.3)) ≤ depth = rw s.4 at l in
    let size = length-append s.1 (s.2 ++ s.3) in
    let inner_size = length-append s.2 s.3 in
    let plain : Plain (s.3 ++ rest) = rules_plain name rules s.3 s.7 rest r in
    let after = default_plain s.2 s.6 (s.3 ++ rest) plain in
    rw s.4
    (column_step depth name kind rules s.0 s.1 s.2 s.3 rest
    (type_read kind s.1 s.5 (s.2 ++ (s.3 ++ rest)) after.0 after.1)
    (default_read s.2 s.6 (s.3 ++ rest) plain.2)
    (rules_read depth name rules s.3 s.7 (omega arith) rest r))
element_read depth (element.Rule rule) tokens s l rest r =
    let fits : length (s.0 ++ s.1) ≤ depth = rw s.2 at l in
    let size = length-append s.0 s.1 in
    let plain : Plain rest = ended rest r in
    let begun = table_rule_begun rule s.1 s.4 rest in
    rw s.2
    (rule_step depth rule s.0 s.1 rest (named_no_name s.0 s.3 (s.1 ++ rest) begun.0) (constraint_read s.0 s.3 (s.1 ++ rest) begun.1)
    (table_rule_read depth rule s.1 s.4 (omega arith) rest plain.0 plain.1))

-- a table
elements_read : (depth : ℕ) (elements : List Element) (open_at : Span) (listed : List Token) (close_at : Span) (rest : List Token) → SpellsList SpellsElement elements listed → length listed ≤ depth →
    read_elements depth (sign Open open_at ∷ listed ++ (sign Close close_at ∷ rest)) ≡ found elements rest
unfolding read_elements read_after expect and_then is_open is_close
elements_read depth elements open_at listed close_at rest s l =
    rw (list_read SpellsElement (read_element depth) 6 (lit≤ tt) depth (element_read depth) elements listed s l (sign Close close_at ∷ rest) (close_rank 7 (lit≤ tt) close_at rest)) refl

pub create_read : (depth : ℕ) (tree : CreateTable) (tokens : List Token) → SpellsCreate tree tokens → length tokens ≤ depth → (rest : List Token) → read_create depth (tokens ++ rest) ≡ found tree rest
unfolding read_create read_after expect read_name name_from and_then is_word
create_read depth tree tokens s l rest =
    let fits : length (word CREATE s.create_at ∷ word TABLE s.table_at ∷ name_token tree.name s.quoted ∷ sign Open s.open_at ∷ s.listed ++ sign Close s.close_at ∷ []) ≤ depth = rw s.whole at l in
    let size = length-append s.listed (sign Close s.close_at ∷ []) in
    rw (s.whole, append_assoc s.listed (sign Close s.close_at ∷ []) rest, elements_read depth tree.elements s.open_at s.listed s.close_at rest s.elements (omega arith)) refl

-- a statement
create_head : (tree : CreateTable) (tokens : List Token) → SpellsCreate tree tokens → (rest : List Token) → at_head (is_word CREATE) (tokens ++ rest) ≡ true
unfolding at_head is_word
create_head tree tokens s rest = rw s.whole refl

statement_read : (depth : ℕ) (trees : List CreateTable) (tokens : List Token) → SpellsStatement trees tokens → length tokens ≤ depth → (rest : List Token) → at_head (is_word CREATE) rest ≡ false →
    read_statement depth (tokens ++ rest) ≡ found trees rest
unfolding read_statement and_then
statement_read depth trees tokens (schema.empty e whole) l rest f = rw (e, whole, f) refl
statement_read depth trees tokens (schema.create tree e s) l rest f = rw (e, create_head tree tokens s rest, create_read depth tree tokens s l rest) refl

-- a schema, from a statement on
Stated : ℕ → List CreateTable → List Token → Type 0
Stated depth trees tokens =
    (first : List CreateTable) × (others : List CreateTable) × (own : List Token) × (more : List Token) × (trees ≡ first ++ others) × (tokens ≡ own ++ more)
    × (read_statement depth (own ++ (more ++ [])) ≡ found first (more ++ [])) × ((count : ℕ) → Looped (at_head is_semicolon) (read_next_statement depth) count others more [])

no_create : (at : Span) (rest : List Token) → at_head (is_word CREATE) (sign Semicolon at ∷ rest) ≡ false
unfolding at_head is_word
no_create at rest = refl

none_at_end : (test : _) → at_head test [] ≡ false
unfolding at_head
none_at_end test = refl

last_statement : (depth : ℕ) (trees : List CreateTable) (tokens : List Token) → SpellsStatement trees tokens → length tokens ≤ depth → Stated depth trees tokens
unfolding Stated
last_statement depth trees tokens s l =
    (trees, [], tokens, [], sym (append-nil trees), sym (append-nil tokens), statement_read depth trees tokens s l [] (none_at_end (is_word CREATE)), λ count. loop_end (at_head is_semicolon) (read_next_statement depth) count [] (none_at_end is_semicolon))

next_statements : (depth : ℕ) (trees : List CreateTable) (semicolon_at : Span) (tokens : List Token) → Stated depth trees tokens → (count : ℕ) →
    Looped (at_head is_semicolon) (read_next_statement depth) count trees (sign Semicolon semicolon_at ∷ tokens) []
unfolding Stated read_next_statement at_head is_semicolon
next_statements depth trees semicolon_at tokens s count =
    rw (s.4, s.5)
    (loop_more (at_head is_semicolon) (read_next_statement depth) count s.0 s.1 (sign Semicolon semicolon_at ∷ s.2) s.3 [] (omega arith) refl
    (after_read is_semicolon (read_statement depth) (sign Semicolon semicolon_at) (s.2 ++ (s.3 ++ [])) s.0 (s.3 ++ []) refl s.6) (s.7 (count + length s.0)))

more_statements : (depth : ℕ) (left others : List CreateTable) (own : List Token) (semicolon_at : Span) (more : List Token) → SpellsStatement left own → length own ≤ depth → Stated depth others more →
    Stated depth (left ++ others) (own ++ sign Semicolon semicolon_at ∷ more)
unfolding Stated
more_statements depth left others own semicolon_at more s l stated = (
  left,
  others,
  own,
  sign Semicolon semicolon_at ∷ more,
  refl,
  refl,
  statement_read depth left own s l (sign Semicolon semicolon_at ∷ more ++ []) (no_create semicolon_at (more ++ [])),
  next_statements depth others semicolon_at more stated,
)

stated : (depth : ℕ) (trees : List CreateTable) (tokens : List Token) → SpellsSchema trees tokens → length tokens ≤ depth → Stated depth trees tokens
stated depth trees tokens (schema.last s) l = last_statement depth trees tokens s l
stated depth trees tokens (schema.more left others own semicolon_at rest e whole s t) l =
    let fits : length (own ++ sign Semicolon semicolon_at ∷ rest) ≤ depth = rw whole at l in
    let size = length-append own (sign Semicolon semicolon_at ∷ rest) in
    rw (e, whole) (more_statements depth left others own semicolon_at rest s (omega arith) (stated depth others rest t (omega arith)))

whole_schema : (depth : ℕ) (trees : List CreateTable) (tokens : List Token) → Stated depth trees tokens → read_schema depth (tokens ++ []) ≡ found trees []
unfolding Stated read_schema and_then
whole_schema depth trees tokens s =
    rw (s.4, s.5, append_assoc s.2 s.3 [], s.6, loop_whole (at_head is_semicolon) (read_next_statement depth) 0 s.1 s.3 [] (s.7 0)) refl

pub schema_read : (trees : List CreateTable) (tokens : List Token) → SpellsSchema trees tokens → schema_of tokens ≡ Some trees
unfolding schema_of
schema_read trees tokens s =
    let depth : ℕ = length tokens in
    all_found trees tokens (read_schema depth) (whole_schema depth trees tokens (stated depth trees tokens s (omega arith)))
