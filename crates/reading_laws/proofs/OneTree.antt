-- What is in the grammar is read as one tree, and so no two trees have the same tokens.
use Rattle.std.proofs.Common.{ℕ, suc, ◌≡◌, refl, ap, sym, ◌∙◌, Bool, false, List, [], ◌++◌, length, Option, Some, None, lit≤, arith, inl}
use Rattle.lint_base.specs.declared.place.Span.{Span}
use Rattle.sql_lex.specs.declared.token.Token.{Token}
use Rattle.sql_tree.specs.declared.term.TermTree.{TermTree}
use Rattle.sql_tree.specs.declared.select.CondTree.{CondTree}
use Rattle.sql_tree.specs.declared.select.SelectTree.{SelectTree}
use Rattle.sql_tree.specs.declared.select.QueryTree.{QueryTree}
use Rattle.sql_tree.specs.declared.schema.CreateTable.{CreateTable}
use Rattle.sql_parse.specs.grammar.Terms.{SpellsTerm}
use Rattle.sql_parse.specs.grammar.Predicates.{SpellsPredicate}
use Rattle.sql_parse.specs.grammar.Selects.{Disjunction, SpellsCond, SpellsSelect}
use Rattle.sql_parse.specs.grammar.Queries.{SpellsQuery}
use Rattle.sql_parse.specs.grammar.Tables.{SpellsCreate}
use Rattle.sql_parse.specs.grammar.Schemas.{SpellsSchema}
use Rattle.sql_parse.specs.inner.readers.Tokens.{Read, found}
use Rattle.sql_parse.specs.inner.readers.Terms.{read_term}
use Rattle.sql_parse.specs.inner.readers.Predicates.{read_predicate}
use Rattle.sql_parse.specs.inner.readers.Selects.{Parts, placed, read_select, read_cond}
use Rattle.sql_parse.specs.inner.readers.Queries.{query_of}
use Rattle.sql_parse.specs.inner.readers.Tables.{read_create}
use Rattle.sql_parse.specs.inner.readers.Schemas.{schema_of}
use Rattle.sql_parse.proofs.CompleteTokens.{rank}
use Rattle.sql_parse.proofs.CompleteTerms.{term_read}
use Rattle.sql_parse.proofs.CompletePredicates.{predicate_read}
use Rattle.sql_parse.proofs.CompleteSelects.{ReadsSelect, select_reads, cond_read}
use Rattle.sql_parse.proofs.CompleteSchemas.{create_read}
use Rattle.sql_parse.proofs.Complete.{query_complete, schema_complete}

-- two readings of the same tokens are one
value_of : {A : Type 0} → A × List Token → Read A → A
value_of other None = other.0
value_of other (Some r) = r.0

one_found : {A : Type 0} (left right : A) (rest : List Token) (f : Read A) → f ≡ found left rest → f ≡ found right rest → left ≡ right
unfolding value_of
one_found {A} left right rest f e e' =
    let first : A × List Token = (left, rest) in
    ap (value_of first) (sym e ∙ e')

pub one_term : (tokens : List Token) → (left right : TermTree) → SpellsTerm left tokens → SpellsTerm right tokens → left ≡ right
unfolding rank
one_term tokens left right l r = one_found left right [] (read_term (tokens ++ [])) (term_read left tokens l [] (lit≤ tt)) (term_read right tokens r [] (lit≤ tt))

pub one_predicate : (tokens : List Token) → (left right : CondTree) → SpellsPredicate left tokens → SpellsPredicate right tokens → left ≡ right
unfolding rank
one_predicate tokens left right l r =
    let sub : Bool → List Token → Read SelectTree = λ scalar rest. None in
    one_found left right [] (read_predicate sub (tokens ++ [])) (predicate_read sub left tokens l [] (lit≤ tt)) (predicate_read sub right tokens r [] (lit≤ tt))

pub one_condition : (tokens : List Token) → (left right : CondTree) → SpellsCond Disjunction left tokens → SpellsCond Disjunction right tokens → left ≡ right
unfolding rank
one_condition tokens left right l r =
    let depth : ℕ = suc (length tokens) in
    one_found left right [] (read_cond false depth (tokens ++ []))
    (cond_read left tokens l false depth (inl refl) (omega arith) [] (lit≤ tt)) (cond_read right tokens r false depth (inl refl) (omega arith) [] (lit≤ tt))

pub one_select : (span : Span) (tokens : List Token) (left right : SelectTree) → SpellsSelect span left tokens → SpellsSelect span right tokens → left ≡ right
unfolding rank
one_select span tokens left right l r =
    let first : ReadsSelect span left tokens = select_reads span left tokens l in
    let second : ReadsSelect span right tokens = select_reads span right tokens r in
    let depth : ℕ = length tokens in
    let same : first.0 ≡ second.0 =
    one_found first.0 second.0 [] (read_select false (read_cond false depth) false (tokens ++ []))
    (first.2 false depth (inl refl) (omega arith) [] (lit≤ tt)) (second.2 false depth (inl refl) (omega arith) [] (lit≤ tt)) in
    first.1 ∙ ap (λ (parts : Parts). placed parts span) same ∙ sym second.1

pub one_table : (tokens : List Token) → (left right : CreateTable) → SpellsCreate left tokens → SpellsCreate right tokens → left ≡ right
one_table tokens left right l r =
    let depth : ℕ = length tokens in
    one_found left right [] (read_create depth (tokens ++ [])) (create_read depth left tokens l (omega arith) []) (create_read depth right tokens r (omega arith) [])

one_read : {A : Type 0} (left right : A) (read : Option A) → read ≡ Some left → read ≡ Some right → left ≡ right
one_read left right read e f = cc

pub one_query : (tokens : List Token) → (left right : QueryTree) → SpellsQuery left tokens → SpellsQuery right tokens → left ≡ right
one_query tokens left right l r = one_read left right (query_of tokens) (query_complete left tokens l) (query_complete right tokens r)

pub one_schema : (tokens : List Token) → (left right : List CreateTable) → SpellsSchema left tokens → SpellsSchema right tokens → left ≡ right
one_schema tokens left right l r = one_read left right (schema_of tokens) (schema_complete left tokens l) (schema_complete right tokens r)
