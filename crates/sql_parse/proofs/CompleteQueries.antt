-- A query is read whole.
use Rattle.std.proofs.Common.{pos, ◌+◌, ◌≤◌, ◌≡◌, refl, ap, sym, ◌∙◌, false, List, [], ◌∷◌, ◌++◌, length, Some, codes, lit≤, arith, inl}
use Rattle.std.proofs.lemmas.List.{append_assoc, append-nil, length-append}
use Rattle.sql_lex.specs.declared.token.Kind.{Kind}
use Rattle.sql_lex.specs.declared.token.Token.{Token}
use Rattle.sql_tree.specs.declared.term.TermTree.{TermTree}
use Rattle.sql_tree.specs.declared.select.OrderTree.{OrderTree}
use Rattle.sql_tree.specs.declared.select.OrderTree.TheVariants.{Place, Column}
use Rattle.sql_tree.specs.declared.select.QueryTree.{QueryTree}
use Rattle.sql_tree.specs.declared.select.SelectTree.{SelectTree}
use Rattle.sql_parse.specs.grammar.Words.{span_of}
use Rattle.sql_parse.specs.grammar.Terms.{SpellsBareColumn}
use Rattle.sql_parse.specs.grammar.Queries as query
use Rattle.sql_parse.specs.grammar.Queries.{SpellsDirection, SpellsKey, SpellsOrder, SpellsQuery}
use Rattle.sql_parse.specs.inner.readers.Tokens.{found, and_then, is_word, is_name, is_called, at_head, expect, all_read, read_after}
use Rattle.sql_parse.specs.inner.readers.Selects.{Parts, placed, read_select, read_cond}
use Rattle.sql_parse.specs.inner.readers.Queries.{is_direction, directed, read_key, read_order, read_query, query_of}
use Rattle.sql_parse.proofs.CompleteTokens.{kind_rank, place_rank, rank, no_name, not_called}
use Rattle.sql_parse.proofs.CompleteLists.{list_read}
use Rattle.sql_parse.proofs.CompleteTerms.{number_is_read, bare_read, column_named}
use Rattle.sql_parse.proofs.CompleteSelects.{ReadsSelect, select_reads}

no_direction_kind : (k : Kind) → is_name k ≡ false → is_direction k ≡ false
unfolding is_direction
no_direction_kind k h = rw (not_called (codes "ASC") k h, not_called (codes "DESC") k h) refl

no_direction : (rest : List Token) → at_head is_name rest ≡ false → at_head is_direction rest ≡ false
unfolding at_head
no_direction [] h = refl
no_direction (t ∷ rest) h = no_direction_kind t.kind h

undirected : (key : OrderTree) (rest : List Token) → at_head is_direction rest ≡ false → directed key rest ≡ found key rest
unfolding directed
undirected key rest f = rw f refl

directed_read : (key : OrderTree) (tokens : List Token) → SpellsDirection tokens → (rest : List Token) → 5 ≤ rank rest → directed key (tokens ++ rest) ≡ found key rest
unfolding directed expect and_then at_head is_direction is_called
directed_read key tokens (query.unsaid e) rest h = rw e (undirected key rest (no_direction rest (no_name rest h)))
directed_read key tokens (query.ascending at e) rest h = rw e refl
directed_read key tokens (query.descending at e) rest h = rw e refl

direction_rank : (tokens : List Token) → SpellsDirection tokens → (rest : List Token) → 5 ≤ rank rest → 1 ≤ rank (tokens ++ rest)
unfolding rank kind_rank
direction_rank tokens (query.unsaid e) rest h = rw e (omega arith)
direction_rank tokens (query.ascending at e) rest h = rw e (lit≤ tt)
direction_rank tokens (query.descending at e) rest h = rw e (lit≤ tt)

-- a key
column_key : (term : TermTree) (own more : List Token) → SpellsBareColumn term own → SpellsDirection more → (rest : List Token) → 5 ≤ rank rest →
    read_key (own ++ (more ++ rest)) ≡ found (Column term) rest
unfolding read_key and_then
column_key term own more s d rest h =
    rw (column_named s.table s.name own s.column (more ++ rest), bare_read term own s (more ++ rest) (direction_rank more d rest h)) (directed_read (Column term) more d rest h)

key_read : (key : OrderTree) (tokens : List Token) → SpellsKey key tokens → (rest : List Token) → 5 ≤ rank rest → read_key (tokens ++ rest) ≡ found key rest
unfolding read_key and_then at_head is_name
key_read (Place value at) tokens s rest h = rw (s.3, s.2, number_is_read s.0 at (s.1 ++ rest)) (directed_read (Place (pos s.0) at) s.1 s.4 rest h)
key_read (Column term) tokens s rest h = rw (s.2, append_assoc s.0 s.1 rest) (column_key term s.0 s.1 s.3 s.4 rest h)

end_rank : 7 ≤ rank []
unfolding rank
end_rank = lit≤ tt

-- ORDER BY, at the end of all tokens
order_read : (keys : List OrderTree) (tokens : List Token) → SpellsOrder keys tokens → read_order tokens ≡ found keys []
unfolding read_order read_after expect and_then at_head is_word
order_read keys tokens (query.unordered e whole) = rw (e, whole) refl
order_read keys tokens (query.ordered order_at by_at listed whole s) =
    rw whole (rw append-nil at (list_read SpellsKey read_key 5 (lit≤ tt) (length listed) (λ key own k small rest r. key_read key own k rest r) keys listed s (omega arith) [] end_rank))

order_rank : (keys : List OrderTree) (tokens : List Token) → SpellsOrder keys tokens → 8 ≤ rank tokens
unfolding rank kind_rank place_rank
order_rank keys tokens (query.unordered e whole) = rw whole (lit≤ tt)
order_rank keys tokens (query.ordered order_at by_at listed whole s) = rw whole (lit≤ tt)

-- a query
query_step : (tokens more : List Token) (parts : Parts) (keys : List OrderTree) → read_select false (read_cond false (length tokens)) false tokens ≡ found parts more → read_order more ≡ found keys [] →
    query_of tokens ≡ Some (record { select = placed parts (span_of tokens); order = keys })
unfolding query_of read_query and_then all_read
query_step tokens more parts keys e f = rw (e, f) refl

pub query_read : (tree : QueryTree) (tokens : List Token) → SpellsQuery tree tokens → query_of tokens ≡ Some tree
query_read tree tokens s =
    let main : ReadsSelect (span_of tokens) tree.select s.own = select_reads (span_of tokens) tree.select s.own s.main in
    let size : length tokens ≡ length s.own + length s.rest = ap length s.whole ∙ length-append s.own s.rest in
    let first : read_select false (read_cond false (length tokens)) false tokens ≡ found main.0 s.rest =
    ap (read_select false (read_cond false (length tokens)) false) s.whole ∙ main.2 false (length tokens) (inl refl) (omega arith) s.rest (order_rank tree.order s.rest s.order) in
    query_step tokens s.rest main.0 tree.order first (order_read tree.order s.rest s.order)
    ∙ ap (λ (select : SelectTree). let q : QueryTree = record { select = select; order = tree.order } in Some q) (sym main.1)
