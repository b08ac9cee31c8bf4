-- Every text is read as one schema or refused for one cause, and every piece as one query or refused for one cause.
use Rattle.std.proofs.Common.{◌≡◌, ◌⊎◌, inl, inr, ℕ, List, Result, Ok, Err, refl, ap, subst, ◌∙◌}
use Rattle.lint_base.specs.declared.place.Span.{Span}
use Rattle.lint_base.specs.declared.place.Refusal.{Refusal}
use Rattle.lint_core.specs.declared.schema.Table.{Table}
use Rattle.lint_core.specs.declared.query.Query.{Query}
use Rattle.sql_lex.specs.declared.token.Token.{Token}
use Rattle.sql_lex.specs.Tokens.{Spells}
use Rattle.sql_lex.proofs.Lexed.{Lexed, every_lexed}
use Rattle.sql_tree.specs.declared.schema.CreateTable.{CreateTable}
use Rattle.sql_tree.specs.declared.select.QueryTree.{QueryTree}
use Rattle.sql_parse.specs.Refusals.{IsQuery, IsNoQuery, IsSchema, IsNoSchema}
use Rattle.sql_bind.specs.Queries.{bind_query}
use Rattle.sql_bind.specs.Schemas.{bind_schema}
use Rattle.sql_reading.specs.TextReading as reading
use Rattle.sql_reading.specs.TextReading.{ReadsSchema, RefusesSchema, ReadsQuery, RefusesQuery, piece_text}
use Rattle.reading_laws.specs.SameRefusal.{SameRefusal}
use Rattle.reading_laws.proofs.LexSteps.{one_list, spelled_or_faulty, one_fault}
use Rattle.reading_laws.proofs.OneTree.{one_query, one_schema}
use Rattle.reading_laws.proofs.Parsed.{QueryOrNot, SchemaOrNot, query_some, schema_some, query_apart, schema_apart, same_of, query_refusal, schema_refusal}

-- a result is one thing
ok_one : {A : Type 0} (r : Result A Refusal) (a b : A) → r ≡ Ok a → r ≡ Ok b → a ≡ b
ok_one r a b e f = cc

err_one : {A : Type 0} (r : Result A Refusal) (a b : Refusal) → r ≡ Err a → r ≡ Err b → a ≡ b
err_one r a b e f = cc

ok_or_err : {A : Type 0} (r : Result A Refusal) (a : A) (b : Refusal) → r ≡ Ok a → r ≡ Err b → ⊥
ok_or_err r a b e f = cc

-- two lexings of a text are one, and so what is so of the tokens of the one is so of those of the other
other_tokens : (at : ℕ) (text : List ℕ) (P : List Token → Type 0) (tokens others : List Token) → Spells at text tokens → Spells at text others → P others → P tokens
other_tokens at text P tokens others a b p = subst P (one_list at text others tokens b a) p

-- schemas
module _ (text : List ℕ) where
  abbrev pub SchemaReading : Type 0
  SchemaReading = ((schema : List Table) × ReadsSchema text schema) ⊎ ((refusal : Refusal) × RefusesSchema text refusal)

  schema_bound : (tokens : List Token) (trees : List CreateTable) → Spells 0 text tokens → IsSchema tokens trees → (bound : Result (List Table) Refusal) → bind_schema trees ≡ bound → SchemaReading
  schema_bound tokens trees spelled parsed (Ok schema) e = inl (schema, record { tokens = tokens; trees = trees; spelled = spelled; parsed = parsed; bound = e })
  schema_bound tokens trees spelled parsed (Err refusal) e = inr (refusal, reading.binding tokens trees spelled parsed e)

  schema_parsed : (tokens : List Token) → Spells 0 text tokens → SchemaOrNot tokens → SchemaReading
  schema_parsed tokens spelled (inl (trees, parsed)) = schema_bound tokens trees spelled parsed (bind_schema trees) refl
  schema_parsed tokens spelled (inr (refusal, none)) = inr (refusal, reading.grammar tokens spelled none)

  schema_lexed : Lexed 0 text → SchemaReading
  schema_lexed (inl (tokens, spelled)) = schema_parsed tokens spelled (schema_some tokens)
  schema_lexed (inr (refusal, faulty)) = inr (refusal, reading.lexical faulty)

  pub schema_read : SchemaReading
  schema_read = schema_lexed (every_lexed 0 text)

  same_trees : (tokens others : List Token) (trees more : List CreateTable) → Spells 0 text tokens → Spells 0 text others → IsSchema tokens trees → IsSchema others more → trees ≡ more
  same_trees tokens others trees more a b p q = one_schema tokens trees more p.spelled (other_tokens 0 text (λ ts. IsSchema ts more) tokens others a b q).spelled

  pub one_schema_read : (schema other : List Table) → ReadsSchema text schema → ReadsSchema text other → schema ≡ other
  one_schema_read schema other a b =
      let same : a.trees ≡ b.trees = same_trees a.tokens b.tokens a.trees b.trees a.spelled b.spelled a.parsed b.parsed in
      ok_one (bind_schema a.trees) schema other a.bound (ap bind_schema same ∙ b.bound)

  no_schema_parsed : (tokens others : List Token) (trees : List CreateTable) (refusal : Refusal) → Spells 0 text tokens → Spells 0 text others → IsSchema tokens trees → IsNoSchema others refusal → ⊥
  no_schema_parsed tokens others trees refusal a b parsed none = schema_apart tokens trees refusal parsed (other_tokens 0 text (λ ts. IsNoSchema ts refusal) tokens others a b none)

  pub schema_or_refusal : (schema : List Table) (refusal : Refusal) → ReadsSchema text schema → RefusesSchema text refusal → ⊥
  schema_or_refusal schema refusal a (reading.lexical faulty) = spelled_or_faulty 0 text a.tokens refusal a.spelled faulty
  schema_or_refusal schema refusal a (reading.grammar tokens spelled none) = no_schema_parsed a.tokens tokens a.trees refusal a.spelled spelled a.parsed none
  schema_or_refusal schema refusal a (reading.binding tokens trees spelled parsed e) =
      let same : a.trees ≡ trees = same_trees a.tokens tokens a.trees trees a.spelled spelled a.parsed parsed in
      ok_or_err (bind_schema a.trees) schema refusal a.bound (ap bind_schema same ∙ e)

  pub one_schema_refusal : (refusal other : Refusal) → RefusesSchema text refusal → RefusesSchema text other → SameRefusal refusal other
  one_schema_refusal refusal other (reading.lexical faulty) (reading.lexical fault) = same_of refusal other (one_fault 0 text refusal other faulty fault)
  one_schema_refusal refusal other (reading.lexical faulty) (reading.grammar tokens spelled none) = absurd (spelled_or_faulty 0 text tokens refusal spelled faulty)
  one_schema_refusal refusal other (reading.lexical faulty) (reading.binding tokens trees spelled parsed e) = absurd (spelled_or_faulty 0 text tokens refusal spelled faulty)
  one_schema_refusal refusal other (reading.grammar tokens spelled none) (reading.lexical faulty) = absurd (spelled_or_faulty 0 text tokens other spelled faulty)
  one_schema_refusal refusal other (reading.grammar tokens spelled none) (reading.grammar others spelling unread) =
      schema_refusal tokens refusal other none (other_tokens 0 text (λ ts. IsNoSchema ts other) tokens others spelled spelling unread)
  one_schema_refusal refusal other (reading.grammar tokens spelled none) (reading.binding others trees spelling parsed e) = absurd (no_schema_parsed others tokens trees refusal spelling spelled parsed none)
  one_schema_refusal refusal other (reading.binding tokens trees spelled parsed e) (reading.lexical faulty) = absurd (spelled_or_faulty 0 text tokens other spelled faulty)
  one_schema_refusal refusal other (reading.binding tokens trees spelled parsed e) (reading.grammar others spelling none) = absurd (no_schema_parsed tokens others trees other spelled spelling parsed none)
  one_schema_refusal refusal other (reading.binding tokens trees spelled parsed e) (reading.binding others more spelling parsing f) =
      let same : trees ≡ more = same_trees tokens others trees more spelled spelling parsed parsing in
      same_of refusal other (err_one (bind_schema trees) refusal other e (ap bind_schema same ∙ f))

-- queries
module _ (tables : List Table) (text : List ℕ) (piece : Span) where
  abbrev own : List ℕ
  own = piece_text text piece

  abbrev pub QueryReading : Type 0
  QueryReading = ((query : Query) × ReadsQuery tables text piece query) ⊎ ((refusal : Refusal) × RefusesQuery tables text piece refusal)

  query_bound : (tokens : List Token) (tree : QueryTree) → Spells piece.from own tokens → IsQuery tokens tree → (bound : Result Query Refusal) → bind_query tables tree ≡ bound → QueryReading
  query_bound tokens tree spelled parsed (Ok query) e = inl (query, record { tokens = tokens; tree = tree; spelled = spelled; parsed = parsed; bound = e })
  query_bound tokens tree spelled parsed (Err refusal) e = inr (refusal, reading.binding tokens tree spelled parsed e)

  query_parsed : (tokens : List Token) → Spells piece.from own tokens → QueryOrNot tokens → QueryReading
  query_parsed tokens spelled (inl (tree, parsed)) = query_bound tokens tree spelled parsed (bind_query tables tree) refl
  query_parsed tokens spelled (inr (refusal, none)) = inr (refusal, reading.grammar tokens spelled none)

  query_lexed : Lexed piece.from own → QueryReading
  query_lexed (inl (tokens, spelled)) = query_parsed tokens spelled (query_some tokens)
  query_lexed (inr (refusal, faulty)) = inr (refusal, reading.lexical faulty)

  pub query_read : QueryReading
  query_read = query_lexed (every_lexed piece.from own)

  same_tree : (tokens others : List Token) (tree more : QueryTree) → Spells piece.from own tokens → Spells piece.from own others → IsQuery tokens tree → IsQuery others more → tree ≡ more
  same_tree tokens others tree more a b p q = one_query tokens tree more p.spelled (other_tokens piece.from own (λ ts. IsQuery ts more) tokens others a b q).spelled

  pub one_query_read : (query other : Query) → ReadsQuery tables text piece query → ReadsQuery tables text piece other → query ≡ other
  one_query_read query other a b =
      let same : a.tree ≡ b.tree = same_tree a.tokens b.tokens a.tree b.tree a.spelled b.spelled a.parsed b.parsed in
      ok_one (bind_query tables a.tree) query other a.bound (ap (bind_query tables) same ∙ b.bound)

  no_query_parsed : (tokens others : List Token) (tree : QueryTree) (refusal : Refusal) → Spells piece.from own tokens → Spells piece.from own others → IsQuery tokens tree → IsNoQuery others refusal → ⊥
  no_query_parsed tokens others tree refusal a b parsed none = query_apart tokens tree refusal parsed (other_tokens piece.from own (λ ts. IsNoQuery ts refusal) tokens others a b none)

  pub query_or_refusal : (query : Query) (refusal : Refusal) → ReadsQuery tables text piece query → RefusesQuery tables text piece refusal → ⊥
  query_or_refusal query refusal a (reading.lexical faulty) = spelled_or_faulty piece.from own a.tokens refusal a.spelled faulty
  query_or_refusal query refusal a (reading.grammar tokens spelled none) = no_query_parsed a.tokens tokens a.tree refusal a.spelled spelled a.parsed none
  query_or_refusal query refusal a (reading.binding tokens tree spelled parsed e) =
      let same : a.tree ≡ tree = same_tree a.tokens tokens a.tree tree a.spelled spelled a.parsed parsed in
      ok_or_err (bind_query tables a.tree) query refusal a.bound (ap (bind_query tables) same ∙ e)

  pub one_query_refusal : (refusal other : Refusal) → RefusesQuery tables text piece refusal → RefusesQuery tables text piece other → SameRefusal refusal other
  one_query_refusal refusal other (reading.lexical faulty) (reading.lexical fault) = same_of refusal other (one_fault piece.from own refusal other faulty fault)
  one_query_refusal refusal other (reading.lexical faulty) (reading.grammar tokens spelled none) = absurd (spelled_or_faulty piece.from own tokens refusal spelled faulty)
  one_query_refusal refusal other (reading.lexical faulty) (reading.binding tokens tree spelled parsed e) = absurd (spelled_or_faulty piece.from own tokens refusal spelled faulty)
  one_query_refusal refusal other (reading.grammar tokens spelled none) (reading.lexical faulty) = absurd (spelled_or_faulty piece.from own tokens other spelled faulty)
  one_query_refusal refusal other (reading.grammar tokens spelled none) (reading.grammar others spelling unread) =
      query_refusal tokens refusal other none (other_tokens piece.from own (λ ts. IsNoQuery ts other) tokens others spelled spelling unread)
  one_query_refusal refusal other (reading.grammar tokens spelled none) (reading.binding others tree spelling parsed e) = absurd (no_query_parsed others tokens tree refusal spelling spelled parsed none)
  one_query_refusal refusal other (reading.binding tokens tree spelled parsed e) (reading.lexical faulty) = absurd (spelled_or_faulty piece.from own tokens other spelled faulty)
  one_query_refusal refusal other (reading.binding tokens tree spelled parsed e) (reading.grammar others spelling none) = absurd (no_query_parsed tokens others tree other spelled spelling parsed none)
  one_query_refusal refusal other (reading.binding tokens tree spelled parsed e) (reading.binding others more spelling parsing f) =
      let same : tree ≡ more = same_tree tokens others tree more spelled spelling parsed parsing in
      same_of refusal other (err_one (bind_query tables tree) refusal other e (ap (bind_query tables) same ∙ f))
