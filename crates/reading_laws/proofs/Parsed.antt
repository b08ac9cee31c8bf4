-- Tokens are a query or no query for a cause, and not both; alike a schema.
use Rattle.std.proofs.Common.{◌≡◌, ◌≤◌, ◌+◌, ◌⊎◌, inl, inr, suc, List, ◌∷◌, ◌++◌, length, drop, Option, Some, None, refl, sym, ap, subst, ◌∙◌, arith, length-append}
use Rattle.std.proofs.lemmas.List.{drop_at}
use Rattle.std.proofs.lemmas.Option.{slice_get_cases}
use Rattle.lint_base.specs.declared.place.Span.{Span}
use Rattle.lint_base.specs.declared.place.Fault.TheVariants.{Long, Deep, Syntax}
use Rattle.lint_base.specs.declared.place.Refusal.{Refusal}
use Rattle.sql_lex.specs.declared.token.Token.{Token}
use Rattle.sql_tree.specs.declared.schema.CreateTable.{CreateTable}
use Rattle.sql_tree.specs.declared.select.QueryTree.{QueryTree}
use Rattle.sql_parse.specs.Refusals as tokens
use Rattle.sql_parse.specs.Refusals.{IsQuery, IsNoQuery, IsSchema, IsNoSchema, too_deep}
use Rattle.sql_parse.specs.inner.readers.Queries.{query_of}
use Rattle.sql_parse.specs.inner.readers.Schemas.{schema_of}
use Rattle.sql_parse.proofs.Places.{is_long}
use Rattle.sql_parse.proofs.QueryAnswers.{is_query, no_query, deep_query}
use Rattle.sql_parse.proofs.SchemaAnswers.{is_schema, no_schema, deep_schema}
use Rattle.reading_laws.specs.SameRefusal.{SameRefusal}

abbrev pub QueryOrNot : List Token → Type 0
QueryOrNot ts = ((query : QueryTree) × IsQuery ts query) ⊎ ((refusal : Refusal) × IsNoQuery ts refusal)

abbrev pub SchemaOrNot : List Token → Type 0
SchemaOrNot ts = ((tables : List CreateTable) × IsSchema ts tables) ⊎ ((refusal : Refusal) × IsNoSchema ts refusal)

-- some
query_shallow : (ts : List Token) → length ts ≤ 4096 → too_deep ts ≡ None → (read : Option QueryTree) → query_of ts ≡ read → QueryOrNot ts
query_shallow ts few shallow (Some query) e = inl (query, is_query ts few query shallow e)
query_shallow ts few shallow None e = inr (_, no_query ts few _ 0 shallow e refl)

query_few : (ts : List Token) → length ts ≤ 4096 → (deep : Option Span) → too_deep ts ≡ deep → QueryOrNot ts
query_few ts few (Some at) e = inr (_, deep_query ts few _ at e refl)
query_few ts few None e = query_shallow ts few e (query_of ts) refl

pub query_some : (ts : List Token) → QueryOrNot ts
query_some ts = elim (slice_get_cases ts 4096).1 [ inl w ↦ inr (_, is_long ts w.0 w.1 (sym w.3)) | inr w ↦ query_few ts w.0 (too_deep ts) refl ]

schema_shallow : (ts : List Token) → too_deep ts ≡ None → (read : Option (List CreateTable)) → schema_of ts ≡ read → SchemaOrNot ts
schema_shallow ts shallow (Some tables) e = inl (tables, is_schema ts tables shallow e)
schema_shallow ts shallow None e = inr (_, no_schema ts _ 0 shallow e refl)

schema_deep : (ts : List Token) → (deep : Option Span) → too_deep ts ≡ deep → SchemaOrNot ts
schema_deep ts (Some at) e = inr (_, deep_schema ts _ at e refl)
schema_deep ts None e = schema_shallow ts e (schema_of ts) refl

pub schema_some : (ts : List Token) → SchemaOrNot ts
schema_some ts = schema_deep ts (too_deep ts) refl

-- not both
too_many : (ts before : List Token) (t : Token) (after : List Token) → ts ≡ before ++ t ∷ after → length before ≡ 4096 → length ts ≤ 4096 → ⊥
too_many ts before t after e n few =
    let count : length ts ≡ length before + suc (length after) = ap length e ∙ length-append before (t ∷ after) in
    omega arith

deep_or_shallow : (deep : Option Span) (at : Span) → deep ≡ Some at → deep ≡ None → ⊥
deep_or_shallow deep at e f = cc

pub query_apart : (ts : List Token) (query : QueryTree) (refusal : Refusal) → IsQuery ts query → IsNoQuery ts refusal → ⊥
query_apart ts query refusal is (tokens.long before t after e n r) = too_many ts before t after e n is.few
query_apart ts query refusal is (tokens.deep at few e r) = deep_or_shallow (too_deep ts) at e is.shallow
query_apart ts query refusal is (tokens.syntax at few shallow none place r) = none query is.spelled

pub schema_apart : (ts : List Token) (tables : List CreateTable) (refusal : Refusal) → IsSchema ts tables → IsNoSchema ts refusal → ⊥
schema_apart ts tables refusal is (tokens.deep at e r) = deep_or_shallow (too_deep ts) at e is.shallow
schema_apart ts tables refusal is (tokens.syntax at shallow none place r) = none tables is.spelled

-- one refusal
pub same_of : (refusal other : Refusal) → refusal ≡ other → SameRefusal refusal other
same_of refusal other e = subst (SameRefusal refusal) e (record { fault = refl; count = refl; span = λ n. refl })

syntax_same : (refusal other : Refusal) (at there : Span) → refusal ≡ record { fault = Syntax; span = at; count = 0 } → other ≡ record { fault = Syntax; span = there; count = 0 } → SameRefusal refusal other
syntax_same refusal other at there r s = record {
  fault = ap (λ (x : Refusal). x.fault) r ∙ sym (ap (λ (x : Refusal). x.fault) s);
  count = ap (λ (x : Refusal). x.count) r ∙ sym (ap (λ (x : Refusal). x.count) s);
  span = λ other_fault. absurd (other_fault (ap (λ (x : Refusal). x.fault) r));
}

deep_same : (refusal other : Refusal) (deep : Option Span) (at there : Span) → deep ≡ Some at → deep ≡ Some there →
    refusal ≡ record { fault = Deep; span = at; count = 0 } → other ≡ record { fault = Deep; span = there; count = 0 } → SameRefusal refusal other
deep_same refusal other deep at there e f r s = let same : at ≡ there = cc in same_of refusal other (r ∙ ap (λ (x : Span). record { fault = Deep; span = x; count = 0 }) same ∙ sym s)

heads_are : (t u : Token) (ts us : List Token) → t ∷ ts ≡ u ∷ us → t ≡ u
heads_are t u ts us e = cc

token_at : (ts before : List Token) (t : Token) (after : List Token) → ts ≡ before ++ t ∷ after → length before ≡ 4096 → drop 4096 ts ≡ t ∷ after
token_at ts before t after e n = ap (λ (x : List Token). drop 4096 x) e ∙ drop_at before (t ∷ after) 4096 n

pub query_refusal : (ts : List Token) (refusal other : Refusal) → IsNoQuery ts refusal → IsNoQuery ts other → SameRefusal refusal other
query_refusal ts refusal other (tokens.long before t after e n r) (tokens.long front u behind f m s) =
    let same : t ≡ u = heads_are t u after behind (sym (token_at ts before t after e n) ∙ token_at ts front u behind f m) in
    same_of refusal other (r ∙ ap (λ (x : Token). record { fault = Long; span = x.span; count = length ts }) same ∙ sym s)
query_refusal ts refusal other (tokens.long before t after e n r) (tokens.deep at few f s) = absurd (too_many ts before t after e n few)
query_refusal ts refusal other (tokens.long before t after e n r) (tokens.syntax at few f none place s) = absurd (too_many ts before t after e n few)
query_refusal ts refusal other (tokens.deep at few e r) (tokens.long before t after f n s) = absurd (too_many ts before t after f n few)
query_refusal ts refusal other (tokens.deep at few e r) (tokens.deep there less f s) = deep_same refusal other (too_deep ts) at there e f r s
query_refusal ts refusal other (tokens.deep at few e r) (tokens.syntax there less f none place s) = absurd (deep_or_shallow (too_deep ts) at e f)
query_refusal ts refusal other (tokens.syntax at few e none place r) (tokens.long before t after f n s) = absurd (too_many ts before t after f n few)
query_refusal ts refusal other (tokens.syntax at few e none place r) (tokens.deep there less f s) = absurd (deep_or_shallow (too_deep ts) there f e)
query_refusal ts refusal other (tokens.syntax at few e none place r) (tokens.syntax there less f no_more here s) = syntax_same refusal other at there r s

pub schema_refusal : (ts : List Token) (refusal other : Refusal) → IsNoSchema ts refusal → IsNoSchema ts other → SameRefusal refusal other
schema_refusal ts refusal other (tokens.deep at e r) (tokens.deep there f s) = deep_same refusal other (too_deep ts) at there e f r s
schema_refusal ts refusal other (tokens.deep at e r) (tokens.syntax there f none place s) = absurd (deep_or_shallow (too_deep ts) at e f)
schema_refusal ts refusal other (tokens.syntax at e none place r) (tokens.deep there f s) = absurd (deep_or_shallow (too_deep ts) there f e)
schema_refusal ts refusal other (tokens.syntax at e none place r) (tokens.syntax there f no_more here s) = syntax_same refusal other at there r s
