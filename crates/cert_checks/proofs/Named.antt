-- Where the question that a certificate names stands, and that it is one of the questions of its query.
use Rattle.std.proofs.Common.{◌≡◌, ◌∙◌, ap, refl, subst, ℕ, zero, suc, true, List, [], ◌∷◌, take}
use Rattle.std.proofs.lemmas.List.Elements.{All-head, All-tail}
use Rattle.std.proofs.lemmas.Option.{same_Some}
use Rattle.std.specs.Prelude.{Option, Some, None, slice_get, option_and_then}
use Rattle.std.specs.Option.{option_map}
use Rattle.lint_core.specs.declared.certificate.Cert.{Cert}
use Rattle.lint_core.specs.declared.query.Question.{Question}
use Rattle.lint_core.specs.declared.run.QueryResult.{QueryResult}
use Rattle.lint_core.specs.declared.run.QueryResult.TheVariants.{Refused, Answered}
use Rattle.lint_core.specs.declared.run.QueryRun.{QueryRun}
use Rattle.lint_core.specs.declared.schema.Table.{Table}
use Rattle.lint_core.specs.Asked.{is_asked, questions}
use Rattle.lint_core.specs.Fits.{query_fits}
use Rattle.cert_checks.specs.Named.{AreRead, IsRead, IsReadResult, Named, ReadQuery, query_named, question_at, question_named, read_query}
use Rattle.cert_checks.proofs.OneRows.{passes_asked}

-- the read query and the question of these numbers
abbrev pub named_in : ReadQuery → ℕ → Question → Named
named_in read place question = record { query = read.query; before = take place read.asked; question = question }

pub named_is : (queries : List QueryRun) (cert : Cert) (read : ReadQuery) (place : ℕ) (question : Question) → query_named queries cert.query ≡ Some read →
    cert.question ≡ suc place → slice_get read.asked place ≡ Some question → question_named queries cert ≡ Some (named_in read place question)
named_is queries cert read place question query number at =
    ap (option_and_then (λ (r : ReadQuery). question_at r cert.question)) query
    ∙ (ap (question_at read) number ∙ ap (option_map (named_in read place)) at)

-- where a named question stands
pub record StandsAt (queries : List QueryRun) (query number : ℕ) (named : Named) : Type 0 where
  pub read : ReadQuery
  pub read_is : query_named queries query ≡ Some read
  pub place : ℕ
  pub number_is : number ≡ suc place
  pub at : slice_get read.asked place ≡ Some named.question
  pub is : named ≡ named_in read place named.question

module _ (queries : List QueryRun) (query : ℕ) (named : Named) where
  by_question : (read : ReadQuery) → query_named queries query ≡ Some read → (place : ℕ) (o : Option Question) → slice_get read.asked place ≡ o →
      option_map (named_in read place) o ≡ Some named → StandsAt queries query (suc place) named
  by_question read read_is place None at is = cc
  by_question read read_is place (Some q) at is =
      let same : named_in read place q ≡ named = same_Some (named_in read place q) named is in
      subst (StandsAt queries query (suc place)) same
      (record { read = read; read_is = read_is; place = place; number_is = refl; at = at; is = refl })

  by_number : (read : ReadQuery) → query_named queries query ≡ Some read → (number : ℕ) → question_at read number ≡ Some named → StandsAt queries query number named
  by_number read read_is zero is = cc
  by_number read read_is (suc place) is = by_question read read_is place (slice_get read.asked place) refl is

  by_query : (number : ℕ) (o : Option ReadQuery) → query_named queries query ≡ o → option_and_then (λ (r : ReadQuery). question_at r number) o ≡ Some named →
      StandsAt queries query number named
  by_query number None read_is is = cc
  by_query number (Some read) read_is is = by_number read read_is number is

pub stands_at : (queries : List QueryRun) (cert : Cert) (named : Named) → question_named queries cert ≡ Some named → StandsAt queries cert.query cert.question named
stands_at queries cert named is = by_query queries cert.query named cert.question (query_named queries cert.query) refl is

-- ---- read queries

module _ (schema : List Table) where
  abbrev pub IsWhole : ReadQuery → Type 0
  IsWhole read = (query_fits schema read.query ≡ true) × (read.asked ≡ questions schema read.query)

  whole_result : (outcome : QueryResult) (read : ReadQuery) → IsReadResult schema outcome → read_query outcome ≡ Some read → IsWhole read
  whole_result (Refused refusal) read is found = cc
  whole_result (Answered query asked answers) read is found = subst IsWhole (same_Some (record { query = query; asked = asked }) read found) is

  whole_at : (queries : List QueryRun) → AreRead schema queries → (place : ℕ) (read : ReadQuery) →
      option_and_then (λ (q : QueryRun). read_query q.result) (slice_get queries place) ≡ Some read → IsWhole read
  whole_at [] are place read found = cc
  whole_at (q ∷ qs) are zero read found = whole_result q.result read (All-head (IsRead schema) q qs are) found
  whole_at (q ∷ qs) are (suc place) read found = whole_at qs (All-tail (IsRead schema) q qs are) place read found

  pub whole : (queries : List QueryRun) → AreRead schema queries → (number : ℕ) (read : ReadQuery) → query_named queries number ≡ Some read → IsWhole read
  whole queries are zero read found = cc
  whole queries are (suc place) read found = whole_at queries are place read found

  -- the query that a certificate names fits the schema
  pub named_fits : (queries : List QueryRun) → AreRead schema queries → (cert : Cert) (named : Named) → question_named queries cert ≡ Some named → query_fits schema named.query ≡ true
  named_fits queries are cert named is =
      let stands = stands_at queries cert named is in
      let so : IsWhole stands.read = whole queries are cert.query stands.read stands.read_is in
      ap (λ (n : Named). query_fits schema n.query) stands.is ∙ so.0

  -- and the question is asked of it
  pub named_asked : (queries : List QueryRun) → AreRead schema queries → (cert : Cert) (named : Named) → question_named queries cert ≡ Some named → is_asked schema named.query named.question ≡ true
  named_asked queries are cert named is =
      let stands = stands_at queries cert named is in
      let so : IsWhole stands.read = whole queries are cert.query stands.read stands.read_is in
      ap (λ (n : Named). is_asked schema n.query named.question) stands.is
      ∙ passes_asked schema stands.read.query stands.place named.question (subst (λ (qs : List Question). slice_get qs stands.place ≡ Some named.question) so.1 stands.at)
