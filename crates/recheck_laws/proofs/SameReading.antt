-- Two right runs over the same texts read the same queries, and ask the same questions of them.
use Rattle.std.proofs.Common.{◌≡◌, ◌∙◌, refl, sym, ap, ap₂, subst, ℕ, zero, suc, ◌+◌, List, [], ◌∷◌, map}
use Rattle.std.specs.Prelude.{Some, slice_get, option_and_then}
use Rattle.cert_checks.specs.Named.{ReadQuery, query_named, question_at, question_named, read_query}
use Rattle.command_words.specs.Wanted.{Asked}
use Rattle.lint_base.specs.declared.place.Refusal.{Refusal}
use Rattle.lint_base.specs.declared.place.Span.{Span}
use Rattle.lint_core.specs.declared.certificate.Cert.{Cert}
use Rattle.lint_core.specs.declared.query.Query.{Query}
use Rattle.lint_core.specs.declared.query.Question.{Question}
use Rattle.lint_core.specs.declared.run.QueryResult.{QueryResult}
use Rattle.lint_core.specs.declared.run.QueryResult.TheVariants.{Refused, Answered}
use Rattle.lint_core.specs.declared.run.QueryRun.{QueryRun}
use Rattle.lint_core.specs.declared.schema.Table.{Table}
use Rattle.lint_core.specs.Asked.{questions}
use Rattle.lint_run.specs.RightRun.{IsRightResult, AreRightFrom}
use Rattle.sql_reading.specs.TextReading.{ReadsQuery, RefusesQuery}

-- ---- the laws that are cited

abbrev pub OneReading : Type 0
OneReading = (tables : List Table) (text : List ℕ) (piece : Span) (query other : Query) → ReadsQuery tables text piece query → ReadsQuery tables text piece other → query ≡ other

abbrev pub ReadIsNotRefused : Type 0
ReadIsNotRefused = (tables : List Table) (text : List ℕ) (piece : Span) (query : Query) (refusal : Refusal) → ReadsQuery tables text piece query → RefusesQuery tables text piece refusal → ⊥

-- ---- one entry, and all

abbrev span_of : QueryRun → Span
span_of run = run.span

abbrev head_of : List Span → Span → Span
head_of [] other = other
head_of (s ∷ ss) other = s

abbrev tail_of : List Span → List Span
tail_of [] = []
tail_of (s ∷ ss) = ss

module _ (one : OneReading) (apart : ReadIsNotRefused) (schema : List Table) (text : List ℕ) (asked other : Asked) where
  same_result : (number count : ℕ) (run more : QueryRun) → run.span ≡ more.span → (result again : QueryResult) → IsRightResult asked schema number text run result →
      IsRightResult other schema count text more again → read_query again ≡ read_query result
  same_result number count run more span (Refused refusal) (Refused second) right too = refl
  same_result number count run more span (Refused refusal) (Answered query list answers) right too =
      absurd (apart schema text run.span query refusal (subst (λ s. ReadsQuery schema text s query) (sym span) too.0) right)
  same_result number count run more span (Answered query list answers) (Refused refusal) right too =
      absurd (apart schema text run.span query refusal right.0 (subst (λ s. RefusesQuery schema text s refusal) (sym span) too))
  same_result number count run more span (Answered query list answers) (Answered second others given) right too =
      let same : second ≡ query = one schema text run.span second query (subst (λ s. ReadsQuery schema text s second) (sym span) too.0) right.0 in
      let listed : others ≡ list = too.1.questions_are ∙ (ap (questions schema) same ∙ sym right.1.questions_are) in
      ap₂ (λ (q : Query) (qs : List Question). Some (record { query = q; asked = qs })) same listed

  same_at : (number count : ℕ) (runs more : List QueryRun) → map span_of runs ≡ map span_of more → AreRightFrom asked schema number text runs → AreRightFrom other schema count text more →
      (place : ℕ) → option_and_then (λ (q : QueryRun). read_query q.result) (slice_get more place) ≡ option_and_then (λ (q : QueryRun). read_query q.result) (slice_get runs place)
  same_at number count [] [] spans right too place = refl
  same_at number count [] (m ∷ ms) spans right too place = cc
  same_at number count (r ∷ rs) [] spans right too place = cc
  same_at number count (r ∷ rs) (m ∷ ms) spans right too zero =
      same_result number count r m (ap (λ l. head_of l r.span) spans) r.result m.result right.0 too.0
  same_at number count (r ∷ rs) (m ∷ ms) spans right too (suc place) = same_at (number + 1) (count + 1) rs ms (ap tail_of spans) right.1 too.1 place

  module _ (runs more : List QueryRun) (spans : map span_of runs ≡ map span_of more) (right : AreRightFrom asked schema 1 text runs) (too : AreRightFrom other schema 1 text more) where
    same_query : (number : ℕ) → query_named more number ≡ query_named runs number
    same_query zero = refl
    same_query (suc place) = same_at 1 1 runs more spans right too place

    -- a certificate names the same question in both
    pub same_question : (cert : Cert) → question_named more cert ≡ question_named runs cert
    same_question cert = ap (option_and_then (λ (read : ReadQuery). question_at read cert.question)) (same_query cert.query)
