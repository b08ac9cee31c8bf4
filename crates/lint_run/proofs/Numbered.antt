-- The certificates of right answers are numbered from 1, so what is written of them is read back.
use Rattle.std.proofs.Common.{◌≡◌, ◌∙◌, refl, sym, ap, subst, ℕ, suc, ◌+◌, ◌<◌, arith, Bool, true, false, ◌&&◌, nat_lt, List, [], ◌∷◌, ◌++◌}
use Rattle.std.proofs.lemmas.Bool.{lt-ltb}
use Rattle.std.proofs.lemmas.List.Folds.{list_all-append}
use Rattle.std.specs.Prelude.{Option, Some, None}
use Rattle.std.specs.List.{list_all, flat_map}
use Rattle.cert_format.specs.Fitting.{is_numbered}
use Rattle.command_words.specs.Wanted.{Asked, judges, checks, Wanted}
use Rattle.command_words.specs.declared.wanted.Form.{Form}
use Rattle.command_words.specs.declared.wanted.Form.TheVariants as form
use Rattle.lint_core.specs.declared.certificate.Cert.{Cert}
use Rattle.lint_core.specs.declared.query.Query.{Query}
use Rattle.lint_core.specs.declared.query.Question.{Question}
use Rattle.lint_core.specs.declared.run.Answer.{Answer}
use Rattle.lint_core.specs.declared.run.Answer.TheVariants.{Always, NotAlways, Moot, Blocked, CyclicKeys, CyclicNesting, Large, Spent}
use Rattle.lint_core.specs.declared.run.QueryResult.{QueryResult}
use Rattle.lint_core.specs.declared.run.QueryResult.TheVariants.{Refused, Answered}
use Rattle.lint_core.specs.declared.run.QueryRun.{QueryRun}
use Rattle.lint_core.specs.declared.run.Run.{Run}
use Rattle.lint_core.specs.declared.schema.Table.{Table}
use Rattle.lint_core.specs.Asked.{questions as questions_of}
use Rattle.lint_engine.specs.AskingAll as engine
use Rattle.lint_engine.specs.Earlier.{Answered as OneAnswered, blocker, is_moot, is_constant}
use Rattle.lint_run.specs.ReadBack.{ReadBackBy, IsReadBack}
use Rattle.lint_run.specs.RightRun.{IsRightResult, AreRightFrom}
use Rattle.lint_run.specs.Stops.{Told, FinishedBy, HasCause}
use Rattle.lint_run.specs.Text.{cert_of, result_certs, certs_of}
use Rattle.lint_run.specs.declared.outcome.Stop.{Stop}

two_parts : (xs ys : List Cert) → list_all is_numbered xs ≡ true → list_all is_numbered ys ≡ true → list_all is_numbered (xs ++ ys) ≡ true
two_parts xs ys one two = list_all-append is_numbered xs ys ∙ (ap (λ b. b && list_all is_numbered ys) one ∙ two)

module _ (schema : List Table) (query : Query) (number budget : ℕ) (counts : 0 < number) where
  certificate : (next : ℕ) (cert : Cert) → 0 < next → cert.query ≡ number → cert.question ≡ next → list_all is_numbered (cert ∷ []) ≡ true
  certificate next cert is own place =
      subst (λ q. ((nat_lt 0 q && nat_lt 0 cert.question) && true) ≡ true) (sym own)
      (subst (λ p. ((nat_lt 0 number && nat_lt 0 p) && true) ≡ true) (sym place)
      (subst (λ b. ((b && nat_lt 0 next) && true) ≡ true) (sym (lt-ltb 0 number counts)) (subst (λ b. (b && true) ≡ true) (sym (lt-ltb 0 next is)) refl)))

  answer_numbered : (next : ℕ) (earlier : List OneAnswered) (question : Question) (answer : Answer) → 0 < next →
      engine.IsNext schema query number budget earlier (record { number = next; question = question; answer = answer }) → list_all is_numbered (cert_of answer) ≡ true
  answer_numbered next earlier question (Always cert) is right =
      by (blocker earlier question) (is_moot earlier question) right
    where
      own : OneAnswered
      own = record { number = next; question = question; answer = Always cert }

      alone : (constant : Bool) → engine.IsAlone schema query number budget constant earlier (record { number = next; question = question; answer = Always cert }) → list_all is_numbered (cert ∷ []) ≡ true
      alone true proved = certificate next cert is proved.certificate.names_query proved.certificate.names_question
      alone false proved = certificate next cert is proved.certificate.names_query proved.certificate.names_question

      by : (blocked : Option ℕ) (moot : Bool) → engine.IsByCause schema query number budget blocked moot earlier (record { number = next; question = question; answer = Always cert }) →
          list_all is_numbered (cert ∷ []) ≡ true
      by (Some n) moot right = cc
      by None true right = cc
      by None false right = alone (is_constant question) right
  answer_numbered next earlier question (NotAlways counters) is right = refl
  answer_numbered next earlier question Moot is right = refl
  answer_numbered next earlier question (Blocked n) is right = refl
  answer_numbered next earlier question (CyclicKeys cycle counter key) is right = refl
  answer_numbered next earlier question (CyclicNesting cycle) is right = refl
  answer_numbered next earlier question (Large rows clauses) is right = refl
  answer_numbered next earlier question (Spent tried) is right = refl

  answers_numbered : (next : ℕ) (earlier : List OneAnswered) (questions : List Question) (answers : List Answer) → 0 < next →
      engine.AreRightFrom schema query number budget next earlier questions answers → list_all is_numbered (flat_map cert_of answers) ≡ true
  answers_numbered next earlier [] [] is right = refl
  answers_numbered next earlier [] (a ∷ answers) is right = absurd right
  answers_numbered next earlier (q ∷ questions) [] is right = absurd right
  answers_numbered next earlier (q ∷ questions) (a ∷ answers) is right =
      two_parts (cert_of a) (flat_map cert_of answers) (answer_numbered next earlier q a is right.0)
      (answers_numbered (suc next) (earlier ++ record { number = next; question = q; answer = a } ∷ []) questions answers (omega arith) right.1)

module _ (budget : ℕ) (form : Form) (schema : List Table) where
  result_numbered : (number : ℕ) (text : List ℕ) (run : QueryRun) (result : QueryResult) → 0 < number →
      IsRightResult (judges budget form) schema number text run result → list_all is_numbered (result_certs result) ≡ true
  result_numbered number text run (Refused refusal) is right = refl
  result_numbered number text run (Answered query list answers) is right =
      answers_numbered schema query number budget is 1 [] (questions_of schema query) answers (omega arith) right.1.answers_are

  pub certs_numbered : (number : ℕ) (text : List ℕ) (queries : List QueryRun) → 0 < number →
      AreRightFrom (judges budget form) schema number text queries → list_all is_numbered (certs_of queries) ≡ true
  certs_numbered number text [] is right = refl
  certs_numbered number text (q ∷ queries) is right =
      two_parts (result_certs q.result) (certs_of queries) (result_numbered number text q q.result is right.0)
      (certs_numbered (number + 1) text queries (omega arith) right.1)

-- where the certificates are read back if they are numbered, they are read back
pub read_back : (files : Option (List ℕ → Option (List ℕ))) (wanted : Option Wanted) (before now : Told) (run : Run) (s : Option Stop) → HasCause files wanted before now run s →
    (list_all is_numbered (certs_of run.queries) ≡ true → IsReadBack wanted s run) → IsReadBack wanted s run
read_back files wanted before now run (Some s) cause back = tt
read_back files None before now run None cause back = tt
read_back files (Some wanted) before now run None cause back = by wanted.asked refl back cause
  where
    by : (asked : Asked) → wanted.asked ≡ asked → (list_all is_numbered (certs_of run.queries) ≡ true → ReadBackBy asked run) → FinishedBy files wanted before now run asked → ReadBackBy asked run
    by (judges budget form.Text) same back read = tt
    by (judges budget form.Certs) same back read =
        back (certs_numbered budget form.Certs run.schema 1 read.queries.text run.queries (omega arith)
        (subst (λ asked. AreRightFrom asked run.schema 1 read.queries.text run.queries) same read.queries.right.right))
    by (checks path) same back read = tt
