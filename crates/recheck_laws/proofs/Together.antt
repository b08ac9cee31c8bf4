-- The certificates of right answers are accepted.
use Rattle.std.proofs.Common.{◌≡◌, ◌∙◌, refl, sym, ap, ap₂, subst, ℕ, zero, suc, ◌+◌, Bool, true, false, not, ◌&&◌, ◌||◌, List, [], ◌∷◌, map, take, arith}
use Rattle.std.proofs.lemmas.Bool.Decides.{nat_tests}
use Rattle.std.proofs.lemmas.Option.{same_Some}
use Rattle.std.specs.Prelude.{Option, Some, None, nat_eq, is_some, slice_get, option_and_then}
use Rattle.std.specs.List.{list_any}
use Rattle.std.specs.Option.{option_map_or}
use Rattle.cert_checks.specs.Checks.{checked_by, checked_for, checked_of, first_lacking, has_certificate, has_right_steps, is_one_row, line_of, sentence_of}
use Rattle.cert_checks.specs.Named.{Named, ReadQuery, query_named, question_named, read_query}
use Rattle.cert_checks.proofs.Lines.{AcceptedLaw}
use Rattle.cert_checks.proofs.Named.{named_in, named_is}
use Rattle.command_words.specs.Wanted.{Asked, judges, checks}
use Rattle.command_words.specs.declared.wanted.Form.{Form}
use Rattle.lint_core.specs.declared.certificate.Cert.{Cert}
use Rattle.lint_core.specs.declared.query.Query.{Query}
use Rattle.lint_core.specs.declared.query.Question.{Question}
use Rattle.lint_core.specs.declared.run.Answer.{Answer}
use Rattle.lint_core.specs.declared.run.Answer.TheVariants.{Always, NotAlways, Moot, Blocked, CyclicKeys, CyclicNesting, Large, Spent}
use Rattle.lint_core.specs.declared.run.Checked.TheVariants as checked
use Rattle.lint_core.specs.declared.run.CheckRun.{CheckRun}
use Rattle.lint_core.specs.declared.run.QueryResult.{QueryResult}
use Rattle.lint_core.specs.declared.run.QueryResult.TheVariants.{Refused, Answered}
use Rattle.lint_core.specs.declared.run.QueryRun.{QueryRun}
use Rattle.lint_core.specs.declared.schema.Table.{Table}
use Rattle.lint_core.specs.Asked.{questions}
use Rattle.lint_engine.specs.AskingAll.{AreRightAnswers}
use Rattle.lint_run.specs.RightRun.{IsRightResult, AreRightFrom, AreRightQueries}
use Rattle.lint_run.specs.Text.{cert_of, result_certs, certs_of}
use Rattle.sort_formula.specs.Certificate.{accepts, wrong_step}
use Rattle.verdict_laws.specs.Headline.{Headline}
use Rattle.recheck_laws.specs.Rechecked.{AreAllAccepted}
use Rattle.recheck_laws.proofs.Members.{StandsIn, from_parts, any_in_parts, of_taken}
use Rattle.recheck_laws.proofs.Placed.{nothing_lacks, asked_at, earlier_always}
use Rattle.recheck_laws.proofs.SameReading.{OneReading, ReadIsNotRefused, same_question}

-- ---- where a certificate comes from

module _ (schema : List Table) (budget : ℕ) (queries : List QueryRun) where
  -- a query that was read and answered, and its number
  pub record IsJudged (number : ℕ) (query : Query) (answers : List Answer) : Type 0 where
    pub place : ℕ
    pub number_is : number ≡ suc place
    pub entry : QueryRun
    pub entry_at : slice_get queries place ≡ Some entry
    pub result : entry.result ≡ Answered query (questions schema query) answers
    pub right : AreRightAnswers schema query number budget answers

  -- the answer at a place of such a query that is always with this certificate
  pub record IsWritten (cert : Cert) : Type 0 where
    pub number : ℕ
    pub query : Query
    pub answers : List Answer
    pub judged : IsJudged number query answers
    pub place : ℕ
    pub told : slice_get answers place ≡ Some (Always cert)

entry_right : (asked : Asked) (schema : List Table) (number : ℕ) (text : List ℕ) (queries : List QueryRun) → AreRightFrom asked schema number text queries →
    (place : ℕ) (entry : QueryRun) → slice_get queries place ≡ Some entry → IsRightResult asked schema (number + place) text entry entry.result
entry_right asked schema number text [] right place entry at = cc
entry_right asked schema number text (q ∷ qs) right zero entry at =
    let same : number ≡ number + 0 = omega arith in
    subst (λ n. IsRightResult asked schema n text entry entry.result) same
    (subst (λ (e : QueryRun). IsRightResult asked schema number text e e.result) (same_Some q entry at) right.0)
entry_right asked schema number text (q ∷ qs) right (suc place) entry at =
    let same : number + 1 + place ≡ number + suc place = omega arith in
    subst (λ n. IsRightResult asked schema n text entry entry.result) same (entry_right asked schema (number + 1) text qs right.1 place entry at)

the_answer : (a : Answer) (within : ℕ) (cert : Cert) → slice_get (cert_of a) within ≡ Some cert → a ≡ Always cert
the_answer (Always own) zero cert at = ap Always (same_Some own cert at)
the_answer (Always own) (suc within) cert at = cc
the_answer (NotAlways counters) within cert at = cc
the_answer Moot within cert at = cc
the_answer (Blocked by) within cert at = cc
the_answer (CyclicKeys cycle counter key) within cert at = cc
the_answer (CyclicNesting cycle) within cert at = cc
the_answer (Large rows clauses) within cert at = cc
the_answer (Spent tried) within cert at = cc

module _ (schema : List Table) (budget : ℕ) (form : Form) (text : List ℕ) (queries : List QueryRun) (right : AreRightFrom (judges budget form) schema 1 text queries) where
  pub written : (place : ℕ) (cert : Cert) → slice_get (certs_of queries) place ≡ Some cert → IsWritten schema budget queries cert
  written place cert at =
      let stands : StandsIn (λ (q : QueryRun). result_certs q.result) queries cert = from_parts (λ (q : QueryRun). result_certs q.result) queries place cert at in
      by stands.place stands.whole stands.whole_at stands.whole.result refl (entry_right (judges budget form) schema 1 text queries right stands.place stands.whole stands.whole_at) stands.within stands.at
    where
      by : (place : ℕ) (entry : QueryRun) → slice_get queries place ≡ Some entry → (result : QueryResult) → entry.result ≡ result → IsRightResult (judges budget form) schema (1 + place) text entry result →
          (within : ℕ) → slice_get (result_certs result) within ≡ Some cert → IsWritten schema budget queries cert
      by place entry entry_at (Refused refusal) same right within at = cc
      by place entry entry_at (Answered query list answers) same right within at =
          let stands : StandsIn cert_of answers cert = from_parts cert_of answers within cert at in
          let more : 1 + place ≡ suc place = omega arith in
          record {
            number = 1 + place;
            query = query;
            answers = answers;
            judged = record {
              place = place;
              number_is = more;
              entry = entry;
              entry_at = entry_at;
              result = same ∙ ap (λ qs. Answered query qs answers) right.1.questions_are;
              right = right.1.answers_are;
            };
            place = stands.place;
            told = stands.whole_at ∙ ap (λ a. Some a) (the_answer stands.whole stands.within cert stands.at);
          }

-- ---- the certificates of one query

abbrev pub KeepWord : Type 0
KeepWord = (schema : List Table) (query : Query) (number budget : ℕ) (answers : List Answer) → AreRightAnswers schema query number budget answers → Headline schema query number budget answers

module _ (words : KeepWord) (schema : List Table) (budget : ℕ) (queries : List QueryRun) (number : ℕ) (query : Query) (answers : List Answer) (judged : IsJudged schema budget queries number query answers) where
  abbrev read : ReadQuery
  read = record { query = query; asked = questions schema query }

  query_is : query_named queries number ≡ Some read
  query_is =
      ap (query_named queries) judged.number_is
      ∙ (ap (option_and_then (λ (q : QueryRun). read_query q.result)) judged.entry_at ∙ ap read_query judged.result)

  -- the certificate of the answer at a place names the question of that place, and its steps are accepted
  pub record IsRight (place : ℕ) (cert : Cert) : Type 0 where
    pub question : Question
    pub at : slice_get (questions schema query) place ≡ Some question
    pub names_query : cert.query ≡ number
    pub names_question : cert.question ≡ suc place
    pub names : question_named queries cert ≡ Some (named_in read place question)
    pub accepted : accepts schema (sentence_of schema cert (named_in read place question)) cert.steps ≡ true

  pub right_at : (place : ℕ) (cert : Cert) → slice_get answers place ≡ Some (Always cert) → IsRight place cert
  right_at place cert told =
      let asked = asked_at schema query number budget answers judged.right place (Always cert) told in
      let kept = (words schema query number budget answers judged.right).always place asked.0 cert (record { asked = asked.1; told = told }) in
      let more : place + 1 ≡ suc place = omega arith in
      let own : cert.question ≡ suc place = kept.2 ∙ more in
      let names : question_named queries cert ≡ Some (named_in read place asked.0) = named_is queries cert read place asked.0 (ap (query_named queries) kept.1 ∙ query_is) own asked.1 in
      record {
        question = asked.0;
        at = asked.1;
        names_query = kept.1;
        names_question = own;
        names = names;
        accepted = kept.0.accepted;
      }

-- ---- all lines

line_at : (lines : Cert → CheckRun) (certs : List Cert) (place : ℕ) (line : CheckRun) → slice_get (map lines certs) place ≡ Some line →
    (cert : Cert) × (slice_get certs place ≡ Some cert) × (lines cert ≡ line)
line_at lines [] place line at = cc
line_at lines (cert ∷ certs) zero line at = (cert, refl, same_Some (lines cert) line at)
line_at lines (cert ∷ certs) (suc place) line at = line_at lines certs place line at

none_wrong : (wrong : Option ℕ) → not (is_some wrong) ≡ true → wrong ≡ None
none_wrong None is = refl
none_wrong (Some step) is = cc

same_numbers : (n : ℕ) → nat_eq n n ≡ true
same_numbers n = grind (arith, nat_tests)

module _ (words : KeepWord) (law : AcceptedLaw) (schema : List Table) (budget : ℕ) (queries again : List QueryRun)
    (same : (cert : Cert) → question_named again cert ≡ question_named queries cert) where
  abbrev certs : List Cert
  certs = certs_of queries

  abbrev Right : (number : ℕ) (query : Query) (answers : List Answer) → IsJudged schema budget queries number query answers → ℕ → Cert → Type 0
  Right number query answers judged = IsRight words schema budget queries number query answers judged

  abbrev tests : ℕ → ℕ → Cert → Bool
  tests query question c = nat_eq c.query query && nat_eq c.question question && has_right_steps schema again c

  -- the file has the certificate of each answer that is always
  in_file : (number : ℕ) (query : Query) (answers : List Answer) (judged : IsJudged schema budget queries number query answers) (place : ℕ) (cert : Cert) →
      slice_get answers place ≡ Some (Always cert) → has_certificate schema again certs number (suc place) ≡ true
  in_file number query answers judged place cert told =
      let is : Right number query answers judged place cert = right_at words schema budget queries number query answers judged place cert told in
      let steps : has_right_steps schema again cert ≡ true =
      ap (λ (o : Option Named). option_map_or (λ (n : Named). accepts schema (sentence_of schema cert n) cert.steps) o false) (same cert ∙ is.names) ∙ is.accepted in
      let yes : tests number (suc place) cert ≡ true =
      ap₂ (λ (q p : ℕ). nat_eq q number && nat_eq p (suc place) && has_right_steps schema again cert) is.names_query is.names_question
      ∙ (ap₂ (λ (a b : Bool). a && b && has_right_steps schema again cert) (same_numbers number) (same_numbers (suc place)) ∙ steps) in
      any_in_parts (tests number (suc place)) (λ (q : QueryRun). result_certs q.result) queries judged.place judged.entry judged.entry_at
      (ap (λ r. list_any (tests number (suc place)) (result_certs r)) judged.result
      ∙ any_in_parts (tests number (suc place)) cert_of answers place (Always cert) told (ap (λ b. b || false) yes))

  accepted : (cert : Cert) → IsWritten schema budget queries cert → checked_of schema again certs cert ≡ checked.Accepted
  accepted cert w =
      let is : Right w.number w.query w.answers w.judged w.place cert = right_at words schema budget queries w.number w.query w.answers w.judged w.place cert w.told in
      let named : Named = named_in (record { query = w.query; asked = questions schema w.query }) w.place is.question in
      let names : question_named again cert ≡ Some named = same cert ∙ is.names in
      let right_steps : wrong_step schema (sentence_of schema cert named) cert.steps ≡ None =
      none_wrong (wrong_step schema (sentence_of schema cert named) cert.steps) (sym (law schema (sentence_of schema cert named) cert.steps) ∙ is.accepted) in
      let lacks : first_lacking (has_certificate schema again certs cert.query) 1 named.before ≡ None =
      nothing_lacks (has_certificate schema again certs cert.query) 1 (take w.place (questions schema w.query)) (each is.names_query) in
      ap (λ (o : Option Named). option_map_or (checked_for schema again certs cert) o (checked.Refused 0)) names ∙ ap₂ checked_by right_steps lacks
    where
      each : cert.query ≡ w.number → (i : ℕ) (q : Question) → slice_get (take w.place (questions schema w.query)) i ≡ Some q → is_one_row q ≡ true →
          has_certificate schema again certs cert.query (1 + i) ≡ true
      each own i q at is =
          let stands = of_taken (questions schema w.query) w.place i q at in
          let other = earlier_always schema w.query w.number budget w.answers w.judged.right w.place cert w.told i q stands.0 stands.1 is in
          let more : suc i ≡ 1 + i = omega arith in
          ap₂ (λ (n k : ℕ). has_certificate schema again certs n k) own (sym more) ∙ in_file w.number w.query w.answers w.judged i other.0 other.1

  all_accepted : ((place : ℕ) (cert : Cert) → slice_get certs place ≡ Some cert → IsWritten schema budget queries cert) → AreAllAccepted schema again certs
  all_accepted from place line at =
      let found = line_at (line_of schema again certs) certs place line at in
      sym (ap (λ (l : CheckRun). l.checked) found.2) ∙ accepted found.0 (from place found.0 found.1)

pub rechecked : KeepWord → AcceptedLaw → OneReading → ReadIsNotRefused → (schema : List Table) (text : List ℕ) (budget : ℕ) (form : Form) (path : List ℕ) (queries again : List QueryRun) →
    AreRightQueries (judges budget form) schema text queries → AreRightQueries (checks path) schema text again → AreAllAccepted schema again (certs_of queries)
rechecked words law one apart schema text budget form path queries again right too =
    all_accepted words law schema budget queries again
    (same_question one apart schema text (judges budget form) (checks path) queries again (right.each_piece ∙ sym too.each_piece) right.right too.right)
    (written schema budget form text queries right.right)
