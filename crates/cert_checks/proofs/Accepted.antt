-- What an accepted line says: all E9 that are asked before its question have certificates with accepted steps, so each of them
-- holds always, from the first one on; and so does the question.
use Rattle.std.proofs.Common.{◌≡◌, ◌∙◌, sym, ap, refl, subst, ℕ, zero, suc, ◌+◌, ◌<◌, Bool, true, false, cond, not, ◌&&◌, ◌||◌, List, [], ◌∷◌, take, arith}
use Rattle.std.proofs.lemmas.Bool.Decides.{nat_tests}
use Rattle.std.proofs.lemmas.Option.{same_Some, slice_get-map}
use Rattle.std.specs.Prelude.{Option, Some, None, nat_eq, is_some, slice_get}
use Rattle.std.specs.Option.{option_map, option_map_or}
use Rattle.lint_base.proofs.Lists.{below_true}
use Rattle.lint_core.specs.declared.certificate.Cert.{Cert}
use Rattle.lint_core.specs.declared.certificate.Step.{Step}
use Rattle.lint_core.specs.declared.database.Database.{Database}
use Rattle.lint_core.specs.declared.database.Points.TheVariants.{One, Two, Without}
use Rattle.lint_core.specs.declared.database.Value.{Value}
use Rattle.lint_core.specs.declared.database.Value.TheVariants.{Null}
use Rattle.lint_core.specs.declared.query.Query.{Query}
use Rattle.lint_core.specs.declared.query.Question.{Question}
use Rattle.lint_core.specs.declared.query.Question.TheVariants.{OneRow}
use Rattle.lint_core.specs.declared.run.Checked.TheVariants as checked
use Rattle.lint_core.specs.declared.run.CheckRun.{CheckRun}
use Rattle.lint_core.specs.declared.run.QueryRun.{QueryRun}
use Rattle.lint_core.specs.declared.schema.Table.{Table}
use Rattle.lint_core.specs.Asked.{is_asked, questions}
use Rattle.lint_core.specs.Fits.{query_fits}
use Rattle.lint_core.specs.Meets.{meets}
use Rattle.lint_core.specs.Question.{EarlierHold, HoldsAlways, HoldsIn, scalars_before}
use Rattle.sort_formula.specs.Certificate.{accepts, wrong_step}
use Rattle.sort_formula.specs.Counters.{counter_sentence}
use Rattle.answer_laws.specs.AlwaysMeans.{AlwaysMeans}
use Rattle.cert_checks.specs.AcceptedLines.{AreProvedLines, IsProvedLine}
use Rattle.cert_checks.specs.Checks.{checked_by, checked_of, first_lacking, has_certificate, has_right_steps, is_one_row, line_of, sentence_of}
use Rattle.cert_checks.specs.Named.{AreRead, Named, ReadQuery, query_named, question_named}
use Rattle.cert_checks.proofs.Lines.{AcceptedLaw}
use Rattle.cert_checks.proofs.Named.{IsWhole, StandsAt, named_asked, named_fits, named_in, named_is, stands_at, whole}
use Rattle.cert_checks.proofs.OneRows.{count, few_before, one_row_at, passes_asked, stands_behind, take_at}

-- ---- the laws that are cited

-- accepted steps show that the question holds where the E9 that are asked before it hold
abbrev pub HoldsWhere : List Table → Type 0
HoldsWhere schema =
    (query : Query) → query_fits schema query ≡ true → (question : Question) → is_asked schema query question ≡ true → (given : Value) (steps : List Step)
    → accepts schema (counter_sentence schema query question given) steps ≡ true
    → (db : Database) → meets schema db ≡ true → EarlierHold db query question → HoldsIn db query question given

abbrev pub MeansLaw : Type 0
MeansLaw =
    (schema : List Table) (query : Query) (question : Question) (value : Value) → is_asked schema query question ≡ true
    → HoldsAlways schema query question value → AlwaysMeans schema query question value

-- ---- questions before which none lacks a certificate

none_lacks : (has : ℕ → Bool) (next : ℕ) (qs : List Question) → first_lacking has next qs ≡ None → (i sub : ℕ) → slice_get qs i ≡ Some (OneRow sub) → has (next + i) ≡ true
none_lacks has next [] none i sub at = cc
none_lacks has next (q ∷ qs) none zero sub at =
    ap has (let e : next + 0 ≡ next = omega arith in e)
    ∙ by (has next) (subst (λ (r : Question). first_lacking has next (r ∷ qs) ≡ None) (same_Some q (OneRow sub) at) none)
  where
    by : (b : Bool) → cond (true && not b) (Some next) (first_lacking has (suc next) qs) ≡ None → b ≡ true
    by true none = refl
    by false none = cc
none_lacks has next (q ∷ qs) none (suc i) sub at =
    ap has (let e : next + suc i ≡ suc next + i = omega arith in e)
    ∙ none_lacks has (suc next) qs (rest (is_one_row q && not (has next)) (first_lacking has (suc next) qs) none) i sub at
  where
    rest : (b : Bool) (o : Option ℕ) → cond b (Some next) o ≡ None → o ≡ None
    rest true o none = cc
    rest false o none = none

-- of E9 no value is read
any_value : (db : Database) (query : Query) (sub : ℕ) (given : Value) → HoldsIn db query (OneRow sub) given → HoldsIn db query (OneRow sub) Null
any_value db query sub given hold (One one) = hold (One one)
any_value db query sub given hold (Two one two) = hold (Two one two)
any_value db query sub given hold (Without one) = hold (Without one)

all_three : (a b c : Bool) → (a && b && c) ≡ true → (a ≡ true) × (b ≡ true) × (c ≡ true)
all_three true true true all = (refl, refl, refl)
all_three true true false all = cc
all_three true false c all = cc
all_three false b c all = cc

is_number : (m n : ℕ) → nat_eq m n ≡ true → m ≡ n
is_number m n same = grind (arith, nat_tests)

module _ (schema : List Table) (holds_where : HoldsWhere schema) (queries : List QueryRun) (are : AreRead schema queries) where
  -- a certificate of the question of these numbers, whose steps are accepted
  record HasOne (query question : ℕ) : Type 0 where
    pub cert : Cert
    pub query_is : cert.query ≡ query
    pub question_is : cert.question ≡ question
    pub right : has_right_steps schema queries cert ≡ true

  found_one : (certs : List Cert) (query question : ℕ) → has_certificate schema queries certs query question ≡ true → HasOne query question
  found_one [] query question has = cc
  found_one (c ∷ cs) query question has =
      by (nat_eq c.query query && nat_eq c.question question && has_right_steps schema queries c) refl has (λ more. found_one cs query question more)
    where
      by : (b : Bool) → (nat_eq c.query query && nat_eq c.question question && has_right_steps schema queries c) ≡ b →
          (b || has_certificate schema queries cs query question) ≡ true → (has_certificate schema queries cs query question ≡ true → HasOne query question) → HasOne query question
      by true this has rest =
          let all = all_three (nat_eq c.query query) (nat_eq c.question question) (has_right_steps schema queries c) this in
          record { cert = c; query_is = is_number c.query query all.0; question_is = is_number c.question question all.1; right = all.2 }
      by false this has rest = rest has

  -- the steps are accepted for the question that the certificate names
  right_for : (cert : Cert) (named : Named) → question_named queries cert ≡ Some named → has_right_steps schema queries cert ≡ true →
      accepts schema (sentence_of schema cert named) cert.steps ≡ true
  right_for cert named is right =
      sym (ap (λ (o : Option Named). option_map_or (λ (n : Named). accepts schema (sentence_of schema cert n) cert.steps) o false) is) ∙ right

  module _ (certs : List Cert) (number : ℕ) (read : ReadQuery) (read_is : query_named queries number ≡ Some read) (so : IsWhole schema read) where
    -- E9 below a bound, where all of them have certificates
    rows_hold : (bound : ℕ) → ((sub : ℕ) → sub < bound → sub < count schema read.query → has_certificate schema queries certs number (suc sub) ≡ true) →
        (k sub : ℕ) → sub < k → sub < bound → sub < count schema read.query → (db : Database) → meets schema db ≡ true → HoldsIn db read.query (OneRow sub) Null
    rows_hold bound have zero sub less low there db met = absurd (omega arith)
    rows_hold bound have (suc k) sub less low there db met =
        let one : HasOne number (suc sub) = found_one certs number (suc sub) (have sub low there) in
        let place : slice_get (questions schema read.query) sub ≡ Some (OneRow sub) = one_row_at schema read.query sub there in
        let at : slice_get read.asked sub ≡ Some (OneRow sub) = ap (λ (qs : List Question). slice_get qs sub) so.1 ∙ place in
        let named : question_named queries one.cert ≡ Some (named_in read sub (OneRow sub)) =
        named_is queries one.cert read sub (OneRow sub) (ap (query_named queries) one.query_is ∙ read_is) one.question_is at in
        any_value db read.query sub one.cert.value
        (holds_where read.query so.0 (OneRow sub) (passes_asked schema read.query sub (OneRow sub) place) one.cert.value one.cert.steps
        (right_for one.cert (named_in read sub (OneRow sub)) named one.right) db met
        (λ lower under. let below : lower < sub = below_true lower sub under in rows_hold bound have k lower (omega arith) (omega arith) (omega arith) db met))

    -- a question before which no E9 lacks a certificate
    earlier_hold : (place : ℕ) (question : Question) → slice_get read.asked place ≡ Some question →
        first_lacking (has_certificate schema queries certs number) 1 (take place read.asked) ≡ None → (db : Database) → meets schema db ≡ true → EarlierHold db read.query question
    earlier_hold place question at none db met sub low =
        let asked_at : slice_get (questions schema read.query) place ≡ Some question = subst (λ (qs : List Question). slice_get qs place ≡ Some question) so.1 at in
        let before = stands_behind schema read.query db place question asked_at in
        let most = few_before schema read.query db question (passes_asked schema read.query place question asked_at) in
        let less : sub < scalars_before db read.query question = below_true sub (scalars_before db read.query question) low in
        rows_hold place
        (λ lower under there.
        let at_lower : slice_get read.asked lower ≡ Some (OneRow lower) = ap (λ (qs : List Question). slice_get qs lower) so.1 ∙ one_row_at schema read.query lower there in
        ap (has_certificate schema queries certs number) (let e : suc lower ≡ 1 + lower = omega arith in e)
        ∙ none_lacks (has_certificate schema queries certs number) 1 (take place read.asked) none lower lower (take_at read.asked place lower (OneRow lower) under at_lower))
        place sub (omega arith) (omega arith) (omega arith) db met

  -- ---- lines

  module _ (law : AcceptedLaw) (means : MeansLaw) (certs : List Cert) where
    of_named : (cert : Cert) (named : Named) → question_named queries cert ≡ Some named →
        wrong_step schema (sentence_of schema cert named) cert.steps ≡ None →
        first_lacking (has_certificate schema queries certs cert.query) 1 named.before ≡ None → IsProvedLine schema queries cert
    of_named cert named is right none =
        let stands : StandsAt queries cert.query cert.question named = stands_at queries cert named is in
        let so : IsWhole schema stands.read = whole schema queries are cert.query stands.read stands.read_is in
        let asked : is_asked schema named.query named.question ≡ true = named_asked schema queries are cert named is in
        let accepted : accepts schema (sentence_of schema cert named) cert.steps ≡ true =
        law schema (sentence_of schema cert named) cert.steps ∙ ap (λ (wrong : Option ℕ). not (is_some wrong)) right in
        let taken : first_lacking (has_certificate schema queries certs cert.query) 1 (take stands.place stands.read.asked) ≡ None =
        ap (λ (n : Named). first_lacking (has_certificate schema queries certs cert.query) 1 n.before) (sym stands.is) ∙ none in
        let earlier : (db : Database) → meets schema db ≡ true → EarlierHold db named.query named.question =
        subst (λ (n : Named). (db : Database) → meets schema db ≡ true → EarlierHold db n.query named.question) (sym stands.is)
        (earlier_hold certs cert.query stands.read stands.read_is so stands.place named.question stands.at taken) in
        record {
          named = named;
          names = is;
          means =
              means schema named.query named.question cert.value asked
              (λ db met. holds_where named.query (named_fits schema queries are cert named is) named.question asked cert.value cert.steps accepted db met (earlier db met));
          accepted = accepted;
        }

    of_checked : (cert : Cert) → checked_of schema queries certs cert ≡ checked.Accepted → IsProvedLine schema queries cert
    of_checked cert accepted = by (question_named queries cert) refl accepted
      where
        both : (wrong lacking : Option ℕ) → checked_by wrong lacking ≡ checked.Accepted → (wrong ≡ None) × (lacking ≡ None)
        both None None is = (refl, refl)
        both None (Some question) is = cc
        both (Some step) lacking is = cc

        by : (o : Option Named) → question_named queries cert ≡ o →
            option_map_or (λ (n : Named). checked_by (wrong_step schema (sentence_of schema cert n) cert.steps) (first_lacking (has_certificate schema queries certs cert.query) 1 n.before)) o (checked.Refused 0)
            ≡ checked.Accepted → IsProvedLine schema queries cert
        by None is accepted = cc
        by (Some named) is accepted =
            let none =
            both (wrong_step schema (sentence_of schema cert named) cert.steps) (first_lacking (has_certificate schema queries certs cert.query) 1 named.before) accepted
            in
            of_named cert named is none.0 none.1

    pub proved_lines : AreProvedLines schema queries certs
    proved_lines place cert line at there accepted =
        let same : line_of schema queries certs cert ≡ line =
        same_Some (line_of schema queries certs cert) line
        (ap (option_map (line_of schema queries certs)) (sym at) ∙ (sym (slice_get-map (line_of schema queries certs) certs place) ∙ there))
        in
        of_checked cert (ap (λ (l : CheckRun). l.checked) same ∙ accepted)
