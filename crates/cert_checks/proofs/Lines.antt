-- The lines, made of what certificates come to by themselves, are those of the definition.
use Rattle.std.proofs.Common.{◌≡◌, ◌∙◌, sym, ap, ap₂, refl, ℕ, zero, suc, ◌+◌, ◌≤◌, Bool, true, false, cond, not, ◌&&◌, ◌||◌, List, [], ◌∷◌, map, take, arith}
use Rattle.std.specs.Prelude.{Option, Some, None, Result, Ok, Err, IfOk, ◌↔◌, nat_eq, nat_lt, is_some, slice_get, option_and_then}
use Rattle.std.specs.Option.{option_map_or}
use Rattle.lint_base.proofs.Lists.{true_below, below_true, false_unless}
use Rattle.lint_core.specs.declared.certificate.Cert.{Cert}
use Rattle.lint_core.specs.declared.certificate.Step.{Step}
use Rattle.lint_core.specs.declared.query.Question.{Question}
use Rattle.lint_core.specs.declared.run.Checked.{Checked}
use Rattle.lint_core.specs.declared.run.Checked.TheVariants as checked
use Rattle.lint_core.specs.declared.run.CheckRun.{CheckRun}
use Rattle.lint_core.specs.declared.run.QueryRun.{QueryRun}
use Rattle.lint_core.specs.declared.schema.Table.{Table}
use Rattle.sort_formula.specs.declared.formula.Formula.{Formula}
use Rattle.sort_formula.specs.Certificate.{accepts, wrong_step}
use Rattle.cert_checks.specs.Named.{Named, ReadQuery, query_named, question_named, read_query}
use Rattle.cert_checks.specs.Checks.{checked_by, checked_of, checks_of, first_lacking, has_certificate, has_right_steps, is_one_row, line_of, sentence_of}
use Rattle.cert_checks.specs.inner.Alone.{alone, alone_for, alone_line, at_number, has_accepted, if_below, is_accepted, lacking_in, lacking_of, line_by, with_needs}
use Rattle.cert_checks.proofs.Named.{StandsAt, stands_at}

-- ---- one certificate

-- what a checker's three clauses say
pub by_clauses : (wrong : Option ℕ) (found : Checked) → ((step : ℕ) → (found ≡ checked.Refused step) ↔ (wrong ≡ Some step)) →
    ((other : ℕ) → found ≡ checked.Needs other → ⊥) → found ≡ checked_by wrong None
by_clauses None checked.Accepted refused needs = refl
by_clauses None (checked.Refused step) refused needs = let no = (refused step).0 refl in cc
by_clauses None (checked.Needs other) refused needs = absurd (needs other refl)
by_clauses (Some step) found refused needs = (refused step).1 refl

pub found_alone : {E : Type 0} (schema : List Table) (queries : List QueryRun) (cert : Cert) (named : Named) → question_named queries cert ≡ Some named → (result : Result Checked E) →
    IfOk result (λ found. (step : ℕ) → (found ≡ checked.Refused step) ↔ (wrong_step schema (sentence_of schema cert named) cert.steps ≡ Some step)) →
    IfOk result (λ found. (other : ℕ) → found ≡ checked.Needs other → ⊥) → IfOk result (λ found. found ≡ alone schema queries cert)
found_alone schema queries cert named is (Ok found) refused needs =
    by_clauses (wrong_step schema (sentence_of schema cert named) cert.steps) found refused needs
    ∙ ap (λ (o : Option Named). option_map_or (alone_for schema queries cert) o (checked.Refused 0)) (sym is)
found_alone schema queries cert named is (Err e) refused needs = tt

-- ---- the first E9 that lacks a certificate

pub lacking_alike : (has other : ℕ → Bool) → ((n : ℕ) → has n ≡ other n) → (next : ℕ) (qs : List Question) → first_lacking has next qs ≡ first_lacking other next qs
lacking_alike has other alike next [] = refl
lacking_alike has other alike next (q ∷ qs) =
    ap₂ (λ (b : Bool) (rest : Option ℕ). cond (is_one_row q && not b) (Some next) rest) (alike next) (lacking_alike has other alike (suc next) qs)

none_below : (has : ℕ → Bool) (bound next : ℕ) (qs : List Question) → bound ≤ next → if_below bound (first_lacking has next qs) ≡ None
none_below has bound next [] high = refl
none_below has bound next (q ∷ qs) high = by (is_one_row q && not (has next)) (first_lacking has (suc next) qs) (none_below has bound (suc next) qs (omega arith))
  where
    by : (b : Bool) (rest : Option ℕ) → if_below bound rest ≡ None → if_below bound (cond b (Some next) rest) ≡ None
    by true rest so = ap (λ (b : Bool). cond b (Some next) None) (false_unless (nat_lt next bound) (λ low. let less = below_true next bound low in omega arith))
    by false rest so = so

below_is_taken : (has : ℕ → Bool) (next place bound : ℕ) (qs : List Question) → bound ≡ next + place → if_below bound (first_lacking has next qs) ≡ first_lacking has next (take place qs)
below_is_taken has next zero bound [] is = refl
below_is_taken has next (suc place) bound [] is = refl
below_is_taken has next zero bound (q ∷ qs) is = none_below has bound next (q ∷ qs) (omega arith)
below_is_taken has next (suc place) bound (q ∷ qs) is =
    by (is_one_row q && not (has next)) (first_lacking has (suc next) qs) (first_lacking has (suc next) (take place qs)) (below_is_taken has (suc next) place bound qs (omega arith))
  where
    by : (b : Bool) (rest taken : Option ℕ) → if_below bound rest ≡ taken → if_below bound (cond b (Some next) rest) ≡ cond b (Some next) taken
    by true rest taken so = ap (λ (b : Bool). cond b (Some next) None) (true_below next bound (omega arith))
    by false rest taken so = so

module _ (found : List CheckRun) where
  number_at : (next place : ℕ) (queries : List QueryRun) →
      option_and_then (λ (number : Option ℕ). number) (slice_get (lacking_of found next queries) place)
      ≡ option_and_then (λ (read : ReadQuery). first_lacking (has_accepted found (next + place)) 1 read.asked)
      (option_and_then (λ (q : QueryRun). read_query q.result) (slice_get queries place))
  number_at next place [] = refl
  number_at next zero (q ∷ qs) = ap (λ n. lacking_in found n q.result) (let e : next ≡ next + 0 = omega arith in e)
  number_at next (suc place) (q ∷ qs) =
      number_at (suc next) place qs
      ∙ ap (λ n. option_and_then (λ (read : ReadQuery). first_lacking (has_accepted found n) 1 read.asked)
      (option_and_then (λ (q : QueryRun). read_query q.result) (slice_get qs place))) (let e : suc next + place ≡ next + suc place = omega arith in e)

  lacking_at : (queries : List QueryRun) (number : ℕ) (read : ReadQuery) → query_named queries number ≡ Some read →
      at_number (lacking_of found 1 queries) number ≡ first_lacking (has_accepted found number) 1 read.asked
  lacking_at queries zero read is = cc
  lacking_at queries (suc place) read is =
      let same : 1 + place ≡ suc place = omega arith in
      number_at 1 place queries
      ∙ (ap (option_and_then (λ (read : ReadQuery). first_lacking (has_accepted found (1 + place)) 1 read.asked)) is
      ∙ ap (λ n. first_lacking (has_accepted found n) 1 read.asked) same)

-- ---- lines

-- the law that steps are accepted exactly where none is wrong
abbrev pub AcceptedLaw : Type 0
AcceptedLaw = (schema : List Table) (sentence : Formula) (steps : List Step) → accepts schema sentence steps ≡ not (is_some (wrong_step schema sentence steps))

module _ (law : AcceptedLaw) (schema : List Table) (queries : List QueryRun) where
  right_steps : (cert : Cert) → is_accepted (alone schema queries cert) ≡ has_right_steps schema queries cert
  right_steps cert = by (question_named queries cert)
    where
      of : (wrong : Option ℕ) → is_accepted (checked_by wrong None) ≡ not (is_some wrong)
      of None = refl
      of (Some step) = refl

      by : (o : Option Named) → is_accepted (option_map_or (alone_for schema queries cert) o (checked.Refused 0))
          ≡ option_map_or (λ (n : Named). accepts schema (sentence_of schema cert n) cert.steps) o false
      by None = refl
      by (Some named) = of (wrong_step schema (sentence_of schema cert named) cert.steps) ∙ sym (law schema (sentence_of schema cert named) cert.steps)

  pub has_same : (certs : List Cert) (query question : ℕ) → has_accepted (map (alone_line schema queries) certs) query question ≡ has_certificate schema queries certs query question
  has_same [] query question = refl
  has_same (c ∷ cs) query question =
      ap₂ (λ (a b : Bool). (nat_eq c.query query && nat_eq c.question question && a) || b) (right_steps c) (has_same cs query question)

  module _ (certs : List Cert) where
    abbrev found : List CheckRun
    found = map (alone_line schema queries) certs

    abbrev lacking : List (Option ℕ)
    lacking = lacking_of found 1 queries

    lacking_before : (cert : Cert) (named : Named) → question_named queries cert ≡ Some named →
        if_below cert.question (at_number lacking cert.query) ≡ first_lacking (has_certificate schema queries certs cert.query) 1 named.before
    lacking_before cert named is =
        let stands : StandsAt queries cert.query cert.question named = stands_at queries cert named is in
        let number : cert.question ≡ suc stands.place = stands.number_is in
        ap (if_below cert.question) (lacking_at found queries cert.query stands.read stands.read_is)
        ∙ (below_is_taken (has_accepted found cert.query) 1 stands.place cert.question stands.read.asked (omega arith)
        ∙ (lacking_alike (has_accepted found cert.query) (has_certificate schema queries certs cert.query) (has_same certs cert.query) 1 (take stands.place stands.read.asked)
        ∙ ap (λ (n : Named). first_lacking (has_certificate schema queries certs cert.query) 1 n.before) (sym stands.is)))

    checked_same : (cert : Cert) → with_needs (if_below cert.question (at_number lacking cert.query)) (alone schema queries cert) ≡ checked_of schema queries certs cert
    checked_same cert = by (question_named queries cert) refl
      where
        of : (wrong one other : Option ℕ) → one ≡ other → with_needs one (checked_by wrong None) ≡ checked_by wrong other
        of None one other same = ap (checked_by None) same
        of (Some step) one other same = refl

        by : (o : Option Named) → question_named queries cert ≡ o →
            with_needs (if_below cert.question (at_number lacking cert.query)) (option_map_or (alone_for schema queries cert) o (checked.Refused 0))
            ≡ option_map_or (λ (n : Named). checked_by (wrong_step schema (sentence_of schema cert n) cert.steps) (first_lacking (has_certificate schema queries certs cert.query) 1 n.before)) o (checked.Refused 0)
        by None is = refl
        by (Some named) is =
            of (wrong_step schema (sentence_of schema cert named) cert.steps) (if_below cert.question (at_number lacking cert.query))
            (first_lacking (has_certificate schema queries certs cert.query) 1 named.before) (lacking_before cert named is)

    line_same : (cert : Cert) → line_by lacking (alone_line schema queries cert) ≡ line_of schema queries certs cert
    line_same cert = ap (λ (c : Checked). record { query = cert.query; question = cert.question; checked = c }) (checked_same cert)

    each_same : (cs : List Cert) → map (line_by lacking) (map (alone_line schema queries) cs) ≡ map (line_of schema queries certs) cs
    each_same [] = refl
    each_same (c ∷ cs) = ap₂ (λ (line : CheckRun) (rest : List CheckRun). line ∷ rest) (line_same c) (each_same cs)

    pub lines_are : map (line_by lacking) found ≡ checks_of schema queries certs
    lines_are = each_same certs
