-- What the check of each certificate of a file comes to, by the schema, the queries as they were read, and the certificates of
-- the file.
use Rattle.std.specs.Prelude.{ℕ, suc, Bool, true, false, ◌&&◌, not, nat_eq, List, [], ◌∷◌, map, Option, Some, None, if◌then◌else◌}
use Rattle.std.specs.List.{list_any}
use Rattle.std.specs.Option.{option_map_or}
use Rattle.lint_core.specs.declared.certificate.Cert.{Cert}
use Rattle.lint_core.specs.declared.query.Question.{Question}
use Rattle.lint_core.specs.declared.query.Question.TheVariants.{OneRow}
use Rattle.lint_core.specs.declared.run.Checked.{Checked}
use Rattle.lint_core.specs.declared.run.Checked.TheVariants as checked
use Rattle.lint_core.specs.declared.run.CheckRun.{CheckRun}
use Rattle.lint_core.specs.declared.run.QueryRun.{QueryRun}
use Rattle.lint_core.specs.declared.schema.Table.{Table}
use Rattle.sort_formula.specs.declared.formula.Formula.{Formula}
use Rattle.sort_formula.specs.Certificate.{accepts, wrong_step}
use Rattle.sort_formula.specs.Counters.{counter_sentence}
use Rattle.cert_checks.specs.Named.{Named, question_named}

-- E9
abbrev pub is_one_row : Question → Bool
is_one_row (OneRow sub) = true
is_one_row question = false

-- the number of the first E9 that has no certificate, among questions of which the first has this number
abbrev pub first_lacking : (ℕ → Bool) → ℕ → List Question → Option ℕ
first_lacking has_certificate next [] = None
first_lacking has_certificate next (q ∷ qs) =
    if is_one_row q && not (has_certificate next) then Some next else first_lacking has_certificate (suc next) qs

-- by the number of the first step that is wrong, missing or left over, if the steps are not accepted; and by that of the first
-- earlier E9 without an accepted certificate
abbrev pub checked_by : Option ℕ → Option ℕ → Checked
checked_by (Some step) lacking = checked.Refused step
checked_by None (Some question) = checked.Needs question
checked_by None None = checked.Accepted

-- the sentence that the steps of a certificate of this question are to refute
abbrev pub sentence_of : List Table → Cert → Named → Formula
sentence_of schema cert named = counter_sentence schema named.query named.question cert.value

module _ (schema : List Table) (queries : List QueryRun) where
  -- the certificate names a question, and its steps are accepted for it, whatever is said of earlier questions
  abbrev pub has_right_steps : Cert → Bool
  has_right_steps cert = option_map_or (λ named. accepts schema (sentence_of schema cert named) cert.steps) (question_named queries cert) false

  module _ (certs : List Cert) where
    -- some certificate of the file, wherever it stands, is one of the question of these numbers, and its steps are accepted
    abbrev pub has_certificate : ℕ → ℕ → Bool
    has_certificate query question = list_any (λ (c : Cert). nat_eq c.query query && nat_eq c.question question && has_right_steps c) certs

    -- of a certificate that names this question
    abbrev pub checked_for : Cert → Named → Checked
    checked_for cert named =
        checked_by (wrong_step schema (sentence_of schema cert named) cert.steps) (first_lacking (has_certificate cert.query) 1 named.before)

    -- refused at step 0 where it names no question
    abbrev pub checked_of : Cert → Checked
    checked_of cert = option_map_or (checked_for cert) (question_named queries cert) (checked.Refused 0)

    abbrev pub line_of : Cert → CheckRun
    line_of cert = record { query = cert.query; question = cert.question; checked = checked_of cert }

  -- one line for each certificate, in order
  abbrev pub checks_of : List Cert → List CheckRun
  checks_of certs = map (line_of certs) certs
