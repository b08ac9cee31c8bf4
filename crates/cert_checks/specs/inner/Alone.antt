-- What certificates come to by themselves, whatever others stand in their file, and how their lines are made of that.
use Rattle.std.specs.Prelude.{ℕ, zero, suc, Bool, true, false, ◌&&◌, nat_eq, nat_lt, List, [], ◌∷◌, Option, Some, None, slice_get, option_and_then, if◌then◌else◌}
use Rattle.std.specs.List.{list_any}
use Rattle.std.specs.Option.{option_map_or}
use Rattle.lint_core.specs.declared.certificate.Cert.{Cert}
use Rattle.lint_core.specs.declared.run.Checked.{Checked}
use Rattle.lint_core.specs.declared.run.Checked.TheVariants as checked
use Rattle.lint_core.specs.declared.run.CheckRun.{CheckRun}
use Rattle.lint_core.specs.declared.run.QueryResult.{QueryResult}
use Rattle.lint_core.specs.declared.run.QueryRun.{QueryRun}
use Rattle.lint_core.specs.declared.schema.Table.{Table}
use Rattle.sort_formula.specs.Certificate.{wrong_step}
use Rattle.cert_checks.specs.Named.{Named, ReadQuery, question_named, read_query}
use Rattle.cert_checks.specs.Checks.{checked_by, first_lacking, sentence_of}

-- ---- a certificate by itself

module _ (schema : List Table) (queries : List QueryRun) where
  abbrev pub alone_for : Cert → Named → Checked
  alone_for cert named = checked_by (wrong_step schema (sentence_of schema cert named) cert.steps) None

  abbrev pub alone : Cert → Checked
  alone cert = option_map_or (alone_for cert) (question_named queries cert) (checked.Refused 0)

  -- its line, if no E9 stood before its question
  abbrev pub alone_line : Cert → CheckRun
  alone_line cert = record { query = cert.query; question = cert.question; checked = alone cert }

-- ---- what is found by these lines

abbrev pub is_accepted : Checked → Bool
is_accepted checked.Accepted = true
is_accepted (checked.Refused step) = false
is_accepted (checked.Needs question) = false

module _ (found : List CheckRun) where
  -- one of them is of the question of these numbers, and accepted
  abbrev pub has_accepted : ℕ → ℕ → Bool
  has_accepted query question = list_any (λ (l : CheckRun). nat_eq l.query query && nat_eq l.question question && is_accepted l.checked) found

  -- the number of the first E9 of a query that has none
  abbrev pub lacking_in : ℕ → QueryResult → Option ℕ
  lacking_in query outcome = option_and_then (λ (read : ReadQuery). first_lacking (has_accepted query) 1 read.asked) (read_query outcome)

  -- of each query, of which the first has this number
  abbrev pub lacking_of : ℕ → List QueryRun → List (Option ℕ)
  lacking_of next [] = []
  lacking_of next (q ∷ qs) = lacking_in next q.result ∷ lacking_of (suc next) qs

-- ---- lines, where of each query the first E9 that lacks a certificate is known

-- the number, where it is less
abbrev pub if_below : ℕ → Option ℕ → Option ℕ
if_below bound number = option_and_then (λ n. if nat_lt n bound then Some n else None) number

abbrev pub at_number : List (Option ℕ) → ℕ → Option ℕ
at_number lacking zero = None
at_number lacking (suc place) = option_and_then (λ number. number) (slice_get lacking place)

abbrev pub with_needs : Option ℕ → Checked → Checked
with_needs lacking checked.Accepted = checked_by None lacking
with_needs lacking (checked.Refused step) = checked.Refused step
with_needs lacking (checked.Needs question) = checked.Needs question

abbrev pub line_by : List (Option ℕ) → CheckRun → CheckRun
line_by lacking l = record { query = l.query; question = l.question; checked = with_needs (if_below l.question (at_number lacking l.query)) l.checked }
