-- A run that nothing hinders: its words are a command, the files that they name stand on the shelf and keep their limits, that of the
-- schema declares one, that of certificates, where it is asked for, is one, and no fault is counted.
use Rattle.std.specs.Prelude.{◌≡◌, ◌≤◌, ℕ, List, length, Option, Some, None}
use Rattle.cert_format.specs.CertFile.{ReadsAs}
use Rattle.command_words.specs.Wanted.{Asked, judges, checks, Wanted}
use Rattle.lint_base.specs.Counts.{Rose}
use Rattle.lint_core.specs.declared.certificate.Cert.{Cert}
use Rattle.lint_core.specs.declared.schema.Table.{Table}
use Rattle.lint_run.specs.Stops.{Told, text_limit, certs_limit}
use Rattle.lint_run.specs.Written.{Sunk}
use Rattle.lint_run.specs.declared.outcome.Stop.{Stop}
use Rattle.lint_run.specs.declared.outcome.Stop.TheVariants as stop
use Rattle.sql_reading.specs.TextReading.{ReadsSchema}

-- what each path holds
module _ (held : List ℕ → Option (List ℕ)) where
  -- this text, of at most so many bytes
  pub record IsHeld (limit : ℕ) (path text : List ℕ) : Type 0 where
    pub there : held path ≡ Some text
    pub within : length text ≤ limit

  pub record HasSchema (path : List ℕ) : Type 0 where
    pub text : List ℕ
    pub is_held : IsHeld text_limit path text
    pub schema : List Table
    pub declares : ReadsSchema text schema

  -- whatever its pieces are: one that is no query is no stop
  pub record HasQueries (path : List ℕ) : Type 0 where
    pub text : List ℕ
    pub is_held : IsHeld text_limit path text

  pub record HasCerts (path : List ℕ) : Type 0 where
    pub text : List ℕ
    pub is_held : IsHeld certs_limit path text
    pub certs : List Cert
    pub reads : ReadsAs text certs

  abbrev pub HasAsked : Asked → Type 0
  HasAsked (judges budget form) = Unit {0}
  HasAsked (checks path) = HasCerts path

  pub record AreInOrder (wanted : Wanted) : Type 0 where
    pub schema : HasSchema wanted.paths.schema
    pub queries : HasQueries wanted.paths.queries
    pub asked : HasAsked wanted.asked

-- no count of faults has risen
pub record NoneRose (before now : Told) (old new : Sunk) : Type 0 where
  pub opens : ¬ (Rose before.open_faults now.open_faults)
  pub reads : ¬ (Rose before.read_faults now.read_faults)
  pub writes : ¬ (Rose old.faults new.faults)

-- there is no stop, but for want of memory
abbrev pub IsNoStop : Option Stop → Type 0
IsNoStop None = Unit {0}
IsNoStop (Some s) = s ≡ stop.NoMemory
