-- When each stop comes, told by the words, by what the shelf tells before and after, and by the files,
-- where the shelf tells them.
use Rattle.std.specs.Prelude.{ℕ, Bool, true, false, ◌<◌, ◌≤◌, ◌≡◌, ◌⊎◌, List, [], Option, Some, None, IfSome, length}
use Rattle.cert_checks.specs.Checks.{checks_of}
use Rattle.cert_format.specs.CertFile.{ReadsAs, Refuses}
use Rattle.cert_format.specs.declared.fault.CertFault.{CertFault}
use Rattle.cert_format.specs.declared.fault.CertFault.TheVariants as cert_fault
use Rattle.command_words.specs.Wanted.{Asked, judges, checks, Wanted}
use Rattle.lint_base.specs.Counts.{Rose}
use Rattle.lint_base.specs.Shelf.{file_at}
use Rattle.lint_base.specs.declared.place.Refusal.{Refusal}
use Rattle.lint_core.specs.declared.certificate.Cert.{Cert}
use Rattle.lint_core.specs.declared.schema.Table.{Table}
use Rattle.lint_core.specs.declared.run.QueryRun.{QueryRun}
use Rattle.lint_core.specs.declared.run.Run.{Run}
use Rattle.lint_run.specs.RightRun.{AreRightQueries}
use Rattle.sql_reading.specs.TextReading.{ReadsSchema, RefusesSchema}
use Rattle.lint_run.specs.declared.outcome.Which.TheVariants as which
use Rattle.lint_run.specs.declared.outcome.Stop.{Stop}
use Rattle.lint_run.specs.declared.outcome.Stop.TheVariants as stop

-- the most bytes of a file of schema or queries, and of a file of certificates
abbrev pub text_limit : ℕ
text_limit = 1048576

abbrev pub certs_limit : ℕ
certs_limit = 16777216

-- what a shelf tells at a moment: its counts of faults, the paths of the last open that failed and of the
-- last that succeeded, and how many bytes were given since that one
pub record Told : Type 0 where
  pub open_faults : ℕ
  pub read_faults : ℕ
  pub failed_path : Option (List ℕ)
  pub opened_path : Option (List ℕ)
  pub given : ℕ

-- the same of a shelf, by the members of its trait
abbrev pub told : {S : Type 0} → (S → ℕ) → (S → ℕ) → (S → Option (List ℕ)) → (S → Option (List ℕ)) → (S → ℕ) → S → Told
told open_faults read_faults failed_path opened_path given shelf =
    record {
      open_faults = open_faults shelf;
      read_faults = read_faults shelf;
      failed_path = failed_path shelf;
      opened_path = opened_path shelf;
      given = given shelf;
    }

-- neither count rose, and the last open that failed is the one from before
pub record NoFault (before now : Told) : Type 0 where
  pub opens : now.open_faults ≡ before.open_faults
  pub reads : now.read_faults ≡ before.read_faults
  pub failed : now.failed_path ≡ before.failed_path

-- the path was not opened
pub record IsOpenFault (path : List ℕ) (before now : Told) : Type 0 where
  pub rose : Rose before.open_faults now.open_faults
  pub failed : now.failed_path ≡ Some path
  pub reads : now.read_faults ≡ before.read_faults
  pub opened : now.opened_path ≡ before.opened_path
  pub given : now.given ≡ before.given

-- a run that holds no query and no line of a check
pub record HoldsNothing (run : Run) : Type 0 where
  pub queries : run.queries ≡ []
  pub checks : run.checks ≡ []

-- and no schema yet
pub record IsUnbegun (run : Run) : Type 0 where
  pub schema : run.schema ≡ []
  pub nothing : HoldsNothing run

module _ (limit : ℕ) (path : List ℕ) (before now : Told) where
  -- the path was opened, and then a read failed, before more than the limit was given
  pub record IsReadFault : Type 0 where
    pub rose : Rose before.read_faults now.read_faults
    pub opened : now.opened_path ≡ Some path
    pub opens : now.open_faults ≡ before.open_faults
    pub failed : now.failed_path ≡ before.failed_path
    pub short : now.given ≤ limit

  -- the path was opened, no call failed, and no more than the limit was given
  pub record IsOpened : Type 0 where
    pub no_fault : NoFault before now
    pub opened : now.opened_path ≡ Some path
    pub short : now.given ≤ limit

module _ (files : Option (List ℕ → Option (List ℕ))) where
  module _ (limit : ℕ) (path : List ℕ) (before now : Told) where
    -- this text was read from the path to its end: as many bytes as were given, and where the files are told,
    -- what the path holds
    pub record IsReadWhole (text : List ℕ) : Type 0 where
      pub opened : IsOpened limit path before now
      pub given : length text ≡ now.given
      pub holds : IfSome files (λ held. held path ≡ Some text)

    -- the shelf gave more bytes of the path than the limit
    pub record IsTooLong : Type 0 where
      pub no_fault : NoFault before now
      pub opened : now.opened_path ≡ Some path
      pub gave : limit < now.given
      pub holds : IfSome (file_at files path) (λ file. limit < length file)

  module _ (path : List ℕ) (before now : Told) where
    -- the file at the path declares the schema
    pub record IsSchemaRead (schema : List Table) : Type 0 where
      pub text : List ℕ
      pub whole : IsReadWhole text_limit path before now text
      pub declares : ReadsSchema text schema

    -- the file at the path declares no schema
    pub record IsSchemaRefused (refusal : Refusal) : Type 0 where
      pub text : List ℕ
      pub whole : IsReadWhole text_limit path before now text
      pub refused : RefusesSchema text refusal

    -- the entries are right for the queries of the file at the path, by what is asked
    pub record AreQueriesRead (asked : Asked) (schema : List Table) (queries : List QueryRun) : Type 0 where
      pub text : List ℕ
      pub whole : IsReadWhole text_limit path before now text
      pub right : AreRightQueries asked schema text queries

    -- the file at the path is one of these certificates
    pub record AreCertsRead (certs : List Cert) : Type 0 where
      pub text : List ℕ
      pub whole : IsReadWhole certs_limit path before now text
      pub reads : ReadsAs text certs

    -- the file at the path is no file of certificates
    pub record AreCertsRefused (fault : CertFault) : Type 0 where
      pub text : List ℕ
      pub whole : IsReadWhole certs_limit path before now text
      pub refused : Refuses text fault

    -- why the schema at this path was not read
    abbrev pub StopsAtSchema : Stop → Type 0
    StopsAtSchema (stop.OpenFault which.Schema) = IsOpenFault path before now
    StopsAtSchema (stop.ReadFault which.Schema) = IsReadFault text_limit path before now
    StopsAtSchema (stop.TooLong which.Schema) = IsTooLong text_limit path before now
    StopsAtSchema (stop.SchemaRefused refusal) = IsSchemaRefused refusal
    StopsAtSchema stop.NoMemory = IsOpened text_limit path before now
    StopsAtSchema other = ⊥

    -- why the queries at this path were not read
    abbrev pub StopsAtQueries : Stop → Type 0
    StopsAtQueries (stop.OpenFault which.Queries) = IsOpenFault path before now
    StopsAtQueries (stop.ReadFault which.Queries) = IsReadFault text_limit path before now
    StopsAtQueries (stop.TooLong which.Queries) = IsTooLong text_limit path before now
    StopsAtQueries stop.NoMemory = IsOpened text_limit path before now
    StopsAtQueries other = ⊥

    -- why the certificates at this path were not read, or not checked
    abbrev pub StopsAtCerts : Stop → Type 0
    StopsAtCerts (stop.OpenFault which.Certs) = IsOpenFault path before now
    StopsAtCerts (stop.ReadFault which.Certs) = IsReadFault certs_limit path before now
    StopsAtCerts (stop.TooLong which.Certs) = IsTooLong certs_limit path before now
    StopsAtCerts (stop.CertsRefused cert_fault.NoMemory) = ⊥
    StopsAtCerts (stop.CertsRefused fault) = AreCertsRefused fault
    StopsAtCerts stop.NoMemory = IsOpened certs_limit path before now
    StopsAtCerts other = ⊥

  module _ (wanted : Wanted) (before now : Told) (run : Run) where
    -- the schema was read, and then, from a moment between, the queries, of which the run tells right
    pub record IsJudged : Type 0 where
      pub between : Told
      pub schema : IsSchemaRead wanted.paths.schema before between run.schema
      pub queries : AreQueriesRead wanted.paths.queries between now wanted.asked run.schema run.queries
      pub no_checks : run.checks ≡ []

    -- the schema was read, then the queries, then the certificates at this path, of whose check the run tells
    pub record IsChecked (path : List ℕ) : Type 0 where
      pub first : Told
      pub second : Told
      pub schema : IsSchemaRead wanted.paths.schema before first run.schema
      pub queries : AreQueriesRead wanted.paths.queries first second wanted.asked run.schema run.queries
      pub certs : List Cert
      pub certs_are : AreCertsRead path second now certs
      pub checks : run.checks ≡ checks_of run.schema run.queries certs

    -- all files were read, and the run is right for them
    abbrev pub FinishedBy : Asked → Type 0
    FinishedBy (judges budget form) = IsJudged
    FinishedBy (checks path) = IsChecked path

    -- the schema was read, and then, from a moment between, the queries were not
    pub record IsStoppedAtQueries (s : Stop) : Type 0 where
      pub between : Told
      pub schema : IsSchemaRead wanted.paths.schema before between run.schema
      pub nothing : HoldsNothing run
      pub stopped : StopsAtQueries wanted.paths.queries between now s

    -- the schema was read, then these queries, and then the certificates at this path were not, or not checked
    pub record IsStoppedBehind (path : List ℕ) (s : Stop) : Type 0 where
      pub first : Told
      pub second : Told
      pub schema : IsSchemaRead wanted.paths.schema before first run.schema
      pub queries : List QueryRun
      pub queries_are : AreQueriesRead wanted.paths.queries first second wanted.asked run.schema queries
      pub nothing : HoldsNothing run
      pub stopped : StopsAtCerts path second now s

    abbrev pub StoppedBehindBy : Asked → Stop → Type 0
    StoppedBehindBy (judges budget form) s = ⊥
    StoppedBehindBy (checks path) s = IsStoppedBehind path s

    -- A stop comes only by its cause: at the schema, and then the run holds nothing; or at the queries or the certificates, and then
    -- the run holds the schema that its file declares. Memory may also run out once the run is right for all files. Without
    -- a stop it is.
    abbrev pub HasCauseFor : Option Stop → Type 0
    HasCauseFor None = FinishedBy wanted.asked
    HasCauseFor (Some s) =
        (StopsAtSchema wanted.paths.schema before now s × IsUnbegun run)
        ⊎ (IsStoppedAtQueries s ⊎ (StoppedBehindBy wanted.asked s ⊎ ((s ≡ stop.NoMemory) × FinishedBy wanted.asked)))

  -- words that are no command are refused, and nothing is read
  abbrev pub HasCause : Option Wanted → Told → Told → Run → Option Stop → Type 0
  HasCause (Some wanted) before now run s = HasCauseFor wanted before now run s
  HasCause None before now run (Some stop.WordsRefused) = (now ≡ before) × IsUnbegun run
  HasCause None before now run (Some stop.NoMemory) = (now ≡ before) × IsUnbegun run
  HasCause None before now run other = ⊥

-- memory ran out
abbrev pub is_no_memory : Option Stop → Bool
is_no_memory (Some stop.NoMemory) = true
is_no_memory other = false
