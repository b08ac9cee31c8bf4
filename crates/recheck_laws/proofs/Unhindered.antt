-- Each stop but want of memory has a cause that a run which nothing hinders does not meet.
use Rattle.std.proofs.Common.{◌≡◌, ◌∙◌, sym, refl, subst, ℕ, ◌<◌, inl, inr, List, length, arith}
use Rattle.std.proofs.lemmas.Option.{same_Some}
use Rattle.std.specs.Prelude.{◌≢◌, Option, Some, None, IfSome}
use Rattle.cert_format.specs.CertFile.{ReadsAs, Refuses}
use Rattle.cert_format.specs.declared.fault.CertFault.{CertFault}
use Rattle.cert_format.specs.declared.fault.CertFault.TheVariants as cert_fault
use Rattle.command_words.specs.Wanted.{Asked, judges, checks, Wanted}
use Rattle.lint_base.specs.Counts.{Rose}
use Rattle.lint_base.specs.declared.place.Refusal.{Refusal}
use Rattle.lint_core.specs.declared.certificate.Cert.{Cert}
use Rattle.lint_core.specs.declared.run.Run.{Run}
use Rattle.lint_core.specs.declared.schema.Table.{Table}
use Rattle.lint_run.specs.Stops.{Told, IsReadWhole, IsTooLong, NoFault, StopsAtSchema, StopsAtQueries, StopsAtCerts, HasCauseFor, StoppedBehindBy, text_limit, certs_limit}
use Rattle.lint_run.specs.Written.{Sunk, EndsRight}
use Rattle.lint_run.specs.declared.outcome.Which.TheVariants as which
use Rattle.lint_run.specs.declared.outcome.Stop.{Stop}
use Rattle.lint_run.specs.declared.outcome.Stop.TheVariants as stop
use Rattle.sql_reading.specs.TextReading.{ReadsSchema, RefusesSchema}
use Rattle.recheck_laws.specs.Unhindered.{IsHeld, HasSchema, HasQueries, HasCerts, HasAsked, AreInOrder, NoneRose, IsNoStop}

-- ---- the laws that are cited

abbrev pub SchemaIsNotRefused : Type 0
SchemaIsNotRefused = (text : List ℕ) (schema : List Table) (refusal : Refusal) → ReadsSchema text schema → RefusesSchema text refusal → ⊥

abbrev pub CertsAreNotRefused : Type 0
CertsAreNotRefused = (bytes : List ℕ) (fault : CertFault) (certs : List Cert) → fault ≢ cert_fault.NoMemory → Refuses bytes fault → ReadsAs bytes certs → ⊥

module _ (apart : SchemaIsNotRefused) (unrefused : CertsAreNotRefused) (held : List ℕ → Option (List ℕ)) where
  short : (limit : ℕ) (path text : List ℕ) (before now : Told) → IsHeld held limit path text → IsTooLong (Some held) limit path before now → ⊥
  short limit path text before now file long =
      let over : limit < length text = subst (λ (o : Option (List ℕ)). IfSome o (λ file. limit < length file)) file.there long.holds in
      let within = file.within in
      omega arith

  same_text : (limit : ℕ) (path text other : List ℕ) (before now : Told) → IsHeld held limit path text → IsReadWhole (Some held) limit path before now other → text ≡ other
  same_text limit path text other before now file whole = same_Some text other (sym file.there ∙ whole.holds)

  -- ---- at each file

  module _ (before now : Told) (opens : ¬ (Rose before.open_faults now.open_faults)) (reads : ¬ (Rose before.read_faults now.read_faults)) (path : List ℕ) where
    at_schema : HasSchema held path → (s : Stop) → StopsAtSchema (Some held) path before now s → s ≡ stop.NoMemory
    at_schema file (stop.OpenFault which.Schema) is = absurd (opens is.rose)
    at_schema file (stop.OpenFault which.Queries) is = absurd is
    at_schema file (stop.OpenFault which.Certs) is = absurd is
    at_schema file (stop.ReadFault which.Schema) is = absurd (reads is.rose)
    at_schema file (stop.ReadFault which.Queries) is = absurd is
    at_schema file (stop.ReadFault which.Certs) is = absurd is
    at_schema file (stop.TooLong which.Schema) is = absurd (short text_limit path file.text before now file.is_held is)
    at_schema file (stop.TooLong which.Queries) is = absurd is
    at_schema file (stop.TooLong which.Certs) is = absurd is
    at_schema file (stop.SchemaRefused refusal) is =
        let same : file.text ≡ is.text = same_text text_limit path file.text is.text before now file.is_held is.whole in
        absurd (apart is.text file.schema refusal (subst (λ text. ReadsSchema text file.schema) same file.declares) is.refused)
    at_schema file (stop.CertsRefused fault) is = absurd is
    at_schema file stop.WordsRefused is = absurd is
    at_schema file stop.WriteFault is = absurd is
    at_schema file stop.NoMemory is = refl

    at_queries : HasQueries held path → (s : Stop) → StopsAtQueries (Some held) path before now s → s ≡ stop.NoMemory
    at_queries file (stop.OpenFault which.Schema) is = absurd is
    at_queries file (stop.OpenFault which.Queries) is = absurd (opens is.rose)
    at_queries file (stop.OpenFault which.Certs) is = absurd is
    at_queries file (stop.ReadFault which.Schema) is = absurd is
    at_queries file (stop.ReadFault which.Queries) is = absurd (reads is.rose)
    at_queries file (stop.ReadFault which.Certs) is = absurd is
    at_queries file (stop.TooLong which.Schema) is = absurd is
    at_queries file (stop.TooLong which.Queries) is = absurd (short text_limit path file.text before now file.is_held is)
    at_queries file (stop.TooLong which.Certs) is = absurd is
    at_queries file (stop.SchemaRefused refusal) is = absurd is
    at_queries file (stop.CertsRefused fault) is = absurd is
    at_queries file stop.WordsRefused is = absurd is
    at_queries file stop.WriteFault is = absurd is
    at_queries file stop.NoMemory is = refl

    certs_read : (file : HasCerts held path) (text : List ℕ) → IsReadWhole (Some held) certs_limit path before now text → ReadsAs text file.certs
    certs_read file text whole =
        subst (λ text. ReadsAs text file.certs) (same_text certs_limit path file.text text before now file.is_held whole) file.reads

    at_certs : HasCerts held path → (s : Stop) → StopsAtCerts (Some held) path before now s → s ≡ stop.NoMemory
    at_certs file (stop.OpenFault which.Schema) is = absurd is
    at_certs file (stop.OpenFault which.Queries) is = absurd is
    at_certs file (stop.OpenFault which.Certs) is = absurd (opens is.rose)
    at_certs file (stop.ReadFault which.Schema) is = absurd is
    at_certs file (stop.ReadFault which.Queries) is = absurd is
    at_certs file (stop.ReadFault which.Certs) is = absurd (reads is.rose)
    at_certs file (stop.TooLong which.Schema) is = absurd is
    at_certs file (stop.TooLong which.Queries) is = absurd is
    at_certs file (stop.TooLong which.Certs) is = absurd (short certs_limit path file.text before now file.is_held is)
    at_certs file (stop.SchemaRefused refusal) is = absurd is
    at_certs file (stop.CertsRefused cert_fault.NotJson) is = absurd (unrefused is.text cert_fault.NotJson file.certs (λ same. cc) is.refused (certs_read file is.text is.whole))
    at_certs file (stop.CertsRefused (cert_fault.BadShape at)) is =
        absurd (unrefused is.text (cert_fault.BadShape at) file.certs (λ same. cc) is.refused (certs_read file is.text is.whole))
    at_certs file (stop.CertsRefused cert_fault.NoMemory) is = absurd is
    at_certs file stop.WordsRefused is = absurd is
    at_certs file stop.WriteFault is = absurd is
    at_certs file stop.NoMemory is = refl

  -- ---- of the whole run

  still_opens : (before between now : Told) → NoFault before between → ¬ (Rose before.open_faults now.open_faults) → ¬ (Rose between.open_faults now.open_faults)
  still_opens before between now none calm = λ rose. calm (subst (λ (n : ℕ). Rose n now.open_faults) none.opens rose)

  still_reads : (before between now : Told) → NoFault before between → ¬ (Rose before.read_faults now.read_faults) → ¬ (Rose between.read_faults now.read_faults)
  still_reads before between now none calm = λ rose. calm (subst (λ (n : ℕ). Rose n now.read_faults) none.reads rose)

  module _ (wanted : Wanted) (before now : Told) (run : Run) (files : AreInOrder held wanted) (opens : ¬ (Rose before.open_faults now.open_faults)) (reads : ¬ (Rose before.read_faults now.read_faults)) where
    behind : (asked : Asked) → HasAsked held asked → (s : Stop) → StoppedBehindBy (Some held) wanted before now run asked s → s ≡ stop.NoMemory
    behind (judges budget form) file s is = absurd is
    behind (checks path) file s is =
        let one : NoFault before is.first = is.schema.whole.opened.no_fault in
        let two : NoFault is.first is.second = is.queries_are.whole.opened.no_fault in
        at_certs is.second now
        (still_opens is.first is.second now two (still_opens before is.first now one opens))
        (still_reads is.first is.second now two (still_reads before is.first now one reads)) path file s is.stopped

    only_memory : (s : Stop) → HasCauseFor (Some held) wanted before now run (Some s) → s ≡ stop.NoMemory
    only_memory s is =
        elim is [
          | inl first ↦ at_schema before now opens reads wanted.paths.schema files.schema s first.0
          | inr later ↦
              elim later [
                | inl second ↦
                    let one : NoFault before second.between = second.schema.whole.opened.no_fault in
                    at_queries second.between now (still_opens before second.between now one opens) (still_reads before second.between now one reads) wanted.paths.queries files.queries s second.stopped
                | inr rest ↦ elim rest [ inl third ↦ behind wanted.asked files.asked s third | inr memory ↦ memory.0 ]
              ]
        ]

  pub no_stop : (wanted : Wanted) (before now : Told) (old new : Sunk) (run : Run) (s : Option Stop) → EndsRight (Some held) (Some wanted) before now old new run s →
      AreInOrder held wanted → NoneRose before now old new → IsNoStop s
  no_stop wanted before now old new run None is files calm = tt
  no_stop wanted before now old new run (Some stop.WordsRefused) is files calm = only_memory wanted before now run files calm.opens calm.reads stop.WordsRefused is.cause
  no_stop wanted before now old new run (Some (stop.OpenFault file)) is files calm = only_memory wanted before now run files calm.opens calm.reads (stop.OpenFault file) is.cause
  no_stop wanted before now old new run (Some (stop.ReadFault file)) is files calm = only_memory wanted before now run files calm.opens calm.reads (stop.ReadFault file) is.cause
  no_stop wanted before now old new run (Some (stop.TooLong file)) is files calm = only_memory wanted before now run files calm.opens calm.reads (stop.TooLong file) is.cause
  no_stop wanted before now old new run (Some (stop.SchemaRefused refusal)) is files calm =
      only_memory wanted before now run files calm.opens calm.reads (stop.SchemaRefused refusal) is.cause
  no_stop wanted before now old new run (Some (stop.CertsRefused fault)) is files calm = only_memory wanted before now run files calm.opens calm.reads (stop.CertsRefused fault) is.cause
  no_stop wanted before now old new run (Some stop.WriteFault) is files calm = absurd (calm.writes is.rose)
  no_stop wanted before now old new run (Some stop.NoMemory) is files calm = refl
