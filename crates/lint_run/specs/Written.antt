-- What a run has written when it ends, and that its stop has a cause.
use Rattle.std.specs.Prelude.{ℕ, false, ◌≤◌, ◌≡◌, List, Option, Some, None, length, take}
use Rattle.command_words.specs.Wanted.{Wanted}
use Rattle.lint_base.specs.Counts.{Rose}
use Rattle.lint_base.specs.Sink.{Appended}
use Rattle.lint_core.specs.declared.run.Run.{Run}
use Rattle.lint_run.specs.ReadBack.{IsReadBack}
use Rattle.lint_run.specs.Stops.{Told, HasCause, is_no_memory}
use Rattle.lint_run.specs.Text.{run_text}
use Rattle.lint_run.specs.declared.outcome.Stop.{Stop}
use Rattle.lint_run.specs.declared.outcome.Stop.TheVariants as stop

-- what a sink tells at a moment: its count of faults and, where they are told, its contents
pub record Sunk : Type 0 where
  pub faults : ℕ
  pub contents : Option (List ℕ)

-- the same of a sink, by the members of its trait
abbrev pub sunk : {S : Type 0} → (S → ℕ) → (S → Option (List ℕ)) → S → Sunk
sunk faults contents sink = record { faults = faults sink; contents = contents sink }

module _ (files : Option (List ℕ → Option (List ℕ))) (wanted : Option Wanted) (before now : Told) (old new : Sunk) where
  -- the stop, if any, has its cause, and its text was written whole; a file of certificates is read back
  pub record IsWhole (run : Run) (s : Option Stop) : Type 0 where
    pub cause : HasCause files wanted before now run s
    pub reads : IsReadBack wanted s run
    pub written : Appended old.contents new.contents (run_text wanted s run)
    pub no_fault : new.faults ≡ old.faults

  -- the sink failed: a part was written from the front of the text of the run and of what stop it would have had
  pub record IsCutShort (run : Run) : Type 0 where
    pub rose : Rose old.faults new.faults
    pub before_it : Option Stop
    pub not_memory : is_no_memory before_it ≡ false
    pub cause : HasCause files wanted before now run before_it
    pub count : ℕ
    pub part : count ≤ length (run_text wanted before_it run)
    pub written : Appended old.contents new.contents (take count (run_text wanted before_it run))

  -- memory ran out, in reading or in making the text of the run and of what stop it would have had: nothing
  -- was written, and what the run holds is right
  pub record IsOutOfMemory (run : Run) : Type 0 where
    pub before_it : Option Stop
    pub cause : HasCause files wanted before now run before_it
    pub nothing : new.contents ≡ old.contents
    pub no_fault : new.faults ≡ old.faults

  abbrev pub EndsRight : Run → Option Stop → Type 0
  EndsRight run None = IsWhole run None
  EndsRight run (Some stop.WordsRefused) = IsWhole run (Some stop.WordsRefused)
  EndsRight run (Some (stop.OpenFault file)) = IsWhole run (Some (stop.OpenFault file))
  EndsRight run (Some (stop.ReadFault file)) = IsWhole run (Some (stop.ReadFault file))
  EndsRight run (Some (stop.TooLong file)) = IsWhole run (Some (stop.TooLong file))
  EndsRight run (Some (stop.SchemaRefused refusal)) = IsWhole run (Some (stop.SchemaRefused refusal))
  EndsRight run (Some (stop.CertsRefused fault)) = IsWhole run (Some (stop.CertsRefused fault))
  EndsRight run (Some stop.WriteFault) = IsCutShort run
  EndsRight run (Some stop.NoMemory) = IsOutOfMemory run
