-- A text that was written whole ends a run right.
use Rattle.std.proofs.Common.{◌≡◌, inl, inr, ℕ, false, List}
use Rattle.std.specs.Prelude.{Option, Some, None}
use Rattle.command_words.specs.Wanted.{Asked, judges, checks, Wanted}
use Rattle.lint_core.specs.declared.run.Run.{Run}
use Rattle.lint_run.specs.Stops.{Told, StoppedBehindBy, HasCause, is_no_memory}
use Rattle.lint_run.specs.Written.{Sunk, IsWhole, EndsRight}
use Rattle.lint_run.specs.declared.outcome.Stop.{Stop}
use Rattle.lint_run.specs.declared.outcome.Stop.TheVariants as stop

module _ (files : Option (List ℕ → Option (List ℕ))) (before now : Told) (run : Run) where
  -- no run is stopped by a sink before it writes
  no_write_fault : (wanted : Option Wanted) → HasCause files wanted before now run (Some stop.WriteFault) → ⊥
  no_write_fault None cause = cause
  no_write_fault (Some wanted) (inl early) = early.0
  no_write_fault (Some wanted) (inr (inl between)) = between.stopped
  no_write_fault (Some wanted) (inr (inr (inl behind))) = by wanted.asked behind
    where
      by : (asked : Asked) → StoppedBehindBy files wanted before now run asked stop.WriteFault → ⊥
      by (judges budget form) behind = behind
      by (checks path) behind = behind.stopped
  no_write_fault (Some wanted) (inr (inr (inr late))) = let same : stop.WriteFault ≡ stop.NoMemory = late.0 in cc

  pub whole_ends : (wanted : Option Wanted) (old new : Sunk) (s : Option Stop) → is_no_memory s ≡ false → IsWhole files wanted before now old new run s →
      EndsRight files wanted before now old new run s
  whole_ends wanted old new None other whole = whole
  whole_ends wanted old new (Some stop.WordsRefused) other whole = whole
  whole_ends wanted old new (Some (stop.OpenFault file)) other whole = whole
  whole_ends wanted old new (Some (stop.ReadFault file)) other whole = whole
  whole_ends wanted old new (Some (stop.TooLong file)) other whole = whole
  whole_ends wanted old new (Some (stop.SchemaRefused refusal)) other whole = whole
  whole_ends wanted old new (Some (stop.CertsRefused fault)) other whole = whole
  whole_ends wanted old new (Some stop.WriteFault) other whole = absurd (no_write_fault wanted whole.cause)
  whole_ends wanted old new (Some stop.NoMemory) other whole = cc
