-- Numbers by their old ones.
use Rattle.std.specs.Prelude.{ℕ, List, slice_get, unwrap_or}
use Rattle.proof_cert.specs.declared.moving.Renaming.{Renaming}

-- what stands under the number, and 0 behind the end
abbrev pub at_number : List ℕ → ℕ → ℕ
at_number numbers number = unwrap_or (slice_get numbers number) 0

abbrev pub fact_in : Renaming → ℕ → ℕ
fact_in renaming = at_number renaming.facts

abbrev pub row_in : Renaming → ℕ → ℕ
row_in renaming = at_number renaming.rows
