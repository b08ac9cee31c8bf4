-- The first file that has a path.
use Rattle.std.proofs.Common.{◌≡◌, ℕ, ◌<◌, ◌≤◌, true, false, List, length, refl, arith, inl, inr, encode_utf8_all, nat_lt}
use Rattle.std.proofs.lemmas.List.Folds.{find_at}
use Rattle.std.proofs.lemmas.Option.{slice_get_cases}
use Rattle.std.specs.Prelude.{Option, Some, None, MatchOption, position}
use Rattle.std.specs.List.{position_or_len}
use Rattle.std.specs.Str.{bytes_eq}
use Rattle.lint_base.specs.declared.memory.MemFile.{MemFile}
use Rattle.lint_base.specs.Memory.{held_at, bytes_at}

-- the first file that has the path holds what the path holds
pub first_holds : (files : List MemFile) (path : List ℕ) (r : Option ℕ)
    → r ≡ position (λ file. bytes_eq (encode_utf8_all file.path) path) files
    → MatchOption r (held_at files path ≡ None) (λ i. (i < length files) × (held_at files path ≡ Some (bytes_at files i)))
first_holds files path r e =
    let i : ℕ = position_or_len (λ file. bytes_eq (encode_utf8_all file.path) path) files in
    elim (slice_get_cases files i).1 [
      | inl p ↦ let test : nat_lt i (length files) ≡ true = (let below : i < length files = p.1 in grind arith) in
          rw (e, test) (p.1, rw (find_at, p.2) refl)
      | inr p ↦ let test : nat_lt i (length files) ≡ false = (let past : length files ≤ i = p.0 in grind arith) in
          rw (e, test) (rw (find_at, p.1) refl)
    ]
