-- What a shelf of files gives.
use Rattle.std.specs.Prelude.{◌≡◌, ℕ, ◌<◌, ◌≤◌, List, [], length, take, drop, Option, IfSome, IsSome, option_and_then, option_map}

-- what a path holds, where the files are told and it is there
abbrev pub file_at : Option (List ℕ → Option (List ℕ)) → List ℕ → Option (List ℕ)
file_at files path = option_and_then (λ held. held path) files

-- where the files are told, the path is there
abbrev pub IsThere : Option (List ℕ → Option (List ℕ)) → List ℕ → Type 0
IsThere files path = IfSome files (λ held. IsSome (held path))

-- A read puts n bytes at the front of a slice: where what is left of the open file is told, the next n of it.
-- It puts none only at the end, or where the slice has no place.
pub record Gives (left : Option (List ℕ)) (n : ℕ) (slice : List ℕ) (left_after : Option (List ℕ)) : Type 0 where
  pub within : IfSome left (λ rest. n ≤ length rest)
  pub front : IfSome left (λ rest. take n slice ≡ take n rest)
  pub after : left_after ≡ option_map (drop n) left
  pub at_end : IfSome left (λ rest. n ≡ 0 → 0 < length slice → rest ≡ [])
