-- What a read takes from a reader of std's, and from the open file of the system's shelf.
use Rattle.std.specs.Prelude.{ℕ, ◌≡◌, ◌<◌, List, length, take, Option, Some, None}
use Rattle.std.specs.Io.KnownBytes.{Consumes, IsAtEnd}

-- where it is known what the reader has left, its next n bytes were put at the front of the slice: none only at its
-- end, or where the slice has no place
pub record Took (left left_after : Option (List ℕ)) (n : ℕ) (slice : List ℕ) : Type 0 where
  pub bytes : Consumes left left_after (take n slice)
  pub at_end : n ≡ 0 → 0 < length slice → IsAtEnd left_after

-- the file that was open still is, and these bytes were taken from it; where none was open there are none
abbrev pub TookFromOpen : {F : Type 0} → (F → Option (List ℕ)) → Option F → Option F → ℕ → List ℕ → Type 0
TookFromOpen left None after n slice = n ≡ 0
TookFromOpen left (Some file) None n slice = ⊥
TookFromOpen left (Some file) (Some file_after) n slice = Took (left file) (left file_after) n slice

-- the shelf does not tell what is left
abbrev pub IsUntold : Option (List ℕ) → Type 0
IsUntold left = None ≡ left
