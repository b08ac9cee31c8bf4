-- What was asked of a shelf and what it gave, the latest first.
use Rattle.std.specs.Prelude.{ℕ, ◌+◌, ◌==◌, if◌then◌else◌, List, [], ◌∷◌, Option, Some, None, slice_index}

-- a path was opened, a path was not opened, or a read gave so many bytes
pub data Moment : Type 0 where
  Opened : List ℕ → Moment
  Refused : List ℕ → Moment
  Gave : ℕ → Moment

-- the path of the last open that succeeded
abbrev pub opened_path : List Moment → Option (List ℕ)
opened_path [] = None
opened_path (Opened path ∷ moments) = Some path
opened_path (Refused path ∷ moments) = opened_path moments
opened_path (Gave n ∷ moments) = opened_path moments

-- the path of the last open that failed
abbrev pub failed_path : List Moment → Option (List ℕ)
failed_path [] = None
failed_path (Opened path ∷ moments) = failed_path moments
failed_path (Refused path ∷ moments) = Some path
failed_path (Gave n ∷ moments) = failed_path moments

-- how many bytes were given since the last open that succeeded
abbrev pub given : List Moment → ℕ
given [] = 0
given (Opened path ∷ moments) = 0
given (Refused path ∷ moments) = given moments
given (Gave n ∷ moments) = given moments + n

-- the moment that these numbers and bytes note: 0 and the path, 1 and the path, or 2 and a count
abbrev pub moment_of : List ℕ → List ℕ → Moment
moment_of numbers bytes =
    if slice_index numbers 0 == 0 then Opened bytes
    else (if slice_index numbers 0 == 1 then Refused bytes else Gave (slice_index numbers 1))
