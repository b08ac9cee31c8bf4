-- What was read so far, and what comes of it with the words that are left.
use Rattle.std.specs.Prelude.{ℕ, ◌≡◌, List, [], ◌∷◌, Option, Some, None}
use Rattle.command_words.specs.declared.parts.Expected.{Expected}
use Rattle.command_words.specs.declared.reading.Progress as progress_type
use Rattle.command_words.specs.Wanted.{Wanted}
use Rattle.command_words.specs.WantedOf.{parts_from, wanted_of}
use Rattle.command_words.specs.inner.Held.{Held, held, finished}

pub record Progress : Type 0 where
  pub held : Held
  pub expected : Expected

abbrev pub progress : progress_type.Progress → Progress
progress so_far = record { held = held so_far.given; expected = so_far.expected }

-- what comes of it with these words more
abbrev pub comes_to : Progress → List (List ℕ) → Option Wanted
comes_to so_far words = finished so_far.held (parts_from so_far.expected words)

abbrev pub ended : Progress → Option Wanted
ended so_far = comes_to so_far []

-- all words are left
abbrev pub IsStart : progress_type.Progress → Type 0
IsStart start = (words : List (List ℕ)) → comes_to (progress start) words ≡ wanted_of words

abbrev pub Advances : Progress → List ℕ → Option Progress → Type 0
Advances before word None = (words : List (List ℕ)) → comes_to before (word ∷ words) ≡ None
Advances before word (Some after) = (words : List (List ℕ)) → comes_to before (word ∷ words) ≡ comes_to after words

abbrev pub EndsWith : Progress → List (List ℕ) → Option Progress → Type 0
EndsWith before words None = comes_to before words ≡ None
EndsWith before words (Some after) = comes_to before words ≡ ended after
