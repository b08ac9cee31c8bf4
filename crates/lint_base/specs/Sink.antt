-- What a sink holds.
use Rattle.std.specs.Prelude.{◌≡◌, ℕ, List, ◌++◌, Option, option_map}

-- where the contents are told, they are the old ones and then the piece
abbrev pub Appended : Option (List ℕ) → Option (List ℕ) → List ℕ → Type 0
Appended old new piece = new ≡ option_map (λ contents. contents ++ piece) old
