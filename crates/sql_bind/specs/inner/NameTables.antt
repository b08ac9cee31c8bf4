-- What a table of names answers.
use Rattle.std.specs.Prelude.{ℕ, List, [], ◌∷◌, ◌++◌, Option, Some, None, position}
use Rattle.std.specs.Str.{bytes_eq}

-- the number of a name
abbrev pub name_place : List (List ℕ) → List ℕ → Option ℕ
name_place names name = position (λ other. bytes_eq other name) names

-- the names after a name was added
abbrev pub with_name : Option ℕ → List (List ℕ) → List ℕ → List (List ℕ)
with_name None names name = names ++ name ∷ []
with_name (Some place) names name = names
