-- The rows of the lead of a counter sentence: one place for each of its tables, in order.
use Rattle.std.specs.Prelude.{ℕ, List, map}
use Rattle.std.specs.List.{zip}
use Rattle.lint_core.specs.Database.{Place}

abbrev pub leading_rows : List ℕ → List ℕ → List Place
leading_rows lead places = map (λ pair. record { table = pair.0; row = pair.1 }) (zip lead places)
