-- The values that a list of references points to.
use Rattle.std.specs.Prelude.{List, map}
use Rattle.std.specs.Borrow.{Bor}

abbrev pub behind : {A : Type 0} → List (Bor A) → List A
behind references = map (λ r. r.now) references
