-- What is said of each kind of answer.
use Rattle.std.specs.Prelude.{ℕ, ℤ, List, ⊤}
use Rattle.diff_bounds.specs.declared.system.Solved.{Solved}
use Rattle.diff_bounds.specs.declared.system.Solved.TheVariants.{Values, Cycle}

-- the fact holds of the values, where the answer is values
abbrev pub IfValues : Solved → (List ℤ → Type 0) → Type 0
IfValues (Values values) P = P values
IfValues (Cycle ring) P = ⊤

-- the fact holds of the ring, where the answer is a ring
abbrev pub IfRing : Solved → (List ℕ → Type 0) → Type 0
IfRing (Values values) P = ⊤
IfRing (Cycle ring) P = P ring
