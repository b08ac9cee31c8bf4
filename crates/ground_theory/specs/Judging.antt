-- What is answered of literals.
use Rattle.std.specs.Prelude.{◌≡◌, true, List, ⊤}
use Rattle.ground_theory.specs.declared.literal.Assignment.{Assignment}
use Rattle.ground_theory.specs.declared.literal.Conflict.{Conflict}
use Rattle.ground_theory.specs.declared.literal.Frame.{Frame}
use Rattle.ground_theory.specs.declared.literal.Judged.{Judged}
use Rattle.ground_theory.specs.declared.literal.Judged.TheVariants.{Holds, Clash}
use Rattle.ground_theory.specs.declared.literal.Literal.{Literal}
use Rattle.ground_theory.specs.Assignments.{IsAssignment, IsPlain, satisfies_all}

-- the fact holds of the assignment, where the answer is one
abbrev pub IfHolds : Judged → (Assignment → Type 0) → Type 0
IfHolds (Holds a) P = P a
IfHolds (Clash conflict) P = ⊤

abbrev pub IfClash : Judged → (Conflict → Type 0) → Type 0
IfClash (Holds a) P = ⊤
IfClash (Clash conflict) P = P conflict

-- an assignment of the frame that satisfies the literals and is plain for them
pub record Settles (frame : Frame) (literals : List Literal) (a : Assignment) : Type 0 where
  pub is : IsAssignment frame a
  pub satisfied : satisfies_all a literals ≡ true
  pub plain : IsPlain literals a
