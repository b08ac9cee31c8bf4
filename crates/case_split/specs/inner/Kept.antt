-- The assignment that is kept: of it is known alone that it fits the frame.
use Rattle.std.specs.Prelude.{Option, Some, None}
use Rattle.ground_theory.specs.declared.literal.Assignment.{Assignment}
use Rattle.ground_theory.specs.declared.literal.Frame.{Frame}
use Rattle.ground_theory.specs.Assignments.{IsAssignment}

abbrev pub IsKept : Frame → Option Assignment → Type 0
IsKept frame (Some assignment) = IsAssignment frame assignment
IsKept frame None = Unit {0}
