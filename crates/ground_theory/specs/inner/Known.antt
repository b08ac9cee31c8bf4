-- What is known of literals on the way to an answer: that they can be judged, what they say by kind, and what is found before
-- their texts are asked for.
use Rattle.std.specs.Prelude.{◌≡◌, ◌≤◌, ◌+◌, ◌++◌, ℤ, true, List, length}
use Rattle.std.specs.List.{list_all}
use Rattle.lint_core.specs.declared.certificate.TextEdge.{TextEdge}
use Rattle.ground_theory.specs.declared.joining.Join.{Join}
use Rattle.ground_theory.specs.declared.joining.Joined.{Joined}
use Rattle.ground_theory.specs.declared.literal.Frame.{Frame}
use Rattle.ground_theory.specs.declared.literal.Literal.{Literal}
use Rattle.ground_theory.specs.declared.numbering.Numbering.{Numbering}
use Rattle.ground_theory.specs.declared.sifting.Sifted.{Sifted}
use Rattle.ground_theory.specs.Judgeable.{is_frame, can_be_judged}
use Rattle.ground_theory.specs.inner.Clashes.{AreApart, AreFirm}
use Rattle.ground_theory.specs.inner.Counted.{AreNumbers}
use Rattle.ground_theory.specs.inner.Deciding.{all_stated}
use Rattle.ground_theory.specs.inner.Joining.{AreJoined}
use Rattle.ground_theory.specs.inner.Numbering.{IsNumbered}
use Rattle.ground_theory.specs.inner.Sifting.{gathered, same_of, other_of, null_of, firm_of, bound_of}
use Rattle.ground_theory.specs.inner.Sums.{told}
use Rattle.ground_theory.specs.inner.TextSystem.{said_origin, join_origins}

-- they can be judged over the frame, and are not too many
pub record AreJudged (frame : Frame) (literals : List Literal) : Type 0 where
  pub frame_is : is_frame frame ≡ true
  pub fitting : list_all (can_be_judged frame) literals ≡ true
  pub few : length literals ≤ 400000

-- what they say by kind
pub record AreSifted (literals : List Literal) (s : Sifted) : Type 0 where
  pub sames : s.sames.items ≡ gathered same_of 0 literals
  pub others : s.others.items ≡ gathered other_of 0 literals
  pub nulls : s.nulls.items ≡ gathered null_of 0 literals
  pub firms : s.firms.items ≡ gathered firm_of 0 literals
  pub bounds : s.bounds.items ≡ gathered bound_of 0 literals

-- the classes are those of the Sames, no Other and no IsNull contradicts them, the cells that are not NULL have variables, and
-- the numbers meet all that is asked of them
pub record IsCounted (frame : Frame) (literals : List Literal) (joined : Joined) (numbering : Numbering) (values : List ℤ) : Type 0 where
  pub joined_are : AreJoined (length frame.tables) (gathered same_of 0 literals) joined.labels.items joined.joins.items
  pub apart : AreApart joined.labels.items (gathered other_of 0 literals) (length (gathered other_of 0 literals))
  pub firm : AreFirm joined.labels.items (gathered null_of 0 literals) (gathered firm_of 0 literals) (length (gathered firm_of 0 literals))
  pub numbered : IsNumbered joined.labels.items (gathered firm_of 0 literals) (length (gathered firm_of 0 literals)) numbering.places.items numbering.cells.items
  pub numbers : AreNumbers (length numbering.cells.items + 1) (all_stated frame joined numbering (gathered bound_of 0 literals)) values

-- the edges of a certificate that say all facts about texts
abbrev pub all_origins : Frame → List Literal → List Join → Numbering → List TextEdge
all_origins frame literals joins numbering = gathered said_origin 0 literals ++ told (join_origins frame numbering.places.items) 0 joins
