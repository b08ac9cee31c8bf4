-- What is found of literals that contradict nothing: classes of row terms, variables of cells, and numbers and texts of these.
use Rattle.std.specs.Prelude.{◌≡◌, ◌<◌, ◌+◌, ◌++◌, List, length}
use Rattle.std.specs.List.{All}
use Rattle.text_classes.specs.declared.facts.TextFact.{TextFact}
use Rattle.text_classes.specs.Answer.{text_in}
use Rattle.text_classes.specs.Texts.{Satisfies}
use Rattle.ground_theory.specs.declared.assignment.Solution.{Solution}
use Rattle.ground_theory.specs.declared.joining.Join.{Join}
use Rattle.ground_theory.specs.declared.joining.Joined.{Joined}
use Rattle.ground_theory.specs.declared.literal.Frame.{Frame}
use Rattle.ground_theory.specs.declared.literal.Literal.{Literal}
use Rattle.ground_theory.specs.declared.numbering.Numbering.{Numbering}
use Rattle.ground_theory.specs.inner.Clashes.{AreApart, AreFirm}
use Rattle.ground_theory.specs.inner.Counted.{AreNumbers}
use Rattle.ground_theory.specs.inner.Deciding.{all_stated}
use Rattle.ground_theory.specs.inner.Joining.{AreJoined}
use Rattle.ground_theory.specs.inner.Numbering.{IsNumbered}
use Rattle.ground_theory.specs.inner.Sifting.{gathered, same_of, other_of, null_of, firm_of, bound_of}
use Rattle.ground_theory.specs.inner.Sums.{told}
use Rattle.ground_theory.specs.inner.TextSystem.{said_fact, join_facts}

-- all facts about texts that the literals ask for
abbrev pub all_facts : Frame → List Literal → List Join → Numbering → List TextFact
all_facts frame literals joins numbering =
    gathered (said_fact numbering.places.items) 0 literals ++ told (join_facts frame numbering.places.items) 0 joins

-- the classes are those of the Sames, no Other and no IsNull contradicts them, the cells that are not NULL have variables, and
-- the numbers and the texts meet all that is asked of them
pub record IsFound (frame : Frame) (literals : List Literal) (joined : Joined) (s : Solution) : Type 0 where
  pub joined_are : AreJoined (length frame.tables) (gathered same_of 0 literals) joined.labels.items joined.joins.items
  pub apart : AreApart joined.labels.items (gathered other_of 0 literals) (length (gathered other_of 0 literals))
  pub firm : AreFirm joined.labels.items (gathered null_of 0 literals) (gathered firm_of 0 literals) (length (gathered firm_of 0 literals))
  pub numbered : IsNumbered joined.labels.items (gathered firm_of 0 literals) (length (gathered firm_of 0 literals)) s.numbering.places.items s.numbering.cells.items
  pub numbers : AreNumbers (length s.numbering.cells.items + 1) (all_stated frame joined s.numbering (gathered bound_of 0 literals)) s.numbers.items
  pub count : length s.labels.items ≡ length s.numbering.cells.items
  pub listed : All (λ label. label < length s.texts.items) s.labels.items
  pub texts : Satisfies (text_in s.labels.items s.texts.items) (all_facts frame literals joined.joins.items s.numbering)
