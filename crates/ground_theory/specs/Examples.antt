-- Literals that contradict each other, for the law `worked_leaves`, and a frame for the tests of `judge`.
use Rattle.std.specs.Prelude.{pos, negsuc, true, List, [], ◌∷◌}
use Rattle.lint_core.specs.declared.schema.Domain.TheVariants as domain
use Rattle.lint_core.specs.declared.schema.Unit.TheVariants.{Whole}
use Rattle.sort_formula.specs.declared.formula.Side.TheVariants as side
use Rattle.sort_formula.specs.declared.formula.Atom.TheVariants as atom
use Rattle.text_classes.specs.declared.facts.TextEnd.TheVariants as end
use Rattle.text_classes.specs.declared.facts.TextFact.{TextFact}
use Rattle.ground_theory.specs.declared.literal.Frame.{Frame}
use Rattle.ground_theory.specs.declared.literal.Literal.{Literal}

-- three rows of one table, of one SMALLINT column
abbrev pub numbers : Frame
numbers = record { tables = 0 ∷ 0 ∷ 0 ∷ []; domains = (domain.Number (negsuc 32767) (pos 32767) Whole ∷ []) ∷ [] }

-- rows 0 and 1 are one, and the cell of row term 1 is below the least of its domain
abbrev pub low : List Literal
low = record { atom = atom.Same 0 1 } ∷ record { atom = atom.Le (side.Cell 1 0) side.Zero (negsuc 39999) } ∷ []

-- the cell of row term 1, which is row term 2, is above the greatest of its domain
abbrev pub high : List Literal
high = record { atom = atom.Le side.Zero (side.Cell 1 0) (negsuc 39999) } ∷ record { atom = atom.Same 2 1 } ∷ []

-- the cell of row term 0 is less than that of row term 1, and rows 0 and 1 are one
abbrev pub loop : List Literal
loop = record { atom = atom.Le (side.Cell 0 0) (side.Cell 1 0) (negsuc 0) } ∷ record { atom = atom.Same 0 1 } ∷ []

-- two rows of one table, of one text column
abbrev pub texts : Frame
texts = record { tables = 0 ∷ 0 ∷ []; domains = (domain.Text 10 ∷ []) ∷ [] }

-- the text 7 is the cell of row term 0, rows 0 and 1 are one, and the cell of row term 1 is the text 8
abbrev pub two_texts : List Literal
two_texts =
    record { atom = atom.TextEq (side.Cell 0 0) (side.Text (7 ∷ [])) }
    ∷ record { atom = atom.Same 0 1 }
    ∷ record { atom = atom.TextEq (side.Text (8 ∷ [])) (side.Cell 1 0) } ∷ []

-- their facts, where variables 0 and 1 stand for the cells of rows 0 and 1
abbrev pub two_facts : List TextFact
two_facts =
    record { left = end.Var 0; right = end.Text (7 ∷ []); equal = true }
    ∷ record { left = end.Var 0; right = end.Var 1; equal = true }
    ∷ record { left = end.Text (8 ∷ []); right = end.Var 1; equal = true } ∷ []

-- three rows of one table, of one SMALLINT column and one of texts
abbrev pub mixed : Frame
mixed = record { tables = 0 ∷ 0 ∷ 0 ∷ []; domains = (domain.Number (negsuc 32767) (pos 32767) Whole ∷ domain.Text 10 ∷ []) ∷ [] }
