-- Two sentences: a row of table 0 with at most 5 in column 0, and for each row of table 0 with no NULL in column 0 one of
-- table 1 with no less in its column 0. Their row terms and their ground list, by hand.
use Rattle.std.specs.Prelude.{pos, None, Some, List, [], ◌∷◌}
use Rattle.sort_formula.specs.declared.formula.Side.TheVariants as side
use Rattle.sort_formula.specs.declared.formula.Atom.TheVariants as atom
use Rattle.sort_formula.specs.declared.formula.Formula.{Formula}
use Rattle.sort_formula.specs.declared.formula.Formula.TheVariants as f
use Rattle.sorted_skolem.specs.declared.term.RowTerm.{RowTerm}
use Rattle.ground_theory.specs.declared.literal.Clause.{Clause}

abbrev pub two_sentences : List Formula
two_sentences =
    f.Exists 0 (f.And (f.Atom (atom.Le (side.Cell 0 0) side.Zero (pos 5)) ∷ []))
    ∷ f.Forall 0 (f.Or (f.Atom (atom.IsNull 0 0) ∷ f.Exists 1 (f.Atom (atom.Le (side.Cell 0 0) (side.Cell 1 0) (pos 0))) ∷ [])) ∷ []

-- the row of the first sentence, and the row that the second one asks for at that row
abbrev pub two_terms : List RowTerm
two_terms = record { sentence = 0; node = 0; rows = []; table = 0 } ∷ record { sentence = 1; node = 3; rows = 0 ∷ []; table = 1 } ∷ []

-- three of the first sentence, and five of the second: its Forall, and at the row of the first sentence the nodes below
abbrev pub eight_clauses : List Clause
eight_clauses =
    record { guards = []; ways = None ∷ [] }
    ∷ record { guards = record { clause = 0; way = 0 } ∷ []; ways = None ∷ [] }
    ∷ record { guards = record { clause = 1; way = 0 } ∷ []; ways = Some (record { atom = atom.Le (side.Cell 0 0) side.Zero (pos 5) }) ∷ [] }
    ∷ record { guards = []; ways = None ∷ [] }
    ∷ record { guards = record { clause = 3; way = 0 } ∷ record { clause = 0; way = 0 } ∷ []; ways = None ∷ None ∷ [] }
    ∷ record { guards = record { clause = 4; way = 0 } ∷ []; ways = Some (record { atom = atom.IsNull 0 0 }) ∷ [] }
    ∷ record { guards = record { clause = 4; way = 1 } ∷ []; ways = None ∷ [] }
    ∷ record { guards = record { clause = 6; way = 0 } ∷ []; ways = Some (record { atom = atom.Le (side.Cell 0 0) (side.Cell 1 0) (pos 0) }) ∷ [] }
    ∷ []
