-- What the checker keeps, as the definition of acceptance has it. Nothing here has to be believed: no public contract
-- says it.
use Rattle.std.specs.Prelude.{◌^◌, true, ◌≡◌}
use Rattle.sort_formula.specs.declared.formula.Side.{Side}
use Rattle.sort_formula.specs.declared.formula.Side.TheVariants as side
use Rattle.sort_formula.specs.declared.formula.Atom.{Atom}
use Rattle.sort_formula.specs.declared.formula.Atom.TheVariants as atom
use Rattle.sort_formula.specs.Bounds.{atom_is_within}
use Rattle.sort_formula.specs.Facts.{Branch}
use Rattle.cert_checker.specs.declared.facts.End.{End}
use Rattle.cert_checker.specs.declared.facts.End.TheVariants as end
use Rattle.cert_checker.specs.declared.facts.Said.{Said}
use Rattle.cert_checker.specs.declared.facts.Said.TheVariants as said
use Rattle.cert_checker.specs.declared.facts.Open.{Open}

abbrev pub side_of : End → Side
side_of (end.Cell row column) = side.Cell row column
side_of end.Zero = side.Zero
side_of (end.Text text) = side.Text text.now

abbrev pub atom_said : Said → Atom
atom_said (said.Le left right most) = atom.Le (side_of left) (side_of right) most
atom_said (said.TextEq left right) = atom.TextEq (side_of left) (side_of right)
atom_said (said.TextNe left right) = atom.TextNe (side_of left) (side_of right)
atom_said (said.IsNull row column) = atom.IsNull row column
atom_said (said.NotNull row column) = atom.NotNull row column
atom_said (said.Same row other) = atom.Same row other
atom_said (said.Other row other) = atom.Other row other

abbrev pub branch_of : Open → Branch
branch_of kept = record { facts = kept.facts.items; tables = kept.tables.items }

-- its bounds lie within plus or minus 2^66
abbrev pub IsModerate : Said → Type 0
IsModerate s = atom_is_within (2 ^ 66) (atom_said s) ≡ true

abbrev pub sides_of : (End × End) → (Side × Side)
sides_of both = (side_of both.0, side_of both.1)
