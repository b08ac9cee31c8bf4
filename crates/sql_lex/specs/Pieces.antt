-- The pieces of a file: the parts between its separators, each from its first to its last solid byte; parts
-- without one are left out.
use Rattle.std.specs.Prelude.{ℕ, ◌+◌, List, [], ◌∷◌, ◌++◌}
use Rattle.lint_base.specs.declared.place.Span.{Span}
use Rattle.sql_lex.specs.Classes.{Class, Blank, Solid, Separator, Nothing, classes}

-- a part: where it begins, and its bytes' classes
pub record Part : Type 0 where
  pub from : ℕ
  pub inside : List Class

-- the parts between separators, from an offset on; `so_far` is the part that has begun at `from`
abbrev pub parts_from : ℕ → List Class → ℕ → List Class → List Part
parts_from from so_far at [] = record { from = from; inside = so_far } ∷ []
parts_from from so_far at (Separator ∷ cs) = record { from = from; inside = so_far } ∷ parts_from (at + 1) [] (at + 1) cs
parts_from from so_far at (Blank ∷ cs) = parts_from from (so_far ++ Blank ∷ []) (at + 1) cs
parts_from from so_far at (Solid ∷ cs) = parts_from from (so_far ++ Solid ∷ []) (at + 1) cs

-- the places of the solid bytes, from an offset on
abbrev pub solid_places : ℕ → List Class → List ℕ
solid_places at [] = []
solid_places at (Solid ∷ cs) = at ∷ solid_places (at + 1) cs
solid_places at (Blank ∷ cs) = solid_places (at + 1) cs
solid_places at (Separator ∷ cs) = solid_places (at + 1) cs

abbrev pub last_of : ℕ → List ℕ → ℕ
last_of place [] = place
last_of place (next ∷ places) = last_of next places

-- from the first of these places to behind the last, if there is one
abbrev pub spanned : List ℕ → List Span
spanned [] = []
spanned (place ∷ places) = record { from = place; to = last_of place places + 1 } ∷ []

abbrev pub spans_of : List Part → List Span
spans_of [] = []
spans_of (part ∷ parts) = spanned (solid_places part.from part.inside) ++ spans_of parts

-- the pieces of a text that stands at an offset
abbrev pub pieces_from : ℕ → List ℕ → List Span
pieces_from at text = spans_of (parts_from at [] at (classes Nothing text))

abbrev pub pieces : List ℕ → List Span
pieces text = pieces_from 0 text
