-- Which frames and literals can be judged. The domains of a frame are those of a schema's columns, and its row terms are of
-- tables that are there; a literal names cells that are there, of the right kind.
use Rattle.std.specs.Prelude.{ℕ, nat_lt, nat_le, Bool, true, ◌&&◌, length}
use Rattle.std.specs.List.{list_all}
use Rattle.sort_formula.specs.declared.formula.Atom.{Atom}
use Rattle.sort_formula.specs.declared.formula.Atom.TheVariants as atom
use Rattle.ground_theory.specs.declared.literal.Frame.{Frame}
use Rattle.ground_theory.specs.declared.literal.Literal.{Literal}
use Rattle.ground_theory.specs.Assignments.{domains_at}
use Rattle.ground_theory.specs.Fitting.{are_of_one_table, fits, has_domains, is_moderate}

-- domains of a schema's columns, at most 64 a table, and at most 512 row terms, each of a table that is there
abbrev pub is_frame : Frame → Bool
is_frame frame =
    has_domains frame
    && (list_all (λ ds. nat_le (length ds) 64) frame.domains
    && (list_all (λ t. nat_lt t (length frame.domains)) frame.tables && nat_le (length frame.tables) 512))

module _ (frame : Frame) where
  -- the column is one of the row term's table
  abbrev pub has_cell : ℕ → ℕ → Bool
  has_cell row column = nat_lt column (length (domains_at frame row))

  -- of IsNull and NotNull that the cell is there, of Other that the rows are of one table; what `fits` asks of the other atoms
  -- says it of them
  abbrev pub is_named_right : Atom → Bool
  is_named_right (atom.IsNull row column) = has_cell row column
  is_named_right (atom.NotNull row column) = has_cell row column
  is_named_right (atom.Other row other) = are_of_one_table frame row other
  is_named_right (atom.Le left right most) = true
  is_named_right (atom.TextEq left right) = true
  is_named_right (atom.TextNe left right) = true
  is_named_right (atom.Same row other) = true

  -- its cells are there and of the right kind, and the bound of a Le is moderate
  abbrev pub can_be_judged : Literal → Bool
  can_be_judged l = is_named_right l.atom && (fits frame l.atom && is_moderate l.atom)
