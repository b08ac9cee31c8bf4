-- Chains of equal texts, and paths between rows that are one. An edge of a chain says that its two sides are the
-- same text (or are both NULL): a fact that says so, from its left side to its right or back, or the cells of one
-- column in two rows of which a fact says that they are one.
use Rattle.std.specs.Prelude.{ℕ, Bool, false, ◌&&◌, ◌||◌, not, nat_eq, List, [], ◌∷◌, Option, Some, None, option_and_then, if◌then◌else◌}
use Rattle.std.specs.Option.{option_map_or}
use Rattle.lint_core.specs.declared.certificate.SameEdge.{SameEdge}
use Rattle.lint_core.specs.declared.certificate.TextEdge.{TextEdge}
use Rattle.lint_core.specs.declared.certificate.TextEdge.TheVariants as edge
use Rattle.lint_core.specs.declared.schema.Domain.{Domain}
use Rattle.lint_core.specs.declared.schema.Domain.TheVariants.{Number, Text}
use Rattle.lint_core.specs.declared.schema.Table.{Table}
use Rattle.lint_core.specs.Comparison.{is_same_text}
use Rattle.sort_formula.specs.declared.formula.Side.{Side}
use Rattle.sort_formula.specs.declared.formula.Side.TheVariants as side
use Rattle.sort_formula.specs.declared.formula.Atom.{Atom}
use Rattle.sort_formula.specs.declared.formula.Atom.TheVariants as atom
use Rattle.sort_formula.specs.Facts.{Branch, atom_of, same_rows_of, domain_at, is_same_side}

-- ---- paths

-- from the first of the two rows to the second, or back
abbrev pub turned : Bool → (ℕ × ℕ) → (ℕ × ℕ)
turned back rows = if back then (rows.1, rows.0) else rows

-- where the path leads to from a row; each edge begins where the one before ends, and an empty path stays
abbrev pub path_end : Branch → ℕ → List SameEdge → Option ℕ
path_end branch row [] = Some row
path_end branch row (e ∷ es) =
    option_and_then (λ (rows : ℕ × ℕ). if nat_eq row rows.0 then path_end branch rows.1 es else None)
    (option_and_then (λ rows. Some (turned e.back rows)) (same_rows_of branch e.fact))

abbrev pub leads_to : Branch → ℕ → List SameEdge → (ℕ → Bool) → Bool
leads_to branch row path test = option_map_or test (path_end branch row path) false

-- ---- a cell that is NULL and is not

abbrev pub is_cell : ℕ → ℕ → Side → Bool
is_cell row column s = is_same_side s (side.Cell row column)

-- the atom has the cell, and holds only where it is not NULL
abbrev pub says_not_null : ℕ → ℕ → Atom → Bool
says_not_null row column (atom.NotNull other second) = nat_eq row other && nat_eq column second
says_not_null row column (atom.Le left right most) = is_cell row column left || is_cell row column right
says_not_null row column (atom.TextEq left right) = is_cell row column left || is_cell row column right
says_not_null row column (atom.TextNe left right) = is_cell row column left || is_cell row column right
says_not_null row column a = false

-- the one fact says that a cell is NULL, the other that it is not, of a row which is the same by the path
abbrev pub null_clash : Branch → List SameEdge → Atom → Atom → Bool
null_clash branch path (atom.IsNull row column) other = leads_to branch row path (λ end. says_not_null end column other)
null_clash branch path a other = false

abbrev pub is_null_clash : Branch → ℕ → ℕ → List SameEdge → Bool
is_null_clash branch fact other path =
    option_map_or (λ a. option_map_or (null_clash branch path a) (atom_of branch other) false) (atom_of branch fact) false

-- ---- two rows that are one and are not

abbrev pub same_clash : Branch → List SameEdge → Atom → Bool
same_clash branch path (atom.Other row other) = leads_to branch row path (nat_eq other)
same_clash branch path a = false

abbrev pub is_same_clash : Branch → ℕ → List SameEdge → Bool
is_same_clash branch fact path = option_map_or (same_clash branch path) (atom_of branch fact) false

-- ---- texts

abbrev pub equal_sides : Atom → Option (Side × Side)
equal_sides (atom.TextEq left right) = Some (left, right)
equal_sides a = None

-- the cells of a text column in two rows
abbrev pub text_cells : ℕ → (ℕ × ℕ) → Domain → Option (Side × Side)
text_cells column rows (Number least greatest unit) = None
text_cells column rows (Text length) = Some (side.Cell rows.0 column, side.Cell rows.1 column)

module _ (schema : List Table) (branch : Branch) where
  -- the cells of a text column in the two rows that a fact says are one
  abbrev pub same_cells : ℕ → ℕ → Option (Side × Side)
  same_cells fact column =
      option_and_then (λ rows. option_and_then (text_cells column rows) (domain_at schema branch rows.0 column)) (same_rows_of branch fact)

  abbrev pub back : Option (Side × Side) → Option (Side × Side)
  back sides = option_and_then (λ both. Some (both.1, both.0)) sides

  -- the two sides of an edge
  abbrev pub ends_of : TextEdge → Option (Side × Side)
  ends_of (edge.Fact fact) = option_and_then equal_sides (atom_of branch fact)
  ends_of (edge.FactBack fact) = back (option_and_then equal_sides (atom_of branch fact))
  ends_of (edge.Same fact column) = same_cells fact column
  ends_of (edge.Back fact column) = back (same_cells fact column)

  -- where the chain leads to from a side; each edge begins where the one before ends, and an empty chain stays
  abbrev pub chain_end : Side → List TextEdge → Option Side
  chain_end from [] = Some from
  chain_end from (e ∷ es) = option_and_then (λ (both : Side × Side). if is_same_side from both.0 then chain_end both.1 es else None) (ends_of e)

  abbrev pub chain_leads_to : Side → List TextEdge → (Side → Bool) → Bool
  chain_leads_to from edges test = option_map_or test (chain_end from edges) false

  -- the chain leads from the one side of the fact to the other, which are not equal
  abbrev pub text_clash : List TextEdge → Atom → Bool
  text_clash edges (atom.TextNe left right) = chain_leads_to left edges (is_same_side right)
  text_clash edges a = false

  -- two texts, and not the same
  abbrev pub are_two_texts : Side → Side → Bool
  are_two_texts (side.Text text) (side.Text other) = not (is_same_text text other)
  are_two_texts a b = false

  -- the chain is not empty and leads from a text to another
  abbrev pub constants_clash : List TextEdge → Bool
  constants_clash [] = false
  constants_clash (e ∷ es) = option_map_or (λ (both : Side × Side). chain_leads_to both.0 (e ∷ es) (are_two_texts both.0)) (ends_of e) false

  abbrev pub is_text_clash : Option ℕ → List TextEdge → Bool
  is_text_clash (Some last) edges = option_map_or (text_clash edges) (atom_of branch last) false
  is_text_clash None edges = constants_clash edges
