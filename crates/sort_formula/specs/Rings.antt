-- Rings of inequalities that contradict each other. An edge states that its left side minus its right side is at
-- most its bound: a fact that is such an inequality, that a cell is at least the least value of its domain or at
-- most the greatest, or that the cells of one column in two rows are equal where a fact says that the rows are one.
-- In a ring each edge's right side is the next one's left, and the last one's right is the first one's left; so
-- if each edge is true, the bounds add up to 0 or more.
use Rattle.std.specs.Prelude.{ℕ, ℤ, pos, neg_ℤ, ◌+ℤ◌, Bool, true, false, ◌&&◌, ◌||◌, not, nat_le, int_lt, List, [], ◌∷◌, length, Option, Some, None, option_and_then}
use Rattle.std.specs.Option.{option_map_or}
use Rattle.lint_core.specs.declared.certificate.SumEdge.{SumEdge}
use Rattle.lint_core.specs.declared.certificate.SumEdge.TheVariants as edge
use Rattle.lint_core.specs.declared.schema.Domain.{Domain}
use Rattle.lint_core.specs.declared.schema.Domain.TheVariants.{Number, Text}
use Rattle.lint_core.specs.declared.schema.Table.{Table}
use Rattle.sort_formula.specs.declared.formula.Side.{Side}
use Rattle.sort_formula.specs.declared.formula.Side.TheVariants as side
use Rattle.sort_formula.specs.declared.formula.Atom.{Atom}
use Rattle.sort_formula.specs.declared.formula.Atom.TheVariants as atom
use Rattle.sort_formula.specs.Facts.{Branch, atom_of, same_rows_of, domain_at, is_same_side}

-- left minus right is at most the bound
pub record Bound : Type 0 where
  pub left : Side
  pub right : Side
  pub most : ℤ

abbrev pub bound_in : Atom → Option Bound
bound_in (atom.Le left right most) = Some (record { left = left; right = right; most = most })
bound_in a = None

-- the values of a number column have a least and a greatest
abbrev pub low_bound : ℕ → ℕ → Domain → Option Bound
low_bound row column (Number least greatest unit) = Some (record { left = side.Zero; right = side.Cell row column; most = neg_ℤ least })
low_bound row column (Text length) = None

abbrev pub high_bound : ℕ → ℕ → Domain → Option Bound
high_bound row column (Number least greatest unit) = Some (record { left = side.Cell row column; right = side.Zero; most = greatest })
high_bound row column (Text length) = None

-- the cells of a number column in two rows that are one
abbrev pub same_bound : ℕ → ℕ → ℕ → Domain → Option Bound
same_bound row other column (Number least greatest unit) = Some (record { left = side.Cell row column; right = side.Cell other column; most = pos 0 })
same_bound row other column (Text length) = None

module _ (schema : List Table) (branch : Branch) where
  abbrev pub bound_of : SumEdge → Option Bound
  bound_of (edge.Fact fact) = option_and_then bound_in (atom_of branch fact)
  bound_of (edge.Low row column) = option_and_then (low_bound row column) (domain_at schema branch row column)
  bound_of (edge.High row column) = option_and_then (high_bound row column) (domain_at schema branch row column)
  bound_of (edge.Same fact column) =
      option_and_then (λ rows. option_and_then (same_bound rows.0 rows.1 column) (domain_at schema branch rows.0 column)) (same_rows_of branch fact)
  bound_of (edge.Back fact column) =
      option_and_then (λ rows. option_and_then (same_bound rows.1 rows.0 column) (domain_at schema branch rows.0 column)) (same_rows_of branch fact)

  -- the inequalities of all edges, where each states one
  abbrev pub bounds_of : List SumEdge → Option (List Bound)
  bounds_of [] = Some []
  bounds_of (e ∷ es) = option_and_then (λ b. option_and_then (λ bs. Some (b ∷ bs)) (bounds_of es)) (bound_of e)

-- from this side on each bound's left is the right of the one before, and the last right is the end
abbrev pub is_chain : Side → List Bound → Side → Bool
is_chain from [] to = is_same_side from to
is_chain from (b ∷ bs) to = is_same_side from b.left && is_chain b.right bs to

-- the chain comes back to where it began
abbrev pub is_ring : List Bound → Bool
is_ring [] = false
is_ring (b ∷ bs) = is_chain b.left (b ∷ bs) b.left

abbrev pub sum_of : List Bound → ℤ
sum_of [] = pos 0
sum_of (b ∷ bs) = b.most +ℤ sum_of bs

abbrev pub is_fact : SumEdge → Bool
is_fact (edge.Fact fact) = true
is_fact e = false

abbrev pub is_low : SumEdge → Bool
is_low (edge.Low row column) = true
is_low e = false

abbrev pub is_high : SumEdge → Bool
is_high (edge.High row column) = true
is_high e = false

-- a Low stands before a fact, and a High behind one: the cell is then not NULL
abbrev pub may_follow : SumEdge → SumEdge → Bool
may_follow e next = (not (is_low e) || is_fact next) && (not (is_high next) || is_fact e)

-- each edge may follow the one before it, and the first the last
abbrev pub may_follow_round : SumEdge → List SumEdge → Bool
may_follow_round first [] = true
may_follow_round first (e ∷ []) = may_follow e first
may_follow_round first (e ∷ next ∷ es) = may_follow e next && may_follow_round first (next ∷ es)

abbrev pub is_guarded : List SumEdge → Bool
is_guarded [] = false
is_guarded (e ∷ es) = may_follow_round e (e ∷ es)

-- a ring whose bounds add up to less than nothing
abbrev pub is_negative_ring : List Bound → Bool
is_negative_ring bounds = is_ring bounds && int_lt (sum_of bounds) (pos 0)

-- 1 to 32,769 edges, each an inequality, each domain bound beside a fact, in a ring with a negative sum
abbrev pub is_contradiction : List Table → Branch → List SumEdge → Bool
is_contradiction schema branch edges =
    nat_le (length edges) 32769 && is_guarded edges && option_map_or is_negative_ring (bounds_of schema branch edges) false
