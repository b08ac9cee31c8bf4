-- The inequalities of edges, and the ends of a number column's values. Nothing here has to be believed: no public
-- contract says it.
use Rattle.std.specs.Prelude.{ℤ, pos, ◌+ℤ◌, int_lt, Bool, false, ◌&&◌, List, Option, Some, None}
use Rattle.std.specs.Option.{option_map_or}
use Rattle.lint_core.specs.declared.certificate.SumEdge.{SumEdge}
use Rattle.lint_core.specs.declared.schema.Table.{Table}
use Rattle.sort_formula.specs.declared.formula.Side.{Side}
use Rattle.sort_formula.specs.Facts.{Branch}
use Rattle.lint_core.specs.declared.schema.Domain.{Domain}
use Rattle.lint_core.specs.declared.schema.Domain.TheVariants.{Number, Text}
use Rattle.sort_formula.specs.Rings.{Bound, bounds_of, is_chain, sum_of}
use Rattle.cert_checker.specs.declared.rings.Inequality.{Inequality}
use Rattle.cert_checker.specs.inner.Seen.{side_of}

abbrev pub bound_said : Inequality → Bound
bound_said i = record { left = side_of i.left; right = side_of i.right; most = i.most }

-- the least and the greatest value of a number column
abbrev pub range_of : Domain → Option (ℤ × ℤ)
range_of (Number least greatest unit) = Some (least, greatest)
range_of (Text length) = None

-- the edges lead on to a side, and their bounds and a number add up to less than nothing
abbrev pub comes_back : List Table → Branch → Side → Side → ℤ → List SumEdge → Bool
comes_back schema branch to from sum edges =
    option_map_or (λ bounds. is_chain from bounds to && int_lt (sum +ℤ sum_of bounds) (pos 0)) (bounds_of schema branch edges) false
