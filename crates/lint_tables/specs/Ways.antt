-- How a comparison of two whole numbers a and b is said by bounds on their difference.
use Rattle.std.specs.Prelude.{ℕ, ℤ, pos, neg_ℤ, ◌-ℤ◌, int_le, Bool, true, false, ◌&&◌, ◌||◌, if◌then◌else◌, Option, Some, None}
use Rattle.lint_tables.specs.declared.op.Op.{Op}
use Rattle.lint_tables.specs.declared.op.Op.TheVariants.{Eq, Ne, Lt, Le, Gt, Ge}
use Rattle.lint_tables.specs.declared.op.Way.{Way}
use Rattle.lint_tables.specs.declared.op.Ways.{Ways}

-- a - b is at most minus `less`; where the way is swapped, b - a is
abbrev pub way_holds : Way → ℤ → ℤ → Bool
way_holds way a b = int_le (if way.swapped then b -ℤ a else a -ℤ b) (neg_ℤ (pos way.less))

-- one way holds; of two, all hold, or where not all must, one of them does
abbrev pub hold_together : Bool → Way → Option Way → ℤ → ℤ → Bool
hold_together all one None a b = way_holds one a b
hold_together true one (Some two) a b = way_holds one a b && way_holds two a b
hold_together false one (Some two) a b = way_holds one a b || way_holds two a b

abbrev pub ways_hold : Ways → ℤ → ℤ → Bool
ways_hold ways = hold_together ways.all ways.one ways.two

-- a lies below b by at least so much
abbrev pub below : ℕ → Way
below less = record { swapped = false; less = less }

-- a lies above b by at least so much
abbrev pub above : ℕ → Way
above less = record { swapped = true; less = less }

abbrev pub ways_of : Op → Ways
ways_of Eq = record { one = below 0; two = Some (above 0); all = true }
ways_of Ne = record { one = below 1; two = Some (above 1); all = false }
ways_of Lt = record { one = below 1; two = None; all = true }
ways_of Le = record { one = below 0; two = None; all = true }
ways_of Gt = record { one = above 1; two = None; all = true }
ways_of Ge = record { one = above 0; two = None; all = true }
