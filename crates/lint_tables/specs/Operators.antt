-- When a comparison operator holds of two whole numbers.
use Rattle.std.specs.Prelude.{ℤ, Bool, not, int_lt}
use Rattle.std.specs.Ordering.{int_eq}
use Rattle.lint_tables.specs.declared.op.Op.{Op}
use Rattle.lint_tables.specs.declared.op.Op.TheVariants.{Eq, Ne, Lt, Le, Gt, Ge}

abbrev pub is_related : Op → ℤ → ℤ → Bool
is_related Eq a b = int_eq a b
is_related Ne a b = not (int_eq a b)
is_related Lt a b = int_lt a b
is_related Le a b = not (int_lt b a)
is_related Gt a b = int_lt b a
is_related Ge a b = not (int_lt a b)

-- the operator that holds exactly where this one does not
abbrev pub negation : Op → Op
negation Eq = Ne
negation Ne = Eq
negation Lt = Ge
negation Le = Gt
negation Gt = Le
negation Ge = Lt

-- the operator with its sides exchanged
abbrev pub mirror : Op → Op
mirror Eq = Eq
mirror Ne = Ne
mirror Lt = Gt
mirror Le = Ge
mirror Gt = Lt
mirror Ge = Le
