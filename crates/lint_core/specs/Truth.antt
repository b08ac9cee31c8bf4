-- The three truth values with AND, OR and NOT (ISO/IEC 9075:1992, 8.12): false, unknown, true in this
-- order. AND is the least and OR the greatest; AND of nothing is true, OR of nothing false. NOT swaps
-- true and false and keeps unknown.
use Rattle.std.specs.Prelude.{Bool, true, false, List, [], ◌∷◌, if◌then◌else◌}
use Rattle.lint_core.specs.declared.database.Truth.{Truth}
use Rattle.lint_core.specs.declared.database.Truth.TheVariants.{False, Unknown, True}

-- a truth that is not unknown
abbrev pub truth_of : Bool → Truth
truth_of true = True
truth_of false = False

abbrev pub is_true : Truth → Bool
is_true True = true
is_true Unknown = false
is_true False = false

abbrev pub is_false : Truth → Bool
is_false True = false
is_false Unknown = false
is_false False = true

abbrev pub not_of : Truth → Truth
not_of True = False
not_of Unknown = Unknown
not_of False = True

-- NOT where the predicate is written with NOT, else the truth itself
abbrev pub negated_if : Bool → Truth → Truth
negated_if negated truth = if negated then not_of truth else truth

abbrev pub least : Truth → Truth → Truth
least False b = False
least Unknown False = False
least Unknown Unknown = Unknown
least Unknown True = Unknown
least True b = b

abbrev pub greatest : Truth → Truth → Truth
greatest True b = True
greatest Unknown True = True
greatest Unknown Unknown = Unknown
greatest Unknown False = Unknown
greatest False b = b

abbrev pub and_of : List Truth → Truth
and_of [] = True
and_of (truth ∷ truths) = least truth (and_of truths)

abbrev pub or_of : List Truth → Truth
or_of [] = False
or_of (truth ∷ truths) = greatest truth (or_of truths)
