-- Which values may stand beside each other: numbers of one unit are of one kind, and so are all texts
-- (ISO/IEC 9075:1992, 4.1: comparable data types). The term NULL goes with both.
use Rattle.std.specs.Prelude.{ℕ, ℤ, pos, Bool, true, false, ◌&&◌, ◌||◌, not, if◌then◌else◌, Option, Some, None, slice_get, option_and_then}
use Rattle.std.specs.Ordering.{int_eq}
use Rattle.lint_tables.specs.declared.op.Op.{Op}
use Rattle.lint_tables.specs.declared.op.Op.TheVariants.{Eq, Ne, Lt, Le, Gt, Ge}
use Rattle.lint_core.specs.declared.schema.Unit.{Unit as NumberUnit}
use Rattle.lint_core.specs.declared.schema.Unit.TheVariants.{Whole}
use Rattle.lint_core.specs.declared.schema.Kind.{Kind}
use Rattle.lint_core.specs.declared.schema.Kind.TheVariants as kind
use Rattle.lint_core.specs.declared.schema.Domain.{Domain}
use Rattle.lint_core.specs.declared.schema.Domain.TheVariants as domain
use Rattle.lint_core.specs.declared.schema.Column.{Column}
use Rattle.lint_core.specs.declared.schema.Table.{Table}

abbrev pub is_same_unit : NumberUnit → NumberUnit → Bool
is_same_unit Whole Whole = true

abbrev pub kind_of : Domain → Kind
kind_of (domain.Number least greatest unit) = kind.Number unit
kind_of (domain.Text length) = kind.Text

-- the kind of a column, where the table has it
abbrev pub column_kind : Table → ℕ → Option Kind
column_kind table column = option_and_then (λ (c : Column). Some (kind_of c.domain)) (slice_get table.columns column)

-- a kind with a number added: nothing is added to a text
abbrev pub with_added : ℤ → Kind → Option Kind
with_added added kind.Null = Some kind.Null
with_added added (kind.Number unit) = Some (kind.Number unit)
with_added added kind.Text = if int_eq added (pos 0) then Some kind.Text else None

-- of one kind, or one is NULL
abbrev pub goes_with : Kind → Kind → Bool
goes_with kind.Null b = true
goes_with (kind.Number unit) kind.Null = true
goes_with (kind.Number unit) (kind.Number other) = is_same_unit unit other
goes_with (kind.Number unit) kind.Text = false
goes_with kind.Text kind.Null = true
goes_with kind.Text (kind.Number unit) = false
goes_with kind.Text kind.Text = true

abbrev pub is_text : Kind → Bool
is_text kind.Null = false
is_text (kind.Number unit) = false
is_text kind.Text = true

abbrev pub is_equality : Op → Bool
is_equality Eq = true
is_equality Ne = true
is_equality Lt = false
is_equality Le = false
is_equality Gt = false
is_equality Ge = false

-- the operator compares the two: they go with each other, and texts are compared by = and <> alone
abbrev pub compares : Op → Kind → Kind → Bool
compares op a b = goes_with a b && (is_equality op || not (is_text a || is_text b))

-- alike where both stand
abbrev pub compares_both : Op → Option Kind → Option Kind → Bool
compares_both op None b = false
compares_both op (Some a) None = false
compares_both op (Some a) (Some b) = compares op a b

-- both stand and are of one kind
abbrev pub are_of_one_kind : Option Kind → Option Kind → Bool
are_of_one_kind None b = false
are_of_one_kind (Some a) None = false
are_of_one_kind (Some a) (Some b) = goes_with a b
