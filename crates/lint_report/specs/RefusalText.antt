-- Places in a file, and why a text is refused.
use Rattle.std.specs.Prelude.{ℕ, List, [], ◌++◌, Bool, true, false, if◌then◌else◌, codes}
use Rattle.std.specs.Fmt.{decimal}
use Rattle.lint_base.specs.declared.place.Span.{Span}
use Rattle.lint_base.specs.declared.place.Fault.{Fault}
use Rattle.lint_base.specs.declared.place.Fault.TheVariants as fault
use Rattle.lint_base.specs.declared.place.Refusal.{Refusal}

-- FROM..TO
unfoldable pub span_text : Span → List ℕ
span_text span = decimal span.from ++ codes ".." ++ decimal span.to

unfoldable pub fault_text : Fault → List ℕ
fault_text fault.BadByte = codes "1 BadByte"
fault_text fault.OpenQuote = codes "2 OpenQuote"
fault_text fault.BigNumber = codes "3 BigNumber"
fault_text fault.Long = codes "11 Long"
fault_text fault.Deep = codes "12 Deep"
fault_text fault.Syntax = codes "13 Syntax"
fault_text fault.UnknownTable = codes "21 UnknownTable"
fault_text fault.UnknownColumn = codes "22 UnknownColumn"
fault_text fault.AmbiguousColumn = codes "23 AmbiguousColumn"
fault_text fault.DuplicateName = codes "24 DuplicateName"
fault_text fault.TypeMismatch = codes "25 TypeMismatch"
fault_text fault.NotAKey = codes "26 NotAKey"
fault_text fault.TooMany = codes "27 TooMany"
fault_text fault.OneColumnNeeded = codes "28 OneColumnNeeded"
fault_text fault.BadLength = codes "29 BadLength"

-- the faults that come with a count
abbrev pub has_count : Fault → Bool
has_count fault.Long = true
has_count fault.TooMany = true
has_count other = false

abbrev pub count_text : Refusal → List ℕ
count_text refusal = if has_count refusal.fault then codes " count " ++ decimal refusal.count else []

unfoldable pub refusal_text : Refusal → List ℕ
refusal_text refusal = fault_text refusal.fault ++ codes " at " ++ span_text refusal.span ++ count_text refusal
