-- What words ask for, read from left to right: first the parts, then what they give.
use Rattle.std.specs.Prelude.{ℕ, ◌&&◌, Bool, true, false, not, nat_eq, nat_le, nat_lt, List, [], ◌∷◌, length, codes, Option, Some, None, option_and_then, if◌then◌else◌}
use Rattle.std.specs.Char.{is_ascii_digit}
use Rattle.std.specs.Str.{bytes_eq}
use Rattle.std.specs.List.{list_all}
use Rattle.command_words.specs.declared.wanted.Form.{Form}
use Rattle.command_words.specs.declared.wanted.Form.TheVariants.{Text}
use Rattle.command_words.specs.declared.wanted.TheConstants.{DEFAULT_BUDGET, LARGEST_BUDGET}
use Rattle.command_words.specs.declared.parts.Expected.{Expected}
use Rattle.command_words.specs.declared.parts.Expected.TheVariants as expected
use Rattle.command_words.specs.Wanted.{Paths, Asked, judges, checks, Wanted}
use Rattle.command_words.specs.CommandLine.{Part, file, budget, check, certs, begins_with_dash, files_in, budgets_in, checks_in, forms_in, decimal_value}

-- ---- the parts

-- what a word says: the part that it ends, if any, and what comes behind it
pub record Reading : Type 0 where
  pub part : Option Part
  pub then_comes : Expected

abbrev pub ends : Part → Reading
ends part = record { part = Some part; then_comes = expected.Part }

-- more than `-` alone
abbrev pub is_option : List ℕ → Bool
is_option word = begins_with_dash word && not (bytes_eq word (codes "-"))

abbrev pub read_value : (List ℕ → Part) → List ℕ → Option Reading
read_value option value = if begins_with_dash value then None else Some (ends (option value))

-- what stands behind a front, if the word begins with it
abbrev pub behind : List ℕ → List ℕ → Option (List ℕ)
behind [] word = Some word
behind (c ∷ front) [] = None
behind (c ∷ front) (b ∷ word) = if nat_eq b c then behind front word else None

-- a word that may have the value of an option behind `=`
abbrev pub read_attached : Option (List ℕ) → Option (List ℕ) → List ℕ → Option Reading
read_attached (Some value) in_check word = read_value budget value
read_attached None (Some value) word = read_value check value
read_attached None None word = if is_option word then None else Some (ends (file word))

abbrev pub read_part : List ℕ → Option Reading
read_part word =
    if bytes_eq word (codes "--") then Some (record { part = None; then_comes = expected.File })
    else (if bytes_eq word (codes "--certs") then Some (ends certs)
    else (if bytes_eq word (codes "--budget") then Some (record { part = None; then_comes = expected.BudgetValue })
    else (if bytes_eq word (codes "--check") then Some (record { part = None; then_comes = expected.CheckValue })
    else read_attached (behind (codes "--budget=") word) (behind (codes "--check=") word) word)))

abbrev pub read_word : Expected → List ℕ → Option Reading
read_word expected.Part word = read_part word
read_word expected.BudgetValue word = read_value budget word
read_word expected.CheckValue word = read_value check word
read_word expected.File word = Some (record { part = Some (file word); then_comes = expected.File })

-- an option waits for its value
abbrev pub is_waiting : Expected → Bool
is_waiting expected.Part = false
is_waiting expected.BudgetValue = true
is_waiting expected.CheckValue = true
is_waiting expected.File = false

abbrev pub with_part : Option Part → Option (List Part) → Option (List Part)
with_part part None = None
with_part None (Some parts) = Some parts
with_part (Some part) (Some parts) = Some (part ∷ parts)

-- a word is read, and then the words behind it
abbrev pub go_on : Option Reading → (Expected → Option (List Part)) → Option (List Part)
go_on None rest = None
go_on (Some reading) rest = with_part reading.part (rest reading.then_comes)

abbrev pub parts_from : Expected → List (List ℕ) → Option (List Part)
parts_from expected [] = if is_waiting expected then None else Some []
parts_from expected (word ∷ words) = go_on (read_word expected word) (λ then_comes. parts_from then_comes words)

-- ---- what the parts give

abbrev pub paths_of : List (List ℕ) → Option Paths
paths_of [] = None
paths_of (schema ∷ []) = None
paths_of (schema ∷ queries ∷ []) = Some (record { schema = schema; queries = queries })
paths_of (schema ∷ queries ∷ more ∷ files) = None

-- 1 to 10 digits
abbrev pub is_numeral : List ℕ → Bool
is_numeral value = nat_lt 0 (length value) && (nat_le (length value) 10 && list_all is_ascii_digit value)

-- a number from 1 to 1,000,000
abbrev pub within_limits : ℕ → Option ℕ
within_limits number = if nat_lt 0 number && nat_le number LARGEST_BUDGET then Some number else None

abbrev pub number_of : List ℕ → Option ℕ
number_of value = if is_numeral value then within_limits (decimal_value 0 value) else None

abbrev pub budget_of : List (List ℕ) → Option ℕ
budget_of [] = Some DEFAULT_BUDGET
budget_of (value ∷ []) = number_of value
budget_of (value ∷ more ∷ values) = None

abbrev pub form_of : List Form → Option Form
form_of [] = Some Text
form_of (form ∷ []) = Some form
form_of (form ∷ more ∷ forms) = None

abbrev pub judging : Option ℕ → Option Form → Option Asked
judging None form = None
judging (Some number) None = None
judging (Some number) (Some form) = Some (judges number form)

abbrev pub checking : List ℕ → Option Asked
checking [] = None
checking (b ∷ bs) = Some (checks (b ∷ bs))

-- `--check` stands with no other option
abbrev pub asked_of : List (List ℕ) → List Form → List (List ℕ) → Option Asked
asked_of budgets forms [] = judging (budget_of budgets) (form_of forms)
asked_of [] [] (path ∷ []) = checking path
asked_of [] (form ∷ forms) (path ∷ []) = None
asked_of (value ∷ budgets) forms (path ∷ []) = None
asked_of budgets forms (path ∷ more ∷ paths) = None

abbrev pub both_of : Option Paths → Option Asked → Option Wanted
both_of None asked = None
both_of (Some paths) None = None
both_of (Some paths) (Some asked) = Some (record { paths = paths; asked = asked })

abbrev pub wanted_by : List Part → Option Wanted
wanted_by parts = both_of (paths_of (files_in parts)) (asked_of (budgets_in parts) (forms_in parts) (checks_in parts))

-- ---- the words

abbrev pub wanted_of : List (List ℕ) → Option Wanted
wanted_of words = option_and_then wanted_by (parts_from expected.Part words)
