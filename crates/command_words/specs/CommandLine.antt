-- The grammar of a command line: parts in any order, and perhaps `--`, behind which every word is a file.
--
--     line   := { part } [ "--" { word } ]
--     part   := file | "--certs" | option value | option "=" value
--     option := "--budget" | "--check"
--
-- `option value` is two words, the other parts are one each. A file does not begin with `-`, but for the file `-`; a value never does.
use Rattle.std.specs.Prelude.{ℕ, ◌+◌, ◌*◌, ◌-◌, ◌≤◌, ◌<◌, ◌≡◌, ◌≢◌, ◌⊎◌, Bool, true, false, nat_eq, List, [], ◌∷◌, ◌++◌, map, length, codes}
use Rattle.std.specs.Char.{is_ascii_digit}
use Rattle.std.specs.List.{list_all}
use Rattle.command_words.specs.declared.wanted.Form.{Form}
use Rattle.command_words.specs.declared.wanted.Form.TheVariants.{Text, Certs}
use Rattle.command_words.specs.declared.wanted.TheConstants.{DEFAULT_BUDGET, LARGEST_BUDGET}
use Rattle.command_words.specs.Wanted.{Asked, judges, checks, Wanted}

pub data Part : Type 0 where
  file : (path : List ℕ) → Part
  budget : (value : List ℕ) → Part
  check : (value : List ℕ) → Part
  certs : Part

abbrev pub begins_with_dash : List ℕ → Bool
begins_with_dash [] = false
begins_with_dash (b ∷ bs) = nat_eq b 45

-- ---- how parts are written

-- an option with its value, in two words or in one
abbrev pub IsOption : List ℕ → List ℕ → List (List ℕ) → Type 0
IsOption name value words =
    (begins_with_dash value ≡ false) × ((words ≡ name ∷ value ∷ []) ⊎ (words ≡ (name ++ codes "=" ++ value) ∷ []))

abbrev pub IsPart : Part → List (List ℕ) → Type 0
IsPart (file path) words = ((begins_with_dash path ≡ false) ⊎ (path ≡ codes "-")) × (words ≡ path ∷ [])
IsPart (budget value) words = IsOption (codes "--budget") value words
IsPart (check value) words = IsOption (codes "--check") value words
IsPart certs words = words ≡ codes "--certs" ∷ []

abbrev pub AreParts : List Part → List (List ℕ) → Type 0
AreParts [] words = words ≡ []
AreParts (part ∷ parts) words =
    (own : List (List ℕ)) × (rest : List (List ℕ)) × (words ≡ own ++ rest) × IsPart part own × AreParts parts rest

-- parts in front of `--`, and files behind it
pub record IsMarkedLine (parts : List Part) (words : List (List ℕ)) : Type 0 where
  pub front : List Part
  pub written : List (List ℕ)
  pub files : List (List ℕ)
  pub whole : words ≡ written ++ codes "--" ∷ files
  pub in_front : AreParts front written
  pub all : parts ≡ front ++ map file files

abbrev pub IsLine : List Part → List (List ℕ) → Type 0
IsLine parts words = AreParts parts words ⊎ IsMarkedLine parts words

-- ---- what parts give

abbrev pub files_in : List Part → List (List ℕ)
files_in [] = []
files_in (file path ∷ parts) = path ∷ files_in parts
files_in (budget value ∷ parts) = files_in parts
files_in (check value ∷ parts) = files_in parts
files_in (certs ∷ parts) = files_in parts

abbrev pub budgets_in : List Part → List (List ℕ)
budgets_in [] = []
budgets_in (file path ∷ parts) = budgets_in parts
budgets_in (budget value ∷ parts) = value ∷ budgets_in parts
budgets_in (check value ∷ parts) = budgets_in parts
budgets_in (certs ∷ parts) = budgets_in parts

abbrev pub checks_in : List Part → List (List ℕ)
checks_in [] = []
checks_in (file path ∷ parts) = checks_in parts
checks_in (budget value ∷ parts) = checks_in parts
checks_in (check value ∷ parts) = value ∷ checks_in parts
checks_in (certs ∷ parts) = checks_in parts

-- the forms that are asked for
abbrev pub forms_in : List Part → List Form
forms_in [] = []
forms_in (file path ∷ parts) = forms_in parts
forms_in (budget value ∷ parts) = forms_in parts
forms_in (check value ∷ parts) = forms_in parts
forms_in (certs ∷ parts) = Certs ∷ forms_in parts

-- ---- what a line asks for

-- the number that decimal digits spell, after those that stand for so_far
abbrev pub decimal_value : ℕ → List ℕ → ℕ
decimal_value so_far [] = so_far
decimal_value so_far (b ∷ bs) = decimal_value (10 * so_far + (b - 48)) bs

-- 1 to 10 digits that spell a number from 1 to 1,000,000
pub record IsBudget (value : List ℕ) (number : ℕ) : Type 0 where
  pub digits : list_all is_ascii_digit value ≡ true
  pub some_digit : 0 < length value
  pub few_digits : length value ≤ 10
  pub spells : decimal_value 0 value ≡ number
  pub not_zero : 0 < number
  pub not_large : number ≤ LARGEST_BUDGET

-- the one that is given, or else 200,000
abbrev pub GivesBudget : List (List ℕ) → ℕ → Type 0
GivesBudget [] number = number ≡ DEFAULT_BUDGET
GivesBudget (value ∷ []) number = IsBudget value number
GivesBudget (value ∷ more ∷ values) number = ⊥

-- the one that is given, or else text
abbrev pub GivesForm : List Form → Form → Type 0
GivesForm [] form = form ≡ Text
GivesForm (given ∷ []) form = form ≡ given
GivesForm (given ∷ more ∷ forms) form = ⊥

-- each option at most once, and `--check` with no other
abbrev pub AsksFor : List (List ℕ) → List Form → List (List ℕ) → Asked → Type 0
AsksFor budgets forms checked (judges number form) = GivesBudget budgets number × GivesForm forms form × (checked ≡ [])
AsksFor budgets forms checked (checks path) = (budgets ≡ []) × (forms ≡ []) × (checked ≡ path ∷ []) × (path ≢ [])

-- the words are a command line that asks for this, of two files
pub record Says (words : List (List ℕ)) (wanted : Wanted) : Type 0 where
  pub parts : List Part
  pub line : IsLine parts words
  pub files : files_in parts ≡ wanted.paths.schema ∷ wanted.paths.queries ∷ []
  pub asks : AsksFor (budgets_in parts) (forms_in parts) (checks_in parts) wanted.asked
