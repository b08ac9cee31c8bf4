-- What the parts give, by the grammar and by the reading.
use Rattle.std.proofs.Common.{◌≡◌, ◌≢◌, sym, ap, subst, refl, ℕ, ◌<◌, ◌≤◌, ◌&&◌, true, false, nat_lt, nat_le, List, [], ◌∷◌, length, Option, Some, None, if◌then◌else◌, arith}
use Rattle.std.proofs.lemmas.Bool.{and_parts}
use Rattle.std.proofs.lemmas.Bool.Decides.{nat_tests}
use Rattle.std.proofs.lemmas.Option.{same_Some}
use Rattle.command_words.specs.declared.wanted.Form.{Form}
use Rattle.command_words.specs.declared.wanted.TheConstants.{LARGEST_BUDGET}
use Rattle.command_words.specs.Wanted.{Paths, Asked, judges, checks, Wanted}
use Rattle.command_words.specs.CommandLine.{decimal_value, IsBudget, GivesBudget, GivesForm, AsksFor}
use Rattle.command_words.specs.WantedOf.{is_numeral, within_limits, number_of, budget_of, form_of, judging, checking, asked_of, paths_of, both_of}
use Rattle.command_words.proofs.Numerals.{IsShort, short}

-- ---- the budget

within : (number limit : ℕ) → within_limits number ≡ Some limit → (0 < number) × (number ≤ LARGEST_BUDGET) × (number ≡ limit)
within number limit is =
    (elim (nat_lt 0 number && nat_le number LARGEST_BUDGET) as (λ b. (nat_lt 0 number && nat_le number LARGEST_BUDGET) ≡ b → (if b then Some number else None) ≡ Some limit → (0 < number) × (number ≤ LARGEST_BUDGET) × (number ≡ limit)) [
      | true ↦ λ test found.
          let parts = and_parts (nat_lt 0 number) (nat_le number LARGEST_BUDGET) test in
          let above : nat_lt 0 number ≡ true = parts.0 in
          let below : nat_le number LARGEST_BUDGET ≡ true = parts.1 in
          (grind (arith, nat_tests), grind (arith, nat_tests), same_Some number limit found)
      | false ↦ λ test found. cc
    ]) refl is

budget_found : (value : List ℕ) (number : ℕ) → number_of value ≡ Some number → IsBudget value number
budget_found value number is =
    (elim (is_numeral value) as (λ b. is_numeral value ≡ b → (if b then within_limits (decimal_value 0 value) else None) ≡ Some number → IsBudget value number) [
      | true ↦ λ test found.
          let s : IsShort value = short value test in
          let w = within (decimal_value 0 value) number found in
          let above : 0 < number = subst (λ n. 0 < n) w.2 w.0 in
          let below : number ≤ LARGEST_BUDGET = subst (λ n. n ≤ LARGEST_BUDGET) w.2 w.1 in
          record { digits = s.digits; some_digit = s.some_digit; few_digits = s.few; spells = w.2; not_zero = above; not_large = below }
      | false ↦ λ test found. cc
    ]) refl is

budget_is : (value : List ℕ) (number : ℕ) → IsBudget value number → number_of value ≡ Some number
budget_is value number is =
    let some_digit : nat_lt 0 (length value) ≡ true = let h = is.some_digit in grind (arith, nat_tests) in
    let few : nat_le (length value) 10 ≡ true = let h = is.few_digits in grind (arith, nat_tests) in
    let above : nat_lt 0 number ≡ true = let h = is.not_zero in grind (arith, nat_tests) in
    let below : nat_le number LARGEST_BUDGET ≡ true = let h = is.not_large in grind (arith, nat_tests) in
    let numeral : is_numeral value ≡ true = rw (some_digit, few, is.digits) refl in
    rw (numeral, is.spells, above, below) refl

budgets_found : (budgets : List (List ℕ)) (number : ℕ) → budget_of budgets ≡ Some number → GivesBudget budgets number
budgets_found [] number is = sym (same_Some _ _ is)
budgets_found (value ∷ []) number is = budget_found value number is
budgets_found (value ∷ more ∷ values) number is = cc

budgets_are : (budgets : List (List ℕ)) (number : ℕ) → GivesBudget budgets number → budget_of budgets ≡ Some number
budgets_are [] number is = ap (λ (n : ℕ). Some n) (sym is)
budgets_are (value ∷ []) number is = budget_is value number is
budgets_are (value ∷ more ∷ values) number is = absurd is

-- ---- the form

form_found : (forms : List Form) (form : Form) → form_of forms ≡ Some form → GivesForm forms form
form_found [] form is = sym (same_Some _ _ is)
form_found (given ∷ []) form is = sym (same_Some _ _ is)
form_found (given ∷ more ∷ forms) form is = cc

form_is : (forms : List Form) (form : Form) → GivesForm forms form → form_of forms ≡ Some form
form_is [] form is = ap (λ (f : Form). Some f) (sym is)
form_is (given ∷ []) form is = ap (λ (f : Form). Some f) (sym is)
form_is (given ∷ more ∷ forms) form is = absurd is

-- ---- what is asked

module _ (budgets : List (List ℕ)) (forms : List Form) where
  judged : (number : Option ℕ) (form : Option Form) (asked : Asked) → budget_of budgets ≡ number → form_of forms ≡ form → judging number form ≡ Some asked → AsksFor budgets forms [] asked
  judged None form asked n f is = cc
  judged (Some number) None asked n f is = cc
  judged (Some number) (Some form) asked n f is =
      subst (λ a. AsksFor budgets forms [] a) (same_Some (judges number form) asked is) (budgets_found budgets number n, form_found forms form f, refl)

checked : (path : List ℕ) (asked : Asked) → checking path ≡ Some asked → AsksFor [] [] (path ∷ []) asked
checked [] asked is = cc
checked (b ∷ bs) asked is =
    let some_byte : (b ∷ bs) ≢ [] = λ e. cc in
    subst (λ a. AsksFor [] [] ((b ∷ bs) ∷ []) a) (same_Some (checks (b ∷ bs)) asked is) (refl, refl, refl, some_byte)

pub asks_found : (budgets : List (List ℕ)) (forms : List Form) (paths : List (List ℕ)) (asked : Asked) → asked_of budgets forms paths ≡ Some asked → AsksFor budgets forms paths asked
asks_found budgets forms [] asked is = judged budgets forms (budget_of budgets) (form_of forms) asked refl refl is
asks_found [] [] (path ∷ []) asked is = checked path asked is
asks_found [] (form ∷ forms) (path ∷ []) asked is = cc
asks_found (value ∷ budgets) forms (path ∷ []) asked is = cc
asks_found budgets forms (path ∷ more ∷ paths) asked is = cc

checking_is : (path : List ℕ) → path ≢ [] → checking path ≡ Some (checks path)
checking_is [] some_byte = absurd (some_byte refl)
checking_is (b ∷ bs) some_byte = refl

pub asks_are : (budgets : List (List ℕ)) (forms : List Form) (paths : List (List ℕ)) (asked : Asked) → AsksFor budgets forms paths asked → asked_of budgets forms paths ≡ Some asked
asks_are budgets forms paths (judges number form) (given, written, none) =
    let n : budget_of budgets ≡ Some number = budgets_are budgets number given in
    let f : form_of forms ≡ Some form = form_is forms form written in
    rw none (rw (n, f) refl)
asks_are budgets forms paths (checks path) (no_budget, no_form, one, some_byte) =
    let c : checking path ≡ Some (checks path) = checking_is path some_byte in
    rw (no_budget, no_form, one) c

-- ---- the files, and both

pub files_found : (files : List (List ℕ)) (paths : Paths) → paths_of files ≡ Some paths → files ≡ paths.schema ∷ paths.queries ∷ []
files_found [] paths is = cc
files_found (schema ∷ []) paths is = cc
files_found (schema ∷ queries ∷ []) paths is = ap (λ (p : Paths). p.schema ∷ p.queries ∷ []) (same_Some _ _ is)
files_found (schema ∷ queries ∷ more ∷ files) paths is = cc

pub both_found : (paths : Option Paths) (asked : Option Asked) (wanted : Wanted) → both_of paths asked ≡ Some wanted → (paths ≡ Some wanted.paths) × (asked ≡ Some wanted.asked)
both_found None asked wanted is = cc
both_found (Some paths) None wanted is = cc
both_found (Some paths) (Some asked) wanted is =
    let same : record { paths = paths; asked = asked } ≡ wanted = same_Some _ _ is in
    (ap (λ (w : Wanted). Some w.paths) same, ap (λ (w : Wanted). Some w.asked) same)
