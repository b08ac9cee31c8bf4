-- What is read is what the grammar says.
use Rattle.std.proofs.Common.{◌≡◌, ◌∙◌, sym, ap, ap₂, refl, arith, option_and_then, option_map, IfSome, ◌<◌, ◌≤◌, ℕ, List, [], ◌∷◌, Option, Some, None}
use Rattle.command_words.specs.declared.parts.Expected.TheVariants as expected
use Rattle.command_words.specs.declared.wanted.Form.{Form}
use Rattle.command_words.specs.declared.wanted.Command.{Command}
use Rattle.command_words.specs.Said.{asked_by, said}
use Rattle.command_words.specs.Wanted.{Asked, judges, checks, Wanted, KeepsLimits}
use Rattle.command_words.specs.CommandLine.{Part, files_in, budgets_in, forms_in, checks_in, GivesBudget, AsksFor, Says}
use Rattle.command_words.specs.WantedOf.{asked_of, paths_of, both_of, parts_from, wanted_by, wanted_of}
use Rattle.command_words.proofs.Lines.{line_sound, line_read}
use Rattle.command_words.proofs.Gives.{asks_found, asks_are, files_found, both_found}

said_by : (words : List (List ℕ)) (wanted : Wanted) (parts : List Part) → parts_from expected.Part words ≡ Some parts → wanted_by parts ≡ Some wanted → Says words wanted
said_by words wanted parts read is =
    let both = both_found (paths_of (files_in parts)) (asked_of (budgets_in parts) (forms_in parts) (checks_in parts)) wanted is in
    record {
      parts = parts;
      line = line_sound words parts read;
      files = files_found (files_in parts) wanted.paths both.0;
      asks = asks_found (budgets_in parts) (forms_in parts) (checks_in parts) wanted.asked both.1;
    }

pub read_is_said : (words : List (List ℕ)) (wanted : Wanted) → wanted_of words ≡ Some wanted → Says words wanted
read_is_said words wanted is =
    (elim (parts_from expected.Part words) as (λ r. parts_from expected.Part words ≡ r → option_and_then wanted_by r ≡ Some wanted → Says words wanted) [
      | None ↦ λ read then_is. cc
      | Some parts ↦ λ read then_is. said_by words wanted parts read then_is
    ]) refl is

pub said_is_read : (words : List (List ℕ)) (wanted : Wanted) → Says words wanted → wanted_of words ≡ Some wanted
said_is_read words wanted says =
    let paths : paths_of (files_in says.parts) ≡ Some wanted.paths = ap paths_of says.files in
    let asked : asked_of (budgets_in says.parts) (forms_in says.parts) (checks_in says.parts) ≡ Some wanted.asked = asks_are (budgets_in says.parts) (forms_in says.parts) (checks_in says.parts) wanted.asked says.asks in
    ap (option_and_then wanted_by) (line_read says.parts words says.line) ∙ ap₂ both_of paths asked

-- ---- budgets

given_small : (budgets : List (List ℕ)) (number : ℕ) → GivesBudget budgets number → (0 < number) × (number ≤ 1000000)
given_small [] number is = (omega (arith, is), omega (arith, is))
given_small (value ∷ []) number is = (is.not_zero, is.not_large)
given_small (value ∷ more ∷ values) number is = absurd is

small : (budgets : List (List ℕ)) (forms : List Form) (paths : List (List ℕ)) (asked : Asked) → AsksFor budgets forms paths asked → KeepsLimits asked
small budgets forms paths (judges number form) is = given_small budgets number is.0
small budgets forms paths (checks path) is = tt

pub limits_kept : (words : List (List ℕ)) (wanted : Wanted) → wanted_of words ≡ Some wanted → KeepsLimits wanted.asked
limits_kept words wanted is =
    let says : Says words wanted = read_is_said words wanted is in
    small (budgets_in says.parts) (forms_in says.parts) (checks_in says.parts) wanted.asked says.asks

-- the same of the command that was read
pub command_keeps : (words : List (List ℕ)) (command : Option Command) → option_map said command ≡ wanted_of words → IfSome command (λ c. KeepsLimits (asked_by c.task))
command_keeps words None is = tt
command_keeps words (Some command) is = limits_kept words (said command) (sym is)
