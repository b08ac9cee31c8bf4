-- For the laws about AND, OR and IN: the order false, unknown, true of the truth values, and what is the least
-- or the greatest of some of them.
use Rattle.std.specs.Prelude.{ℕ, Bool, true, false, ◌≡◌, List, map, if◌then◌else◌}
use Rattle.std.specs.Prelude.{Ok}
use Rattle.std.specs.List.{list_all, list_any}
use Rattle.lint_core.specs.declared.condition.Cond.{Cond}
use Rattle.lint_core.specs.declared.database.Database.{Database}
use Rattle.lint_core.specs.declared.database.Truth.{Truth}
use Rattle.lint_core.specs.declared.database.Truth.TheVariants.{False, Unknown, True}
use Rattle.lint_core.specs.Condition.{truth}
use Rattle.lint_core.specs.Truth.{is_true}

-- a is b or stands before it
abbrev pub is_at_most : Truth → Truth → Bool
is_at_most False b = true
is_at_most Unknown False = false
is_at_most Unknown Unknown = true
is_at_most Unknown True = true
is_at_most True b = is_true b

abbrev pub is_unknown : Truth → Bool
is_unknown False = false
is_unknown Unknown = true
is_unknown True = false

-- it is at most each of them, and what is at most each of them is at most it
pub record IsLeast (truths : List Truth) (truth : Truth) : Type 0 where
  pub at_most_each : list_all (λ other. is_at_most truth other) truths ≡ true
  pub above_others : (bound : Truth) → list_all (λ other. is_at_most bound other) truths ≡ true → is_at_most bound truth ≡ true

-- each of them is at most it, and it is at most what each of them is at most
pub record IsGreatest (truths : List Truth) (truth : Truth) : Type 0 where
  pub at_least_each : list_all (λ other. is_at_most other truth) truths ≡ true
  pub below_others : (bound : Truth) → list_all (λ other. is_at_most other bound) truths ≡ true → is_at_most truth bound ≡ true

-- true where one is true, else unknown where one is unknown, else false
abbrev pub disjunction : List Truth → Truth
disjunction truths = if list_any is_true truths then True else (if list_any is_unknown truths then Unknown else False)

-- each of the conditions has a truth at the binding, and these are they
abbrev pub HaveTruths : Database → List Cond → List (List ℕ) → List (List ℕ) → List Truth → Type 0
HaveTruths db conds tables binding truths = map (λ cond. truth db cond tables binding) conds ≡ map Ok truths
