use Rattle.std.proofs.Common.{◌≡◌, ◌∙◌, ◌<◌, sym, ap, refl, ℕ, zero, suc, Bool, true, false, nat_eq, List, [], ◌∷◌, arith}
use Rattle.std.proofs.lemmas.Bool.{both_ways}
use Rattle.std.proofs.lemmas.Bool.Decides.{nat_tests}
use Rattle.std.specs.Option.{option_map_or}
use Rattle.std.specs.Prelude.{Option, Some}
use Rattle.lint_core.specs.declared.condition.Cond.{fold-roll-Cond}
use Rattle.lint_core.specs.declared.condition.Cond.TheVariants as c
use Rattle.lint_core.specs.declared.condition.Cond.TheOpen.{Cond-F}
use Rattle.lint_core.specs.Fits.{at_entry}
use Rattle.lint_core.specs.Database.{Place}
use Rattle.worked_laws.specs.Examples.{nowhere, the_column}
use Rattle.lint_core.specs.declared.scope.Scope.{Scope}
use Rattle.question_laws.specs.Alike.{HaveOneRow}
use Rattle.question_laws.specs.Named.{names_at, names_at_step, term_names_at}
use Rattle.worked_laws.proofs.standpoints.worked_standpoints.Goals as goal

names_is : (level entry : ℕ) → names_at level entry (c.IsNull the_column false nowhere) ≡ term_names_at level entry the_column
names_is level entry =
    ap (names_at level entry) (sym (c.rolls-IsNull the_column false nowhere))
    ∙ fold-roll-Cond Bool Bool (names_at_step level entry) (λ block. block.cond) (Cond-F.IsNull the_column false nowhere)

-- where the first entry has the row at both, the condition names no more
first_alone : (one other : Scope) (rows others : List Place) → HaveOneRow one other rows others 0 0 → (level entry table : ℕ) →
    at_entry ((0 ∷ 1 ∷ []) ∷ []) level entry ≡ Some table → names_at level entry (c.IsNull the_column false nowhere) ≡ true → HaveOneRow one other rows others level entry
first_alone one other rows others here zero zero table at named = here
first_alone one other rows others here zero (suc entry) table at named =
    let no : nat_eq 0 (suc entry) ≡ false = grind (arith, nat_tests) in
    absurd (both_ways (nat_eq 0 (suc entry)) no (sym (names_is 0 (suc entry)) ∙ named))
first_alone one other rows others here (suc level) entry table at named = cc

are_two : (a b : ℕ) → a < b → a ≡ b → ⊥
are_two a b low same = omega arith

abbrev the_row : Place
the_row = record { table = 0; row = 3 }

abbrev wide : Scope
wide = record { levels = (0 ∷ 7 ∷ []) ∷ []; tables = (0 ∷ 1 ∷ []) ∷ []; depth = 1 }

abbrev short : Scope
short = record { levels = (0 ∷ []) ∷ []; tables = (0 ∷ 1 ∷ []) ∷ []; depth = 1 }

abbrev turned : Scope
turned = record { levels = (1 ∷ 0 ∷ []) ∷ []; tables = (0 ∷ 1 ∷ []) ∷ []; depth = 2 }

abbrev others : List Place
others = record { table = 5; row = 2 } ∷ the_row ∷ []

pub returns-clause-no_row : goal.returns-clause-no_row
returns-clause-no_row c = record {
  tables = refl;
  depth = refl;
  other_depth = refl;
  levels = refl;
  other_levels = refl;
  entries = first_alone wide turned (the_row ∷ []) others (record { row = the_row; in_one = refl; in_other = refl });
}

pub returns-clause-no_variable : goal.returns-clause-no_variable
returns-clause-no_variable c = record {
  tables = refl;
  depth = refl;
  other_depth = refl;
  levels = refl;
  other_levels = refl;
  entries = first_alone short turned (the_row ∷ []) others (record { row = the_row; in_one = refl; in_other = refl });
}

pub returns-clause-other_row : goal.returns-clause-other_row
returns-clause-other_row c = λ same. let here = same.entries 0 0 0 refl (names_is 0 0) in
    are_two 3 4 (omega arith) (ap (λ (place : Option Place). option_map_or (λ (p : Place). p.row) place 0) (here.in_one ∙ sym here.in_other))
