-- What the loose interpretation gives: it is decided everywhere, so its clauses compute to tests.
use Rattle.std.proofs.Common.{◌≡◌, ◌∙◌, refl, sym, ap, ap₂, Bool, true, false, ◌&&◌, [], ◌∷◌}
use Rattle.std.specs.Prelude.{Ok, if◌then◌else◌}
use Rattle.lint_core.specs.Evaluation.{Evaluated, map_ok}
use Rattle.lint_core.specs.Question.{all_true, is_known_true}
use Rattle.lint_core.specs.Truth.{is_true, truth_of}

-- of points that have the form
pub known_in : (form : Bool) (x : Evaluated Bool) → form ≡ true → is_known_true (if form then x else Ok false) ≡ is_known_true x
known_in form x is = ap (λ b. is_known_true (if b then x else Ok false)) is

-- of points that have not
pub unknown_in : (form : Bool) (x : Evaluated Bool) → form ≡ false → is_known_true (if form then x else Ok false) ≡ false
unknown_in form x is = ap (λ b. is_known_true (if b then x else Ok false)) is

pub known_form : (form : Bool) (x : Evaluated Bool) → is_known_true (if form then x else Ok false) ≡ true → form ≡ true
known_form true x known = refl
known_form false x known = cc

pub truth_is : (b : Bool) → is_true (truth_of b) ≡ b
truth_is true = refl
truth_is false = refl

-- ---- two truths

-- nothing holds beside what does not
pub never_last : (a b : Bool) → (a && (b && false)) ≡ false
never_last true true = refl
never_last true false = refl
never_last false b = refl

both_cases : (form a b more : Bool) → (a && (b && (form && more))) ≡ is_known_true (if form then map_ok (λ both. both && more) (all_true (Ok (truth_of a) ∷ Ok (truth_of b) ∷ [])) else Ok false)
both_cases true true true more = refl
both_cases true true false more = refl
both_cases true false true more = refl
both_cases true false false more = refl
both_cases false a b more = never_last a b

-- two conditions hold at points that have the form where they are apart, and more holds
pub both_known : (form apart a b more : Bool) → form ≡ apart →
    (a && (b && (apart && more))) ≡ is_known_true (if form then map_ok (λ both. both && more) (all_true (Ok (truth_of a) ∷ Ok (truth_of b) ∷ [])) else Ok false)
both_known form apart a b more is = ap (λ form. a && (b && (form && more))) (sym is) ∙ both_cases form a b more

pair_cases : (form a b : Bool) → (a && (b && (form && true))) ≡ is_known_true (if form then all_true (Ok (truth_of a) ∷ Ok (truth_of b) ∷ []) else Ok false)
pair_cases true true true = refl
pair_cases true true false = refl
pair_cases true false true = refl
pair_cases true false false = refl
pair_cases false a b = never_last a b

pub pair_known : (form apart a b : Bool) → form ≡ apart → (a && (b && (apart && true))) ≡ is_known_true (if form then all_true (Ok (truth_of a) ∷ Ok (truth_of b) ∷ []) else Ok false)
pair_known form apart a b is = ap (λ form. a && (b && (form && true))) (sym is) ∙ pair_cases form a b

-- ---- tests that hold

pub all_three : (a b c d : Bool) → a ≡ true → b ≡ true → c ≡ d → (a && b && c) ≡ d
all_three a b c d first second is = ap₂ (λ a b. a && b && c) first second ∙ is
