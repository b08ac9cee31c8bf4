-- What is bound, or the first rule that fails.
use Rattle.std.specs.Prelude.{ℕ, ◌≡◌, List, [], ◌∷◌, Result, Ok, Err}
use Rattle.lint_base.specs.declared.place.Span.{Span}
use Rattle.lint_base.specs.declared.place.Fault.{Fault}
use Rattle.lint_base.specs.declared.place.Fault.TheVariants.{TooMany}
use Rattle.lint_base.specs.declared.place.Refusal.{Refusal}
use Rattle.lint_base.specs.declared.place.TextStop.{TextStop}
use Rattle.lint_base.specs.declared.place.TextStop.TheVariants as stop

abbrev pub Bound : Type 0 → Type 0
Bound A = Result A Refusal

abbrev pub refused : {A : Type 0} → Fault → Span → Bound A
refused fault at = Err (record { fault = fault; span = at; count = 0 })

-- refused: one more than the limit; the count is limit + 1
abbrev pub too_many : {A : Type 0} → ℕ → Span → Bound A
too_many count at = Err (record { fault = TooMany; span = at; count = count })

-- what is bound, and then more
unfoldable pub and_then : {A B : Type 0} → Bound A → (A → Bound B) → Bound B
and_then (Err refusal) k = Err refusal
and_then (Ok a) k = k a

-- one after the other
unfoldable pub all_bound : {A : Type 0} → List (Bound A) → Bound (List A)
all_bound [] = Ok []
all_bound (first ∷ rest) = and_then first (λ a. and_then (all_bound rest) (λ rest_bound. Ok (a ∷ rest_bound)))

-- what a call answers: what is bound or the refusal, unless memory ran out
abbrev pub Gives : {A : Type 0} → Bound A → Result A TextStop → Type 0
Gives bound (Ok a) = bound ≡ Ok a
Gives bound (Err stop.NoMemory) = Unit {0}
Gives bound (Err (stop.Refused refusal)) = bound ≡ Err refusal
