-- What evaluating gives: a value, or the place in the text of the first scalar subquery, in the order of
-- evaluation, that gives two rows (ISO/IEC 9075:1992, 7.11: the cardinality of a scalar subquery is not greater
-- than one). Evaluation is strict, which is this project's own rule: what is made of several parts has a value
-- only where each of them has one, also where one part alone would decide.
use Rattle.std.specs.Prelude.{Bool, List, [], ◌∷◌}
use Rattle.std.specs.List.{list_all}
use Rattle.std.specs.Prelude.{Result, Ok, Err}
use Rattle.lint_base.specs.declared.place.Span.{Span}

abbrev pub Evaluated : Type 0 → Type 0
Evaluated A = Result A Span

-- f of the value; or the place that stands in for it
abbrev pub and_then : {A B : Type 0} → (A → Evaluated B) → Evaluated A → Evaluated B
and_then f (Ok a) = f a
and_then f (Err place) = Err place

-- alike, where f always gives a value
abbrev pub map_ok : {A B : Type 0} → (A → B) → Evaluated A → Evaluated B
map_ok f (Ok a) = Ok (f a)
map_ok f (Err place) = Err place

-- all of them from the left, or the first place
abbrev pub all_ok : {A : Type 0} → List (Evaluated A) → Evaluated (List A)
all_ok [] = Ok []
all_ok (x ∷ xs) = and_then (λ here. map_ok (λ later. here ∷ later) (all_ok xs)) x

-- whether all hold, where it is known of each
abbrev pub all_hold : List (Evaluated Bool) → Evaluated Bool
all_hold facts = map_ok (list_all (λ fact. fact)) (all_ok facts)
