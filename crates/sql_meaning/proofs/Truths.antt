-- AND and OR of a list from the left, also where parts have no truth.
use Rattle.std.proofs.Common.{◌≡◌, refl, ap, List, ◌∷◌}
use Rattle.std.specs.Prelude.{Ok, Err}
use Rattle.lint_core.specs.Evaluation.{Evaluated, map_ok, all_ok}
use Rattle.lint_core.specs.Truth.{least, greatest, and_of, or_of}
use Rattle.lint_core.specs.declared.database.Truth.TheVariants.{False, Unknown, True}
use Rattle.lint_core.specs.declared.database.Truth.{Truth}
use Rattle.sql_meaning.specs.Stops.{Gives}
use Rattle.sql_meaning.specs.declared.stop.TruthStop.{TruthStop}
use Rattle.sql_meaning.specs.declared.stop.TruthStop.TheVariants.{TwoRows, NoMemory}

pub least-assoc : (a b c : Truth) → least a (least b c) ≡ least (least a b) c
least-assoc False b c = refl
least-assoc Unknown False c = refl
least-assoc Unknown Unknown False = refl
least-assoc Unknown Unknown Unknown = refl
least-assoc Unknown Unknown True = refl
least-assoc Unknown True c = refl
least-assoc True b c = refl

pub greatest-assoc : (a b c : Truth) → greatest a (greatest b c) ≡ greatest (greatest a b) c
greatest-assoc True b c = refl
greatest-assoc Unknown True c = refl
greatest-assoc Unknown Unknown False = refl
greatest-assoc Unknown Unknown Unknown = refl
greatest-assoc Unknown Unknown True = refl
greatest-assoc Unknown False c = refl
greatest-assoc False b c = refl

pub least-true : (a : Truth) → least a True ≡ a
least-true False = refl
least-true Unknown = refl
least-true True = refl

pub greatest-false : (a : Truth) → greatest a False ≡ a
greatest-false False = refl
greatest-false Unknown = refl
greatest-false True = refl

pub no_memory : {A : Type 0} (x : Evaluated A) → Gives x (Err NoMemory)
no_memory (Ok a) = tt
no_memory (Err place) = tt

-- a stop comes from whatever the evaluated part goes into
pub stops_map : {A B : Type 0} (f : A → B) (x : Evaluated A) (stop : TruthStop) → Gives x (Err stop) → Gives (map_ok f x) (Err stop)
stops_map f (Ok a) (TwoRows span) gives = gives
stops_map f (Ok a) NoMemory gives = tt
stops_map f (Err place) (TwoRows span) gives = gives
stops_map f (Err place) NoMemory gives = tt

and_ok : (a b : Truth) (xs : Evaluated (List Truth)) → map_ok (least a) (map_ok and_of (map_ok (λ later. b ∷ later) xs)) ≡ map_ok (least (least a b)) (map_ok and_of xs)
and_ok a b (Ok ts) = ap Ok (least-assoc a b (and_of ts))
and_ok a b (Err place) = refl

pub and_step : (a b : Truth) (x : Evaluated Truth) (xs : List (Evaluated Truth)) → Gives x (Ok b) →
    map_ok (least a) (map_ok and_of (all_ok (x ∷ xs))) ≡ map_ok (least (least a b)) (map_ok and_of (all_ok xs))
and_step a b (Ok t) xs gives = rw gives (and_ok a t (all_ok xs))
and_step a b (Err place) xs gives = absurd gives

pub and_stops : (a : Truth) (x : Evaluated Truth) (xs : List (Evaluated Truth)) (stop : TruthStop) → Gives x (Err stop) →
    Gives (map_ok (least a) (map_ok and_of (all_ok (x ∷ xs)))) (Err stop)
and_stops a (Ok t) xs (TwoRows span) gives = absurd gives
and_stops a (Ok t) xs NoMemory gives = no_memory (map_ok (least a) (map_ok and_of (all_ok (Ok t ∷ xs))))
and_stops a (Err place) xs (TwoRows span) gives = gives
and_stops a (Err place) xs NoMemory gives = tt

or_ok : (a b : Truth) (xs : Evaluated (List Truth)) → map_ok (greatest a) (map_ok or_of (map_ok (λ later. b ∷ later) xs)) ≡ map_ok (greatest (greatest a b)) (map_ok or_of xs)
or_ok a b (Ok ts) = ap Ok (greatest-assoc a b (or_of ts))
or_ok a b (Err place) = refl

pub or_step : (a b : Truth) (x : Evaluated Truth) (xs : List (Evaluated Truth)) → Gives x (Ok b) →
    map_ok (greatest a) (map_ok or_of (all_ok (x ∷ xs))) ≡ map_ok (greatest (greatest a b)) (map_ok or_of (all_ok xs))
or_step a b (Ok t) xs gives = rw gives (or_ok a t (all_ok xs))
or_step a b (Err place) xs gives = absurd gives

pub or_stops : (a : Truth) (x : Evaluated Truth) (xs : List (Evaluated Truth)) (stop : TruthStop) → Gives x (Err stop) →
    Gives (map_ok (greatest a) (map_ok or_of (all_ok (x ∷ xs)))) (Err stop)
or_stops a (Ok t) xs (TwoRows span) gives = absurd gives
or_stops a (Ok t) xs NoMemory gives = no_memory (map_ok (greatest a) (map_ok or_of (all_ok (Ok t ∷ xs))))
or_stops a (Err place) xs (TwoRows span) gives = gives
or_stops a (Err place) xs NoMemory gives = tt
