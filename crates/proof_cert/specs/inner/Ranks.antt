-- Which clauses count together: those without guards, and those with one guard, by the clause that it names. A clause's rank is how many
-- of them stand before it: the number of its sentence, or that of its part among those of the clause above.
use Rattle.std.specs.Prelude.{◌≡◌, ◌<◌, ◌≤◌, ◌+◌, ℕ, Bool, false, nat_eq, List, [], ◌∷◌, length, take, Option, Some, None, slice_get, slice_set, unwrap_or}
use Rattle.std.specs.List.{filter}
use Rattle.std.specs.Option.{option_map_or}
use Rattle.ground_theory.specs.declared.literal.Clause.{Clause}
use Rattle.ground_theory.specs.declared.literal.Guard.{Guard}

abbrev pub slot_of : List Guard → Option ℕ
slot_of [] = Some 0
slot_of (g ∷ []) = Some (g.clause + 1)
slot_of (g ∷ h ∷ gs) = None

abbrev pub is_in_slot : ℕ → Clause → Bool
is_in_slot slot c = option_map_or (nat_eq slot) (slot_of c.guards) false

abbrev pub count_in : ℕ → List Clause → ℕ
count_in slot clauses = length (filter (is_in_slot slot) clauses)

-- the rank of each clause that is in a slot
abbrev pub AreRanks : List Clause → List ℕ → Type 0
AreRanks clauses ranks = (number slot : ℕ) (c : Clause) → slice_get clauses number ≡ Some c → slot_of c.guards ≡ Some slot → slot ≤ length clauses
    → slice_get ranks number ≡ Some (count_in slot (take number clauses))

-- one more is counted in the slot; the rank is how many there were
abbrev pub IsCounted : Option ℕ → List ℕ → List ℕ → ℕ → Type 0
IsCounted None old new rank = new ≡ old
IsCounted (Some slot) old new rank = (rank ≡ unwrap_or (slice_get old slot) 0) × (new ≡ slice_set old slot (rank + 1))

-- the counts of the first clauses
abbrev pub AreCounts : List Clause → ℕ → List ℕ → Type 0
AreCounts clauses count counts = (slot : ℕ) → slot ≤ length clauses → slice_get counts slot ≡ Some (count_in slot (take count clauses))

-- the ranks of the first clauses
abbrev pub AreFirstRanks : List Clause → ℕ → List ℕ → Type 0
AreFirstRanks clauses count ranks = (number slot : ℕ) (c : Clause) → number < count → slice_get clauses number ≡ Some c → slot_of c.guards ≡ Some slot → slot ≤ length clauses
    → slice_get ranks number ≡ Some (count_in slot (take number clauses))
