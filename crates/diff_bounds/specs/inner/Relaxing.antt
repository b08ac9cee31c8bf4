-- What holds while edges are relaxed, and what each step does.
use Rattle.std.specs.Prelude.{◌≡◌, ◌≢◌, ◌⊎◌, ℕ, ℤ, pos, negsuc, ◌+ℤ◌, ◌≤ℤ◌, ◌<ℤ◌, ◌+◌, ◌*◌, ◌^◌, ◌<◌, ◌≤◌, Bool, true, false, List, [], ◌∷◌, length, sum_by, Option, Some, None, slice_index_or}
use Rattle.diff_bounds.specs.declared.system.Edge.{Edge}
use Rattle.diff_bounds.specs.System.{value_in, Holds}
use Rattle.diff_bounds.specs.Rings.{edge_at, IsNegativeRing, IsSimple}
use Rattle.diff_bounds.specs.declared.relaxing.Search.{Search}

-- the edge that last lowered the variable, if any
abbrev pub reason_of : List (Option ℕ) → ℕ → Option ℕ
reason_of reasons variable = slice_index_or reasons variable None

-- the reasons lead from `at` along these edges to a variable with no reason
abbrev pub Ends : List Edge → List (Option ℕ) → ℕ → List ℕ → Type 0
Ends edges reasons at [] = reason_of reasons at ≡ None
Ends edges reasons at (e ∷ es) = (reason_of reasons at ≡ Some e) × Ends edges reasons (edge_at edges e).right es

-- from every variable they do
abbrev pub AllEnd : List Edge → List (Option ℕ) → Type 0
AllEnd edges reasons = (at : ℕ) → (es : List ℕ) × Ends edges reasons at es

-- the reasons lead from `at` along these edges to `end`
abbrev pub Runs : List Edge → List (Option ℕ) → ℕ → List ℕ → ℕ → Type 0
Runs edges reasons at [] end = at ≡ end
Runs edges reasons at (e ∷ es) end = (reason_of reasons at ≡ Some e) × Runs edges reasons (edge_at edges e).right es end

-- the same, and no variable before the end is `barred`
abbrev pub Reaches : List Edge → List (Option ℕ) → ℕ → ℕ → List ℕ → ℕ → Type 0
Reaches edges reasons barred at [] end = at ≡ end
Reaches edges reasons barred at (e ∷ es) end =
    (at ≢ barred) × (reason_of reasons at ≡ Some e) × Reaches edges reasons barred (edge_at edges e).right es end

-- the reasons lead from `at` along these edges to the first time that they meet `to`
abbrev pub ComesTo : List Edge → List (Option ℕ) → ℕ → ℕ → List ℕ → Type 0
ComesTo edges reasons to at es = Reaches edges reasons to at es to

-- the reason of a variable is an edge that starts at it and holds it down; it was lowered later than the edge's right end, or the edge asks for less by now
pub record IsReason (edges : List Edge) (values : List ℤ) (time : ℕ → ℕ) (at e : ℕ) : Type 0 where
  pub number : e < length edges
  pub starts : (edge_at edges e).left ≡ at
  pub lowers : (value_in values (edge_at edges e).right +ℤ (edge_at edges e).most) ≤ℤ value_in values at
  pub newer : (time (edge_at edges e).right < time at) ⊎ ((value_in values (edge_at edges e).right +ℤ (edge_at edges e).most) <ℤ value_in values at)

-- what holds between the steps, where `time` says when each variable was last lowered
pub record IsHeld (edges : List Edge) (vars : ℕ) (values : List ℤ) (reasons : List (Option ℕ)) : Type 0 where
  pub values_length : length values ≡ vars
  pub reasons_length : length reasons ≡ vars
  pub untouched : (at : ℕ) → reason_of reasons at ≡ None → value_in values at ≡ pos 0
  pub falls : (at : ℕ) → value_in values at ≤ℤ pos 0
  pub now : ℕ
  pub time : ℕ → ℕ
  pub past : (at : ℕ) → time at ≤ now
  pub lowered : (at e : ℕ) → reason_of reasons at ≡ Some e → IsReason edges values time at e

-- the same of a search
abbrev pub IsSound : List Edge → ℕ → Search → Type 0
IsSound edges vars search = IsHeld edges vars search.values.items search.reasons.items

-- the reasons are those of some values
abbrev pub AreReasons : List Edge → List (Option ℕ) → Type 0
AreReasons edges reasons = (values : List ℤ) × IsHeld edges (length reasons) values reasons

-- no value lies lower than so many edges can bring it
abbrev pub IsAbove : List ℤ → ℕ → Type 0
IsAbove values count = (at : ℕ) → pos 0 ≤ℤ (value_in values at +ℤ pos (count * 2 ^ 66))

-- a number as a natural one, 0 where it is negative
abbrev pub positive_part : ℤ → ℕ
positive_part (pos n) = n
positive_part (negsuc n) = 0

-- how far the values can still fall
abbrev pub height : List ℤ → ℕ
height values = sum_by (λ z. positive_part (z +ℤ pos (2 ^ 88))) values

-- what a step did with one edge: it lowered a value, or the edge holds
abbrev pub DoneTo : List Edge → ℕ → Search → Search → Bool → Type 0
DoneTo edges number old new true = height new.values.items < height old.values.items
DoneTo edges number old new false =
    (new.values.items ≡ old.values.items) × Holds (value_in new.values.items) (edge_at edges number)

-- what the steps did with the edges before the number
abbrev pub DoneBefore : List Edge → ℕ → Search → Search → Bool → Type 0
DoneBefore edges number old new true = height new.values.items < height old.values.items
DoneBefore edges number old new false =
    (new.values.items ≡ old.values.items) × ((k : ℕ) → k < number → Holds (value_in new.values.items) (edge_at edges k))

-- what they did with all edges
abbrev pub DoneToAll : List Edge → Search → Search → Bool → Type 0
DoneToAll edges old new lowered = DoneBefore edges (length edges) old new lowered

-- ---- marks, by which a closed chain of reasons is found

-- the root from whose chain the variable was marked, if it was
abbrev pub mark_of : List (Option ℕ) → ℕ → Option ℕ
mark_of marks variable = slice_index_or marks variable None

-- the marks are below `root`, and the chain of each marked variable ends
abbrev pub IsSettled : List Edge → List (Option ℕ) → ℕ → List (Option ℕ) → Type 0
IsSettled edges reasons root marks =
    (at mark : ℕ) → mark_of marks at ≡ Some mark → (mark < root) × ((es : List ℕ) × Ends edges reasons at es)

-- the same of the marks up to `root`, and of `root`
pub record IsSettledAfter (edges : List Edge) (reasons : List (Option ℕ)) (root : ℕ) (marks : List (Option ℕ)) : Type 0 where
  pub settled : IsSettled edges reasons (root + 1) marks
  pub ends : (es : List ℕ) × Ends edges reasons root es

-- the edge is a reason, and the reasons lead from its right end to its left end
pub record Closes (edges : List Edge) (reasons : List (Option ℕ)) (number : ℕ) : Type 0 where
  pub reason : reason_of reasons (edge_at edges number).left ≡ Some number
  pub back : (es : List ℕ) × ComesTo edges reasons (edge_at edges number).left (edge_at edges number).right es

-- a ring that is an answer
pub record IsAnswerRing (edges : List Edge) (vars : ℕ) (ring : List ℕ) : Type 0 where
  pub negative : IsNegativeRing edges ring
  pub short : length ring ≤ vars
  pub simple : IsSimple edges ring
