-- Lists of too few or too many parts.
use Rattle.std.proofs.Common.{◌≡◌, ◌<◌, ◌≤◌, List, [], ◌∷◌, length, Option, None, refl, arith}
use Rattle.serde_json.specs.Data.{Data}
use Rattle.serde_json.specs.View.{items_view}
use Rattle.serde_json.specs.declared.value.Value.{Value}
use Rattle.cert_format.specs.inner.Found.{edge_items, one_found, two_found, three_found}

pub edge_few : (vs : List Value) → length vs < 2 → edge_items (items_view vs) ≡ None
edge_few [] low = refl
edge_few (v ∷ []) low = refl
edge_few (v ∷ w ∷ vs) low = absurd (omega arith)

pub edge_many : (vs : List Value) → 4 ≤ length vs → edge_items (items_view vs) ≡ None
edge_many [] high = absurd (omega arith)
edge_many (v ∷ []) high = absurd (omega arith)
edge_many (v ∷ w ∷ []) high = absurd (omega arith)
edge_many (v ∷ w ∷ x ∷ []) high = absurd (omega arith)
edge_many (v ∷ w ∷ x ∷ y ∷ vs) high = refl

module _ {A : Type 0} (first : Data → Option A) where
  pub one_few : (vs : List Value) → length vs < 1 → one_found first (items_view vs) ≡ None
  one_few [] low = refl
  one_few (v ∷ vs) low = absurd (omega arith)

  pub one_many : (vs : List Value) → 2 ≤ length vs → one_found first (items_view vs) ≡ None
  one_many [] high = absurd (omega arith)
  one_many (v ∷ []) high = absurd (omega arith)
  one_many (v ∷ w ∷ vs) high = refl

  module _ {B : Type 0} (second : Data → Option B) where
    pub two_few : (vs : List Value) → length vs < 2 → two_found first second (items_view vs) ≡ None
    two_few [] low = refl
    two_few (v ∷ []) low = refl
    two_few (v ∷ w ∷ vs) low = absurd (omega arith)

    pub two_many : (vs : List Value) → 3 ≤ length vs → two_found first second (items_view vs) ≡ None
    two_many [] high = absurd (omega arith)
    two_many (v ∷ []) high = absurd (omega arith)
    two_many (v ∷ w ∷ []) high = absurd (omega arith)
    two_many (v ∷ w ∷ x ∷ vs) high = refl

    module _ {C : Type 0} (third : Data → Option C) where
      pub three_few : (vs : List Value) → length vs < 3 → three_found first second third (items_view vs) ≡ None
      three_few [] low = refl
      three_few (v ∷ []) low = refl
      three_few (v ∷ w ∷ []) low = refl
      three_few (v ∷ w ∷ x ∷ vs) low = absurd (omega arith)

      pub three_many : (vs : List Value) → 4 ≤ length vs → three_found first second third (items_view vs) ≡ None
      three_many [] high = absurd (omega arith)
      three_many (v ∷ []) high = absurd (omega arith)
      three_many (v ∷ w ∷ []) high = absurd (omega arith)
      three_many (v ∷ w ∷ x ∷ []) high = absurd (omega arith)
      three_many (v ∷ w ∷ x ∷ y ∷ vs) high = refl
