-- Sums that stop at the greatest number, and the numbers of the first clauses of nodes.
use Rattle.std.proofs.Common.{◌≡◌, ◌∙◌, sym, ap, ap₂, refl, subst, ℕ, zero, suc, ◌+◌, ◌-◌, ◌^◌, ◌<◌, ◌≤◌, ◌⊎◌, inl, inr, Bool, true, false, List, [], ◌∷◌, ◌++◌, length, map, min, take, get_or, add-one, set, length-set, arith, get_or-set_same, get_or-set_other}
use Rattle.std.proofs.lemmas.Bool.{eqb-true}
use Rattle.std.proofs.lemmas.Bool.Decides.{nat_tests}
use Rattle.std.proofs.Math.Seq.{take-length}
use Rattle.std.proofs.lemmas.List.{length-append, map-append, take-append-le, take_more}
use Rattle.std.proofs.lemmas.List.Sums.{sum_by-append}
use Rattle.std.proofs.lemmas.Option.{same_Some}
use Rattle.std.specs.Prelude.{Some, slice_get, nat_eq, if◌then◌else◌, option_and_then}
use Rattle.std.specs.List.{sum_by}
use Rattle.lint_base.proofs.Lists.{slice_get_front, get_before}
use Rattle.lint_core.specs.Database.{below}
use Rattle.instantiate.specs.declared.spots.Spot.{Spot}
use Rattle.instantiate.specs.inner.Spots.{saturated, size_at, sentence_size, stage_size, size_before, AreMoved, AreBases}
use Rattle.instantiate.specs.inner.Bases.{ArePassed, HaveBases}

module _ {A : Type 0} where
  -- an element of a list with one more at its end
  pub at_more : (xs : List A) (x y : A) (i : ℕ) → slice_get (xs ++ x ∷ []) i ≡ Some y → ((i < length xs) × (slice_get xs i ≡ Some y)) ⊎ ((i ≡ length xs) × (x ≡ y))
  at_more [] x y zero at = inr (refl, same_Some x y at)
  at_more [] x y (suc i) at = cc
  at_more (z ∷ xs) x y zero at = inl (omega arith, at)
  at_more (z ∷ xs) x y (suc i) at =
      elim (at_more xs x y i at) [
        | inl front ↦ let low = front.0 in inl (omega arith, front.1)
        | inr last ↦ inr (ap suc last.0, last.1)
      ]

  pub last_of : (xs : List A) (x : A) (i : ℕ) → i ≡ length xs → slice_get (xs ++ x ∷ []) i ≡ Some x
  last_of [] x i is = ap (slice_get (x ∷ [])) is
  last_of (z ∷ xs) x zero is = absurd (omega arith)
  last_of (z ∷ xs) x (suc i) is = last_of xs x i (omega arith)

size_more : (stage : ℕ) (front : List Spot) (spot : Spot) → sentence_size stage (front ++ spot ∷ []) ≡ sentence_size stage front + size_at stage spot
size_more stage front spot = let e = sum_by-append (size_at stage) front (spot ∷ []) in omega arith

of_stage : (stage : ℕ) (spot : Spot) → spot.stage ≡ stage → size_at stage spot ≡ spot.count
of_stage stage spot is = by (nat_eq spot.stage stage) refl
  where
    by : (b : Bool) → nat_eq spot.stage stage ≡ b → (if b then spot.count else 0) ≡ spot.count
    by true same = refl
    by false same = absurd (grind (arith, nat_tests))

of_other : (stage : ℕ) (spot : Spot) → (spot.stage ≡ stage → ⊥) → size_at stage spot ≡ 0
of_other stage spot never = by (nat_eq spot.stage stage) refl
  where
    by : (b : Bool) → nat_eq spot.stage stage ≡ b → (if b then spot.count else 0) ≡ 0
    by true same = absurd (never (eqb-true spot.stage stage same))
    by false same = refl

either_stage : (m n : ℕ) → (m ≡ n) ⊎ (m ≡ n → ⊥)
either_stage m n = grind arith

module _ (old : List ℕ) where
  -- the next number of the node's stage moves by its clauses
  pub moved_more : (front : List Spot) (spot : Spot) (next : List ℕ) → AreMoved old front next → spot.stage < length next →
      AreMoved old (front ++ spot ∷ []) (set next spot.stage (saturated (get_or next spot.stage 0 + spot.count)))
  moved_more front spot next moved low = record {
    as_many = length-set next spot.stage (saturated (get_or next spot.stage 0 + spot.count)) ∙ moved.as_many;
    each = λ stage within.
        let size = size_more stage front spot in
        let before : get_or next stage 0 ≡ saturated (get_or old stage 0 + sentence_size stage front) = moved.each stage within in
        elim (either_stage spot.stage stage) [
          | inl same ↦
              let own = of_stage stage spot same in
              let here : get_or (set next spot.stage (saturated (get_or next spot.stage 0 + spot.count))) stage 0 ≡ saturated (get_or next stage 0 + spot.count) =
              subst (λ s. get_or (set next spot.stage (saturated (get_or next spot.stage 0 + spot.count))) s 0 ≡ saturated (get_or next s 0 + spot.count)) same
              (get_or-set_same next spot.stage (saturated (get_or next spot.stage 0 + spot.count)) 0 low) in
              omega arith
          | inr never ↦
              let none = of_other stage spot never in
              let here : get_or (set next spot.stage (saturated (get_or next spot.stage 0 + spot.count))) stage 0 ≡ get_or next stage 0 =
              get_or-set_other next spot.stage stage (saturated (get_or next spot.stage 0 + spot.count)) 0 (λ e. never (sym e)) in
              omega arith
        ];
  }

  -- a node of a stage that is not there moves none
  pub moved_none : (front : List Spot) (spot : Spot) (next : List ℕ) → AreMoved old front next → length next ≤ spot.stage → AreMoved old (front ++ spot ∷ []) next
  moved_none front spot next moved high = record {
    as_many = moved.as_many;
    each = λ stage within.
        let size = size_more stage front spot in
        let count = moved.as_many in
        let none = of_other stage spot (λ same. absurd (omega arith)) in
        let before = moved.each stage within in
        omega arith;
  }

  pub bases_more : (front : List Spot) (spot : Spot) (next bases : List ℕ) (base : ℕ) → AreMoved old front next → AreBases old front bases → (spot.stage < length old → base ≡ get_or next spot.stage 0) →
      AreBases old (front ++ spot ∷ []) (bases ++ base ∷ [])
  bases_more front spot next bases base moved are own = record {
    as_many = length-append bases (base ∷ []) ∙ (ap (λ n. n + 1) are.as_many ∙ sym (length-append front (spot ∷ [])));
    each = λ node s at within.
        elim (at_more front spot s node at) [
          | inl earlier ↦
              let low = earlier.0 in
              slice_get_front bases (base ∷ []) node (saturated (get_or old s.stage 0 + sentence_size s.stage (take node (front ++ spot ∷ []))))
              (are.each node s earlier.1 within ∙ ap (λ xs. Some (saturated (get_or old s.stage 0 + sentence_size s.stage xs))) (sym (take-append-le node front (spot ∷ []) (omega arith))))
          | inr last ↦
              let whole : take node (front ++ spot ∷ []) ≡ front =
              take-append-le node front (spot ∷ []) (let e = last.0 in omega arith) ∙ (ap (λ n. take n front) last.0 ∙ take-length front) in
              let low : spot.stage < length old = subst (λ (s : Spot). s.stage < length old) (sym last.1) within in
              last_of bases base node (last.0 ∙ sym are.as_many)
              ∙ ap Some (own low ∙ (moved.each spot.stage low
              ∙ (ap (λ (s : Spot). saturated (get_or old s.stage 0 + sentence_size s.stage front)) last.1
              ∙ ap (λ xs. saturated (get_or old s.stage 0 + sentence_size s.stage xs)) (sym whole))))
        ];
  }

sentence_more : (stage : ℕ) (front : List (List Spot)) (spots : List Spot) → stage_size (front ++ spots ∷ []) stage ≡ stage_size front stage + sentence_size stage spots
sentence_more stage front spots = let e = sum_by-append (sentence_size stage) front (spots ∷ []) in omega arith

saturated_twice : (a b c : ℕ) → saturated (saturated (a + b) + c) ≡ saturated (a + b + c)
saturated_twice a b c = omega arith

module _ (starts : List ℕ) where
  -- one more sentence
  pub passed_more : (front : List (List Spot)) (spots : List Spot) (next moved : List ℕ) → ArePassed starts front next → AreMoved next spots moved → ArePassed starts (front ++ spots ∷ []) moved
  passed_more front spots next moved passed more = record {
    as_many = more.as_many ∙ passed.as_many;
    each = λ stage low.
        let size = sentence_more stage front spots in
        let before : get_or next stage 0 ≡ saturated (get_or starts stage 0 + stage_size front stage) = passed.each stage low in
        let count = passed.as_many in
        let now : get_or moved stage 0 ≡ saturated (get_or next stage 0 + sentence_size stage spots) = more.each stage (omega arith) in
        omega arith;
  }

  pub have_more : (front : List (List Spot)) (spots : List Spot) (next own : List ℕ) (bases : List (List ℕ)) → ArePassed starts front next → HaveBases starts front bases → AreBases next spots own →
      HaveBases starts (front ++ spots ∷ []) (bases ++ own ∷ [])
  have_more front spots next own bases passed have are = record {
    as_many = length-append bases (own ∷ []) ∙ (ap (λ n. n + 1) have.as_many ∙ sym (length-append front (spots ∷ [])));
    each = λ sentence node sp spot at there low.
        let count = have.as_many in
        elim (at_more front spots sp sentence at) [
          | inl earlier ↦
              let within = earlier.0 in
              ap (λ o. option_and_then (λ (xs : List ℕ). slice_get xs node) o) (get_before bases (own ∷ []) sentence (omega arith))
              ∙ (have.each sentence node sp spot earlier.1 there low
              ∙ ap (λ ss. Some (saturated (get_or starts spot.stage 0 + sum_by (sentence_size spot.stage) ss + sentence_size spot.stage (take node sp))))
              (sym (take-append-le sentence front (spots ∷ []) (omega arith))))
          | inr last ↦
              let whole : take sentence (front ++ spots ∷ []) ≡ front =
              take-append-le sentence front (spots ∷ []) (let e = last.0 in omega arith) ∙ (ap (λ n. take n front) last.0 ∙ take-length front) in
              let size = passed.as_many in
              ap (λ o. option_and_then (λ (xs : List ℕ). slice_get xs node) o) (last_of bases own sentence (last.0 ∙ sym count))
              ∙ (are.each node spot (subst (λ xs. slice_get xs node ≡ Some spot) (sym last.1) there) (omega arith)
              ∙ (ap (λ n. Some (saturated (n + sentence_size spot.stage (take node spots)))) (passed.each spot.stage low)
              ∙ (ap Some (saturated_twice (get_or starts spot.stage 0) (stage_size front spot.stage) (sentence_size spot.stage (take node spots)))
              ∙ ap₂ (λ ss xs. Some (saturated (get_or starts spot.stage 0 + sum_by (sentence_size spot.stage) ss + sentence_size spot.stage (take node xs)))) (sym whole) last.1)))
        ];
  }

pub one_more_spot : (spots : List Spot) (i : ℕ) (spot : Spot) → i < length spots → spot ≡ get_or spots i spot → take (i + 1) spots ≡ take i spots ++ spot ∷ []
one_more_spot spots i spot low is = take_more spots i spot low ∙ ap (λ s. take i spots ++ s ∷ []) (sym is)

pub one_more_sentence : (all : List (List Spot)) (i : ℕ) (spots : List Spot) → i < length all → spots ≡ get_or all i spots → take (i + 1) all ≡ take i all ++ spots ∷ []
one_more_sentence all i spots low is = take_more all i spots low ∙ ap (λ s. take i all ++ s ∷ []) (sym is)

-- the starts of one more stage
pub starts_more : (all : List (List Spot)) (stage total : ℕ) (starts next : List ℕ) → next ≡ starts ++ total ∷ [] → starts ≡ map (λ s. saturated (size_before all s)) (below stage) → total ≡ saturated (size_before all stage) →
    next ≡ map (λ s. saturated (size_before all s)) (below (stage + 1))
starts_more all stage total starts next is so_far now =
    is
    ∙ (ap₂ (λ xs n. xs ++ n ∷ []) so_far now
    ∙ (sym (map-append (λ s. saturated (size_before all s)) (below stage) (stage ∷ []))
    ∙ ap (λ n. map (λ s. saturated (size_before all s)) (below n)) (sym (add-one stage))))

pub total_more : (all : List (List Spot)) (stage total size next : ℕ) → total ≡ saturated (size_before all stage) → size ≡ saturated (stage_size all stage) → next ≡ min (total + size) (2 ^ 64 - 1) →
    next ≡ saturated (size_before all (stage + 1))
total_more all stage total size next before own is =
    let same = ap (λ n. size_before all n) (add-one stage) in
    let more = sum_by-append (stage_size all) (below stage) (stage ∷ []) in
    omega arith
