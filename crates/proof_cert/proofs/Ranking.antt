-- The rank of a clause among those of its slot is its place among them.
use Rattle.std.proofs.Common.{◌≡◌, ◌∙◌, sym, ap, refl, subst, ℕ, zero, suc, ◌+◌, ◌<◌, ◌≤◌, ◌⊎◌, inl, inr, Bool, true, false, cond, List, [], ◌∷◌, ◌++◌, length, take, set, replicate, arith}
use Rattle.std.proofs.lemmas.Bool.{eqb-true}
use Rattle.std.proofs.lemmas.Bool.Decides.{nat_tests}
use Rattle.std.proofs.lemmas.List.{length-take-le, length-set, length-replicate, get_or-replicate}
use Rattle.std.proofs.lemmas.Option.{same_Some, slice_get_within, slice_get-get_or}
use Rattle.std.specs.Prelude.{Option, Some, None, slice_get, slice_set, unwrap_or, nat_eq}
use Rattle.std.specs.Option.{option_map_or}
use Rattle.lint_base.proofs.Lists.{slice_get_front, slice_get_last}
use Rattle.std.specs.List.{filter}
use Rattle.ground_theory.specs.declared.literal.Clause.{Clause}
use Rattle.sorted_skolem.proofs.Among.{Among, among_at, at_among}
use Rattle.proof_cert.specs.inner.Ranks.{slot_of, is_in_slot, count_in, AreRanks, IsCounted, AreCounts, AreFirstRanks}

-- ---- lists

pub take_get : {A : Type 0} (n : ℕ) (xs : List A) (i : ℕ) (x : A) → slice_get xs i ≡ Some x → i < n → slice_get (take n xs) i ≡ Some x
take_get zero xs i x at low = absurd (omega arith)
take_get (suc n) [] i x at low = cc
take_get (suc n) (y ∷ ys) zero x at low = at
take_get (suc n) (y ∷ ys) (suc i) x at low = take_get n ys i x at (omega arith)

pub get_take : {A : Type 0} (n : ℕ) (xs : List A) (i : ℕ) (x : A) → slice_get (take n xs) i ≡ Some x → (slice_get xs i ≡ Some x) × (i < n)
get_take zero xs i x at = cc
get_take (suc n) [] i x at = cc
get_take (suc n) (y ∷ ys) zero x at = (at, omega arith)
get_take (suc n) (y ∷ ys) (suc i) x at = let rest = get_take n ys i x at in (rest.0, omega arith)

pub get_set : (xs : List ℕ) (i v j w : ℕ) → (j ≡ i → ⊥) → slice_get xs j ≡ Some w → slice_get (set xs i v) j ≡ Some w
get_set [] i v j w other at = cc
get_set (x ∷ xs) zero v zero w other at = absurd (other refl)
get_set (x ∷ xs) zero v (suc j) w other at = at
get_set (x ∷ xs) (suc i) v zero w other at = at
get_set (x ∷ xs) (suc i) v (suc j) w other at = get_set xs i v j w (λ same. other (ap suc same)) at

pub get_set_same : (xs : List ℕ) (i v : ℕ) → i < length xs → slice_get (set xs i v) i ≡ Some v
get_set_same [] i v low = absurd (omega arith)
get_set_same (x ∷ xs) zero v low = refl
get_set_same (x ∷ xs) (suc i) v low = get_set_same xs i v (omega arith)

-- each number is above the one before
abbrev Ascends : ℕ → List ℕ → Type 0
Ascends base [] = Unit {0}
Ascends base (j ∷ js) = (base ≤ j) × Ascends (suc j) js

ascends_low : (base : ℕ) (js : List ℕ) (k : ℕ) → Ascends base js → Among js k → base ≤ k
ascends_low base [] k all is = absurd is
ascends_low base (j ∷ js) k all is =
    let first = all.0 in
    elim is [ inl here ↦ omega arith | inr later ↦ let rest = ascends_low (suc j) js k all.1 later in omega arith ]

ascends_from : (base : ℕ) (js : List ℕ) → ((i : ℕ) (j : ℕ) → slice_get js i ≡ Some j → base ≤ j) →
    ((i k c d : ℕ) → i < k → slice_get js i ≡ Some c → slice_get js k ≡ Some d → c < d) → Ascends base js
ascends_from base [] low order = tt
ascends_from base (j ∷ js) low order = (
  low 0 j refl,
  ascends_from (suc j) js (λ i k at. let less = order 0 (suc i) j k (omega arith) refl at in omega arith)
      (λ i k c d less at to. order (suc i) (suc k) c d (omega arith) at to),
)

-- ---- counting

module _ (slot : ℕ) where
  -- each of the numbers is that of a clause of the slot
  abbrev Holds : List Clause → ℕ → ℕ → Type 0
  Holds xs base j = (d : ℕ) × ((x : Clause) × (slice_get xs d ≡ Some x) × (is_in_slot slot x ≡ true) × (j ≡ base + d))

  one_later : (x : Clause) (xs : List Clause) (base j : ℕ) → suc base ≤ j → Holds (x ∷ xs) base j → Holds xs (suc base) j
  one_later x xs base j low holds = go holds.0 holds.1.0 holds.1.1 holds.1.2 holds.1.3
    where
      go : (d : ℕ) (y : Clause) → slice_get (x ∷ xs) d ≡ Some y → is_in_slot slot y ≡ true → j ≡ base + d → Holds xs (suc base) j
      go zero y at is same = absurd (omega arith)
      go (suc d) y at is same = (d, (y, at, is, omega arith))

  never : (x : Clause) (xs : List Clause) (base j : ℕ) → is_in_slot slot x ≡ false → Holds (x ∷ xs) base j → j ≡ base → ⊥
  never x xs base j is holds same = go holds.0 holds.1.0 holds.1.1 holds.1.2 holds.1.3
    where
      go : (d : ℕ) (y : Clause) → slice_get (x ∷ xs) d ≡ Some y → is_in_slot slot y ≡ true → j ≡ base + d → ⊥
      go zero y at of_slot e = let no : is_in_slot slot x ≡ true = subst (λ z. is_in_slot slot z ≡ true) (sym (same_Some x y at)) of_slot in cc
      go (suc d) y at of_slot e = omega arith

  over : (base j : ℕ) → (j ≡ base → ⊥) → base ≤ j → suc base ≤ j
  over base j apart low = grind (arith, apart)

  higher : (x : Clause) (xs : List Clause) (base : ℕ) → is_in_slot slot x ≡ false → (js : List ℕ) → Ascends base js → ((j : ℕ) → Among js j → Holds (x ∷ xs) base j) → Ascends (suc base) js
  higher x xs base is [] order are = tt
  higher x xs base is (j ∷ js) order are = (over base j (never x xs base j is (are j (inl refl))) order.0, order.1)

  abbrev AllAmong : List Clause → ℕ → List ℕ → Type 0
  AllAmong xs base js = (d : ℕ) (x : Clause) → slice_get xs d ≡ Some x → is_in_slot slot x ≡ true → Among js (base + d)

  abbrev AllHold : List Clause → ℕ → List ℕ → Type 0
  AllHold xs base js = (j : ℕ) → Among js j → Holds xs base j

  count_is : (xs : List Clause) (base : ℕ) (js : List ℕ) → Ascends base js → AllAmong xs base js → AllHold xs base js → count_in slot xs ≡ length js
  count_is [] base [] order all are = refl
  count_is [] base (j ∷ js) order all are = let h = are j (inl refl) in let no = h.1.1 in cc
  count_is (x ∷ xs) base js order all are = by (is_in_slot slot x) refl js order all are (count_is xs (suc base))
    where
      by : (b : Bool) → is_in_slot slot x ≡ b → (js : List ℕ) → Ascends base js → AllAmong (x ∷ xs) base js → AllHold (x ∷ xs) base js →
          ((js : List ℕ) → Ascends (suc base) js → AllAmong xs (suc base) js → AllHold xs (suc base) js → count_in slot xs ≡ length js) →
          length (cond b (x ∷ filter (is_in_slot slot) xs) (filter (is_in_slot slot) xs)) ≡ length js
      by true is [] order all are rest = absurd (all 0 x refl is)
      by true is (j ∷ js) order all are rest =
          let plain : base + 0 ≡ base = omega arith in
          let here : Among (j ∷ js) base = subst (Among (j ∷ js)) plain (all 0 x refl is) in
          let low = order.0 in
          let same : j ≡ base =
          elim here [ inl now ↦ now | inr later ↦ let high = ascends_low (suc j) js base order.1 later in absurd (omega arith) ] in
          ap suc (rest js (subst (λ n. Ascends (suc n) js) same order.1)
          (λ d y at of_slot.
          let e : base + suc d ≡ suc base + d = omega arith in
          let there : (j ≡ base + suc d) ⊎ Among js (base + suc d) = all (suc d) y at of_slot in
          elim there [ inl now ↦ absurd (omega arith) | inr later ↦ subst (Among js) e later ])
          (λ k later. let high = ascends_low (suc j) js k order.1 later in one_later x xs base k (omega arith) (are k (inr later))))
      by false is js order all are rest =
          let order' = higher x xs base is js order are in
          rest js order'
          (λ d y at of_slot. let e : base + suc d ≡ suc base + d = omega arith in subst (Among js) e (all (suc d) y at of_slot))
          (λ k there. let high = ascends_low (suc base) js k order' there in one_later x xs base k high (are k there))

-- the clauses of a slot stand at these numbers, in their order
pub rank_is : (slot : ℕ) (clauses : List Clause) (numbers : List ℕ) →
    ((place later c d : ℕ) → place < later → slice_get numbers place ≡ Some c → slice_get numbers later ≡ Some d → c < d) →
    ((d : ℕ) (x : Clause) → slice_get clauses d ≡ Some x → is_in_slot slot x ≡ true → Among numbers d) →
    ((d : ℕ) → Among numbers d → (x : Clause) × (slice_get clauses d ≡ Some x) × (is_in_slot slot x ≡ true)) →
    (place c : ℕ) → slice_get numbers place ≡ Some c → count_in slot (take c clauses) ≡ place
rank_is slot clauses numbers order all are place c at =
    let within : place < length numbers = slice_get_within numbers place c at in
    count_is slot (take c clauses) 0 (take place numbers)
    (ascends_from 0 (take place numbers) (λ i j there. omega arith)
    (λ i k d e less first second. order i k d e less (get_take place numbers i d first).0 (get_take place numbers k e second).0))
    (λ d x there of_slot.
    let found = get_take c clauses d x there in
    let among = at_among numbers d (all d x found.0 of_slot) in
    let plain : d ≡ 0 + d = omega arith in
    let below : among.0 < place = earlier among.0 d among.1 found.1 in
    subst (Among (take place numbers)) plain (among_at (take place numbers) among.0 d (take_get place numbers among.0 d among.1 below)))
    (λ j is.
    let found = at_among (take place numbers) j is in
    let own = get_take place numbers found.0 j found.1 in
    let x = are j (among_at numbers found.0 j own.0) in
    let less = order found.0 place j c own.1 own.0 at in
    (j, (x.0, take_get c clauses j x.0 x.1 less, x.2, omega arith)))
    ∙ length-take-le place numbers (omega arith)
  where
    -- a number below that at the place stands earlier
    earlier : (i d : ℕ) → slice_get numbers i ≡ Some d → d < c → i < place
    earlier i d there low = go i there
      where
        either : (m n : ℕ) → (m < n) ⊎ ((m ≡ n) ⊎ (n < m))
        either m n = grind arith

        go : (i : ℕ) → slice_get numbers i ≡ Some d → i < place
        go i there =
            elim (either i place) [
              | inl less ↦ less
              | inr other ↦ elim other [
                | inl same ↦
                    let one : c ≡ d = same_Some c d (sym at ∙ (ap (slice_get numbers) (sym same) ∙ there)) in
                    absurd (omega arith)
                | inr more ↦ let less = order place i c d more at there in absurd (omega arith)
              ]
            ]

-- ---- counts of the first clauses

count_few : (slot : ℕ) (xs : List Clause) → count_in slot xs ≤ length xs
count_few slot [] = omega arith
count_few slot (x ∷ xs) = by (is_in_slot slot x) (count_few slot xs)
  where
    by : (b : Bool) → count_in slot xs ≤ length xs → length (cond b (x ∷ filter (is_in_slot slot) xs) (filter (is_in_slot slot) xs)) ≤ suc (length xs)
    by true few = omega arith
    by false few = omega arith

one_if : Bool → ℕ
one_if true = 1
one_if false = 0

count_add : (slot : ℕ) (xs : List Clause) (x : Clause) → count_in slot (xs ++ x ∷ []) ≡ count_in slot xs + one_if (is_in_slot slot x)
unfolding one_if
count_add slot [] x = by (is_in_slot slot x)
  where
    by : (b : Bool) → length (cond b (x ∷ []) []) ≡ 0 + one_if b
    by true = refl
    by false = refl
count_add slot (y ∷ ys) x = by (is_in_slot slot y) (count_add slot ys x)
  where
    by : (b : Bool) → count_in slot (ys ++ x ∷ []) ≡ count_in slot ys + one_if (is_in_slot slot x) →
        length (cond b (y ∷ filter (is_in_slot slot) (ys ++ x ∷ [])) (filter (is_in_slot slot) (ys ++ x ∷ [])))
        ≡ length (cond b (y ∷ filter (is_in_slot slot) ys) (filter (is_in_slot slot) ys)) + one_if (is_in_slot slot x)
    by true rest = omega arith
    by false rest = rest

take_last : (xs : List Clause) (i : ℕ) (x : Clause) → slice_get xs i ≡ Some x → take (suc i) xs ≡ take i xs ++ x ∷ []
take_last [] i x at = cc
take_last (y ∷ ys) zero x at = ap (λ z. z ∷ []) (same_Some y x at)
take_last (y ∷ ys) (suc i) x at = ap (λ zs. y ∷ zs) (take_last ys i x at)

count_next : (slot : ℕ) (xs : List Clause) (i : ℕ) (x : Clause) → slice_get xs i ≡ Some x → count_in slot (take (suc i) xs) ≡ count_in slot (take i xs) + one_if (is_in_slot slot x)
count_next slot xs i x at = ap (count_in slot) (take_last xs i x at) ∙ count_add slot (take i xs) x

pub no_counts : (clauses : List Clause) (counts : List ℕ) → counts ≡ replicate (length clauses + 1) 0 → AreCounts clauses 0 counts
no_counts clauses counts is slot low = ap (λ (xs : List ℕ). slice_get xs slot) is ∙ zeros (length clauses + 1) slot (omega arith)
  where
    zeros : (n i : ℕ) → i < n → slice_get {X = ℕ} (replicate n 0) i ≡ Some 0
    zeros n i low = slice_get-get_or (replicate n 0) i 0 (omega (arith, length-replicate {A = ℕ} n 0)) ∙ ap (λ k. Some k) (get_or-replicate n i 0 0 low)

pub counts_low : (clauses : List Clause) (counts : List ℕ) (i : ℕ) → i < length clauses → length clauses ≤ 400000 → length counts ≡ length clauses + 1 → AreCounts clauses i counts →
    (slot : ℕ) → unwrap_or (slice_get counts slot) 0 < 400000
counts_low clauses counts i low few size are slot = by (slice_get counts slot) refl
  where
    by : (o : Option ℕ) → slice_get counts slot ≡ o → unwrap_or o 0 < 400000
    by None is = omega arith
    by (Some n) is =
        let within = slice_get_within counts slot n is in
        let same : n ≡ count_in slot (take i clauses) = same_Some n (count_in slot (take i clauses)) (sym is ∙ are slot (omega arith)) in
        let one = count_few slot (take i clauses) in
        let two = length-take-le i clauses (omega arith) in
        omega arith

module _ (clauses : List Clause) (i : ℕ) (c : Clause) (at : slice_get clauses i ≡ Some c) where
  in_no_slot : (slot : ℕ) (o : Option ℕ) → slot_of c.guards ≡ o → (o ≡ None) ⊎ ((other : ℕ) × (o ≡ Some other) × (slot ≡ other → ⊥)) → is_in_slot slot c ≡ false
  in_no_slot slot o is which =
      ap (λ o. option_map_or (nat_eq slot) o false) is
      ∙ elim which [
        | inl none ↦ ap (λ o. option_map_or (nat_eq slot) o false) none
        | inr other ↦ ap (λ o. option_map_or (nat_eq slot) o false) other.1 ∙ differ slot other.0 other.2
      ]
    where
      differ : (m n : ℕ) → (m ≡ n → ⊥) → nat_eq m n ≡ false
      differ m n apart = grind (arith, nat_tests, apart)

  kept : (slot : ℕ) → is_in_slot slot c ≡ false → count_in slot (take i clauses) ≡ count_in slot (take (suc i) clauses)
  unfolding one_if
  kept slot is =
      let e : one_if (is_in_slot slot c) ≡ 0 = ap one_if is in
      let f = count_next slot clauses i c at in
      omega arith

  pub counted_more : (old new : List ℕ) (rank : ℕ) → length old ≡ length clauses + 1 → AreCounts clauses i old → IsCounted (slot_of c.guards) old new rank →
      AreCounts clauses (suc i) new × (length new ≡ length clauses + 1)
  unfolding one_if
  counted_more old new rank size are counted = by (slot_of c.guards) refl counted
    where
      by : (o : Option ℕ) → slot_of c.guards ≡ o → IsCounted o old new rank → AreCounts clauses (suc i) new × (length new ≡ length clauses + 1)
      by None is same = (
        λ slot low. ap (λ xs. slice_get xs slot) same ∙ (are slot low ∙ ap (λ n. Some n) (kept slot (in_no_slot slot None is (inl refl)))),
        ap length same ∙ size,
      )
      by (Some own) is counted = (
        λ slot low. ap (λ xs. slice_get xs slot) counted.1 ∙ here slot low (nat_eq slot own) refl,
        ap length counted.1 ∙ (length-set old own (rank + 1) ∙ size),
      )
        where
          here : (slot : ℕ) → slot ≤ length clauses → (b : Bool) → nat_eq slot own ≡ b → slice_get (slice_set old own (rank + 1)) slot ≡ Some (count_in slot (take (suc i) clauses))
          here slot low true same =
              let e : slot ≡ own = eqb-true slot own same in
              let was : rank ≡ count_in slot (take i clauses) =
              counted.0 ∙ (ap (λ n. unwrap_or (slice_get old n) 0) (sym e) ∙ ap (λ o. unwrap_or o 0) (are slot low)) in
              let in_it : is_in_slot slot c ≡ true = ap (λ o. option_map_or (nat_eq slot) o false) is ∙ same in
              let one : one_if (is_in_slot slot c) ≡ 1 = ap one_if in_it in
              let f = count_next slot clauses i c at in
              let now : rank + 1 ≡ count_in slot (take (suc i) clauses) = omega arith in
              ap (slice_get (slice_set old own (rank + 1))) e ∙ (get_set_same old own (rank + 1) (omega arith) ∙ ap (λ n. Some n) now)
          here slot low false other =
              let apart : slot ≡ own → ⊥ = unlike slot own other in
              get_set old own (rank + 1) slot (count_in slot (take (suc i) clauses)) apart
              (are slot low ∙ ap (λ n. Some n) (kept slot (in_no_slot slot (Some own) is (inr (own, refl, apart)))))
            where
              unlike : (m n : ℕ) → nat_eq m n ≡ false → m ≡ n → ⊥
              unlike m n never same = grind (arith, nat_tests)

  pub ranked_more : (old new : List ℕ) (rank : ℕ) (ranks : List ℕ) → length ranks ≡ i → AreCounts clauses i old → IsCounted (slot_of c.guards) old new rank → AreFirstRanks clauses i ranks →
      AreFirstRanks clauses (suc i) (ranks ++ rank ∷ [])
  ranked_more old new rank ranks count are counted first number slot d low there slot_is few = by (nat_eq number i) refl
    where
      by : (b : Bool) → nat_eq number i ≡ b → slice_get (ranks ++ rank ∷ []) number ≡ Some (count_in slot (take number clauses))
      by true same =
          let e : number ≡ i = eqb-true number i same in
          let one : c ≡ d = same_Some c d (sym at ∙ (ap (slice_get clauses) (sym e) ∙ there)) in
          let is : slot_of c.guards ≡ Some slot = ap (λ (x : Clause). slot_of x.guards) one ∙ slot_is in
          let told : IsCounted (Some slot) old new rank = subst (λ o. IsCounted o old new rank) is counted in
          let was : rank ≡ count_in slot (take number clauses) =
          told.0 ∙ (ap (λ o. unwrap_or o 0) (are slot few) ∙ ap (λ n. count_in slot (take n clauses)) (sym e)) in
          ap (slice_get (ranks ++ rank ∷ [])) (e ∙ sym count) ∙ (slice_get_last ranks rank ∙ ap (λ n. Some n) was)
      by false other =
          slice_get_front ranks (rank ∷ []) number (count_in slot (take number clauses)) (first number slot d (unlike number i low other) there slot_is few)
        where
          unlike : (m n : ℕ) → m < suc n → nat_eq m n ≡ false → m < n
          unlike m n low never = grind (arith, nat_tests)

pub ranked_all : (clauses : List Clause) (ranks : List ℕ) (i : ℕ) → length clauses ≤ i → AreFirstRanks clauses i ranks → AreRanks clauses ranks
ranked_all clauses ranks i high first number slot c at is few = let low = slice_get_within clauses number c at in first number slot c (omega arith) at is few
