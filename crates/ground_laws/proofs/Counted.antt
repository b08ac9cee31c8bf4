-- How many cases are counted: each choice for the first clauses has a number, which is lesser than their room and rises
-- with the order of choices.
use Rattle.std.proofs.Common.{◌≡◌, sym, ap, subst, ℕ, suc, ◌+◌, ◌*◌, ◌<◌, ◌≤◌, inl, inr, Bool, true, false, ◌&&◌, List, [], ◌∷◌, ◌++◌, length, arith}
use Rattle.std.proofs.Math.Nat.{mul-le-mul_left}
use Rattle.std.proofs.lemmas.Bool.{and_parts, or_cases, ltb-true}
use Rattle.std.specs.Prelude.{Option, Some, None, if◌then◌else◌}
use Rattle.std.specs.List.{AllByRecursion}
use Rattle.ground_theory.specs.declared.literal.Clause.{Clause}
use Rattle.ground_theory.specs.declared.literal.Frame.{Frame}
use Rattle.case_split.specs.Answers.{HasSpent}
use Rattle.case_split.specs.Cases.{IsCounted, AreAscending, HasCounted}
use Rattle.case_split.specs.Choices.{Choices, is_reached, is_way, is_pass, is_choice, are_choices_behind, is_less, is_equal, stands_before}
use Rattle.case_split.proofs.Counting.{same_way}
use Rattle.ground_laws.specs.Counting.{ways_counted, ways_multiplied, cases_at_most}

-- how many numbers there are for choices among these clauses
abbrev room : List Clause → ℕ
room [] = 1
room (c ∷ cs) = 1 + room cs * ways_counted c

abbrev way_number : Option ℕ → ℕ
way_number None = 0
way_number (Some w) = w

abbrev number_of : List Clause → Choices → ℕ
number_of [] [] = 0
number_of [] (x ∷ xs) = 0
number_of (c ∷ cs) [] = 0
number_of (c ∷ cs) (x ∷ xs) = 1 + (room cs * way_number x + number_of cs xs)

-- ---- one choice

choice_low : (b : Bool) (c : Clause) (x : Option ℕ) → (if b then is_way c x else is_pass x) ≡ true → way_number x < ways_counted c
choice_low true c None is = cc
choice_low true c (Some w) is = let low : w < length c.ways = ltb-true w (length c.ways) is in omega arith
choice_low false c None is = omega arith
choice_low false c (Some w) is = cc

choice_less : (b : Bool) (c : Clause) (x y : Option ℕ) → (if b then is_way c x else is_pass x) ≡ true → (if b then is_way c y else is_pass y) ≡ true → is_less x y ≡ true →
    way_number x < way_number y
choice_less true c None y is other less = cc
choice_less true c (Some v) None is other less = cc
choice_less true c (Some v) (Some w) is other less = ltb-true v w less
choice_less false c None None is other less = cc
choice_less false c None (Some w) is other less = cc
choice_less false c (Some v) y is other less = cc

-- ---- choices for the first clauses

number_low : (earlier : Choices) (cs : List Clause) (xs : Choices) → are_choices_behind earlier cs xs ≡ true → number_of cs xs < room cs
number_low earlier [] [] legal = omega arith
number_low earlier [] (x ∷ xs) legal = cc
number_low earlier (c ∷ cs) [] legal = omega arith
number_low earlier (c ∷ cs) (x ∷ xs) legal =
    let parts = and_parts (is_choice earlier c x) (are_choices_behind (earlier ++ x ∷ []) cs xs) legal in
    let low : way_number x + 1 ≤ ways_counted c = (let less = choice_low (is_reached earlier c) c x parts.0 in omega arith) in
    let more = mul-le-mul_left (room cs) low in
    let rest = number_low (earlier ++ x ∷ []) cs xs parts.1 in
    omega (arith, more, rest)

number_rises : (earlier : Choices) (cs : List Clause) (xs ys : Choices) → are_choices_behind earlier cs xs ≡ true → are_choices_behind earlier cs ys ≡ true → stands_before xs ys ≡ true →
    number_of cs xs < number_of cs ys
number_rises earlier [] [] [] legal other before = cc
number_rises earlier [] [] (y ∷ ys) legal other before = cc
number_rises earlier [] (x ∷ xs) ys legal other before = cc
number_rises earlier (c ∷ cs) [] [] legal other before = cc
number_rises earlier (c ∷ cs) [] (y ∷ ys) legal other before = omega arith
number_rises earlier (c ∷ cs) (x ∷ xs) [] legal other before = cc
number_rises earlier (c ∷ cs) (x ∷ xs) (y ∷ ys) legal other before =
    let parts = and_parts (is_choice earlier c x) (are_choices_behind (earlier ++ x ∷ []) cs xs) legal in
    let others = and_parts (is_choice earlier c y) (are_choices_behind (earlier ++ y ∷ []) cs ys) other in
    elim (or_cases (is_less x y) (is_equal x y && stands_before xs ys) before) [
      | inl less ↦
          let up : way_number x + 1 ≤ way_number y = (let lesser = choice_less (is_reached earlier c) c x y parts.0 others.0 less in omega arith) in
          let more = mul-le-mul_left (room cs) up in
          let rest = number_low (earlier ++ x ∷ []) cs xs parts.1 in
          omega (arith, more, rest)
      | inr equal ↦
          let same = and_parts (is_equal x y) (stands_before xs ys) equal in
          let is : x ≡ y = same_way x y same.0 in
          let behind : are_choices_behind (earlier ++ x ∷ []) cs ys ≡ true = subst (λ (z : Option ℕ). are_choices_behind (earlier ++ z ∷ []) cs ys ≡ true) (sym is) others.1 in
          let rest = number_rises (earlier ++ x ∷ []) cs xs ys parts.1 behind same.1 in
          let alike : room cs * way_number x ≡ room cs * way_number y = ap (λ (z : Option ℕ). room cs * way_number z) is in
          omega (arith, alike, rest)
    ]

-- ---- how much room there is

ways_some : (cs : List Clause) → 1 ≤ ways_multiplied cs
ways_some [] = omega arith
ways_some (c ∷ cs) =
    let one : 1 ≤ ways_counted c = omega arith in
    let more = mul-le-mul_left (ways_counted c) (ways_some cs) in
    omega (arith, more, one)

room_within : (m p g r : ℕ) → 1 ≤ m * p → r ≤ (g + 1) * p → 1 + r * m ≤ (suc g + 1) * (m * p)
room_within m p g r some low =
    let more = mul-le-mul_left m low in
    omega (arith, more, some)

room_at_most : (cs : List Clause) → room cs ≤ cases_at_most cs
room_at_most [] = omega arith
room_at_most (c ∷ cs) = room_within (ways_counted c) (ways_multiplied cs) (length cs) (room cs) (ways_some (c ∷ cs)) (room_at_most cs)

-- ---- listed cases

module _ (clauses : List Clause) (frame : Frame) where
  climbs : (d : Choices) (ds : List Choices) → AreAscending clauses frame (d ∷ ds) → AllByRecursion (IsCounted clauses frame) (d ∷ ds) → length (d ∷ ds) + number_of clauses d ≤ room clauses
  climbs d [] rising all = let low = number_low [] clauses d all.0.case.legal in omega (arith, low)
  climbs d (e ∷ es) rising all =
      let up = number_rises [] clauses d e all.0.case.legal all.1.0.case.legal rising.0 in
      let rest = climbs e es rising.1 all.1 in
      omega (arith, up, rest)

  listed_within : (ds : List Choices) → AreAscending clauses frame ds → AllByRecursion (IsCounted clauses frame) ds → length ds ≤ cases_at_most clauses
  listed_within [] rising all = omega arith
  listed_within (d ∷ ds) rising all =
      let low = climbs d ds rising all in
      let most = room_at_most clauses in
      omega (arith, low, most)

  pub counted_within : (count : ℕ) → HasCounted clauses frame count → count ≤ cases_at_most clauses
  counted_within count counted =
      let low = listed_within counted.cases counted.ascending counted.counted in
      let size : length counted.cases ≡ count = counted.as_many in
      subst (λ n. n ≤ cases_at_most clauses) size low

  pub never_spent : (budget tried : ℕ) → cases_at_most clauses ≤ budget → HasSpent clauses frame budget tried → ⊥
  never_spent budget tried enough spent =
      let low = counted_within tried spent.counted in
      let above : budget < tried = spent.above in
      absurd (omega (arith, low, above, enough))
