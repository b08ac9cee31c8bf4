-- How many different choices there are for the first of some clauses.
use Rattle.std.proofs.Common.{◌≡◌, ◌∙◌, sym, ap, refl, subst, ℕ, zero, suc, ◌+◌, ◌*◌, ◌≤◌, inl, inr, Bool, true, false, List, [], ◌∷◌, ◌++◌, length, map, arith}
use Rattle.std.proofs.lemmas.Bool.{and_parts}
use Rattle.std.proofs.lemmas.List.{length-append, length-map}
use Rattle.std.proofs.lemmas.Option.{same_Some}
use Rattle.std.specs.Prelude.{Option, Some, None, slice_get, max, if◌then◌else◌}
use Rattle.std.specs.List.{AllByRecursion, flat_map}
use Rattle.lint_base.proofs.Lists.{below_true}
use Rattle.lint_core.specs.Database.{below}
use Rattle.sorted_skolem.proofs.Among.{Among, among_flat, among_map, among_split, among_left, among_right, among_either, at_among, counted_among, below_is}
use Rattle.ground_theory.specs.declared.literal.Clause.{Clause}
use Rattle.ground_theory.specs.declared.literal.Frame.{Frame}
use Rattle.case_split.specs.Answers.{HasSpent}
use Rattle.case_split.specs.Cases.{AreAscending, IsCounted}
use Rattle.case_split.specs.Choices.{Choices, are_choices_behind, is_choice, is_pass, is_reached, is_way, stands_before}
use Rattle.verdict_laws.specs.Completeness.{AreDifferent, HasAtMost, product_of_ways}

-- ---- different elements of a list

abbrev Within : List Choices → List Choices → Type 0
Within xs ys = (x : Choices) → Among xs x → Among ys x

-- they are no more than the list has
fits_in : (xs ys : List Choices) → AreDifferent xs → Within xs ys → length xs ≤ length ys
fits_in [] ys different within = omega arith
fits_in (x ∷ xs) ys different within =
    let found = among_split ys x (within x (inl refl)) in
    let rest : Within xs (found.0 ++ found.1) = λ y is.
    elim (among_either found.0 (x ∷ found.1) y (subst (λ (zs : List Choices). Among zs y) found.2 (within y (inr is)))) [
      | inl before ↦ among_left found.0 found.1 y before
      | inr behind ↦
          elim behind [
            | inl here ↦ let at = at_among xs y is in absurd (different.0 at.0 (at.1 ∙ ap Some (sym here)))
            | inr after ↦ among_right found.0 found.1 y after
          ]
    ] in
    let fewer = fits_in xs (found.0 ++ found.1) different.1 rest in
    let one = length-append found.0 found.1 in
    let two = length-append found.0 (x ∷ found.1) in
    let three : length ys ≡ length (found.0 ++ x ∷ found.1) = ap length found.2 in
    omega arith

-- ---- all choices behind others

abbrev options : Bool → Clause → List (Option ℕ)
options true clause = map Some (below (length clause.ways))
options false clause = None ∷ []

abbrev all_behind : Choices → List Clause → List Choices
all_behind earlier [] = [] ∷ []
all_behind earlier (clause ∷ clauses) =
    [] ∷ flat_map (λ (x : Option ℕ). map (λ (xs : Choices). x ∷ xs) (all_behind (earlier ++ x ∷ []) clauses)) (options (is_reached earlier clause) clause)

is_option : (reached : Bool) (clause : Clause) (x : Option ℕ) → (if reached then is_way clause x else is_pass x) ≡ true → Among (options reached clause) x
is_option true clause (Some way) is =
    among_map Some (below (length clause.ways)) way
    (let low = below_true way (length clause.ways) is in
    subst (λ (ns : List ℕ). Among ns way) (sym (below_is (length clause.ways))) (counted_among 0 (length clause.ways) way (omega arith) (omega arith)))
is_option true clause None is = cc
is_option false clause (Some way) is = cc
is_option false clause None is = inl refl

is_listed : (earlier : Choices) (clauses : List Clause) (xs : Choices) → are_choices_behind earlier clauses xs ≡ true → Among (all_behind earlier clauses) xs
is_listed earlier [] [] is = inl refl
is_listed earlier [] (x ∷ xs) is = cc
is_listed earlier (clause ∷ clauses) [] is = inl refl
is_listed earlier (clause ∷ clauses) (x ∷ xs) is =
    let both = and_parts (is_choice earlier clause x) (are_choices_behind (earlier ++ x ∷ []) clauses xs) is in
    inr
    (among_flat (λ (x : Option ℕ). map (λ (xs : Choices). x ∷ xs) (all_behind (earlier ++ x ∷ []) clauses)) (options (is_reached earlier clause) clause) x (x ∷ xs)
    (is_option (is_reached earlier clause) clause x both.0)
    (among_map (λ (xs : Choices). x ∷ xs) (all_behind (earlier ++ x ∷ []) clauses) xs (is_listed (earlier ++ x ∷ []) clauses xs both.1)))

-- ---- how many they are

length_below : (n : ℕ) → length (below n) ≡ n
length_below zero = refl
length_below (suc n) = let both = length-append (below n) (n ∷ []) in let rest = length_below n in omega arith

few_options : (reached : Bool) (clause : Clause) → length (options reached clause) ≤ max 1 (length clause.ways)
few_options true clause =
    let one = length-map (below (length clause.ways)) (λ (way : ℕ). Some way) in
    let two = length_below (length clause.ways) in
    omega arith
few_options false clause = omega arith

few_flat : (f : Option ℕ → List Choices) (most : ℕ) → ((x : Option ℕ) → length (f x) ≤ most) → (xs : List (Option ℕ)) → length (flat_map f xs) ≤ length xs * most
few_flat f most each [] = omega arith
few_flat f most each (x ∷ xs) =
    let here = each x in
    let rest = few_flat f most each xs in
    let both = length-append (f x) (flat_map f xs) in
    let more : suc (length xs) * most ≡ most + length xs * most = grind arith in
    omega arith

times_more : (a b m : ℕ) → a ≤ b → a * m ≤ b * m
times_more a b m low = grind arith

at_least_one : (a b : ℕ) → 1 ≤ a → 1 ≤ b → 1 ≤ a * b
at_least_one zero b one two = absurd (omega arith)
at_least_one (suc a) zero one two = absurd (omega arith)
at_least_one (suc a) (suc b) one two = let is : suc a * suc b ≡ suc (b + a * suc b) = grind arith in omega arith

one_way : (clauses : List Clause) → 1 ≤ product_of_ways clauses
one_way [] = omega arith
one_way (clause ∷ clauses) = let own : 1 ≤ max 1 (length clause.ways) = omega arith in at_least_one (max 1 (length clause.ways)) (product_of_ways clauses) own (one_way clauses)

next_bound : (m g p : ℕ) → m * ((g + 1) * p) ≡ (g + 1) * (m * p)
next_bound m g p = grind arith

one_bound : (g k : ℕ) → (suc g + 1) * k ≡ k + (g + 1) * k
one_bound g k = grind arith

few_behind : (earlier : Choices) (clauses : List Clause) → length (all_behind earlier clauses) ≤ (length clauses + 1) * product_of_ways clauses
few_behind earlier [] = omega arith
few_behind earlier (clause ∷ clauses) =
    let g : ℕ = length clauses in
    let p : ℕ = product_of_ways clauses in
    let m : ℕ = max 1 (length clause.ways) in
    let f : Option ℕ → List Choices = λ (x : Option ℕ). map (λ (xs : Choices). x ∷ xs) (all_behind (earlier ++ x ∷ []) clauses) in
    let xs : List (Option ℕ) = options (is_reached earlier clause) clause in
    let each : (x : Option ℕ) → length (f x) ≤ (g + 1) * p = λ x.
    let same = length-map (all_behind (earlier ++ x ∷ []) clauses) (λ (xs : Choices). x ∷ xs) in
    let own = few_behind (earlier ++ x ∷ []) clauses in
    omega arith in
    let flat = few_flat f ((g + 1) * p) each xs in
    let most = times_more (length xs) m ((g + 1) * p) (few_options (is_reached earlier clause) clause) in
    let turned = next_bound m g p in
    let whole = one_bound g (m * p) in
    let one = at_least_one m p (omega arith) (one_way clauses) in
    omega arith

-- ---- counted cases

pub at_most_product : (clauses : List Clause) (frame : Frame) → HasAtMost clauses frame ((length clauses + 1) * product_of_ways clauses)
at_most_product clauses frame cases different counted =
    let within : Within cases (all_behind [] clauses) = λ x is. is_listed [] clauses x (legal cases counted x is) in
    let few = fits_in cases (all_behind [] clauses) different within in
    let bound = few_behind [] clauses in
    omega arith
  where
    legal : (cases : List Choices) → AllByRecursion (IsCounted clauses frame) cases → (x : Choices) → Among cases x → are_choices_behind [] clauses x ≡ true
    legal [] counted x is = absurd is
    legal (y ∷ ys) counted x is =
        elim is [
          | inl here ↦ subst (λ (z : Choices). are_choices_behind [] clauses z ≡ true) here counted.0.case.legal
          | inr later ↦ legal ys counted.1 x later
        ]

module _ (never : (xs : Choices) → stands_before xs xs ≡ false) (in_turn : (xs ys zs : Choices) → stands_before xs ys ≡ true → stands_before ys zs ≡ true → stands_before xs zs ≡ true) (clauses : List Clause) (frame : Frame) where
  before_all : (c : Choices) (cases : List Choices) → AreAscending clauses frame (c ∷ cases) → (place : ℕ) (d : Choices) → slice_get cases place ≡ Some d → stands_before c d ≡ true
  before_all c [] are place d at = cc
  before_all c (e ∷ cases) are zero d at = subst (λ (z : Choices). stands_before c z ≡ true) (same_Some e d at) are.0
  before_all c (e ∷ cases) are (suc place) d at = in_turn c e d are.0 (before_all e cases are.1 place d at)

  ascending_rest : (c : Choices) (cases : List Choices) → AreAscending clauses frame (c ∷ cases) → AreAscending clauses frame cases
  ascending_rest c [] are = tt
  ascending_rest c (d ∷ cases) are = are.1

  are_different : (cases : List Choices) → AreAscending clauses frame cases → AreDifferent cases
  are_different [] are = tt
  are_different (c ∷ cases) are = (
    λ place at. let both : true ≡ false = sym (before_all c cases are place c at) ∙ never c in cc,
    are_different cases (ascending_rest c cases are),
  )

  pub at_most_budget : (budget tried : ℕ) → HasAtMost clauses frame budget → HasSpent clauses frame budget tried → ⊥
  at_most_budget budget tried most spent =
      let few = most spent.counted.cases (are_different spent.counted.cases spent.counted.ascending) spent.counted.counted in
      let many = spent.counted.as_many in
      let above = spent.above in
      omega arith
