-- The order of choices, and which cases are counted.
use Rattle.std.proofs.Common.{◌≡◌, ap, ap₂, refl, ℕ, ◌<◌, ◌⊎◌, inl, inr, Bool, true, false, ◌&&◌, ◌||◌, List, [], ◌∷◌, length, arith}
use Rattle.std.proofs.lemmas.Bool.{and_parts, and_from, or_cases, or_parts, or_left, or_right, eqb-true}
use Rattle.std.proofs.lemmas.Bool.Decides.{nat_tests}
use Rattle.std.specs.Prelude.{Option, Some, None, nat_lt, nat_eq}
use Rattle.ground_theory.specs.declared.literal.Clause.{Clause}
use Rattle.ground_theory.specs.declared.literal.Frame.{Frame}
use Rattle.case_split.specs.Choices.{Choices, is_less, is_equal, stands_before}
use Rattle.case_split.specs.Cases.{IsCase, IsCounted, NoFullCaseBefore}

equal_else : (v w : ℕ) → nat_lt v w ≡ false → nat_lt w v ≡ false → nat_eq v w ≡ true
equal_else v w less more = grind (arith, nat_tests)

one_of : (x y : Option ℕ) → is_less x y ≡ false → is_less y x ≡ false → is_equal x y ≡ true
one_of None None less more = refl
one_of None (Some w) less more = cc
one_of (Some v) None less more = cc
one_of (Some v) (Some w) less more = equal_else v w less more

equal_back : (x y : Option ℕ) → is_equal x y ≡ true → is_equal y x ≡ true
equal_back None None is = refl
equal_back None (Some w) is = cc
equal_back (Some v) None is = cc
equal_back (Some v) (Some w) is = grind (arith, nat_tests)

and_false : (a b : Bool) → (a && b) ≡ false → a ≡ true → b ≡ false
and_false true b is first = is
and_false false b is first = cc

never_less : (x : Option ℕ) → is_less x x ≡ false
never_less None = refl
never_less (Some v) = grind (arith, nat_tests)

none_less : (a b c : Bool) → a ≡ false → c ≡ false → (a || (b && c)) ≡ false
none_less true b c first last = first
none_less false true c first last = last
none_less false false c first last = refl

pub never_before_itself : (xs : Choices) → stands_before xs xs ≡ false
never_before_itself [] = refl
never_before_itself (x ∷ xs) = none_less (is_less x x) (is_equal x x) (stands_before xs xs) (never_less x) (never_before_itself xs)

pub same_way : (x y : Option ℕ) → is_equal x y ≡ true → x ≡ y
same_way None None is = refl
same_way None (Some w) is = cc
same_way (Some v) None is = cc
same_way (Some v) (Some w) is = ap Some (eqb-true v w is)

-- choices of which neither stands before the other are the same
pub neither_before : (xs ys : Choices) → stands_before xs ys ≡ false → stands_before ys xs ≡ false → xs ≡ ys
neither_before [] [] one other = refl
neither_before [] (y ∷ ys) one other = cc
neither_before (x ∷ xs) [] one other = cc
neither_before (x ∷ xs) (y ∷ ys) one other =
    let first = or_parts (is_less x y) (is_equal x y && stands_before xs ys) one in
    let second = or_parts (is_less y x) (is_equal y x && stands_before ys xs) other in
    let same = one_of x y first.0 second.0 in
    ap₂ (λ (z : Option ℕ) (zs : Choices). z ∷ zs) (same_way x y same)
    (neither_before xs ys (and_false (is_equal x y) (stands_before xs ys) first.1 same) (and_false (is_equal y x) (stands_before ys xs) second.1 (equal_back x y same)))

less_less : (x y z : Option ℕ) → is_less x y ≡ true → is_less y z ≡ true → is_less x z ≡ true
less_less None None z one other = cc
less_less None (Some v) None one other = cc
less_less None (Some v) (Some w) one other = refl
less_less (Some u) None z one other = cc
less_less (Some u) (Some v) None one other = cc
less_less (Some u) (Some v) (Some w) one other = grind (arith, nat_tests)

less_equal : (x y z : Option ℕ) → is_less x y ≡ true → is_equal y z ≡ true → is_less x z ≡ true
less_equal None None z one other = cc
less_equal None (Some v) None one other = cc
less_equal None (Some v) (Some w) one other = refl
less_equal (Some u) None z one other = cc
less_equal (Some u) (Some v) None one other = cc
less_equal (Some u) (Some v) (Some w) one other = grind (arith, nat_tests)

equal_less : (x y z : Option ℕ) → is_equal x y ≡ true → is_less y z ≡ true → is_less x z ≡ true
equal_less None None None one other = cc
equal_less None None (Some w) one other = refl
equal_less None (Some v) z one other = cc
equal_less (Some u) None z one other = cc
equal_less (Some u) (Some v) None one other = cc
equal_less (Some u) (Some v) (Some w) one other = grind (arith, nat_tests)

equal_equal : (x y z : Option ℕ) → is_equal x y ≡ true → is_equal y z ≡ true → is_equal x z ≡ true
equal_equal None None None one other = refl
equal_equal None None (Some w) one other = cc
equal_equal None (Some v) z one other = cc
equal_equal (Some u) None z one other = cc
equal_equal (Some u) (Some v) None one other = cc
equal_equal (Some u) (Some v) (Some w) one other = grind (arith, nat_tests)

pub before_before : (xs ys zs : Choices) → stands_before xs ys ≡ true → stands_before ys zs ≡ true → stands_before xs zs ≡ true
before_before [] [] zs one other = cc
before_before [] (y ∷ ys) [] one other = cc
before_before [] (y ∷ ys) (z ∷ zs) one other = refl
before_before (x ∷ xs) [] zs one other = cc
before_before (x ∷ xs) (y ∷ ys) [] one other = cc
before_before (x ∷ xs) (y ∷ ys) (z ∷ zs) one other =
    let less = is_less x z in
    let rest = is_equal x z && stands_before xs zs in
    elim (or_cases (is_less x y) (is_equal x y && stands_before xs ys) one) [
      | inl lower ↦ elim (or_cases (is_less y z) (is_equal y z && stands_before ys zs) other) [
        | inl lower' ↦ or_left less rest (less_less x y z lower lower')
        | inr same' ↦ or_left less rest (less_equal x y z lower (and_parts (is_equal y z) (stands_before ys zs) same').0)
      ]
      | inr same ↦
          let here = and_parts (is_equal x y) (stands_before xs ys) same in
          elim (or_cases (is_less y z) (is_equal y z && stands_before ys zs) other) [
            | inl lower' ↦ or_left less rest (equal_less x y z here.0 lower')
            | inr same' ↦
                let there = and_parts (is_equal y z) (stands_before ys zs) same' in
                or_right less rest (and_from (is_equal x z) (stands_before xs zs) (equal_equal x y z here.0 there.0) (before_before xs ys zs here.1 there.1))
          ]
    ]

true_or_false : (b : Bool) → (b ≡ true) ⊎ (b ≡ false)
true_or_false true = inl refl
true_or_false false = inr refl

module _ (clauses : List Clause) (frame : Frame) where
  -- a case that is not full, and before which no full case stands, is counted
  pub counted_here : (now : Choices) → IsCase clauses frame now → length now < length clauses → NoFullCaseBefore clauses frame now → IsCounted clauses frame now
  counted_here now is low none = record {
    case = is;
    before = λ full is_full.
        elim (true_or_false (stands_before now full)) [
          | inl early ↦ early
          | inr late ↦
              let same : length now ≡ length full = ap length (neither_before now full late (none full is_full)) in
              let whole : length full ≡ length clauses = is_full.full in
              absurd (omega arith)
        ];
  }

  -- and so is each case before it
  pub counted_earlier : (now earlier : Choices) → IsCounted clauses frame now → IsCase clauses frame earlier → stands_before earlier now ≡ true → IsCounted clauses frame earlier
  counted_earlier now earlier counted is before = record { case = is; before = λ full is_full. before_before earlier now full before (counted.before full is_full) }
