-- Choices and the first clauses of choices: what is set, what stands before, what is legal.
use Rattle.std.proofs.Common.{◌≡◌, ◌∙◌, sym, ap, ap₂, refl, subst, ℕ, zero, suc, ◌<◌, ◌≤◌, inl, inr, true, false, ◌&&◌, List, [], ◌∷◌, ◌++◌, length, take, arith}
use Rattle.std.proofs.lemmas.Bool.{and_parts, and_from, or_cases, or_left, or_right, eq-eqb, eqb-true, lt-ltb}
use Rattle.std.proofs.lemmas.List.{append_assoc, append-nil}
use Rattle.std.proofs.lemmas.Option.{same_Some}
use Rattle.std.specs.Prelude.{Option, Some, None, slice_get, slice_set, replicate}
use Rattle.std.specs.Option.{option_map_or}
use Rattle.ground_theory.specs.declared.literal.Clause.{Clause}
use Rattle.ground_theory.specs.declared.literal.Frame.{Frame}
use Rattle.ground_theory.specs.declared.literal.Guard.{Guard}
use Rattle.case_split.specs.Cases.{AreAscending}
use Rattle.case_split.specs.Choices.{Choices, takes, is_chosen, is_choice, are_choices_behind, is_less, is_equal, stands_before}
use Rattle.case_split.specs.inner.Entries.{AllBefore}
use Rattle.case_split.proofs.Counting.{before_before, same_way}
use Rattle.case_split.proofs.Places.{take_at}

-- ---- what is set

pub set_same : {A : Type 0} (xs : List A) (i : ℕ) (x : A) → i < length xs → slice_get (slice_set xs i x) i ≡ Some x
set_same [] i x low = absurd (omega arith)
set_same (y ∷ ys) zero x low = refl
set_same (y ∷ ys) (suc i) x low = set_same ys i x (omega arith)

pub set_other : {A : Type 0} (xs : List A) (i j : ℕ) (x : A) → (j ≡ i → ⊥) → slice_get (slice_set xs i x) j ≡ slice_get xs j
set_other [] i j x other = refl
set_other (y ∷ ys) zero zero x other = absurd (other refl)
set_other (y ∷ ys) zero (suc j) x other = refl
set_other (y ∷ ys) (suc i) zero x other = refl
set_other (y ∷ ys) (suc i) (suc j) x other = set_other ys i j x (λ same. other (ap suc same))

pub set_back : {A : Type 0} (xs : List A) (i : ℕ) (x y : A) → slice_get xs i ≡ Some x → slice_set (slice_set xs i y) i x ≡ xs
set_back [] i x y at = refl
set_back (z ∷ zs) zero x y at = ap (λ w. w ∷ zs) (sym (same_Some z x at))
set_back (z ∷ zs) (suc i) x y at = ap (λ ws. z ∷ ws) (set_back zs i x y at)

pub set_set : {A : Type 0} (xs : List A) (i : ℕ) (x y : A) → slice_set (slice_set xs i y) i x ≡ slice_set xs i x
set_set [] i x y = refl
set_set (z ∷ zs) zero x y = refl
set_set (z ∷ zs) (suc i) x y = ap (λ ws. z ∷ ws) (set_set zs i x y)

pub get_replicate : {A : Type 0} (n i : ℕ) (x y : A) → slice_get (replicate n x) i ≡ Some y → x ≡ y
get_replicate zero i x y at = cc
get_replicate (suc n) zero x y at = same_Some x y at
get_replicate (suc n) (suc i) x y at = get_replicate n i x y at

pub take_next : {A : Type 0} (xs : List A) (i : ℕ) (x : A) → slice_get xs i ≡ Some x → take (suc i) xs ≡ take i xs ++ x ∷ []
take_next [] i x at = cc
take_next (y ∷ ys) zero x at = ap (λ z. z ∷ []) (same_Some y x at)
take_next (y ∷ ys) (suc i) x at = ap (λ zs. y ∷ zs) (take_next ys i x at)

-- what stands in the first part stands in the whole
pub taken_at : {A : Type 0} (xs : List A) (n i : ℕ) (x : A) → slice_get (take n xs) i ≡ Some x → (slice_get xs i ≡ Some x) × (i < n)
taken_at xs zero i x at = cc
taken_at [] (suc n) i x at = cc
taken_at (y ∷ ys) (suc n) zero x at = (at, omega arith)
taken_at (y ∷ ys) (suc n) (suc i) x at = let up = taken_at ys n i x at in (up.0, omega (arith, up.1))

-- ---- guards among choices

found_way : (way : ℕ) (o : Option (Option ℕ)) → option_map_or (takes way) o false ≡ true → o ≡ Some (Some way)
found_way way None is = cc
found_way way (Some None) is = cc
found_way way (Some (Some w)) is = ap (λ n. Some (Some n)) (sym (eqb-true way w is))

pub chosen_way : (xs : Choices) (g : Guard) → is_chosen xs g ≡ true → slice_get xs g.clause ≡ Some (Some g.way)
chosen_way xs g chosen = found_way g.way (slice_get xs g.clause) chosen

pub way_chosen : (xs : Choices) (g : Guard) → slice_get xs g.clause ≡ Some (Some g.way) → is_chosen xs g ≡ true
way_chosen xs g at = ap (λ o. option_map_or (takes g.way) o false) at ∙ eq-eqb g.way g.way refl

-- choices that begin alike have the same guards there
pub chosen_alike : (xs ys : Choices) (j : ℕ) (g : Guard) → take j xs ≡ take j ys → g.clause < j → is_chosen ys g ≡ true → is_chosen xs g ≡ true
chosen_alike xs ys j g same low chosen =
    way_chosen xs g (sym (take_at xs j g.clause low) ∙ (ap (λ (zs : Choices). slice_get zs g.clause) same ∙ (take_at ys j g.clause low ∙ chosen_way ys g chosen)))

pub chosen_first : (xs : Choices) (j : ℕ) (g : Guard) → g.clause < j → is_chosen xs g ≡ true → is_chosen (take j xs) g ≡ true
chosen_first xs j g low chosen = way_chosen (take j xs) g (take_at xs j g.clause low ∙ chosen_way xs g chosen)

pub chosen_whole : (xs : Choices) (j : ℕ) (g : Guard) → is_chosen (take j xs) g ≡ true → (is_chosen xs g ≡ true) × (g.clause < j)
chosen_whole xs j g chosen =
    let at = taken_at xs j g.clause (Some g.way) (chosen_way (take j xs) g chosen) in
    (way_chosen xs g at.0, at.1)

-- ---- order

pub before_more : (c d e : Choices) → stands_before c d ≡ true → stands_before c (d ++ e) ≡ true
before_more [] [] e before = cc
before_more [] (y ∷ ys) e before = refl
before_more (x ∷ xs) [] e before = cc
before_more (x ∷ xs) (y ∷ ys) e before = elim (or_cases (is_less x y) (is_equal x y && stands_before xs ys) before) [
  | inl less ↦ or_left (is_less x y) (is_equal x y && stands_before xs (ys ++ e)) less
  | inr equal ↦
      let parts = and_parts (is_equal x y) (stands_before xs ys) equal in
      or_right (is_less x y) (is_equal x y && stands_before xs (ys ++ e)) (and_from (is_equal x y) (stands_before xs (ys ++ e)) parts.0 (before_more xs ys e parts.1))
]

equal_itself : (x : Option ℕ) → is_equal x x ≡ true
equal_itself None = refl
equal_itself (Some v) = eq-eqb v v refl

pub before_both : (d a b : Choices) → stands_before a b ≡ true → stands_before (d ++ a) (d ++ b) ≡ true
before_both [] a b before = before
before_both (x ∷ xs) a b before =
    or_right (is_less x x) (is_equal x x && stands_before (xs ++ a) (xs ++ b)) (and_from (is_equal x x) (stands_before (xs ++ a) (xs ++ b)) (equal_itself x) (before_both xs a b before))

pub before_longer : (d : Choices) (y : Option ℕ) → stands_before d (d ++ y ∷ []) ≡ true
before_longer d y = ap (λ (e : Choices). stands_before e (d ++ y ∷ [])) (sym (append-nil d)) ∙ before_both d [] (y ∷ []) refl

-- choices with a lesser way stand before those that begin alike
pub before_raised : (d rest : Choices) (v w : ℕ) → v < w → stands_before (d ++ Some v ∷ rest) (d ++ Some w ∷ []) ≡ true
before_raised d rest v w less =
    before_both d (Some v ∷ rest) (Some w ∷ [])
    (or_left (is_less (Some v) (Some w)) (is_equal (Some v) (Some w) && stands_before rest []) (lt-ltb v w less))

-- the first choices stand before those that go on there with a greater way
pub before_first : (xs : Choices) (k i v w : ℕ) → i < k → slice_get xs i ≡ Some (Some v) → v < w → stands_before (take k xs) (take i xs ++ Some w ∷ []) ≡ true
before_first [] k i v w low at less = cc
before_first (x ∷ xs) zero i v w low at less = absurd (omega arith)
before_first (x ∷ xs) (suc k) zero v w low at less =
    let same : x ≡ Some v = same_Some x (Some v) at in
    subst (λ (y : Option ℕ). stands_before (y ∷ take k xs) (Some w ∷ []) ≡ true) (sym same)
    (or_left (is_less (Some v) (Some w)) (is_equal (Some v) (Some w) && stands_before (take k xs) []) (lt-ltb v w less))
before_first (x ∷ xs) (suc k) (suc i) v w low at less =
    let rest = stands_before (take k xs) (take i xs ++ Some w ∷ []) in
    or_right (is_less x x) (is_equal x x && rest) (and_from (is_equal x x) rest (equal_itself x) (before_first xs k i v w (omega arith) at less))

-- ---- all that was counted

pub all_before : (counted : List Choices) (d e : Choices) → ((c : Choices) → stands_before c d ≡ true → stands_before c e ≡ true) → AllBefore counted d → AllBefore counted e
all_before [] d e more all = tt
all_before (c ∷ cs) d e more all = (more c all.0, all_before cs d e more all.1)

pub all_before_then : (counted : List Choices) (d e : Choices) → stands_before d e ≡ true → AllBefore counted d → AllBefore counted e
all_before_then counted d e less = all_before counted d e (λ c before. before_before c d e before less)

module _ (clauses : List Clause) (frame : Frame) where
  pub ascending_more : (counted : List Choices) (now : Choices) → AreAscending clauses frame counted → AllBefore counted now → AreAscending clauses frame (counted ++ now ∷ [])
  ascending_more [] now is all = tt
  ascending_more (c ∷ []) now is all = (all.0, tt)
  ascending_more (c ∷ d ∷ ds) now is all = (is.0, ascending_more (d ∷ ds) now is.1 all.1)

-- ---- legal choices

pub choices_more : (earlier : Choices) (cs : List Clause) (xs : Choices) (c : Clause) (x : Option ℕ) → are_choices_behind earlier cs xs ≡ true → slice_get cs (length xs) ≡ Some c →
    is_choice (earlier ++ xs) c x ≡ true → are_choices_behind earlier cs (xs ++ x ∷ []) ≡ true
choices_more earlier [] xs c x legal at is = cc
choices_more earlier (d ∷ ds) [] c x legal at is =
    and_from (is_choice earlier d x) true
    (subst (λ (d : Clause). is_choice earlier d x ≡ true) (sym (same_Some d c at)) (subst (λ (front : Choices). is_choice front c x ≡ true) (append-nil earlier) is)) refl
choices_more earlier (d ∷ ds) (y ∷ ys) c x legal at is =
    let parts = and_parts (is_choice earlier d y) (are_choices_behind (earlier ++ y ∷ []) ds ys) legal in
    and_from (is_choice earlier d y) (are_choices_behind (earlier ++ y ∷ []) ds (ys ++ x ∷ [])) parts.0
    (choices_more (earlier ++ y ∷ []) ds ys c x parts.1 at (subst (λ (front : Choices). is_choice front c x ≡ true) (sym (append_assoc earlier (y ∷ []) ys)) is))

-- ---- the first difference

pub record Difference (xs ys : Choices) : Type 0 where
  pub place : ℕ
  pub way : ℕ
  pub other : Option ℕ
  pub there : slice_get ys place ≡ Some (Some way)
  pub differs : slice_get xs place ≡ Some other
  pub less : is_less other (Some way) ≡ true
  pub same : take place xs ≡ take place ys

less_way : (x y : Option ℕ) → is_less x y ≡ true → (w : ℕ) × (y ≡ Some w)
less_way None None less = cc
less_way None (Some w) less = (w, refl)
less_way (Some v) None less = cc
less_way (Some v) (Some w) less = (w, refl)

pub first_difference : (xs ys : Choices) → stands_before xs ys ≡ true → length ys ≤ length xs → Difference xs ys
first_difference [] [] before long = cc
first_difference [] (y ∷ ys) before long = absurd (omega arith)
first_difference (x ∷ xs) [] before long = cc
first_difference (x ∷ xs) (y ∷ ys) before long = elim (or_cases (is_less x y) (is_equal x y && stands_before xs ys) before) [
  | inl less ↦
      let w = less_way x y less in
      record {
        place = 0;
        way = w.0;
        other = x;
        there = ap Some w.1;
        differs = refl;
        less = subst (λ (z : Option ℕ). is_less x z ≡ true) w.1 less;
        same = refl;
      }
  | inr equal ↦
      let parts = and_parts (is_equal x y) (stands_before xs ys) equal in
      let d = first_difference xs ys parts.1 (omega arith) in
      record {
        place = suc d.place;
        way = d.way;
        other = d.other;
        there = d.there;
        differs = d.differs;
        less = d.less;
        same = ap₂ (λ (z : Option ℕ) (zs : Choices). z ∷ zs) (same_way x y parts.0) d.same;
      }
]
