-- Lists and tests of their elements, for the proofs of all crates: what stands at a place, facts of every element, and
-- AND, OR and NOT of tests.
use Rattle.std.proofs.Common.{◌≡◌, ◌∙◌, ap, ap₂, refl, subst, ℕ, zero, suc, Bool, true, false, not, ◌&&◌, ◌||◌, ◌+◌, ◌<◌, List, [], ◌∷◌, ◌++◌, map, length, arith}
use Rattle.std.proofs.lemmas.Bool.Decides.{nat_tests}
use Rattle.std.proofs.lemmas.Option.{same_Some}
use Rattle.std.specs.Prelude.{Some, slice_get, nat_lt}
use Rattle.std.specs.List.{AllByRecursion, list_any, list_all}

-- ---- tests

pub not_and : (a b : Bool) → not (a && b) ≡ (not a || not b)
not_and true b = refl
not_and false b = refl

pub not_or : (a b : Bool) → not (a || b) ≡ (not a && not b)
not_or true b = refl
not_or false b = refl

pub not_not : (b : Bool) → not (not b) ≡ b
not_not true = refl
not_not false = refl

pub both_left : (a b : Bool) → (a && b) ≡ true → a ≡ true
both_left true b both = refl
both_left false b both = both

pub both_right : (a b : Bool) → (a && b) ≡ true → b ≡ true
both_right true b both = both
both_right false b both = cc

pub and_true : (b : Bool) → (b && true) ≡ b
and_true true = refl
and_true false = refl

pub or_true : (b : Bool) → (b || true) ≡ true
or_true true = refl
or_true false = refl

pub or_false : (b : Bool) → (b || false) ≡ b
or_false true = refl
or_false false = refl

pub false_unless : (b : Bool) → (b ≡ true → ⊥) → b ≡ false
false_unless true never = absurd (never refl)
false_unless false never = refl

-- two tests that lead to each other
pub same_tests : (a b : Bool) → (a ≡ true → b ≡ true) → (b ≡ true → a ≡ true) → a ≡ b
same_tests true true there back = refl
same_tests true false there back = cc (there refl)
same_tests false true there back = cc (back refl)
same_tests false false there back = refl

pub below_true : (k n : ℕ) → nat_lt k n ≡ true → k < n
below_true k n low = grind (arith, nat_tests)

pub true_below : (k n : ℕ) → k < n → nat_lt k n ≡ true
true_below k n low = grind (arith, nat_tests)

-- ---- tests of all elements, and of some

pub any_map : {A B : Type 0} (f : A → B) (p : B → Bool) (xs : List A) → list_any p (map f xs) ≡ list_any (λ x. p (f x)) xs
any_map f p [] = refl
any_map f p (x ∷ xs) = ap (λ b. p (f x) || b) (any_map f p xs)

pub all_alike : {A : Type 0} (p q : A → Bool) → ((x : A) → q x ≡ p x) → (xs : List A) → list_all q xs ≡ list_all p xs
all_alike p q alike [] = refl
all_alike p q alike (x ∷ xs) = ap₂ (λ a b. a && b) (alike x) (all_alike p q alike xs)

pub any_alike : {A : Type 0} (p q : A → Bool) → ((x : A) → q x ≡ p x) → (xs : List A) → list_any q xs ≡ list_any p xs
any_alike p q alike [] = refl
any_alike p q alike (x ∷ xs) = ap₂ (λ a b. a || b) (alike x) (any_alike p q alike xs)

-- an element of a list that passes
pub all_at : {A : Type 0} (p : A → Bool) (xs : List A) (i : ℕ) (x : A) → list_all p xs ≡ true → slice_get xs i ≡ Some x → p x ≡ true
all_at p [] i x all at = cc
all_at p (y ∷ ys) zero x all at = subst (λ z. p z ≡ true) (same_Some y x at) (both_left (p y) (list_all p ys) all)
all_at p (y ∷ ys) (suc i) x all at = all_at p ys i x (both_right (p y) (list_all p ys) all) at

pub all_append : {A : Type 0} (p : A → Bool) (xs ys : List A) → list_all p xs ≡ true → list_all p ys ≡ true → list_all p (xs ++ ys) ≡ true
all_append p [] ys first second = second
all_append p (x ∷ xs) ys first second =
    ap (λ b. b && list_all p (xs ++ ys)) (both_left (p x) (list_all p xs) first) ∙ all_append p xs ys (both_right (p x) (list_all p xs) first) second

-- ---- facts of every element

-- an element of a list of which a fact holds
pub every_at : {A : Type 0} (P : A → Type 0) (xs : List A) (i : ℕ) (x : A) → AllByRecursion P xs → slice_get xs i ≡ Some x → P x
every_at P [] i x all at = cc
every_at P (y ∷ ys) zero x all at = subst P (same_Some y x at) all.0
every_at P (y ∷ ys) (suc i) x all at = every_at P ys i x all.1 at

pub every_append : {A : Type 0} (P : A → Type 0) (xs ys : List A) → AllByRecursion P xs → AllByRecursion P ys → AllByRecursion P (xs ++ ys)
every_append P [] ys first second = second
every_append P (x ∷ xs) ys first second = (first.0, every_append P xs ys first.1 second)

pub every_parts : {A : Type 0} (P : A → Type 0) (xs ys : List A) → AllByRecursion P (xs ++ ys) → AllByRecursion P xs × AllByRecursion P ys
every_parts P [] ys all = (tt, all)
every_parts P (x ∷ xs) ys all = let parts = every_parts P xs ys all.1 in ((all.0, parts.0), parts.1)

pub every_then : {A : Type 0} (P Q : A → Type 0) → ((x : A) → P x → Q x) → (xs : List A) → AllByRecursion P xs → AllByRecursion Q xs
every_then P Q leads [] all = tt
every_then P Q leads (x ∷ xs) all = (leads x all.0, every_then P Q leads xs all.1)

-- ---- what stands at a place

pub slice_get_front : {A : Type 0} (xs ys : List A) (i : ℕ) (x : A) → slice_get xs i ≡ Some x → slice_get (xs ++ ys) i ≡ Some x
slice_get_front [] ys i x at = cc
slice_get_front (x' ∷ xs) ys zero x at = at
slice_get_front (x' ∷ xs) ys (suc i) x at = slice_get_front xs ys i x at

-- a place in the first list of two
pub get_before : {A : Type 0} (xs ys : List A) (i : ℕ) → i < length xs → slice_get (xs ++ ys) i ≡ slice_get xs i
get_before [] ys i low = absurd (omega arith)
get_before (x ∷ xs) ys zero low = refl
get_before (x ∷ xs) ys (suc i) low = get_before xs ys i (omega arith)

-- a place in the second list
pub get_behind : {A : Type 0} (xs ys : List A) (i : ℕ) → slice_get (xs ++ ys) (length xs + i) ≡ slice_get ys i
get_behind [] ys i =
    let none : 0 + i ≡ i = omega arith in
    ap (slice_get ys) none
get_behind (x ∷ xs) ys i =
    let one : length (x ∷ xs) + i ≡ suc (length xs + i) = omega arith in
    ap (slice_get (x ∷ (xs ++ ys))) one ∙ get_behind xs ys i

pub slice_get_last : {A : Type 0} (xs : List A) (x : A) → slice_get (xs ++ x ∷ []) (length xs) ≡ Some x
slice_get_last [] x = refl
slice_get_last (x' ∷ xs) x = slice_get_last xs x
