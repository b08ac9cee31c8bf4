-- Lists by their places, and tests over them.
use Rattle.std.proofs.Common.{ℕ, zero, suc, ◌+◌, ◌≡◌, refl, sym, ap, ap₂, ◌∙◌, Bool, true, ◌&&◌, List, [], ◌∷◌, ◌++◌, length, map, take, drop, Some, slice_get, nat_lt, zero-add, suc-add, arith, ltb-true, lt-ltb}
use Rattle.std.proofs.lemmas.Option.{cond_some, same_Some}
use Rattle.std.proofs.lemmas.Bool.{and_parts, and_from}
use Rattle.std.specs.List.{list_all, position, position_or_len}

pub map-map : {A B C : Type 0} (g : B → C) (f : A → B) (xs : List A) → map g (map f xs) ≡ map (λ x. g (f x)) xs
map-map g f [] = refl
map-map g f (x ∷ xs) = ap (λ rest. g (f x) ∷ rest) (map-map g f xs)

pub same_head : {A : Type 0} (x y : A) (xs ys : List A) → x ∷ xs ≡ y ∷ ys → x ≡ y
same_head x y xs ys e = cc

-- what is inside is there
pub inside : {A : Type 0} (xs : List A) (i : ℕ) → nat_lt i (length xs) ≡ true → (x : A) × (slice_get xs i ≡ Some x)
inside [] i e = absurd (omega (arith, ltb-true i 0 e))
inside (x ∷ xs) zero e = (x, refl)
inside (x ∷ xs) (suc i) e = inside xs i (lt-ltb i (length xs) (omega (arith, ltb-true (suc i) (suc (length xs)) e)))

pub position_inside : {A : Type 0} (test : A → Bool) (xs : List A) (i : ℕ) → position test xs ≡ Some i → nat_lt i (length xs) ≡ true
position_inside test xs i e =
    let found : (nat_lt (position_or_len test xs) (length xs) ≡ true) × (position_or_len test xs ≡ i) = cond_some (nat_lt (position_or_len test xs) (length xs)) (position_or_len test xs) i e in
    ap (λ n. nat_lt n (length xs)) (sym found.1) ∙ found.0

pub position_there : {A : Type 0} (test : A → Bool) (xs : List A) (i : ℕ) → position test xs ≡ Some i → (x : A) × (slice_get xs i ≡ Some x)
position_there test xs i e = inside xs i (position_inside test xs i e)

pub get-append_at : {A : Type 0} (xs : List A) (y : A) (ys : List A) → slice_get (xs ++ y ∷ ys) (length xs) ≡ Some y
get-append_at [] y ys = refl
get-append_at (x ∷ xs) y ys = get-append_at xs y ys

pub get-take : {A : Type 0} (n : ℕ) (xs : List A) (i : ℕ) (x : A) → slice_get (take n xs) i ≡ Some x → slice_get xs i ≡ Some x
get-take zero xs i x e = absurd (cc)
get-take (suc n) [] i x e = absurd (cc)
get-take (suc n) (a ∷ xs) zero x e = e
get-take (suc n) (a ∷ xs) (suc i) x e = get-take n xs i x e

pub get-drop : {A : Type 0} (n : ℕ) (xs : List A) (i : ℕ) → slice_get (drop n xs) i ≡ slice_get xs (n + i)
get-drop zero xs i = rw (zero-add i)
get-drop (suc n) [] i = refl
get-drop (suc n) (a ∷ xs) i = rw (suc-add n i) (get-drop n xs i)

-- every element passes where the one at each place does
pub all_from_each : {A : Type 0} (test : A → Bool) (xs : List A) → ((i : ℕ) (x : A) → slice_get xs i ≡ Some x → test x ≡ true) → list_all test xs ≡ true
all_from_each test [] each = refl
all_from_each test (x ∷ xs) each = and_from (test x) (list_all test xs) (each 0 x refl) (all_from_each test xs (λ i y e. each (suc i) y e))

pub all_push : {A : Type 0} (test : A → Bool) (xs : List A) (x : A) → list_all test xs ≡ true → test x ≡ true → list_all test (xs ++ x ∷ []) ≡ true
all_push test [] x all e = and_from (test x) true e refl
all_push test (a ∷ xs) x all e =
    let both = and_parts (test a) (list_all test xs) all in
    and_from (test a) (list_all test (xs ++ x ∷ [])) both.0 (all_push test xs x both.1 e)

pub all_weaker : {A : Type 0} (test other : A → Bool) → ((x : A) → test x ≡ true → other x ≡ true) → (xs : List A) → list_all test xs ≡ true → list_all other xs ≡ true
all_weaker test other each [] all = refl
all_weaker test other each (x ∷ xs) all =
    let both = and_parts (test x) (list_all test xs) all in
    and_from (other x) (list_all other xs) (each x both.0) (all_weaker test other each xs both.1)

pub all_same : {A : Type 0} (test other : A → Bool) → ((x : A) → test x ≡ other x) → (xs : List A) → list_all test xs ≡ list_all other xs
all_same test other each [] = refl
all_same test other each (x ∷ xs) = ap₂ (λ a b. a && b) (each x) (all_same test other each xs)
