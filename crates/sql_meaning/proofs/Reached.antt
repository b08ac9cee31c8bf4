-- How a search goes on behind a list.
use Rattle.std.proofs.Common.{◌≡◌, ◌∙◌, refl, sym, ap, ap₂, ℕ, zero, suc, ◌+◌, ◌<◌, length, drop, drop-cons, get_or, arith, List, [], ◌∷◌, ◌++◌, Result, Ok, Err, slice_get}
use Rattle.std.specs.Result.{result_ok}
use Rattle.std.specs.List.{flat_map}
use Rattle.sql_meaning.specs.inner.Reached.{item_at}

abbrev pub behind_it : {A : Type 0} → Result A ℕ → List A → Result A ℕ
behind_it (Ok x) ys = Ok x
behind_it (Err n) ys = item_at ys n

pub item_append : {A : Type 0} (xs ys : List A) (n : ℕ) → item_at (xs ++ ys) n ≡ behind_it (item_at xs n) ys
item_append [] ys n = refl
item_append (x ∷ xs) ys zero = refl
item_append (x ∷ xs) ys (suc n) = item_append xs ys n

pub item_there : {A : Type 0} (xs ys : List A) (n : ℕ) (x : A) → Ok x ≡ item_at xs n → item_at (xs ++ ys) n ≡ Ok x
item_there xs ys n x is = item_append xs ys n ∙ ap (λ r. behind_it r ys) (sym is)

pub item_later : {A : Type 0} (xs ys : List A) (n m : ℕ) → Err m ≡ item_at xs n → item_at (xs ++ ys) n ≡ item_at ys m
item_later xs ys n m is = item_append xs ys n ∙ ap (λ r. behind_it r ys) (sym is)

pub item_get : {A : Type 0} (xs : List A) (n : ℕ) → result_ok (item_at xs n) ≡ slice_get xs n
item_get [] n = refl
item_get (x ∷ xs) zero = refl
item_get (x ∷ xs) (suc n) = item_get xs n

flat_drop : {X Y : Type 0} (f : X → List Y) (xs : List X) (i : ℕ) (x : X) → i < length xs → x ≡ get_or xs i x → flat_map f (drop i xs) ≡ f x ++ flat_map f (drop (i + 1) xs)
flat_drop f xs i x within is =
    let next : suc i ≡ i + 1 = omega arith in
    ap (flat_map f) (drop-cons xs i x within) ∙ ap₂ (λ y k. f y ++ flat_map f (drop k xs)) (sym is) next

-- the search in the list of each, at the one of this index
pub each_later : {X Y : Type 0} (f : X → List Y) (xs : List X) (i n m : ℕ) (x : X) (whole : Result Y ℕ) → i < length xs → x ≡ get_or xs i x →
    item_at (flat_map f (drop i xs)) n ≡ whole → Err m ≡ item_at (f x) n → item_at (flat_map f (drop (i + 1) xs)) m ≡ whole
each_later f xs i n m x whole within is so_far left =
    sym (item_later (f x) (flat_map f (drop (i + 1) xs)) n m left) ∙ (sym (ap (λ l. item_at l n) (flat_drop f xs i x within is)) ∙ so_far)

pub each_there : {X Y : Type 0} (f : X → List Y) (xs : List X) (i n : ℕ) (x : X) (y : Y) (whole : Result Y ℕ) → i < length xs → x ≡ get_or xs i x →
    item_at (flat_map f (drop i xs)) n ≡ whole → Ok y ≡ item_at (f x) n → Ok y ≡ whole
each_there f xs i n x y whole within is so_far found =
    sym (item_there (f x) (flat_map f (drop (i + 1) xs)) n y found) ∙ (sym (ap (λ l. item_at l n) (flat_drop f xs i x within is)) ∙ so_far)

pub last_later : {A : Type 0} (x : A) (n m : ℕ) → n ≡ m + 1 → item_at (x ∷ []) n ≡ Err m
last_later x n m is =
    let next : n ≡ suc m = omega arith in
    ap (item_at (x ∷ [])) next
