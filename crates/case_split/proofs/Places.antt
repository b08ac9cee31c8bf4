-- Elements of lists by their places.
use Rattle.std.proofs.Common.{◌≡◌, ◌∙◌, ap, refl, ℕ, zero, suc, ◌<◌, List, [], ◌∷◌, length, take, get_or, arith}
use Rattle.std.proofs.lemmas.Option.{slice_get_read}
use Rattle.std.specs.Option.{is_some, option_map_or}
use Rattle.std.specs.Prelude.{Bool, true, false, Option, Some, None, slice_get}

-- an element at each place of the length
pub there : {A : Type 0} (xs : List A) (i : ℕ) → i < length xs → (x : A) × (slice_get xs i ≡ Some x)
there [] i low = absurd (omega arith)
there (x ∷ xs) zero low = (x, refl)
there (x ∷ xs) (suc i) low = there xs i (omega arith)

pub take_at : {A : Type 0} (xs : List A) (n i : ℕ) → i < n → slice_get (take n xs) i ≡ slice_get xs i
take_at xs zero i low = absurd (omega arith)
take_at [] (suc n) i low = refl
take_at (x ∷ xs) (suc n) zero low = refl
take_at (x ∷ xs) (suc n) (suc i) low = take_at xs n i (omega arith)

-- what an index reads
pub read_at : {A : Type 0} (xs : List A) (i : ℕ) (x : A) → i < length xs → x ≡ get_or xs i x → slice_get xs i ≡ Some x
read_at xs i x low is = slice_get_read xs (length xs) i x refl low is

some_is : (x : Option ℕ) → is_some x ≡ true → (w : ℕ) × (x ≡ Some w)
some_is None is = cc
some_is (Some w) is = (w, refl)

none_is : (x : Option ℕ) → is_some x ≡ false → x ≡ None
none_is None is = refl
none_is (Some w) is = cc

pub some_read : (xs : List (Option ℕ)) (i : ℕ) (x : Option ℕ) → i < length xs → x ≡ get_or xs i x → is_some x ≡ true → (w : ℕ) × (slice_get xs i ≡ Some (Some w))
some_read xs i x low is there = let w = some_is x there in (w.0, read_at xs i x low is ∙ ap Some w.1)

pub none_read : (xs : List (Option ℕ)) (i : ℕ) (x : Option ℕ) → i < length xs → x ≡ get_or xs i x → is_some x ≡ false → slice_get xs i ≡ Some None
none_read xs i x low is there = read_at xs i x low is ∙ ap Some (none_is x there)

pub mark_read : (marks : List Bool) (i : ℕ) (b : Bool) → i < length marks → b ≡ get_or marks i b → option_map_or (λ b. b) (slice_get marks i) false ≡ b
mark_read marks i b low is = ap (λ o. option_map_or (λ b. b) o false) (read_at marks i b low is)
