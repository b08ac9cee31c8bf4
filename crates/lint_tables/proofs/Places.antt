-- The place of the first of some images that passes a test.
use Rattle.std.proofs.Common.{◌≡◌, ◌∙◌, ap, ℕ, ◌<◌, ◌+◌, Bool, true, false, List, Some, None, length, map, get_or, arith, sym, below_more}
use Rattle.std.specs.List.{position, position_or_len}
use Rattle.std.proofs.lemmas.Grind.{common_steps}
use Rattle.std.proofs.lemmas.List.{get_or-map, length-map}
use Rattle.std.proofs.lemmas.List.Sums.{position_or_len_is}

-- the test of the image at a place
image_at : {X Y : Type 0} (f : X → Y) (p : Y → Bool) (xs : List X) (i : ℕ) (d : X) (e : Y) (y : Y) (b : Bool) → i < length xs → y ≡ f (get_or xs i d) → p y ≡ b → p (get_or (map f xs) i e) ≡ b
image_at f p xs i d e y b within image tested = ap p (get_or-map f xs i d e within ∙ sym image) ∙ tested

pub place_found : {X Y : Type 0} (f : X → Y) (p : Y → Bool) (xs : List X) (i : ℕ) (d : X) (e : Y) (y : Y) → i < length xs → ((k : ℕ) → k < i → p (get_or (map f xs) k e) ≡ false) → y ≡ f (get_or xs i d) → p y ≡ true → Some i ≡ position p (map f xs)
place_found f p xs i d e y within before image passes =
    let len : length (map f xs) ≡ length xs = length-map xs f in
    let first : position_or_len p (map f xs) ≡ i = position_or_len_is p (map f xs) i e (omega arith) before (λ _. image_at f p xs i d e y true within image passes) in
    grind (arith, common_steps, first, len)

pub place_missing : {X Y : Type 0} (f : X → Y) (p : Y → Bool) (xs : List X) (i : ℕ) (e : Y) → i ≡ length xs → ((k : ℕ) → k < i → p (get_or (map f xs) k e) ≡ false) → None ≡ position p (map f xs)
place_missing f p xs i e end before =
    let len : length (map f xs) ≡ length xs = length-map xs f in
    let first : position_or_len p (map f xs) ≡ i = position_or_len_is p (map f xs) i e (omega arith) before (λ h. absurd (omega arith)) in
    grind (arith, common_steps, first, len)

pub still_missing : {X Y : Type 0} (f : X → Y) (p : Y → Bool) (xs : List X) (i : ℕ) (d : X) (e : Y) (y : Y) → i < length xs → ((k : ℕ) → k < i → p (get_or (map f xs) k e) ≡ false) → y ≡ f (get_or xs i d) → p y ≡ false → (k : ℕ) → k < i + 1 → p (get_or (map f xs) k e) ≡ false
still_missing f p xs i d e y within before image fails =
    below_more _ _ before (image_at f p xs i d e y false within image fails)
