-- How far a test passes from the front of a text on.
use Rattle.std.proofs.Common.{◌≡◌, ◌≤◌, ◌+◌, ℕ, suc, Bool, true, false, cond, not, List, [], ◌∷◌, ◌++◌, length, take, drop, Some, None, refl, sym, ap, ◌∙◌, arith, position, unwrap_or, inl, inr}
use Rattle.std.specs.List.{position_or_len, list_all}
use Rattle.std.proofs.lemmas.Bool.{lt-ltb, le-ltb, cases_lt, and_parts, not-true}
use Rattle.sql_lex.specs.Bytes.{goes_on_word, is_digit}
use Rattle.sql_lex.specs.Tokens.{begins_without}
use Rattle.sql_lex.specs.inner.Lexing.{front_len}

pub front_len-le : (p : ℕ → Bool) (xs : List ℕ) → front_len p xs ≤ length xs
front_len-le p [] = omega arith
front_len-le p (x ∷ xs) =
    let below = front_len-le p xs in
    elim (p x) as (λ b. cond b (suc (front_len p xs)) 0 ≤ suc (length xs)) [ true ↦ omega arith | false ↦ omega arith ]

front_len-position : (p : ℕ → Bool) (xs : List ℕ) → front_len p xs ≡ position_or_len (λ b. not (p b)) xs
front_len-position p [] = refl
front_len-position p (x ∷ xs) =
    let again = front_len-position p xs in
    elim (p x) as (λ b. cond b (suc (front_len p xs)) 0 ≡ cond (not (not b)) (1 + position_or_len (λ b. not (p b)) xs) 0) [ true ↦ omega arith | false ↦ refl ]

-- what `position` and a length tell together
front_at : (p : ℕ → Bool) (xs : List ℕ) → unwrap_or (position (λ b. not (p b)) xs) (length xs) ≡ front_len p xs
front_at p xs =
    let same = front_len-position p xs in
    let found = position_or_len (λ b. not (p b)) xs in
    elim (cases_lt found (length xs)) [
      | inl lt ↦ ap (λ (t : Bool). unwrap_or (cond t (Some found) None) (length xs)) (lt-ltb _ _ lt) ∙ sym same
      | inr le ↦ ap (λ (t : Bool). unwrap_or (cond t (Some found) None) (length xs)) (le-ltb _ _ le) ∙ omega (arith, front_len-le p xs)
    ]

-- the same of the two tests of the lexer
pub word_at : (xs : List ℕ) → unwrap_or (position (λ b. not (goes_on_word b)) xs) (length xs) ≡ front_len goes_on_word xs
word_at = front_at goes_on_word

pub digits_at : (xs : List ℕ) → unwrap_or (position (λ b. not (is_digit b)) xs) (length xs) ≡ front_len is_digit xs
digits_at = front_at is_digit

pub ruleset word_rules = (word_at, digits_at, front_len-le)

-- what passes, and what comes after it
pub front_passes : (p : ℕ → Bool) (xs : List ℕ) → list_all p (take (front_len p xs) xs) ≡ true
front_passes p [] = refl
front_passes p (x ∷ xs) =
    let again = front_passes p xs in
    elim (p x) as (λ b. p x ≡ b → list_all p (take (cond b (suc (front_len p xs)) 0) (x ∷ xs)) ≡ true) [
      | true ↦ λ e. rw (e, again) refl
      | false ↦ λ e. refl
    ] refl

pub front_stops : (p : ℕ → Bool) (xs : List ℕ) → begins_without p (drop (front_len p xs) xs) ≡ true
front_stops p [] = refl
front_stops p (x ∷ xs) =
    let again = front_stops p xs in
    elim (p x) as (λ b. p x ≡ b → begins_without p (drop (cond b (suc (front_len p xs)) 0) (x ∷ xs)) ≡ true) [
      | true ↦ λ e. again
      | false ↦ λ e. rw e refl
    ] refl

pub front_of : (p : ℕ → Bool) (xs ys : List ℕ) → list_all p xs ≡ true → begins_without p ys ≡ true → front_len p (xs ++ ys) ≡ length xs
front_of p [] [] all stop = refl
front_of p [] (y ∷ ys) all stop = rw (not-true (p y) stop) refl
front_of p (x ∷ xs) ys all stop =
    let parts = and_parts (p x) (list_all p xs) all in
    rw (parts.0, front_of p xs ys parts.1 stop) refl
