-- Numbers that pass a test: the first one, and how many there are before one.
use Rattle.std.proofs.Common.{◌≡◌, ◌∙◌, sym, ap, refl, ℕ, zero, suc, ◌+◌, ◌<◌, ◌⊎◌, inl, inr, Bool, true, false, cond, List, [], ◌∷◌, ◌++◌, length, map, append-nil, arith}
use Rattle.std.proofs.lemmas.List.{length-append}
use Rattle.std.proofs.lemmas.List.Elements.{filter-append}
use Rattle.std.specs.Prelude.{Some, slice_get}
use Rattle.std.specs.List.{filter}
use Rattle.lint_core.specs.Database.{below}
use Rattle.sorted_skolem.proofs.Among.{counted, below_is}
use Rattle.instantiate.proofs.TermLists.{last_or}

pub kept : (test : ℕ → Bool) (k : ℕ) → test k ≡ true → filter test (k ∷ []) ≡ k ∷ []
kept test k passes = ap (λ b. cond b (k ∷ []) []) passes

pub passed : (test : ℕ → Bool) (k : ℕ) → test k ≡ false → filter test (k ∷ []) ≡ []
passed test k fails = ap (λ b. cond b (k ∷ []) []) fails

pub filter_last : (test : ℕ → Bool) (n : ℕ) → filter test (below (suc n)) ≡ filter test (below n) ++ filter test (n ∷ [])
filter_last test n = filter-append test (below n) (n ∷ [])

-- ---- the first

pub record IsNone (test : ℕ → Bool) (n : ℕ) : Type 0 where
  pub none : (k : ℕ) → k < n → test k ≡ false
  pub is : filter test (below n) ≡ []

pub record IsHead (test : ℕ → Bool) (n : ℕ) : Type 0 where
  pub at : ℕ
  pub low : at < n
  pub passes : test at ≡ true
  pub none : (k : ℕ) → k < at → test k ≡ false
  pub rest : List ℕ
  pub is : filter test (below n) ≡ at ∷ rest

head_next : (test : ℕ → Bool) (n : ℕ) → IsNone test n → (b : Bool) → test n ≡ b → IsNone test (suc n) ⊎ IsHead test (suc n)
head_next test n none true is =
    inr (record { at = n; low = omega arith; passes = is; none = none.none; rest = []; is = filter_last test n ∙ (ap (λ ks. ks ++ filter test (n ∷ [])) none.is ∙ kept test n is) })
head_next test n none false is =
    inl (record {
      none = λ k low. elim (last_or n k low) [ inl earlier ↦ none.none k earlier | inr same ↦ ap test same ∙ is ];
      is = filter_last test n ∙ (ap (λ ks. ks ++ filter test (n ∷ [])) none.is ∙ passed test n is);
    })

pub head : (test : ℕ → Bool) (n : ℕ) → IsNone test n ⊎ IsHead test n
head test zero = inl (record { none = λ k low. absurd (omega arith); is = refl })
head test (suc n) =
    elim (head test n) [
      | inl none ↦ head_next test n none (test n) refl
      | inr found ↦
          let low = found.low in
          inr (record {
            at = found.at;
            low = omega arith;
            passes = found.passes;
            none = found.none;
            rest = found.rest ++ filter test (n ∷ []);
            is = filter_last test n ∙ ap (λ ks. ks ++ filter test (n ∷ [])) found.is;
          })
    ]

-- ---- how many before

pub record HasRank (test : ℕ → Bool) (n rank : ℕ) : Type 0 where
  pub at : ℕ
  pub low : at < n
  pub passes : test at ≡ true
  pub is : length (filter test (below at)) ≡ rank

later : (test : ℕ → Bool) (n rank : ℕ) → HasRank test n rank → HasRank test (suc n) rank
later test n rank found = let low = found.low in record { at = found.at; low = omega arith; passes = found.passes; is = found.is }

either : (m n : ℕ) → (m < n) ⊎ (n < suc m)
either m n = grind arith

last_rank : (test : ℕ → Bool) (n rank : ℕ) → rank < length (filter test (below (suc n))) → length (filter test (below n)) < suc rank → (b : Bool) → test n ≡ b → HasRank test (suc n) rank
last_rank test n rank low high true is =
    let size : length (filter test (below (suc n))) ≡ length (filter test (below n)) + 1 =
    ap length (filter_last test n ∙ ap (λ ks. filter test (below n) ++ ks) (kept test n is)) ∙ length-append (filter test (below n)) (n ∷ []) in
    record { at = n; low = omega arith; passes = is; is = omega arith }
last_rank test n rank low high false is =
    let size : length (filter test (below (suc n))) ≡ length (filter test (below n)) =
    ap length (filter_last test n ∙ (ap (λ ks. filter test (below n) ++ ks) (passed test n is) ∙ append-nil (filter test (below n)))) in
    absurd (omega arith)

-- each rank below the count is that of a number
pub ranked : (test : ℕ → Bool) (n rank : ℕ) → rank < length (filter test (below n)) → HasRank test n rank
ranked test zero rank low = absurd (omega arith)
ranked test (suc n) rank low =
    elim (either rank (length (filter test (below n)))) [
      | inl less ↦ later test n rank (ranked test n rank less)
      | inr more ↦ last_rank test n rank low more (test n) refl
    ]

-- ---- lists by their places

alike_from : {A B : Type 0} (f : ℕ → B) (g : A → B) (k : ℕ) (xs : List A) → ((i : ℕ) (x : A) → slice_get xs i ≡ Some x → f (k + i) ≡ g x) → map f (counted k (length xs)) ≡ map g xs
alike_from f g k [] each = refl
alike_from f g k (x ∷ xs) each =
    let here : k + 0 ≡ k = omega arith in
    ap (λ ys. f k ∷ ys)
    (alike_from f g (suc k) xs (λ i y at. let same : suc k + i ≡ k + suc i = omega arith in ap f same ∙ each (suc i) y at))
    ∙ ap (λ y. y ∷ map g xs) (ap f (sym here) ∙ each 0 x refl)

-- what is made of the places is what is made of the elements
pub alike_below : {A B : Type 0} (f : ℕ → B) (g : A → B) (xs : List A) → ((i : ℕ) (x : A) → slice_get xs i ≡ Some x → f i ≡ g x) → map f (below (length xs)) ≡ map g xs
alike_below f g xs each =
    ap (map f) (below_is (length xs))
    ∙ alike_from f g 0 xs (λ i x at. let same : 0 + i ≡ i = omega arith in ap f same ∙ each i x at)

pub fused : {A B C : Type 0} (f : B → C) (g : A → B) (xs : List A) → map f (map g xs) ≡ map (λ x. f (g x)) xs
fused f g [] = refl
fused f g (x ∷ xs) = ap (λ ys. f (g x) ∷ ys) (fused f g xs)
