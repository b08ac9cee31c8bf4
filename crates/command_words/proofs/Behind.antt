-- What stands behind a front.
use Rattle.std.proofs.Common.{◌≡◌, ◌≢◌, ◌∙◌, sym, ap, ap₂, refl, ℕ, List, [], ◌∷◌, ◌++◌, Option, Some, None, Bor, option_map, inl, inr}
use Rattle.std.proofs.lemmas.Bool.{eq-eqb}
use Rattle.std.proofs.lemmas.Bool.Decides.{eqb_tells}
use Rattle.std.proofs.lemmas.Option.{same_Some}
use Rattle.std.specs.Option.{MatchOption}
use Rattle.std.specs.Str.Pattern.{FindsTextPrefix, StripsPrefix}
use Rattle.command_words.specs.WantedOf.{behind}
use Rattle.command_words.specs.inner.Views.{text_view}

pub behind_front : (front rest : List ℕ) → behind front (front ++ rest) ≡ Some rest
behind_front [] rest = refl
behind_front (c ∷ front) rest = rw (eq-eqb c c refl) (behind_front front rest)

pub behind_lacks : (front word : List ℕ) → ((rest : List ℕ) → word ≢ front ++ rest) → behind front word ≡ None
behind_lacks [] word lacks = absurd (lacks word refl)
behind_lacks (c ∷ front) [] lacks = refl
behind_lacks (c ∷ front) (b ∷ word) lacks =
    elim (eqb_tells b c) [
      | inl same ↦ let inner : behind front word ≡ None = behind_lacks front word (λ rest is. lacks rest (ap₂ (λ (x : ℕ) (y : List ℕ). x ∷ y) same.1 is)) in rw (same.0) inner
      | inr other ↦ rw (other.0) refl
    ]

pub behind_is : (front word rest : List ℕ) → behind front word ≡ Some rest → word ≡ front ++ rest
behind_is [] word rest is = same_Some _ _ is
behind_is (c ∷ front) [] rest is = cc
behind_is (c ∷ front) (b ∷ word) rest is =
    elim (eqb_tells b c) [
      | inl same ↦ let inner : behind front word ≡ Some rest = rw (same.0) at is in ap₂ (λ (x : ℕ) (y : List ℕ). x ∷ y) same.1 (behind_is front word rest inner)
      | inr other ↦ let none : None ≡ Some rest = rw (other.0) at is in cc
    ]

-- what `strip_prefix` leaves
pub strips : (front word : List ℕ) (r : Option (Bor (List ℕ))) → MatchOption r (FindsTextPrefix front word None) (λ x. StripsPrefix (FindsTextPrefix front) word x.now) → option_map text_view r ≡ behind front word
strips front word None lacks = sym (behind_lacks front word lacks)
strips front word (Some x) (n, finds, is, long) =
    let whole : word ≡ front ++ x.now = finds.1 ∙ ap (λ (rest : List ℕ). front ++ rest) (sym is) in
    sym (ap (behind front) whole ∙ behind_front front x.now)
