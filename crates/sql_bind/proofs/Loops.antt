-- Loops that bind one thing after the other, and tables of the names of what was bound.
use Rattle.std.proofs.Common.{◌≡◌, ℕ, suc, ◌+◌, ◌<◌, ◌≤◌, Bool, true, false, not, List, [], ◌∷◌, map, length, drop, get_or, is_some, Result, Ok, Err, refl, sym, ap, subst, ◌∙◌, arith}
use Rattle.std.proofs.lemmas.List.{drop_all}
use Rattle.std.proofs.lemmas.Result.{err_from_is_err_and}
use Rattle.std.proofs.Math.Seq.{drop-cons}
use Rattle.std.specs.Result.{IsErrAnd}
use Rattle.std.specs.List.{position}
use Rattle.std.specs.Str.{bytes_eq}
use Rattle.lint_base.specs.declared.place.Refusal.{Refusal}
use Rattle.lint_base.specs.declared.place.TextStop.{TextStop}
use Rattle.lint_base.specs.declared.place.TextStop.TheVariants as stop
use Rattle.sql_bind.specs.Bound.{Bound, and_then, Gives}
use Rattle.sql_bind.specs.inner.NameTables.{name_place}
use Rattle.sql_bind.proofs.NameTables.{name_place-map}

pub then_then : {A B C : Type 0} (b : Bound A) (f : A → Bound B) (g : B → Bound C) → and_then (and_then b f) g ≡ and_then b (λ a. and_then (f a) g)
unfolding and_then
then_then (Ok a) f g = refl
then_then (Err refusal) f g = refl

pub drop_next : {A : Type 0} (xs : List A) (i : ℕ) (x : A) → i < length xs → x ≡ get_or xs i x → drop i xs ≡ x ∷ drop (i + 1) xs
drop_next xs i x h is =
    let next : suc i ≡ i + 1 = omega arith in
    drop-cons xs i x h ∙ ap (λ y. y ∷ drop (suc i) xs) (sym is) ∙ ap (λ (n : ℕ). x ∷ drop n xs) next

-- what a `?` hands on, where a part that stops the whole was not bound
pub passes_on : {A B : Type 0} (one : Bound A) (whole : Bound B) (at : TextStop) (r : Result B TextStop) → ((refusal : Refusal) → one ≡ Err refusal → whole ≡ Err refusal) →
    Gives {A = A} one (Err at) → IsErrAnd r (λ y. y ≡ at) → Gives whole r
passes_on {A} {B} one whole at r through given is =
    let p = err_from_is_err_and r is in
    rw (p.1, p.2) (go at given)
  where
    go : (e : TextStop) → Gives {A = A} one (Err e) → Gives {A = B} whole (Err e)
    go stop.NoMemory given = tt
    go (stop.Refused refusal) given = through refusal given

pub gives_refusal : {A : Type 0} (bound : Bound A) (refusal : Refusal) (at : TextStop) → at ≡ stop.Refused refusal → bound ≡ Err refusal → Gives bound (Err at)
gives_refusal bound refusal at is h = subst (λ e. Gives bound (Err e)) (sym is) h

-- where the first of two things was not bound
pub first_stops : {A B : Type 0} (one : Bound A) (k : A → Bound B) (at : TextStop) → Gives {A = A} one (Err at) → Gives {A = B} (and_then one k) (Err at)
unfolding and_then
first_stops one k stop.NoMemory given = tt
first_stops one k (stop.Refused refusal) given = ap (λ b. and_then b k) given

-- what is bound of a list, from what was bound before, one thing at a time
abbrev pub IsStep : {S A R : Type 0} → (S → List A → Bound R) → (S → A → Bound S) → Type 0
IsStep {S} {A} rest step = (s : S) (x : A) (xs : List A) → rest s (x ∷ xs) ≡ and_then (step s x) (λ more. rest more xs)

module _ {S A R : Type 0} (rest : S → List A → Bound R) (step : S → A → Bound S) (is_step : IsStep rest step) (whole : Bound R) (s : S) (xs : List A) (i : ℕ) (invariant : rest s (drop i xs) ≡ whole) where
  next : (x : A) → i < length xs → x ≡ get_or xs i x → whole ≡ and_then (step s x) (λ more. rest more (drop (i + 1) xs))
  next x h is = sym invariant ∙ ap (rest s) (drop_next xs i x h is) ∙ is_step s x (drop (i + 1) xs)

  pub goes_on : (x : A) → i < length xs → x ≡ get_or xs i x → (more : S) → step s x ≡ Ok more → rest more (drop (i + 1) xs) ≡ whole
  unfolding and_then
  goes_on x h is more e = sym (next x h is ∙ ap (λ b. and_then b (λ more. rest more (drop (i + 1) xs))) e)

  pub stops : (x : A) → i < length xs → x ≡ get_or xs i x → (at : TextStop) (r : Result R TextStop) → Gives {A = S} (step s x) (Err at) → IsErrAnd r (λ y. y ≡ at) → Gives whole r
  unfolding and_then
  stops x h is at r given e =
      passes_on (step s x) whole at r (λ refusal refused. next x h is ∙ ap (λ b. and_then b (λ more. rest more (drop (i + 1) xs))) refused) given e

  pub ends : length xs ≤ i → whole ≡ rest s []
  ends h = sym invariant ∙ ap (rest s) (drop_all i xs h)

module _ {A : Type 0} (name_of : A → List ℕ) where
  twice : (b : Bool) → b ≡ not (not b)
  twice true = refl
  twice false = refl

  pub is_there : (new : Bool) (names : List (List ℕ)) (xs : List A) (name : List ℕ) → names ≡ map name_of xs → new ≡ not (is_some (name_place names name)) →
      is_some (position (λ x. bytes_eq (name_of x) name) xs) ≡ not new
  is_there new names xs name is e =
      ap is_some (sym (name_place-map name_of xs name)) ∙ ap (λ ns. is_some (name_place ns name)) (sym is) ∙ twice (is_some (name_place names name)) ∙ ap not (sym e)
