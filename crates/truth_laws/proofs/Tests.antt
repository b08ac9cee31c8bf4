-- Tests of all and of some elements of lists.
use Rattle.std.proofs.Common.{◌≡◌, ◌∙◌, refl, sym, ap, ap₂, ℕ, zero, suc, Bool, true, false, ◌&&◌, List, [], ◌∷◌, ◌++◌, map, length}
use Rattle.std.proofs.lemmas.List.{map-append}
use Rattle.std.proofs.lemmas.List.Folds.{list_all-map}
use Rattle.std.specs.List.{list_any, list_all}
use Rattle.std.specs.Prelude.{Option, Some, slice_get}
use Rattle.lint_core.specs.declared.database.Database.{Database}
use Rattle.lint_core.specs.Database.{Place, below, rows_of, places_of}
use Rattle.lint_base.proofs.Lists.{any_map, both_left, both_right, all_alike, any_alike}

-- two tests that agree where a third says yes agree on a list of which that says yes
pub all_where : {A : Type 0} (t p q : A → Bool) → ((x : A) → t x ≡ true → p x ≡ q x) → (xs : List A) → list_all t xs ≡ true → list_all p xs ≡ list_all q xs
all_where t p q alike [] all = refl
all_where t p q alike (x ∷ xs) all =
    ap₂ (λ a b. a && b) (alike x (both_left (t x) (list_all t xs) all)) (all_where t p q alike xs (both_right (t x) (list_all t xs) all))

and_middle : (a b c d : Bool) → (a && b && (c && d)) ≡ (a && c && (b && d))
and_middle true true c d = refl
and_middle true false true d = refl
and_middle true false false d = refl
and_middle false b c d = refl

pub all_both : {A : Type 0} (p q : A → Bool) (xs : List A) → (list_all p xs && list_all q xs) ≡ list_all (λ x. p x && q x) xs
all_both p q [] = refl
all_both p q (x ∷ xs) = and_middle (p x) (list_all p xs) (q x) (list_all q xs) ∙ ap (λ b. p x && q x && b) (all_both p q xs)

pub all_true : {A : Type 0} (xs : List A) → list_all (λ (x : A). true) xs ≡ true
all_true [] = refl
all_true (x ∷ xs) = all_true xs

-- the numbers below one more, the first alone
below_more : (n : ℕ) → below (suc n) ≡ zero ∷ map suc (below n)
below_more zero = refl
below_more (suc n) = ap (λ (ks : List ℕ). ks ++ suc n ∷ []) (below_more n) ∙ ap (λ (ks : List ℕ). zero ∷ ks) (sym (map-append suc (below n) (n ∷ [])))

-- all places of a list pass where all its elements do
pub all_places : {A : Type 0} (p : Option A → Bool) (xs : List A) → list_all (λ k. p (slice_get xs k)) (below (length xs)) ≡ list_all (λ x. p (Some x)) xs
all_places p [] = refl
all_places p (x ∷ xs) =
    ap (list_all (λ k. p (slice_get (x ∷ xs) k))) (below_more (length xs))
    ∙ ap (λ b. p (Some x) && b) (list_all-map (λ k. p (slice_get (x ∷ xs) k)) suc (below (length xs)) ∙ all_places p xs)

module _ (db : Database) (number : ℕ) where
  abbrev pub place_in : ℕ → Place
  place_in row = record { table = number; row = row }

  -- of all rows of a table, and of some row
  pub over_all : (p q : Place → Bool) → ((row : ℕ) → p (place_in row) ≡ q (place_in row)) → list_all p (places_of db number) ≡ list_all q (places_of db number)
  over_all p q alike =
      let rows = below (length (rows_of db number)) in
      list_all-map p place_in rows ∙ (all_alike (λ row. q (place_in row)) (λ row. p (place_in row)) alike rows ∙ sym (list_all-map q place_in rows))

  pub over_some : (p q : Place → Bool) → ((row : ℕ) → p (place_in row) ≡ q (place_in row)) → list_any p (places_of db number) ≡ list_any q (places_of db number)
  over_some p q alike =
      let rows = below (length (rows_of db number)) in
      any_map place_in p rows ∙ (any_alike (λ row. q (place_in row)) (λ row. p (place_in row)) alike rows ∙ sym (any_map place_in q rows))
