-- What stands in a list, and lists in which nothing stands twice.
use Rattle.std.proofs.Common.{◌≡◌, ◌≢◌, ◌∙◌, ◌⊎◌, inl, inr, refl, sym, ap, Bool, true, false, List, [], ◌∷◌, ◌++◌, map, length, arith, ◌≤◌}
use Rattle.std.specs.Prelude.{◌↔◌, ⊤, cond}
use Rattle.std.proofs.lemmas.Bool.{and_parts, and_from}
use Rattle.std.specs.List.{filter, flat_map, list_all}
use Rattle.meaning_laws.proofs.Members.{Stands, stands_map}

-- nothing stands twice
abbrev pub AllDiffer : {A : Type 0} → List A → Type 0
AllDiffer [] = ⊤
AllDiffer {A = A} (x ∷ xs) = ((y : A) → Stands y xs → x ≢ y) × AllDiffer xs

-- ---- one list after another

pub stands_either : {A : Type 0} (x : A) (xs ys : List A) → Stands x (xs ++ ys) → Stands x xs ⊎ Stands x ys
stands_either x [] ys here = inr here
stands_either x (y ∷ xs) ys (inl same) = inl (inl same)
stands_either x (y ∷ xs) ys (inr more) = elim (stands_either x xs ys more) [ inl front ↦ inl (inr front) | inr behind ↦ inr behind ]

pub differ_append : {A : Type 0} (xs ys : List A) → AllDiffer xs → AllDiffer ys → ((x y : A) → Stands x xs → Stands y ys → x ≢ y) → AllDiffer (xs ++ ys)
differ_append [] ys first second apart = second
differ_append (x ∷ xs) ys first second apart = (
  λ y here. elim (stands_either y xs ys here) [ inl front ↦ first.0 y front | inr behind ↦ apart x y (inl refl) behind ],
  differ_append xs ys first.1 second (λ a b in_front. apart a b (inr in_front)),
)

-- ---- a map

pub map_stands : {A B : Type 0} (f : A → B) (y : B) (xs : List A) → Stands y (map f xs) → (x : A) × Stands x xs × (f x ≡ y)
map_stands f y [] here = absurd here
map_stands f y (x ∷ xs) (inl same) = (x, inl refl, same)
map_stands f y (x ∷ xs) (inr more) = let found = map_stands f y xs more in (found.0, inr found.1, found.2)

-- of things that differ the values differ
pub differ_map : {A B : Type 0} (f : A → B) (xs : List A) → AllDiffer xs → ((a b : A) → Stands a xs → Stands b xs → a ≢ b → f a ≢ f b) → AllDiffer (map f xs)
differ_map f [] differ apart = tt
differ_map f (x ∷ xs) differ apart = (
  λ y here. let found = map_stands f y xs here in
      λ same. apart x found.0 (inl refl) (inr found.1) (differ.0 found.0 found.1) (same ∙ sym found.2),
  differ_map f xs differ.1 (λ a b one two. apart a b (inr one) (inr two)),
)

pub map_differ : {A B : Type 0} (f : A → B) (xs : List A) → AllDiffer (map f xs) → (a b : A) → Stands a xs → Stands b xs → a ≢ b → f a ≢ f b
map_differ f [] differ a b one two apart = absurd one
map_differ f (x ∷ xs) differ a b (inl one) (inl two) apart = absurd (apart (sym one ∙ two))
map_differ f (x ∷ xs) differ a b (inl one) (inr two) apart = λ same. differ.0 (f b) (stands_map f b xs two) (ap f one ∙ same)
map_differ f (x ∷ xs) differ a b (inr one) (inl two) apart = λ same. differ.0 (f a) (stands_map f a xs one) (ap f two ∙ sym same)
map_differ f (x ∷ xs) differ a b (inr one) (inr two) apart = map_differ f xs differ.1 a b one two apart

-- ---- a list for each

pub flat_map_stands : {A B : Type 0} (f : A → List B) (y : B) (xs : List A) → Stands y (flat_map f xs) → (x : A) × Stands x xs × Stands y (f x)
flat_map_stands f y [] here = absurd here
flat_map_stands f y (x ∷ xs) here =
    elim (stands_either y (f x) (flat_map f xs) here) [
      | inl front ↦ (x, inl refl, front)
      | inr behind ↦ let found = flat_map_stands f y xs behind in (found.0, inr found.1, found.2)
    ]

pub differ_flat_map : {A B : Type 0} (f : A → List B) (xs : List A) → AllDiffer xs → ((x : A) → AllDiffer (f x)) →
    ((a b : A) (y z : B) → a ≢ b → Stands y (f a) → Stands z (f b) → y ≢ z) → AllDiffer (flat_map f xs)
differ_flat_map f [] differ each apart = tt
differ_flat_map f (x ∷ xs) differ each apart =
    differ_append (f x) (flat_map f xs) (each x) (differ_flat_map f xs differ.1 each apart)
    (λ y z one two. let found = flat_map_stands f z xs two in apart x found.0 y z (differ.0 found.0 found.1) one found.2)

-- ---- a filter

found_kept : {A : Type 0} (x y : A) (ys : List A) (b : Bool) → Stands x (cond b (y ∷ ys) ys) → ((b ≡ true) × (y ≡ x)) ⊎ Stands x ys
found_kept x y ys true (inl same) = inl (refl, same)
found_kept x y ys true (inr more) = inr more
found_kept x y ys false here = inr here

pub filter_stands : {A : Type 0} (p : A → Bool) (x : A) (xs : List A) → Stands x (filter p xs) → Stands x xs × (p x ≡ true)
filter_stands p x [] here = absurd here
filter_stands p x (y ∷ xs) here =
    elim (found_kept x y (filter p xs) (p y) here) [
      | inl both ↦ (inl both.1, ap p (sym both.1) ∙ both.0)
      | inr more ↦ let found = filter_stands p x xs more in (inr found.0, found.1)
    ]

pub differ_filter : {A : Type 0} (p : A → Bool) (xs : List A) → AllDiffer xs → AllDiffer (filter p xs)
differ_filter p [] differ = tt
differ_filter p (x ∷ xs) differ =
    elim (p x) as (λ b. AllDiffer (cond b (x ∷ filter p xs) (filter p xs))) [
      | true ↦ (λ y here. differ.0 y (filter_stands p y xs here).0, differ_filter p xs differ.1)
      | false ↦ differ_filter p xs differ.1
    ]

-- all pass
pub filter_all : {A : Type 0} (p : A → Bool) (xs : List A) → ((x : A) → Stands x xs → p x ≡ true) → filter p xs ≡ xs
filter_all p [] pass = refl
filter_all p (x ∷ xs) pass = rw (pass x (inl refl)) (ap (λ ys. x ∷ ys) (filter_all p xs (λ y here. pass y (inr here))))

-- a filter that leaves as many
pub filter_shorter : {A : Type 0} (p : A → Bool) (xs : List A) → length (filter p xs) ≤ length xs
filter_shorter p [] = omega arith
filter_shorter p (x ∷ xs) =
    let less = filter_shorter p xs in
    elim (p x) as (λ b. length (cond b (x ∷ filter p xs) (filter p xs)) ≤ length (x ∷ xs)) [ true ↦ omega arith | false ↦ omega arith ]

pub as_many_pass : {A : Type 0} (p : A → Bool) (xs : List A) → length (filter p xs) ≡ length xs → (x : A) → Stands x xs → p x ≡ true
as_many_pass p [] many x here = absurd here
as_many_pass p (y ∷ xs) many x here =
    let less = filter_shorter p xs in
    elim (p y) as (λ b. p y ≡ b → length (cond b (y ∷ filter p xs) (filter p xs)) ≡ length (y ∷ xs) → p x ≡ true) [
      | true ↦ λ passes as_many. elim here [ inl same ↦ ap p (sym same) ∙ passes | inr more ↦ as_many_pass p xs (omega arith) x more ]
      | false ↦ λ fails as_many. absurd (omega arith)
    ]
    refl many

-- ---- a test of all

pub all_stand : {A : Type 0} (p : A → Bool) (xs : List A) → (list_all p xs ≡ true) ↔ ((x : A) → Stands x xs → p x ≡ true)
all_stand p [] = (λ all x here. absurd here, λ each. refl)
all_stand p (y ∷ xs) = (
  λ all x here.
      let both = and_parts (p y) (list_all p xs) all in
      elim here [ inl same ↦ ap p (sym same) ∙ both.0 | inr more ↦ (all_stand p xs).0 both.1 x more ],
  λ each. and_from (p y) (list_all p xs) (each y (inl refl)) ((all_stand p xs).1 (λ x more. each x (inr more))),
)
