-- What trees weigh as they are taken apart.
use Rattle.std.proofs.Common.{◌≡◌, ◌∙◌, sym, ap, refl, ℕ, zero, suc, ◌+◌, ◌*◌, ◌<◌, List, [], ◌∷◌, ◌++◌, length, take, get_or, arith}
use Rattle.std.proofs.Math.ListN.{set}
use Rattle.case_split.specs.declared.tree.CaseTree.{CaseTree, fold-roll-CaseTree}
use Rattle.case_split.specs.declared.tree.CaseTree.TheOpen.{CaseTree-F}
use Rattle.case_split.specs.declared.tree.CaseTree.TheVariants as variant
use Rattle.case_split.specs.inner.Sizes.{Weight, weigh_step, weigh, size_of_all, weight_of_all}
use Rattle.case_split.proofs.Refuting.{split_rolls}

last_there : {A : Type 0} (xs : List A) (l : ℕ) (x : A) → suc l ≡ length xs → x ≡ get_or xs l x → xs ≡ take l xs ++ x ∷ []
last_there [] l x size is = absurd (omega arith)
last_there (y ∷ []) zero x size is = ap (λ z. z ∷ []) (sym is)
last_there (y ∷ z ∷ zs) zero x size is = absurd (omega arith)
last_there (y ∷ ys) (suc l) x size is = ap (λ zs. y ∷ zs) (last_there ys l x (omega arith) is)

set_last : {A : Type 0} (xs : List A) (l : ℕ) (x : A) → suc l ≡ length xs → set xs l x ≡ take l xs ++ x ∷ []
set_last [] l x size = absurd (omega arith)
set_last (y ∷ []) zero x size = refl
set_last (y ∷ z ∷ zs) zero x size = absurd (omega arith)
set_last (y ∷ ys) (suc l) x size = ap (λ zs. y ∷ zs) (set_last ys l x (omega arith))

take_set : {A : Type 0} (xs : List A) (l : ℕ) (x : A) → take l (set xs l x) ≡ take l xs
take_set [] l x = refl
take_set (y ∷ ys) zero x = refl
take_set (y ∷ ys) (suc l) x = ap (λ zs. y ∷ zs) (take_set ys l x)

length_set : {A : Type 0} (xs : List A) (l : ℕ) (x : A) → length (set xs l x) ≡ length xs
length_set [] l x = refl
length_set (y ∷ ys) zero x = refl
length_set (y ∷ ys) (suc l) x = ap suc (length_set ys l x)

pub split_weighs : (number : ℕ) (ts : List CaseTree) → (weigh (variant.Split number ts)).1 ≡ 1 + weight_of_all ts
split_weighs number ts =
    ap (λ (t : CaseTree). (weigh t).1) (sym (split_rolls number ts)) ∙ ap (λ (w : Weight). w.1) (fold-roll-CaseTree Weight weigh_step (CaseTree-F.Split number ts))

size_snoc : (ts : List CaseTree) (x : CaseTree) → size_of_all (ts ++ x ∷ []) ≡ size_of_all ts + (weigh x).0
size_snoc [] x = omega arith
size_snoc (t ∷ ts) x = let rest = size_snoc ts x in omega (arith, rest)

weights_snoc : (ts : List CaseTree) (x : CaseTree) → 0 < length ts → weight_of_all (ts ++ x ∷ []) ≡ weight_of_all ts + 2 * (weigh x).0
weights_snoc [] x some = absurd (omega arith)
weights_snoc (t ∷ ts) x some = let rest = size_snoc ts x in omega (arith, rest)

length_take : {A : Type 0} (xs : List A) (l : ℕ) → suc l ≡ length xs → length (take l xs) ≡ l
length_take [] l size = absurd (omega arith)
length_take (y ∷ ys) zero size = refl
length_take (y ∷ ys) (suc l) size = ap suc (length_take ys l (omega arith))

-- what trees weigh beside a last one
weights_with : (xs : List CaseTree) (l : ℕ) (x : CaseTree) → suc l ≡ length xs → 0 < l → weight_of_all (take l xs ++ x ∷ []) ≡ weight_of_all (take l xs) + 2 * (weigh x).0
weights_with xs l x size some = weights_snoc (take l xs) x (let long = length_take xs l size in omega (arith, long))

-- without the last one
pub lighter_without : (xs : List CaseTree) (l : ℕ) (x other : CaseTree) (n : ℕ) → suc l ≡ length xs → 0 < l → x ≡ get_or xs l x → (weigh x).0 ≡ 1 + n →
    weight_of_all (take l (set xs l other)) < weight_of_all xs
lighter_without xs l x other n size some is heavy =
    let whole : weight_of_all xs ≡ weight_of_all (take l xs) + 2 * (weigh x).0 = ap weight_of_all (last_there xs l x size is) ∙ weights_with xs l x size some in
    let part : weight_of_all (take l (set xs l other)) ≡ weight_of_all (take l xs) = ap weight_of_all (take_set xs l other) in
    omega (arith, whole, part, heavy)

turned : (below : List CaseTree) (y other t : CaseTree) (w : ℕ) → 0 < length below → y ≡ get_or below 0 y → (weigh t).1 ≡ 1 + (w + 2 * (weigh y).0) →
    weight_of_all (set (set below 0 other) 0 t) + 1 ≡ w + 2 * (1 + size_of_all below)
turned [] y other t w some is heavy = absurd (omega arith)
turned (z ∷ zs) y other t w some is heavy =
    let same : (weigh y).0 ≡ (weigh z).0 = ap (λ (u : CaseTree). (weigh u).0) is in
    omega (arith, same, heavy)

-- beside others: they are put below it
pub lighter_turned : (xs below cases : List CaseTree) (l : ℕ) (x y other spare t : CaseTree) → suc l ≡ length xs → 0 < l → x ≡ get_or xs l x → (weigh x).0 ≡ 1 + size_of_all below →
    0 < length below → y ≡ get_or below 0 y → cases ≡ set (set xs l other) l y → (weigh t).1 ≡ 1 + weight_of_all cases → weight_of_all (set (set below 0 spare) 0 t) < weight_of_all xs
lighter_turned xs below cases l x y other spare t size some is heavy there first held weighs =
    let whole : weight_of_all xs ≡ weight_of_all (take l xs) + 2 * (weigh x).0 = ap weight_of_all (last_there xs l x size is) ∙ weights_with xs l x size some in
    let size' : suc l ≡ length (set xs l other) = size ∙ sym (length_set xs l other) in
    let cases_is : cases ≡ take l xs ++ y ∷ [] = held ∙ (set_last (set xs l other) l y size' ∙ ap (λ (ts : List CaseTree). ts ++ y ∷ []) (take_set xs l other)) in
    let held' : weight_of_all cases ≡ weight_of_all (take l xs) + 2 * (weigh y).0 = ap weight_of_all cases_is ∙ weights_with xs l y size some in
    let now = turned below y spare t (weight_of_all (take l xs)) there first (weighs ∙ ap (λ n. 1 + n) held') in
    omega (arith, whole, now, heavy)
