-- The variables of entries: how many there are, and that they lie below the number of quantifiers.
use Rattle.std.proofs.Common.{◌≡◌, ◌∙◌, refl, sym, ap, ap₂, ℕ, zero, suc, ◌+◌, ◌<◌, ◌≤◌, add-one, Bool, true, ◌&&◌, List, [], ◌∷◌, ◌++◌, map, length, drop, get_or, nat_lt, arith}
use Rattle.std.proofs.lemmas.List.{append_assoc, drop_more, length-append, length-map, map-append}
use Rattle.std.proofs.lemmas.List.Sums.{sum_by-cons}
use Rattle.std.specs.List.{list_all, zip}
use Rattle.lint_base.proofs.Lists.{all_append, true_below}
use Rattle.lint_core.specs.Database.{below}
use Rattle.question_truths.specs.Room.{entries_in}
use Rattle.sort_formula.specs.declared.formula.Atom.TheVariants as atom
use Rattle.sort_formula.specs.declared.formula.Formula.{Formula}
use Rattle.sort_formula.specs.declared.formula.Formula.TheVariants as f
use Rattle.sort_formula.specs.Sides.{all_of, from_number, numbered_from}

pub entries_first : (level : List ℕ) (tables : List (List ℕ)) → entries_in (level ∷ tables) ≡ length level + entries_in tables
entries_first level tables = sum_by-cons (λ n. n) (length level) (map length tables)

-- as many tables as entries
pub entries_are : (tables : List (List ℕ)) → length (all_of tables) ≡ entries_in tables
entries_are [] = refl
entries_are (level ∷ tables) = length-append level (all_of tables) ∙ (ap (λ n. length level + n) (entries_are tables) ∙ sym (entries_first level tables))

pub one_number_more : (first k : ℕ) → from_number first (k + 1) ≡ from_number first k ++ (first + k) ∷ []
one_number_more first k = ap (from_number first) (add-one k) ∙ map-append (λ k. first + k) (below k) (k ∷ [])

length_below : (n : ℕ) → length (below n) ≡ n
length_below zero = refl
length_below (suc n) = length-append (below n) (n ∷ []) ∙ (ap (λ k. k + 1) (length_below n) ∙ add-one n)

pub length_from : (first count : ℕ) → length (from_number first count) ≡ count
length_from first count = length-map (below count) (λ k. first + k) ∙ length_below count

pub length_numbered : (first : ℕ) (tables : List (List ℕ)) → map length (numbered_from first tables) ≡ map length tables
length_numbered first [] = refl
length_numbered first (level ∷ tables) = ap₂ (λ n ns. n ∷ ns) (length_from first (length level)) (length_numbered (first + length level) tables)

-- ---- level by level

drop_here : {A : Type 0} (xs : List A) (i : ℕ) (x : A) → i < length xs → x ≡ get_or xs i x → drop i xs ≡ x ∷ drop (i + 1) xs
drop_here xs i x low at = drop_more xs i x low ∙ ap (λ y. y ∷ drop (i + 1) xs) (sym at)

module _ (tables : List (List ℕ)) (i : ℕ) (level : List ℕ) (low : i < length tables) (at : level ≡ get_or tables i level) where
  pub next_level : (next : ℕ) (levels whole : List (List ℕ)) → levels ++ numbered_from next (drop i tables) ≡ whole →
      levels ++ from_number next (length level) ∷ [] ++ numbered_from (next + length level) (drop (i + 1) tables) ≡ whole
  next_level next levels whole was =
      append_assoc levels (from_number next (length level) ∷ []) (numbered_from (next + length level) (drop (i + 1) tables))
      ∙ (ap (λ rest. levels ++ numbered_from next rest) (sym (drop_here tables i level low at)) ∙ was)

  pub next_room : (next total : ℕ) → next + entries_in (drop i tables) ≡ total → next + length level + entries_in (drop (i + 1) tables) ≡ total
  next_room next total was =
      let here : entries_in (drop i tables) ≡ length level + entries_in (drop (i + 1) tables) = ap entries_in (drop_here tables i level low at) ∙ entries_first level (drop (i + 1) tables) in
      omega (arith, was, here)

-- ---- below the number of quantifiers

abbrev pub AllBelow : ℕ → List ℕ → Bool
AllBelow depth variables = list_all (λ variable. nat_lt variable depth) variables

pub numbers_below : (first count depth : ℕ) → first + count ≤ depth → AllBelow depth (from_number first count) ≡ true
numbers_below first zero depth low = refl
numbers_below first (suc n) depth low =
    let last : nat_lt (first + n) depth ≡ true = true_below (first + n) depth (omega arith) in
    ap (AllBelow depth) (map-append (λ k. first + k) (below n) (n ∷ []))
    ∙ all_append (λ variable. nat_lt variable depth) (from_number first n) ((first + n) ∷ []) (numbers_below first n depth (omega arith)) (ap (λ b. b && true) last)

pub levels_below : (first : ℕ) (tables : List (List ℕ)) (depth : ℕ) → first + entries_in tables ≤ depth → list_all (AllBelow depth) (numbered_from first tables) ≡ true
levels_below first [] depth low = refl
levels_below first (level ∷ tables) depth low =
    let both = entries_first level tables in
    ap₂ (λ a b. a && b) (numbers_below first (length level) depth (omega (arith, both))) (levels_below (first + length level) tables depth (omega (arith, both)))

-- ---- two lists of one length

zip_more : (xs ys : List ℕ) (x y : ℕ) → length xs ≡ length ys → zip (xs ++ x ∷ []) (ys ++ y ∷ []) ≡ zip xs ys ++ (x, y) ∷ []
zip_more [] [] x y same = refl
zip_more [] (y' ∷ ys) x y same = absurd (omega (arith, same))
zip_more (x' ∷ xs) [] x y same = absurd (omega (arith, same))
zip_more (x' ∷ xs) (y' ∷ ys) x y same = ap (λ ps. (x', y') ∷ ps) (zip_more xs ys x y (omega (arith, same)))

pub one_pair_more : (first second k : ℕ) → zip (from_number first (k + 1)) (from_number second (k + 1)) ≡ zip (from_number first k) (from_number second k) ++ (first + k, second + k) ∷ []
one_pair_more first second k =
    ap₂ zip (one_number_more first k) (one_number_more second k)
    ∙ zip_more (from_number first k) (from_number second k) (first + k) (second + k) (length_from first k ∙ sym (length_from second k))

abbrev other_of : ℕ × ℕ → Formula
other_of pair = f.Atom (atom.Other pair.0 pair.1)

pub another_pair : (first second k : ℕ) (ways now : List Formula) → ways ≡ map other_of (zip (from_number first k) (from_number second k)) → now ≡ ways ++ f.Atom (atom.Other (first + k) (second + k)) ∷ [] →
    now ≡ map other_of (zip (from_number first (k + 1)) (from_number second (k + 1)))
another_pair first second k ways now was is =
    let pairs = zip (from_number first k) (from_number second k) in
    is
    ∙ (ap (λ (xs : List Formula). xs ++ f.Atom (atom.Other (first + k) (second + k)) ∷ []) was
    ∙ sym (ap (map other_of) (one_pair_more first second k) ∙ map-append other_of pairs ((first + k, second + k) ∷ [])))
