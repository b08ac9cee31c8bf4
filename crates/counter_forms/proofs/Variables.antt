-- The variables of scopes: how many there are, and below which number.
use Rattle.std.proofs.Common.{◌≡◌, ◌∙◌, ◌+◌, ◌≤◌, ap, ap₂, sym, refl, ℕ, zero, suc, Bool, true, ◌&&◌, List, [], ◌∷◌, map, length, arith}
use Rattle.std.proofs.lemmas.List.{map-append, length-append, take-append-drop}
use Rattle.std.proofs.lemmas.List.Folds.{list_all-append}
use Rattle.std.specs.List.{list_all}
use Rattle.std.specs.Prelude.{nat_lt, insert, take, drop}
use Rattle.lint_base.proofs.Lists.{all_append, both_left, both_right, true_below}
use Rattle.lint_core.specs.Database.{below}
use Rattle.sort_formula.specs.Sides.{from_number, numbered_from, all_of}
use Rattle.truth_laws.proofs.Fitting.{both_are}
use Rattle.truth_laws.proofs.Outside.{length_from}
use Rattle.question_truths.specs.Room.{entries_in}
use Rattle.std.proofs.lemmas.List.Sums.{sum_by-cons}

-- ---- how many

pub numbered_lengths : (first : ℕ) (tables : List (List ℕ)) → map length (numbered_from first tables) ≡ map length tables
numbered_lengths first [] = refl
numbered_lengths first (level ∷ tables) = ap₂ (λ n ns. n ∷ ns) (length_from first (length level)) (numbered_lengths (first + length level) tables)

pub entries_are : (tables : List (List ℕ)) → length (all_of tables) ≡ entries_in tables
entries_are [] = refl
entries_are (level ∷ tables) =
    length-append level (all_of tables) ∙ (ap (λ n. length level + n) (entries_are tables) ∙ sym (sum_by-cons (λ n. n) (length level) (map length tables)))

-- ---- below which number

abbrev pub all_below : ℕ → List ℕ → Bool
all_below n = list_all (λ variable. nat_lt variable n)

pub from_below : (n first count : ℕ) → first + count ≤ n → all_below n (from_number first count) ≡ true
from_below n first zero low = refl
from_below n first (suc count) low =
    ap (all_below n) (map-append (λ k. first + k) (below count) (count ∷ []))
    ∙ all_append (λ variable. nat_lt variable n) (from_number first count) ((first + count) ∷ []) (from_below n first count (omega arith)) (ap (λ b. b && true) (true_below (first + count) n (omega arith)))

pub numbered_below : (n first : ℕ) (tables : List (List ℕ)) → first + length (all_of tables) ≤ n → list_all (all_below n) (numbered_from first tables) ≡ true
numbered_below n first [] low = refl
numbered_below n first (level ∷ tables) low =
    let more = length-append level (all_of tables) in
    both_are (all_below n (from_number first (length level))) (list_all (all_below n) (numbered_from (first + length level) tables))
    (from_below n first (length level) (omega (arith, more)))
    (numbered_below n (first + length level) tables (omega (arith, more)))

-- one more number among others that pass
pub insert_passes : (p : ℕ → Bool) (xs : List ℕ) (i x : ℕ) → list_all p xs ≡ true → p x ≡ true → list_all p (insert xs i x) ≡ true
insert_passes p xs i x all here =
    let before = list_all p (take i xs) in
    let behind = list_all p (drop i xs) in
    let parts : (before && behind) ≡ true = sym (list_all-append p (take i xs) (drop i xs)) ∙ (ap (list_all p) (take-append-drop i xs) ∙ all) in
    all_append p (take i xs) (x ∷ drop i xs) (both_left before behind parts) (both_are (p x) behind here (both_right before behind parts))
