-- A list falls into levels: put together they are the list.
use Rattle.std.proofs.Common.{◌≡◌, ◌∙◌, sym, ap, ap₂, refl, ℕ, List, [], ◌∷◌, ◌++◌, length, map, take, drop, arith}
use Rattle.std.proofs.Math.Seq.{take-append_seam, drop-append_seam}
use Rattle.std.proofs.lemmas.List.{take-append-drop, length-append, length-drop}
use Rattle.sort_formula.specs.CounterPoints.{in_levels}
use Rattle.sort_formula.specs.Sides.{all_of}

none_is_empty : (places : List ℕ) → length places ≡ 0 → [] ≡ places
none_is_empty [] none = refl
none_is_empty (place ∷ places) none = absurd (omega (arith, none))

-- as many places as the levels have
pub flattened : (shape : List (List ℕ)) (places : List ℕ) → length places ≡ length (all_of shape) → all_of (in_levels shape places) ≡ places
flattened [] places same = none_is_empty places same
flattened (level ∷ shape) places same =
    let both = length-append level (all_of shape) in
    let left = length-drop (length level) places in
    let rest : length (drop (length level) places) ≡ length (all_of shape) = omega (arith, same, both, left) in
    ap (λ others. take (length level) places ++ others) (flattened shape (drop (length level) places) rest) ∙ take-append-drop (length level) places

-- levels of these lengths
pub levelled : (shape levels : List (List ℕ)) → map length levels ≡ map length shape → in_levels shape (all_of levels) ≡ levels
levelled [] [] same = refl
levelled [] (rows ∷ levels) same = cc
levelled (level ∷ shape) [] same = cc
levelled (level ∷ shape) (rows ∷ levels) same =
    let first : length rows ≡ length level = cc in
    let rest : map length levels ≡ map length shape = cc in
    ap₂ (λ (here : List ℕ) (others : List (List ℕ)). here ∷ others)
    (ap (λ n. take n (rows ++ all_of levels)) (sym first) ∙ take-append_seam rows (all_of levels))
    (ap (λ n. in_levels shape (drop n (rows ++ all_of levels))) (sym first)
    ∙ (ap (in_levels shape) (drop-append_seam rows (all_of levels)) ∙ levelled shape levels rest))
