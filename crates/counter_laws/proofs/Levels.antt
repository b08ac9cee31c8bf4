-- Levels, the last of them alone: how places fall into them, and when two bindings differ in the last one.
use Rattle.std.proofs.Common.{◌≡◌, ◌∙◌, ◌⊎◌, ◌≤◌, ◌+◌, refl, sym, ap, ap₂, ℕ, true, ◌&&◌, not, List, [], ◌∷◌, ◌++◌, length, map, take, drop, arith, inl, inr, take-add}
use Rattle.std.proofs.lemmas.List.{append-nil, append_assoc, length-append, length-drop, length-take-le, drop-drop}
use Rattle.lint_base.proofs.Lists.{both_left, both_right}
use Rattle.lint_core.specs.declared.database.Database.{Database}
use Rattle.lint_core.specs.Points.{are_rows, is_binding, are_same_rows, differ_in_last_level}
use Rattle.sort_formula.specs.CounterPoints.{in_levels}
use Rattle.sort_formula.specs.Counters.{outer_levels, last_level}
use Rattle.sort_formula.specs.Sides.{all_of, from_number, numbered_from}
use Rattle.formula_laws.proofs.LeadRows.{same_as_itself}
use Rattle.truth_laws.proofs.Fitting.{both_are}
use Rattle.truth_laws.proofs.Quantified.{place_in}
use Rattle.counter_laws.specs.LeadingRows.{leading_rows}

-- levels are those outside and the last one
pub apart : (levels : List (List ℕ)) → (levels ≡ []) ⊎ (levels ≡ outer_levels levels ++ last_level levels ∷ [])
apart [] = inl refl
apart (level ∷ []) = inr refl
apart (level ∷ next ∷ levels) =
    elim (apart (next ∷ levels)) [
      | inl none ↦ inl (absurd (never none))
      | inr is ↦ inr (ap (λ (rest : List (List ℕ)). level ∷ rest) is)
    ]
  where
    never : next ∷ levels ≡ [] → ⊥
    never none = cc

pub all_append : (outer : List (List ℕ)) (last : List ℕ) → all_of (outer ++ last ∷ []) ≡ all_of outer ++ last
all_append [] last = append-nil last
all_append (level ∷ outer) last = ap (λ rest. level ++ rest) (all_append outer last) ∙ sym (append_assoc level (all_of outer) last)

pub numbered_append : (first : ℕ) (outer : List (List ℕ)) (last : List ℕ) →
    numbered_from first (outer ++ last ∷ []) ≡ numbered_from first outer ++ from_number (first + length (all_of outer)) (length last) ∷ []
numbered_append first [] last = ap (λ n. from_number n (length last) ∷ []) (omega arith)
numbered_append first (level ∷ outer) last =
    ap (λ (rest : List (List ℕ)). from_number first (length level) ∷ rest)
    (numbered_append (first + length level) outer last
    ∙ ap (λ n. numbered_from (first + length level) outer ++ from_number n (length last) ∷ []) (longer (length-append level (all_of outer))))
  where
    longer : length (level ++ all_of outer) ≡ length level + length (all_of outer) → first + length level + length (all_of outer) ≡ first + length (level ++ all_of outer)
    longer long = omega (arith, long)

pub levels_append : (outer : List (List ℕ)) (last places : List ℕ) →
    in_levels (outer ++ last ∷ []) places ≡ in_levels outer places ++ take (length last) (drop (length (all_of outer)) places) ∷ []
levels_append [] last places = refl
levels_append (level ∷ outer) last places =
    ap (λ (rest : List (List ℕ)). take (length level) places ∷ rest)
    (levels_append outer last (drop (length level) places)
    ∙ ap (λ (behind : List ℕ). in_levels outer (drop (length level) places) ++ take (length last) behind ∷ [])
    (drop-drop (length (all_of outer)) (length level) places ∙ ap (λ n. drop n places) (sym (length-append level (all_of outer)))))

-- the places of levels are the first of all
pub taken : (shape : List (List ℕ)) (places : List ℕ) → all_of (in_levels shape places) ≡ take (length (all_of shape)) places
taken [] places = refl
taken (level ∷ shape) places =
    ap (λ (rest : List ℕ). take (length level) places ++ rest) (taken shape (drop (length level) places))
    ∙ (sym (take-add (length level) (length (all_of shape)) places) ∙ ap (λ n. take n places) (sym (length-append level (all_of shape))))

pub lead_append : (lead more places others : List ℕ) → length places ≡ length lead → leading_rows (lead ++ more) (places ++ others) ≡ leading_rows lead places ++ leading_rows more others
lead_append [] more [] others same = refl
lead_append [] more (place ∷ places) others same = absurd (omega (arith, same))
lead_append (table ∷ lead) more [] others same = absurd (omega (arith, same))
lead_append (table ∷ lead) more (place ∷ places) others same = ap (λ rows. place_in table place ∷ rows) (lead_append lead more places others (omega (arith, same)))

-- the same outside, so that they differ where the last ones do
pub differ_last : (around : List (List ℕ)) (inner more : List ℕ) → differ_in_last_level (around ++ inner ∷ []) (around ++ more ∷ []) ≡ not (are_same_rows inner more)
differ_last [] inner more = refl
differ_last (rows ∷ []) inner more = ap (λ b. b && not (are_same_rows inner more)) (same_as_itself rows)
differ_last (rows ∷ next ∷ around) inner more =
    ap (λ b. b && differ_in_last_level (next ∷ around ++ inner ∷ []) (next ∷ around ++ more ∷ [])) (same_as_itself rows) ∙ differ_last (next ∷ around) inner more

-- levels of places are as long as those of the tables
pub levels_long : (shape : List (List ℕ)) (places : List ℕ) → length (all_of shape) ≤ length places → map length (in_levels shape places) ≡ map length shape
levels_long [] places enough = refl
levels_long (level ∷ shape) places enough =
    let all = length-append level (all_of shape) in
    let left = length-drop (length level) places in
    ap₂ (λ (n : ℕ) (ns : List ℕ). n ∷ ns) (length-take-le (length level) places (omega (arith, all, enough)))
    (levels_long shape (drop (length level) places) (omega (arith, all, left, enough)))

module _ (db : Database) where
  pub binding_inside : (tables binding : List (List ℕ)) (own rows : List ℕ) → is_binding db tables binding ≡ true → are_rows db own rows ≡ true →
      is_binding db (tables ++ own ∷ []) (binding ++ rows ∷ []) ≡ true
  binding_inside [] [] own rows outside there = both_are (are_rows db own rows) true there refl
  binding_inside [] (level ∷ binding) own rows outside there = cc
  binding_inside (entries ∷ tables) [] own rows outside there = cc
  binding_inside (entries ∷ tables) (level ∷ binding) own rows outside there =
      let here = are_rows db entries level in
      let rest = is_binding db tables binding in
      both_are here (is_binding db (tables ++ own ∷ []) (binding ++ rows ∷ [])) (both_left here rest outside) (binding_inside tables binding own rows (both_right here rest outside) there)
