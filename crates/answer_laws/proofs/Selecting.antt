-- What is selected of the inner bindings of a block, where its condition has a truth at each.
use Rattle.std.proofs.Common.{◌≡◌, ◌∙◌, inl, inr, refl, sym, ap, ℕ, Bool, true, false, List, [], ◌∷◌, ◌++◌, map}
use Rattle.std.specs.List.{filter}
use Rattle.std.specs.Prelude.{Ok, Err, cond, if◌then◌else◌}
use Rattle.lint_core.specs.declared.condition.Cond.{Cond}
use Rattle.lint_core.specs.declared.database.Database.{Database}
use Rattle.lint_core.specs.declared.database.Truth.{Truth}
use Rattle.lint_core.specs.Condition.{Inner, has_truth, is_true_at, selected, truth}
use Rattle.lint_core.specs.Evaluation.{Evaluated, and_then, map_ok}
use Rattle.lint_core.specs.Truth.{is_true}
use Rattle.meaning_laws.proofs.Members.{Stands}

-- there is a value
abbrev pub IsKnown : {A : Type 0} → Evaluated A → Type 0
IsKnown {A = A} e = (a : A) × (e ≡ Ok a)

pub ok_parts : {A B : Type 0} (f : A → B) (x : Evaluated A) (b : B) → map_ok f x ≡ Ok b → (a : A) × (x ≡ Ok a) × (f a ≡ b)
ok_parts f (Ok a) b known = (a, refl, cc)
ok_parts f (Err place) b known = cc

one_selected : (inner : Inner) (others : List Inner) (t : Truth) (later : List Inner) → inner.truth ≡ Ok t → selected others ≡ Ok later →
    selected (inner ∷ others) ≡ Ok (if is_true t then inner ∷ later else later)
one_selected inner others t later here known = rw (here, known) refl

selected_parts : (inner : Inner) (others kept : List Inner) → selected (inner ∷ others) ≡ Ok kept →
    ((t : Truth) × (inner.truth ≡ Ok t)) × ((later : List Inner) × (selected others ≡ Ok later))
selected_parts inner others kept known =
    elim inner.truth as (λ e. inner.truth ≡ e → and_then (λ t. map_ok (λ later. if is_true t then inner ∷ later else later) (selected others)) e ≡ Ok kept →
    ((t : Truth) × (inner.truth ≡ Ok t)) × ((later : List Inner) × (selected others ≡ Ok later))) [
      | Ok t ↦ λ is from. let found = ok_parts (λ later. if is_true t then inner ∷ later else later) (selected others) kept from in ((t, is), (found.0, found.1))
      | Err place ↦ λ is from. cc
    ]
    refl known

map_if : {A B : Type 0} (f : A → B) (x : A) (xs : List A) (b : Bool) → cond b (f x ∷ map f xs) (map f xs) ≡ map f (cond b (x ∷ xs) xs)
map_if f x xs true = refl
map_if f x xs false = refl

-- a block of these tables, inside these levels
module _ (db : Database) (condition : Cond) (tables binding : List (List ℕ)) (own : List ℕ) where
  abbrev pub truth_inside : List ℕ → Evaluated Truth
  truth_inside rows = truth db condition (tables ++ own ∷ []) (binding ++ rows ∷ [])

  abbrev pub is_true_inside : List ℕ → Bool
  is_true_inside rows = is_true_at db condition (tables ++ own ∷ []) (binding ++ rows ∷ [])

  abbrev pub inner : List ℕ → Inner
  inner rows = record { tables = tables ++ own ∷ []; binding = binding ++ rows ∷ []; truth = truth_inside rows }

  pub some_selected : (some : List (List ℕ)) → ((rows : List ℕ) → Stands rows some → IsKnown (truth_inside rows)) →
      selected (map inner some) ≡ Ok (map inner (filter is_true_inside some))
  some_selected [] known = refl
  some_selected (rows ∷ some) known =
      let here = known rows (inl refl) in
      let kept = filter is_true_inside some in
      one_selected (inner rows) (map inner some) here.0 (map inner kept) here.1 (some_selected some (λ other in_some. known other (inr in_some)))
      ∙ ap Ok (map_if inner rows kept (is_true here.0) ∙ ap (λ b. map inner (cond b (rows ∷ kept) kept)) (sym (ap (has_truth is_true) here.1)))

  pub truths_of_some : (some : List (List ℕ)) (kept : List Inner) → selected (map inner some) ≡ Ok kept → (rows : List ℕ) → Stands rows some → IsKnown (truth_inside rows)
  truths_of_some [] kept known rows here = absurd here
  truths_of_some (first ∷ some) kept known rows (inl same) =
      let found = (selected_parts (inner first) (map inner some) kept known).0 in
      (found.0, ap truth_inside (sym same) ∙ found.1)
  truths_of_some (first ∷ some) kept known rows (inr more) =
      let found = (selected_parts (inner first) (map inner some) kept known).1 in
      truths_of_some some found.0 found.1 rows more
