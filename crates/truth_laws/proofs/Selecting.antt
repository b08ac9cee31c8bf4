-- What a subquery selects, where each inner binding is tested: EXISTS, IN and a scalar subquery over the bindings
-- that pass.
use Rattle.std.proofs.Common.{◌≡◌, ◌∙◌, ap, ap₂, refl, ℕ, suc, Bool, true, false, not, ◌&&◌, ◌||◌, List, [], ◌∷◌, ◌++◌, map, length, if◌then◌else◌}
use Rattle.std.proofs.lemmas.List.Folds.{list_all-map}
use Rattle.std.specs.Prelude.{Ok, Err}
use Rattle.std.specs.List.{AllByRecursion, list_any, list_all, flat_map}
use Rattle.lint_base.specs.declared.place.Span.{Span}
use Rattle.lint_tables.specs.declared.op.Op.{Op}
use Rattle.lint_tables.specs.declared.op.Op.TheVariants.{Eq}
use Rattle.lint_core.specs.declared.database.Database.{Database}
use Rattle.lint_core.specs.declared.database.Truth.{Truth}
use Rattle.lint_core.specs.declared.database.Truth.TheVariants.{False, Unknown, True}
use Rattle.lint_core.specs.declared.database.Value.{Value}
use Rattle.lint_core.specs.declared.database.Value.TheVariants.{Null, Int, Text}
use Rattle.lint_core.specs.Comparison.{compare}
use Rattle.lint_core.specs.Condition.{Inner, selected, exists_truth, in_truth, scalar_value}
use Rattle.lint_core.specs.Database.{below, rows_of, row_lists}
use Rattle.lint_core.specs.Evaluation.{and_then, map_ok}
use Rattle.lint_core.specs.Truth.{is_true, is_false, greatest, or_of}
use Rattle.lint_base.proofs.Lists.{any_map, every_append}

-- ---- lists

-- the elements that pass
abbrev pub passing : {A : Type 0} → (A → Bool) → List A → List A
passing p [] = []
passing p (x ∷ xs) = if p x then x ∷ passing p xs else passing p xs

every_map : {A B : Type 0} (P : A → Type 0) (Q : B → Type 0) (g : A → B) → ((x : A) → P x → Q (g x)) → (xs : List A) → AllByRecursion P xs → AllByRecursion Q (map g xs)
every_map P Q g leads [] all = tt
every_map P Q g leads (x ∷ xs) all = (leads x all.0, every_map P Q g leads xs all.1)

every_flat : {A B : Type 0} (P : B → Type 0) (g : A → List B) → ((x : A) → AllByRecursion P (g x)) → (xs : List A) → AllByRecursion P (flat_map g xs)
every_flat P g each [] = tt
every_flat P g each (x ∷ xs) = every_append P (g x) (flat_map g xs) (each x) (every_flat P g each xs)

pub any_same : {A : Type 0} (p q : A → Bool) (xs : List A) → AllByRecursion (λ x. q x ≡ p x) xs → list_any q xs ≡ list_any p xs
any_same p q [] same = refl
any_same p q (x ∷ xs) same = ap₂ (λ a b. a || b) same.0 (any_same p q xs same.1)

pub all_same : {A : Type 0} (p q : A → Bool) (xs : List A) → AllByRecursion (λ x. q x ≡ p x) xs → list_all q xs ≡ list_all p xs
all_same p q [] same = refl
all_same p q (x ∷ xs) same = ap₂ (λ a b. a && b) same.0 (all_same p q xs same.1)

any_passing : {A : Type 0} (p q : A → Bool) (xs : List A) → list_any q (passing p xs) ≡ list_any (λ x. p x && q x) xs
any_passing p q [] = refl
any_passing p q (x ∷ xs) =
    elim (p x) as (λ b. list_any q (if b then x ∷ passing p xs else passing p xs) ≡ ((b && q x) || list_any (λ x. p x && q x) xs)) [
      | true ↦ ap (λ b. q x || b) (any_passing p q xs)
      | false ↦ any_passing p q xs
    ]

all_passing : {A : Type 0} (p q : A → Bool) (xs : List A) → list_all q (passing p xs) ≡ list_all (λ x. not (p x) || q x) xs
all_passing p q [] = refl
all_passing p q (x ∷ xs) =
    elim (p x) as (λ b. list_all q (if b then x ∷ passing p xs else passing p xs) ≡ ((not b || q x) && list_all (λ x. not (p x) || q x) xs)) [
      | true ↦ ap (λ b. q x && b) (all_passing p q xs)
      | false ↦ all_passing p q xs
    ]

-- each list of rows has one for each table
pub one_each : (db : Database) (own : List ℕ) → AllByRecursion (λ (inner : List ℕ). length inner ≡ length own) (row_lists db own)
one_each db [] = (refl, tt)
one_each db (table ∷ own) =
    every_flat (λ (inner : List ℕ). length inner ≡ length (table ∷ own)) (λ row. map (λ inner. row ∷ inner) (row_lists db own))
    (λ row. every_map (λ (inner : List ℕ). length inner ≡ length own) (λ (inner : List ℕ). length inner ≡ length (table ∷ own)) (λ inner. row ∷ inner) (λ inner same. ap suc same) (row_lists db own) (one_each db own))
    (below (length (rows_of db table)))

-- ---- what is selected

module _ {A : Type 0} (inner : A → Inner) (p : A → Bool) where
  kept_first : (x : A) (xs : List A) (b : Bool) → p x ≡ b → (if b then inner x ∷ map inner (passing p xs) else map inner (passing p xs)) ≡ map inner (passing p (x ∷ xs))
  kept_first x xs b is =
      rw is
      (elim b as (λ b. (if b then inner x ∷ map inner (passing p xs) else map inner (passing p xs)) ≡ map inner (if b then x ∷ passing p xs else passing p xs)) [
        | true ↦ refl
        | false ↦ refl
      ])

  -- those that pass are selected, where the test says at each whether it is true
  pub selected_passing : (xs : List A) → AllByRecursion (λ x. (t : Truth) → (inner x).truth ≡ Ok t → p x ≡ is_true t) xs →
      (kept : List Inner) → selected (map inner xs) ≡ Ok kept → kept ≡ map inner (passing p xs)
  selected_passing [] says kept known = cc
  selected_passing (x ∷ xs) says kept known =
      elim (inner x).truth as (λ e. (inner x).truth ≡ e → and_then (λ truth. map_ok (λ later. if is_true truth then inner x ∷ later else later) (selected (map inner xs))) e ≡ Ok kept → kept ≡ map inner (passing p (x ∷ xs))) [
        | Err place ↦ λ is made. cc
        | Ok t ↦ λ is made.
            elim (selected (map inner xs)) as (λ s. selected (map inner xs) ≡ s → map_ok (λ later. if is_true t then inner x ∷ later else later) s ≡ Ok kept → kept ≡ map inner (passing p (x ∷ xs))) [
              | Err place ↦ λ rest made. cc
              | Ok later ↦ λ rest made.
                  let rest_is : later ≡ map inner (passing p xs) = selected_passing xs says.1 later rest in
                  let whole : kept ≡ (if is_true t then inner x ∷ later else later) = cc in
                  whole
                  ∙ (ap (λ later. if is_true t then inner x ∷ later else later) rest_is
                  ∙ kept_first x xs (is_true t) (says.0 t is))
            ]
            refl made
      ]
      refl known

-- ---- EXISTS

pub some_is_true : {A : Type 0} (inner : A → Inner) (p : A → Bool) (xs : List A) → is_true (exists_truth (map inner (passing p xs))) ≡ list_any p xs
some_is_true inner p [] = refl
some_is_true inner p (x ∷ xs) =
    elim (p x) as (λ b. is_true (exists_truth (map inner (if b then x ∷ passing p xs else passing p xs))) ≡ (b || list_any p xs)) [
      | true ↦ refl
      | false ↦ some_is_true inner p xs
    ]

pub some_is_false : {A : Type 0} (inner : A → Inner) (p : A → Bool) (xs : List A) → is_false (exists_truth (map inner (passing p xs))) ≡ list_all (λ x. not (p x)) xs
some_is_false inner p [] = refl
some_is_false inner p (x ∷ xs) =
    elim (p x) as (λ b. is_false (exists_truth (map inner (if b then x ∷ passing p xs else passing p xs))) ≡ (not b && list_all (λ x. not (p x)) xs)) [
      | true ↦ refl
      | false ↦ some_is_false inner p xs
    ]

-- ---- the OR of truths

greatest_true : (a b : Truth) → is_true (greatest a b) ≡ (is_true a || is_true b)
greatest_true True b = refl
greatest_true Unknown False = refl
greatest_true Unknown Unknown = refl
greatest_true Unknown True = refl
greatest_true False b = refl

greatest_false : (a b : Truth) → is_false (greatest a b) ≡ (is_false a && is_false b)
greatest_false True b = refl
greatest_false Unknown False = refl
greatest_false Unknown Unknown = refl
greatest_false Unknown True = refl
greatest_false False b = refl

pub or_is_true : (truths : List Truth) → is_true (or_of truths) ≡ list_any is_true truths
or_is_true [] = refl
or_is_true (t ∷ truths) = greatest_true t (or_of truths) ∙ ap (λ b. is_true t || b) (or_is_true truths)

pub or_is_false : (truths : List Truth) → is_false (or_of truths) ≡ list_all is_false truths
or_is_false [] = refl
or_is_false (t ∷ truths) = greatest_false t (or_of truths) ∙ ap (λ b. is_false t && b) (or_is_false truths)

-- ---- IN and a scalar subquery

with_null : (op : Op) (a : Value) → compare op a Null ≡ Unknown
with_null op Null = refl
with_null op (Int a) = refl
with_null op (Text a) = refl

module _ {A : Type 0} (v : A → Value) (p : A → Bool) (left : Value) where
  pub in_is_true : (xs : List A) → is_true (in_truth left (map v (passing p xs))) ≡ list_any (λ x. p x && is_true (compare Eq left (v x))) xs
  in_is_true xs =
      or_is_true (map (λ item. compare Eq left item) (map v (passing p xs)))
      ∙ (any_map (λ item. compare Eq left item) is_true (map v (passing p xs))
      ∙ (any_map v (λ item. is_true (compare Eq left item)) (passing p xs)
      ∙ any_passing p (λ x. is_true (compare Eq left (v x))) xs))

  pub in_is_false : (xs : List A) → is_false (in_truth left (map v (passing p xs))) ≡ list_all (λ x. not (p x) || is_false (compare Eq left (v x))) xs
  in_is_false xs =
      or_is_false (map (λ item. compare Eq left item) (map v (passing p xs)))
      ∙ (list_all-map is_false (λ item. compare Eq left item) (map v (passing p xs))
      ∙ (list_all-map (λ item. is_false (compare Eq left item)) v (passing p xs)
      ∙ all_passing p (λ x. is_false (compare Eq left (v x))) xs))

  module _ (op : Op) (test : Truth → Bool) (decides : test Unknown ≡ false) (place : Span) where
    abbrev passes : Value → Bool
    passes value = test (compare op left value)

    one_value : (items : List A) (value : Value) → scalar_value place (map v items) ≡ Ok value → passes value ≡ list_any (λ x. passes (v x)) items
    one_value [] value known =
        let null : value ≡ Null = cc in
        ap passes null ∙ (ap test (with_null op left) ∙ decides)
    one_value (x ∷ []) value known =
        let here : value ≡ v x = cc in
        ap passes here ∙ elim (passes (v x)) as (λ b. b ≡ (b || false)) [ true ↦ refl | false ↦ refl ]
    one_value (x ∷ y ∷ items) value known = cc

    pub scalar_is : (xs : List A) (value : Value) → scalar_value place (map v (passing p xs)) ≡ Ok value → passes value ≡ list_any (λ x. p x && passes (v x)) xs
    scalar_is xs value known = one_value (passing p xs) value known ∙ any_passing p (λ x. passes (v x)) xs
