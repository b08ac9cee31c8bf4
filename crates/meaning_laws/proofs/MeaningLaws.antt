-- AND is the least and OR the greatest of the parts' truths; De Morgan.
use Rattle.std.proofs.Common.{◌≡◌, ◌∙◌, sym, ap, refl, subst, ℕ, true, ◌&&◌, List, [], ◌∷◌, map}
use Rattle.std.specs.Prelude.{Ok, Err}
use Rattle.std.specs.List.{list_all}
use Rattle.lint_core.specs.declared.condition.Cond.{Cond}
use Rattle.lint_core.specs.declared.condition.Cond.TheVariants as c
use Rattle.lint_core.specs.declared.database.Database.{Database}
use Rattle.lint_core.specs.declared.database.Truth.{Truth}
use Rattle.lint_core.specs.declared.database.Truth.TheVariants.{False, Unknown, True}
use Rattle.lint_core.specs.Condition.{truth}
use Rattle.meaning_laws.specs.Connectives.{is_at_most, IsLeast, IsGreatest, HaveTruths}
use Rattle.lint_core.specs.Evaluation.{Evaluated, map_ok, all_ok}
use Rattle.lint_core.specs.Truth.{not_of, least, greatest, and_of, or_of}
use Rattle.lint_core.proofs.Conditions.{truth_and, truth_or, truth_not}

-- ---- strict lists

-- a list of values, each known
pub all_known : {A : Type 0} (xs : List A) → all_ok (map Ok xs) ≡ Ok xs
all_known [] = refl
all_known (x ∷ xs) = rw (all_known xs) refl

pub known_all : {A : Type 0} (es : List (Evaluated A)) (xs : List A) → all_ok es ≡ Ok xs → es ≡ map Ok xs
known_all [] xs known = ap (map Ok) {x = []} {y = xs} cc
known_all (Err place ∷ es) xs known = cc
known_all (Ok x ∷ es) xs known =
    elim (all_ok es) as (λ later. all_ok es ≡ later → map_ok (λ rest. x ∷ rest) later ≡ Ok xs → (Ok x ∷ es) ≡ map Ok xs) [
      | Ok ys ↦ λ is all. let rest : es ≡ map Ok ys = known_all es ys is in let whole : (x ∷ ys) ≡ xs = cc in rw (← whole, rest) refl
      | Err place ↦ λ is all. cc
    ]
    refl known

pub all_ok_map : {A B : Type 0} (f : A → B) (es : List (Evaluated A)) → map_ok (map f) (all_ok es) ≡ all_ok (map (map_ok f) es)
all_ok_map f [] = refl
all_ok_map f (Err place ∷ es) = refl
all_ok_map f (Ok x ∷ es) =
    rw (← all_ok_map f es)
    (elim (all_ok es) as (λ later. map_ok (map f) (map_ok (λ rest. x ∷ rest) later) ≡ map_ok (λ rest. f x ∷ rest) (map_ok (map f) later)) [
      | Ok ys ↦ refl
      | Err place ↦ refl
    ])

pub map_ok_map_ok : {A B C : Type 0} (f : A → B) (g : B → C) (e : Evaluated A) → map_ok g (map_ok f e) ≡ map_ok (λ a. g (f a)) e
map_ok_map_ok f g (Ok a) = refl
map_ok_map_ok f g (Err place) = refl

-- ---- the order

at_most_itself : (a : Truth) → is_at_most a a ≡ true
at_most_itself False = refl
at_most_itself Unknown = refl
at_most_itself True = refl

at_most_true : (a : Truth) → is_at_most a True ≡ true
at_most_true False = refl
at_most_true Unknown = refl
at_most_true True = refl

-- what is at most both is at most the least, and only that
below_least : (bound a b : Truth) → is_at_most bound (least a b) ≡ (is_at_most bound a && is_at_most bound b)
below_least False a b = refl
below_least Unknown False b = refl
below_least Unknown Unknown False = refl
below_least Unknown Unknown Unknown = refl
below_least Unknown Unknown True = refl
below_least Unknown True b = refl
below_least True False b = refl
below_least True Unknown False = refl
below_least True Unknown Unknown = refl
below_least True Unknown True = refl
below_least True True b = refl

above_greatest : (a b bound : Truth) → is_at_most (greatest a b) bound ≡ (is_at_most a bound && is_at_most b bound)
above_greatest False b bound = refl
above_greatest Unknown False False = refl
above_greatest Unknown False Unknown = refl
above_greatest Unknown False True = refl
above_greatest Unknown Unknown False = refl
above_greatest Unknown Unknown Unknown = refl
above_greatest Unknown Unknown True = refl
above_greatest Unknown True False = refl
above_greatest Unknown True Unknown = refl
above_greatest Unknown True True = refl
above_greatest True False False = refl
above_greatest True False Unknown = refl
above_greatest True False True = refl
above_greatest True Unknown False = refl
above_greatest True Unknown Unknown = refl
above_greatest True Unknown True = refl
above_greatest True True False = refl
above_greatest True True Unknown = refl
above_greatest True True True = refl

below_all : (bound : Truth) (truths : List Truth) → is_at_most bound (and_of truths) ≡ list_all (λ other. is_at_most bound other) truths
below_all bound [] = at_most_true bound
below_all bound (t ∷ truths) = below_least bound t (and_of truths) ∙ ap (λ b. is_at_most bound t && b) (below_all bound truths)

above_all : (bound : Truth) (truths : List Truth) → is_at_most (or_of truths) bound ≡ list_all (λ other. is_at_most other bound) truths
above_all bound [] = refl
above_all bound (t ∷ truths) = above_greatest t (or_of truths) bound ∙ ap (λ b. is_at_most t bound && b) (above_all bound truths)

pub and_is_least : (truths : List Truth) → IsLeast truths (and_of truths)
and_is_least truths = record {
  at_most_each = sym (below_all (and_of truths) truths) ∙ at_most_itself (and_of truths);
  above_others = λ bound all. below_all bound truths ∙ all;
}

pub or_is_greatest : (truths : List Truth) → IsGreatest truths (or_of truths)
or_is_greatest truths = record {
  at_least_each = sym (above_all (or_of truths) truths) ∙ at_most_itself (or_of truths);
  below_others = λ bound all. above_all bound truths ∙ all;
}

-- ---- NOT

pub not_not_of : (t : Truth) → not_of (not_of t) ≡ t
not_not_of False = refl
not_not_of Unknown = refl
not_not_of True = refl

not_least : (a b : Truth) → not_of (least a b) ≡ greatest (not_of a) (not_of b)
not_least False b = refl
not_least Unknown False = refl
not_least Unknown Unknown = refl
not_least Unknown True = refl
not_least True b = refl

pub not_greatest : (a b : Truth) → not_of (greatest a b) ≡ least (not_of a) (not_of b)
not_greatest False b = refl
not_greatest Unknown False = refl
not_greatest Unknown Unknown = refl
not_greatest Unknown True = refl
not_greatest True b = refl

not_and_of : (truths : List Truth) → not_of (and_of truths) ≡ or_of (map not_of truths)
not_and_of [] = refl
not_and_of (t ∷ truths) = not_least t (and_of truths) ∙ ap (greatest (not_of t)) (not_and_of truths)

pub not_or_of : (truths : List Truth) → not_of (or_of truths) ≡ and_of (map not_of truths)
not_or_of [] = refl
not_or_of (t ∷ truths) = not_greatest t (or_of truths) ∙ ap (least (not_of t)) (not_or_of truths)

de_morgan_and : (es : List (Evaluated Truth)) → map_ok not_of (map_ok and_of (all_ok es)) ≡ map_ok or_of (all_ok (map (map_ok not_of) es))
de_morgan_and es =
    rw (← all_ok_map not_of es)
    (elim (all_ok es) as (λ ts. map_ok not_of (map_ok and_of ts) ≡ map_ok or_of (map_ok (map not_of) ts)) [
      | Ok ts ↦ ap Ok (not_and_of ts)
      | Err place ↦ refl
    ])

de_morgan_or : (es : List (Evaluated Truth)) → map_ok not_of (map_ok or_of (all_ok es)) ≡ map_ok and_of (all_ok (map (map_ok not_of) es))
de_morgan_or es =
    rw (← all_ok_map not_of es)
    (elim (all_ok es) as (λ ts. map_ok not_of (map_ok or_of ts) ≡ map_ok and_of (map_ok (map not_of) ts)) [
      | Ok ts ↦ ap Ok (not_or_of ts)
      | Err place ↦ refl
    ])

-- what f makes of the list, where it is known
made_of : {A : Type 0} (f : List A → A) (es : List (Evaluated A)) (a : A) → map_ok f (all_ok es) ≡ Ok a → (xs : List A) × (es ≡ map Ok xs) × (f xs ≡ a)
made_of {A = A} f es a known =
    elim (all_ok es) as (λ all. all_ok es ≡ all → map_ok f all ≡ Ok a → (xs : List A) × (es ≡ map Ok xs) × (f xs ≡ a)) [
      | Ok xs ↦ λ is made. (xs, known_all es xs is, cc)
      | Err place ↦ λ is made. cc
    ]
    refl known

-- ---- conditions

module _ (db : Database) (tables binding : List (List ℕ)) where
  abbrev truths_of : List Cond → List (Evaluated Truth)
  truths_of parts = map (λ part. truth db part tables binding) parts

  negated_parts : (parts : List Cond) → truths_of (map c.Not parts) ≡ map (map_ok not_of) (truths_of parts)
  negated_parts [] = refl
  negated_parts (part ∷ parts) = rw (truth_not db part tables binding, negated_parts parts) refl

  pub not_not : (part : Cond) → truth db (c.Not (c.Not part)) tables binding ≡ truth db part tables binding
  not_not part =
      truth_not db (c.Not part) tables binding
      ∙ (ap (map_ok not_of) (truth_not db part tables binding)
      ∙ elim (truth db part tables binding) as (λ t. map_ok not_of (map_ok not_of t) ≡ t) [
        | Ok t ↦ ap Ok (not_not_of t)
        | Err place ↦ refl
      ])

  pub not_and : (parts : List Cond) → truth db (c.Not (c.And parts)) tables binding ≡ truth db (c.Or (map c.Not parts)) tables binding
  not_and parts =
      truth_not db (c.And parts) tables binding
      ∙ (ap (map_ok not_of) (truth_and db parts tables binding)
      ∙ (de_morgan_and (truths_of parts)
      ∙ sym (truth_or db (map c.Not parts) tables binding ∙ ap (λ es. map_ok or_of (all_ok es)) (negated_parts parts))))

  pub not_or : (parts : List Cond) → truth db (c.Not (c.Or parts)) tables binding ≡ truth db (c.And (map c.Not parts)) tables binding
  not_or parts =
      truth_not db (c.Or parts) tables binding
      ∙ (ap (map_ok not_of) (truth_or db parts tables binding)
      ∙ (de_morgan_or (truths_of parts)
      ∙ sym (truth_and db (map c.Not parts) tables binding ∙ ap (λ es. map_ok and_of (all_ok es)) (negated_parts parts))))

  pub and_of_truths : (parts : List Cond) (truths : List Truth) → HaveTruths db parts tables binding truths → truth db (c.And parts) tables binding ≡ Ok (and_of truths)
  and_of_truths parts truths have = truth_and db parts tables binding ∙ (ap (λ es. map_ok and_of (all_ok es)) have ∙ ap (map_ok and_of) (all_known truths))

  pub or_of_truths : (parts : List Cond) (truths : List Truth) → HaveTruths db parts tables binding truths → truth db (c.Or parts) tables binding ≡ Ok (or_of truths)
  or_of_truths parts truths have = truth_or db parts tables binding ∙ (ap (λ es. map_ok or_of (all_ok es)) have ∙ ap (map_ok or_of) (all_known truths))

  pub and_known : (parts : List Cond) (t : Truth) → truth db (c.And parts) tables binding ≡ Ok t → (truths : List Truth) × HaveTruths db parts tables binding truths × IsLeast truths t
  and_known parts t known =
      let made = made_of and_of (truths_of parts) t (sym (truth_and db parts tables binding) ∙ known) in
      (made.0, made.1, subst (IsLeast made.0) made.2 (and_is_least made.0))

  pub or_known : (parts : List Cond) (t : Truth) → truth db (c.Or parts) tables binding ≡ Ok t → (truths : List Truth) × HaveTruths db parts tables binding truths × IsGreatest truths t
  or_known parts t known =
      let made = made_of or_of (truths_of parts) t (sym (truth_or db parts tables binding) ∙ known) in
      (made.0, made.1, subst (IsGreatest made.0) made.2 (or_is_greatest made.0))
