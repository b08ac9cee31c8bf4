-- What is decided by the truths is decided alike by a reading that agrees with them.
use Rattle.std.proofs.Common.{◌≡◌, ◌∙◌, ap, ap₂, refl, Bool, true, false, ◌&&◌, ◌||◌, not, List, [], ◌∷◌, map}
use Rattle.std.specs.List.{list_all}
use Rattle.std.specs.Prelude.{Ok, Err, if◌then◌else◌}
use Rattle.lint_core.specs.declared.database.Truth.{Truth}
use Rattle.lint_core.specs.declared.database.Truth.TheVariants.{False, Unknown, True}
use Rattle.lint_core.specs.Evaluation.{Evaluated, and_then, map_ok, all_ok, all_hold}
use Rattle.lint_core.specs.Question.{all_true, one_is_true}
use Rattle.lint_core.specs.Truth.{is_true, truth_of}
use Rattle.lint_base.proofs.Lists.{both_left, both_right}

-- what the first gives, the second gives too
abbrev pub Leads : {A : Type 0} → Evaluated A → Evaluated A → Type 0
Leads {A} x y = (a : A) → x ≡ Ok a → y ≡ Ok a

-- where the first gives a truth, the second gives whether it is true
abbrev pub Agree : Evaluated Truth → Evaluated Truth → Type 0
Agree exact loose = (t : Truth) → exact ≡ Ok t → loose ≡ Ok (truth_of (is_true t))

-- each leads to the other at its place
abbrev pub AllLead : {A : Type 0} → List (Evaluated A) → List (Evaluated A) → Type 0
AllLead [] [] = Unit {0}
AllLead [] (y ∷ ys) = ⊥
AllLead (x ∷ xs) [] = ⊥
AllLead (x ∷ xs) (y ∷ ys) = Leads x y × AllLead xs ys

pub map_leads : {A B : Type 0} (f : A → B) (x y : Evaluated A) → Leads x y → Leads (map_ok f x) (map_ok f y)
map_leads f (Ok a) y leads b is = ap (map_ok f) (leads a refl) ∙ is
map_leads f (Err place) y leads b is = cc

abbrev with_later : {A : Type 0} → Evaluated A → Evaluated (List A) → Evaluated (List A)
with_later x later = and_then (λ here. map_ok (λ later. here ∷ later) later) x

later_leads : {A : Type 0} (x y : Evaluated A) (xs ys : Evaluated (List A)) → Leads x y → Leads xs ys → Leads (with_later x xs) (with_later y ys)
later_leads (Ok a) y (Ok list) ys leads later b is = ap₂ with_later (leads a refl) (later list refl) ∙ is
later_leads (Ok a) y (Err place) ys leads later b is = cc
later_leads (Err place) y xs ys leads later b is = cc

pub all_lead : {A : Type 0} (xs ys : List (Evaluated A)) → AllLead xs ys → Leads (all_ok xs) (all_ok ys)
all_lead [] [] lead list is = is
all_lead [] (y ∷ ys) lead list is = absurd lead
all_lead (x ∷ xs) [] lead list is = absurd lead
all_lead (x ∷ xs) (y ∷ ys) lead list is = later_leads x y (all_ok xs) (all_ok ys) lead.0 (all_lead xs ys lead.1) list is

pub facts_lead : (xs ys : List (Evaluated Bool)) → AllLead xs ys → Leads (all_hold xs) (all_hold ys)
facts_lead xs ys lead = map_leads (list_all (λ fact. fact)) (all_ok xs) (all_ok ys) (all_lead xs ys lead)

-- ---- truths

pub truth_again : (t : Truth) → is_true (truth_of (is_true t)) ≡ is_true t
truth_again True = refl
truth_again Unknown = refl
truth_again False = refl

pub true_leads : (x y : Evaluated Truth) → Agree x y → Leads (map_ok is_true x) (map_ok is_true y)
true_leads (Ok t) y agree b is = ap (map_ok is_true) (agree t refl) ∙ (ap Ok (truth_again t) ∙ is)
true_leads (Err place) y agree b is = cc

pub one_true_leads : (x y : Evaluated Truth) → Agree x y → Leads (all_true (x ∷ [])) (all_true (y ∷ []))
one_true_leads x y agree = facts_lead (map_ok is_true x ∷ []) (map_ok is_true y ∷ []) (true_leads x y agree, tt)

pub two_true_lead : (x y more others : Evaluated Truth) → Agree x y → Agree more others → Leads (all_true (x ∷ more ∷ [])) (all_true (y ∷ others ∷ []))
two_true_lead x y more others first second =
    facts_lead (map_ok is_true x ∷ map_ok is_true more ∷ []) (map_ok is_true y ∷ map_ok is_true others ∷ []) (true_leads x y first, (true_leads more others second, tt))

abbrev differ : Bool → Bool → Bool
differ a b = (a && not b) || (b && not a)

pub one_leads : (x y more others : Evaluated Truth) → Agree x y → Agree more others → Leads (one_is_true x more) (one_is_true y others)
one_leads (Ok t) y (Ok u) others first second b is =
    ap₂ one_is_true (first t refl) (second u refl) ∙ (ap₂ (λ a b. Ok (differ a b)) (truth_again t) (truth_again u) ∙ is)
one_leads (Ok t) y (Err place) others first second b is = cc
one_leads (Err place) y more others first second b is = cc

-- ---- lists

module _ {A B : Type 0} (f g : A → Evaluated B) (p : A → Bool) (leads : (x : A) → p x ≡ true → Leads (f x) (g x)) where
  pub each_leads : (xs : List A) → list_all p xs ≡ true → AllLead (map f xs) (map g xs)
  each_leads [] all = tt
  each_leads (x ∷ xs) all = (leads x (both_left (p x) (list_all p xs) all), each_leads xs (both_right (p x) (list_all p xs) all))

module _ {A : Type 0} (f g : A → Evaluated Truth) (p : A → Bool) (agree : (x : A) → p x ≡ true → Agree (f x) (g x)) where
  each_true : (xs : List A) → list_all p xs ≡ true → AllLead (map (map_ok is_true) (map f xs)) (map (map_ok is_true) (map g xs))
  each_true [] all = tt
  each_true (x ∷ xs) all = (true_leads (f x) (g x) (agree x (both_left (p x) (list_all p xs) all)), each_true xs (both_right (p x) (list_all p xs) all))

  pub all_true_lead : (xs : List A) → list_all p xs ≡ true → Leads (all_true (map f xs)) (all_true (map g xs))
  all_true_lead xs all = facts_lead (map (map_ok is_true) (map f xs)) (map (map_ok is_true) (map g xs)) (each_true xs all)

-- ---- forms

-- where points have not the form, neither refutes
pub in_form : (form : Bool) (x y : Evaluated Bool) → (form ≡ true → Leads x y) → Leads (if form then x else Ok false) (if form then y else Ok false)
in_form true x y leads b is = leads refl b is
in_form false x y leads b is = is
