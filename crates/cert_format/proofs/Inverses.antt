-- Reading a part from its JSON value gives it back, and what is read has that value.
use Rattle.std.proofs.Common.{◌≡◌, ◌∙◌, sym, ap, ap₂, subst, refl, ℕ, Bool, true, false, cond, ◌&&◌, ◌==◌, List, [], ◌∷◌, map, Option, Some, None, option_map, option_and_then}
use Rattle.std.proofs.lemmas.Bool.{and_parts, and_from, eqb-true}
use Rattle.std.proofs.lemmas.Option.{same_Some, none-some, cond_some}
use Rattle.std.specs.List.{list_all}
use Rattle.lint_core.specs.declared.certificate.SumEdge.{SumEdge}
use Rattle.lint_core.specs.declared.certificate.SumEdge.TheVariants as edge
use Rattle.lint_core.specs.declared.certificate.TextEdge.{TextEdge}
use Rattle.lint_core.specs.declared.certificate.TextEdge.TheVariants as link
use Rattle.lint_core.specs.declared.certificate.SameEdge.{SameEdge}
use Rattle.serde_json.specs.Data.{Data, null, boolean, number, unsigned, negative, float, string, array, object, Items, item, no_items}
use Rattle.serde_json.specs.View.{items_of}
use Rattle.cert_format.specs.declared.edges.EdgeNumbers.{EdgeNumbers}
use Rattle.cert_format.specs.declared.edges.EdgeNumbers.TheVariants.{Two, Three}
use Rattle.cert_format.specs.Forms.{whole, list, wholes, sum_edge_numbers, text_edge_numbers, same_edge_numbers, sum_edge_form, text_edge_form, same_edge_form, last_form}
use Rattle.cert_format.specs.Fitting.{is_small, sum_edge_fits, text_edge_fits, same_edge_fits, last_fits}
use Rattle.cert_format.specs.inner.Found.{number_found, edge_items, edge_found, sum_edge_of, text_edge_of, same_edge_of, sum_edge_found, text_edge_found, same_edge_found, all_found, list_found, last_found, one_found, two_found, three_found}

pub record Inverse {A : Type 0} (form : A → Data) (fits : A → Bool) (found : Data → Option A) : Type 0 where
  pub there : (x : A) → fits x ≡ true → found (form x) ≡ Some x
  pub back : (json : Data) (x : A) → found json ≡ Some x → (json ≡ form x) × (fits x ≡ true)

-- ---- what a Some shows

pub map_some : {A B : Type 0} (f : A → B) (o : Option A) (y : B) → option_map f o ≡ Some y → (x : A) × (o ≡ Some x) × (f x ≡ y)
map_some f None y e = absurd (none-some y e)
map_some f (Some x) y e = (x, refl, same_Some (f x) y e)

pub then_some : {A B : Type 0} (f : A → Option B) (o : Option A) (y : B) → option_and_then f o ≡ Some y → (x : A) × (o ≡ Some x) × (f x ≡ Some y)
then_some f None y e = absurd (none-some y e)
then_some f (Some x) y e = (x, refl, e)

-- one side of a test, or the other
pub choose : {A : Type 0} (b : Bool) (x : A) (rest : Option A) (y : A) (P : A → Type 0) → (b ≡ true → P x) → (rest ≡ Some y → P y) → cond b (Some x) rest ≡ Some y → P y
choose true x rest y P first other e = subst P (same_Some x y e) (first refl)
choose false x rest y P first other e = other e

-- ---- numbers

number_there : (n : ℕ) → is_small n ≡ true → number_found (whole n) ≡ Some n
number_there n e = ap (λ b. cond b (Some n) None) e

number_back : (json : Data) (n : ℕ) → number_found json ≡ Some n → (json ≡ whole n) × (is_small n ≡ true)
number_back null n e = absurd (none-some n e)
number_back (boolean b) n e = absurd (none-some n e)
number_back (number (unsigned m)) n e =
    let p = cond_some (is_small m) m n e in
    (ap whole p.1, subst (λ k. is_small k ≡ true) p.1 p.0)
number_back (number (negative z)) n e = absurd (none-some n e)
number_back (number (float x)) n e = absurd (none-some n e)
number_back (string s) n e = absurd (none-some n e)
number_back (array parts) n e = absurd (none-some n e)
number_back (object ms) n e = absurd (none-some n e)

pub numbers : Inverse whole is_small number_found
numbers = record { there = number_there; back = number_back }

-- ---- edges

abbrev pub numbers_of : EdgeNumbers → List ℕ
numbers_of (Two k x) = k ∷ x ∷ []
numbers_of (Three k x y) = k ∷ x ∷ y ∷ []

pair_there : (k x : ℕ) → is_small k ≡ true → is_small x ≡ true → edge_found (wholes (k ∷ x ∷ [])) ≡ Some (Two k x)
pair_there k x e f =
    ap (λ o. option_and_then (λ j. option_map (λ v. Two j v) (number_found (whole x))) o) (number_there k e)
    ∙ ap (option_map (λ v. Two k v)) (number_there x f)

triple_there : (k x y : ℕ) → is_small k ≡ true → is_small x ≡ true → is_small y ≡ true → edge_found (wholes (k ∷ x ∷ y ∷ [])) ≡ Some (Three k x y)
triple_there k x y e f g =
    ap (λ o. option_and_then (λ j. option_and_then (λ v. option_map (λ w. Three j v w) (number_found (whole y))) (number_found (whole x))) o) (number_there k e)
    ∙ ap (λ o. option_and_then (λ v. option_map (λ w. Three k v w) (number_found (whole y))) o) (number_there x f)
    ∙ ap (option_map (λ w. Three k x w)) (number_there y g)

edge_there : (e : EdgeNumbers) → list_all is_small (numbers_of e) ≡ true → edge_found (wholes (numbers_of e)) ≡ Some e
edge_there (Two k x) all =
    let p = and_parts (is_small k) _ all in
    let q = and_parts (is_small x) _ p.1 in
    pair_there k x p.0 q.0
edge_there (Three k x y) all =
    let p = and_parts (is_small k) _ all in
    let q = and_parts (is_small x) _ p.1 in
    let r = and_parts (is_small y) _ q.1 in
    triple_there k x y p.0 q.0 r.0

-- the numbers of what was read
abbrev Numbered : Items → EdgeNumbers → Type 0
Numbered parts e = (parts ≡ items_of (map whole (numbers_of e))) × (list_all is_small (numbers_of e) ≡ true)

edge_items_back : (parts : Items) (e : EdgeNumbers) → edge_items parts ≡ Some e → Numbered parts e
edge_items_back no_items e h = absurd (none-some e h)
edge_items_back (item a no_items) e h = absurd (none-some e h)
edge_items_back (item a (item b no_items)) e h =
    let p = then_some (λ k. option_map (λ x. Two k x) (number_found b)) (number_found a) e h in
    let q = map_some (λ x. Two p.0 x) (number_found b) e p.2 in
    let k = number_back a p.0 p.1 in
    let x = number_back b q.0 q.1 in
    subst (Numbered (item a (item b no_items))) q.2
    (ap₂ (λ c d. item c (item d no_items)) k.0 x.0, and_from (is_small p.0) _ k.1 (and_from (is_small q.0) true x.1 refl))
edge_items_back (item a (item b (item c no_items))) e h =
    let p = then_some (λ k. option_and_then (λ x. option_map (λ y. Three k x y) (number_found c)) (number_found b)) (number_found a) e h in
    let q = then_some (λ x. option_map (λ y. Three p.0 x y) (number_found c)) (number_found b) e p.2 in
    let r = map_some (λ y. Three p.0 q.0 y) (number_found c) e q.2 in
    let k = number_back a p.0 p.1 in
    let x = number_back b q.0 q.1 in
    let y = number_back c r.0 r.1 in
    subst (Numbered (item a (item b (item c no_items)))) r.2 (
      ap₂ (λ u v. item u v) k.0 (ap₂ (λ v w. item v (item w no_items)) x.0 y.0),
      and_from (is_small p.0) _ k.1 (and_from (is_small q.0) _ x.1 (and_from (is_small r.0) true y.1 refl)),
    )
edge_items_back (item a (item b (item c (item d more)))) e h = absurd (none-some e h)

edge_back : (json : Data) (e : EdgeNumbers) → edge_found json ≡ Some e → (json ≡ wholes (numbers_of e)) × (list_all is_small (numbers_of e) ≡ true)
edge_back null e h = absurd (none-some e h)
edge_back (boolean b) e h = absurd (none-some e h)
edge_back (number n) e h = absurd (none-some e h)
edge_back (string s) e h = absurd (none-some e h)
edge_back (array parts) e h = let p = edge_items_back parts e h in (ap array p.0, p.1)
edge_back (object ms) e h = absurd (none-some e h)

-- an edge of one kind, from its numbers
module _ {A : Type 0} (numbers_in : A → List ℕ) (of : EdgeNumbers → Option A)
    (there : (x : A) → (e : EdgeNumbers) × (numbers_of e ≡ numbers_in x) × (of e ≡ Some x))
    (back : (e : EdgeNumbers) (x : A) → of e ≡ Some x → numbers_of e ≡ numbers_in x) where
  edges_there : (x : A) → list_all is_small (numbers_in x) ≡ true → option_and_then of (edge_found (wholes (numbers_in x))) ≡ Some x
  edges_there x all =
      let n = there x in
      ap (λ ns. option_and_then of (edge_found (wholes ns))) (sym n.1)
      ∙ ap (option_and_then of) (edge_there n.0 (subst (λ ns. list_all is_small ns ≡ true) (sym n.1) all)) ∙ n.2

  edges_back : (json : Data) (x : A) → option_and_then of (edge_found json) ≡ Some x → (json ≡ wholes (numbers_in x)) × (list_all is_small (numbers_in x) ≡ true)
  edges_back json x h =
      let p = then_some of (edge_found json) x h in
      let q = edge_back json p.0 p.1 in
      let same = back p.0 x p.2 in
      (q.0 ∙ ap wholes same, subst (λ ns. list_all is_small ns ≡ true) same q.1)

sum_edge_there : (x : SumEdge) → (e : EdgeNumbers) × (numbers_of e ≡ sum_edge_numbers x) × (sum_edge_of e ≡ Some x)
sum_edge_there (edge.Fact f) = (Two 0 f, refl, refl)
sum_edge_there (edge.Low r c) = (Three 1 r c, refl, refl)
sum_edge_there (edge.High r c) = (Three 2 r c, refl, refl)
sum_edge_there (edge.Same f c) = (Three 3 f c, refl, refl)
sum_edge_there (edge.Back f c) = (Three 4 f c, refl, refl)

sum_edge_back : (e : EdgeNumbers) (x : SumEdge) → sum_edge_of e ≡ Some x → numbers_of e ≡ sum_edge_numbers x
sum_edge_back (Two k f) x h =
    choose (k == 0) (edge.Fact f) None x (λ y. (k ∷ f ∷ []) ≡ sum_edge_numbers y) (λ t. ap (λ j. j ∷ f ∷ []) (eqb-true k 0 t)) (λ e. absurd (none-some x e)) h
sum_edge_back (Three k a b) x h =
    let P : SumEdge → Type 0 = λ y. (k ∷ a ∷ b ∷ []) ≡ sum_edge_numbers y in
    let is = λ (n : ℕ) (t : (k == n) ≡ true). ap (λ j. j ∷ a ∷ b ∷ []) (eqb-true k n t) in
    choose (k == 1) (edge.Low a b) _ x P (is 1)
    (choose (k == 2) (edge.High a b) _ x P (is 2)
    (choose (k == 3) (edge.Same a b) _ x P (is 3)
    (choose (k == 4) (edge.Back a b) None x P (is 4) (λ e. absurd (none-some x e))))) h

text_edge_there : (x : TextEdge) → (e : EdgeNumbers) × (numbers_of e ≡ text_edge_numbers x) × (text_edge_of e ≡ Some x)
text_edge_there (link.Fact f) = (Two 0 f, refl, refl)
text_edge_there (link.FactBack f) = (Two 1 f, refl, refl)
text_edge_there (link.Same f c) = (Three 2 f c, refl, refl)
text_edge_there (link.Back f c) = (Three 3 f c, refl, refl)

text_edge_back : (e : EdgeNumbers) (x : TextEdge) → text_edge_of e ≡ Some x → numbers_of e ≡ text_edge_numbers x
text_edge_back (Two k f) x h =
    let P : TextEdge → Type 0 = λ y. (k ∷ f ∷ []) ≡ text_edge_numbers y in
    let is = λ (n : ℕ) (t : (k == n) ≡ true). ap (λ j. j ∷ f ∷ []) (eqb-true k n t) in
    choose (k == 0) (link.Fact f) _ x P (is 0) (choose (k == 1) (link.FactBack f) None x P (is 1) (λ e. absurd (none-some x e))) h
text_edge_back (Three k a b) x h =
    let P : TextEdge → Type 0 = λ y. (k ∷ a ∷ b ∷ []) ≡ text_edge_numbers y in
    let is = λ (n : ℕ) (t : (k == n) ≡ true). ap (λ j. j ∷ a ∷ b ∷ []) (eqb-true k n t) in
    choose (k == 2) (link.Same a b) _ x P (is 2) (choose (k == 3) (link.Back a b) None x P (is 3) (λ e. absurd (none-some x e))) h

one_way : (fact : ℕ) (back : Bool) → (e : EdgeNumbers) × (numbers_of e ≡ cond back 1 0 ∷ fact ∷ []) × (same_edge_of e ≡ Some (record { fact = fact; back = back }))
one_way fact true = (Two 1 fact, refl, refl)
one_way fact false = (Two 0 fact, refl, refl)

same_edge_there : (x : SameEdge) → (e : EdgeNumbers) × (numbers_of e ≡ same_edge_numbers x) × (same_edge_of e ≡ Some x)
same_edge_there x = one_way x.fact x.back

same_edge_back : (e : EdgeNumbers) (x : SameEdge) → same_edge_of e ≡ Some x → numbers_of e ≡ same_edge_numbers x
same_edge_back (Two k f) x h =
    let P : SameEdge → Type 0 = λ y. (k ∷ f ∷ []) ≡ same_edge_numbers y in
    let is = λ (n : ℕ) (t : (k == n) ≡ true). ap (λ j. j ∷ f ∷ []) (eqb-true k n t) in
    choose (k == 0) (record { fact = f; back = false }) _ x P (is 0)
    (choose (k == 1) (record { fact = f; back = true }) None x P (is 1) (λ e. absurd (none-some x e))) h
same_edge_back (Three k a b) x h = absurd (none-some x h)

pub sum_edges : Inverse sum_edge_form sum_edge_fits sum_edge_found
sum_edges = record {
  there = edges_there sum_edge_numbers sum_edge_of sum_edge_there sum_edge_back;
  back = edges_back sum_edge_numbers sum_edge_of sum_edge_there sum_edge_back;
}

pub text_edges : Inverse text_edge_form text_edge_fits text_edge_found
text_edges = record {
  there = edges_there text_edge_numbers text_edge_of text_edge_there text_edge_back;
  back = edges_back text_edge_numbers text_edge_of text_edge_there text_edge_back;
}

pub same_edges : Inverse same_edge_form same_edge_fits same_edge_found
same_edges = record {
  there = edges_there same_edge_numbers same_edge_of same_edge_there same_edge_back;
  back = edges_back same_edge_numbers same_edge_of same_edge_there same_edge_back;
}

-- ---- an optional number

last_there : (o : Option ℕ) → last_fits o ≡ true → last_found (last_form o) ≡ Some o
last_there None e = refl
last_there (Some n) e = ap (option_map (λ m. Some m)) (number_there n e)

last_number : (json : Data) (o : Option ℕ) → option_map (λ m. Some m) (number_found json) ≡ Some o → (json ≡ last_form o) × (last_fits o ≡ true)
last_number json o h =
    let p = map_some (λ m. Some m) (number_found json) o h in
    subst (λ v. (json ≡ last_form v) × (last_fits v ≡ true)) p.2 (number_back json p.0 p.1)

last_back : (json : Data) (o : Option ℕ) → last_found json ≡ Some o → (json ≡ last_form o) × (last_fits o ≡ true)
last_back null o h = subst (λ v. (null ≡ last_form v) × (last_fits v ≡ true)) (same_Some None o h) (refl, refl)
last_back (boolean b) o h = last_number (boolean b) o h
last_back (number n) o h = last_number (number n) o h
last_back (string s) o h = last_number (string s) o h
last_back (array parts) o h = last_number (array parts) o h
last_back (object ms) o h = last_number (object ms) o h

pub lasts : Inverse last_form last_fits last_found
lasts = record { there = last_there; back = last_back }

-- ---- lists

module _ {A : Type 0} (form : A → Data) (fits : A → Bool) (found : Data → Option A) (inverse : Inverse form fits found) where
  all_there : (xs : List A) → list_all fits xs ≡ true → all_found found (items_of (map form xs)) ≡ Some xs
  all_there [] e = refl
  all_there (x ∷ xs) e =
      let p = and_parts (fits x) (list_all fits xs) e in
      ap (λ o. option_and_then (λ y. option_map (λ ys. y ∷ ys) (all_found found (items_of (map form xs)))) o) (inverse.there x p.0)
      ∙ ap (option_map (λ ys. x ∷ ys)) (all_there xs p.1)

  all_back : (parts : Items) (xs : List A) → all_found found parts ≡ Some xs → (parts ≡ items_of (map form xs)) × (list_all fits xs ≡ true)
  all_back no_items xs h = subst (λ ys. (no_items ≡ items_of (map form ys)) × (list_all fits ys ≡ true)) (same_Some [] xs h) (refl, refl)
  all_back (item json more) xs h =
      let p = then_some (λ y. option_map (λ ys. y ∷ ys) (all_found found more)) (found json) xs h in
      let q = map_some (λ ys. p.0 ∷ ys) (all_found found more) xs p.2 in
      let first = inverse.back json p.0 p.1 in
      let rest = all_back more q.0 q.1 in
      subst (λ ys. (item json more ≡ items_of (map form ys)) × (list_all fits ys ≡ true)) q.2
      (ap₂ item first.0 rest.0, and_from (fits p.0) (list_all fits q.0) first.1 rest.1)

  list_back : (json : Data) (xs : List A) → list_found found json ≡ Some xs → (json ≡ list (map form xs)) × (list_all fits xs ≡ true)
  list_back null xs h = absurd (none-some xs h)
  list_back (boolean b) xs h = absurd (none-some xs h)
  list_back (number n) xs h = absurd (none-some xs h)
  list_back (string s) xs h = absurd (none-some xs h)
  list_back (array parts) xs h = let p = all_back parts xs h in (ap array p.0, p.1)
  list_back (object ms) xs h = absurd (none-some xs h)

  pub lists : Inverse (λ xs. list (map form xs)) (list_all fits) (list_found found)
  lists = record { there = all_there; back = list_back }

-- ---- one part, two and three

module _ {A : Type 0} (form : A → Data) (fits : A → Bool) (found : Data → Option A) (inverse : Inverse form fits found) where
  pub one_back : (parts : Items) (x : A) → one_found found parts ≡ Some x → (parts ≡ items_of (form x ∷ [])) × (fits x ≡ true)
  one_back no_items x h = absurd (none-some x h)
  one_back (item a no_items) x h = let p = inverse.back a x h in (ap (λ d. item d no_items) p.0, p.1)
  one_back (item a (item b more)) x h = absurd (none-some x h)

  module _ {B : Type 0} (form' : B → Data) (fits' : B → Bool) (found' : Data → Option B) (inverse' : Inverse form' fits' found') where
    abbrev TwoParts : Items → A × B → Type 0
    TwoParts parts p = (parts ≡ items_of (form p.0 ∷ form' p.1 ∷ [])) × ((fits p.0 && fits' p.1) ≡ true)

    pub two_back : (parts : Items) (p : A × B) → two_found found found' parts ≡ Some p → TwoParts parts p
    two_back no_items p h = absurd (none-some p h)
    two_back (item a no_items) p h = absurd (none-some p h)
    two_back (item a (item b no_items)) p h =
        let x = then_some (λ v. option_map (λ w. (v, w)) (found' b)) (found a) p h in
        let y = map_some (λ w. (x.0, w)) (found' b) p x.2 in
        let first = inverse.back a x.0 x.1 in
        let second = inverse'.back b y.0 y.1 in
        subst (TwoParts (item a (item b no_items))) y.2
        (ap₂ (λ c d. item c (item d no_items)) first.0 second.0, and_from (fits x.0) (fits' y.0) first.1 second.1)
    two_back (item a (item b (item c more))) p h = absurd (none-some p h)

    pub two_there : (x : A) (y : B) → fits x ≡ true → fits' y ≡ true → two_found found found' (items_of (form x ∷ form' y ∷ [])) ≡ Some (x, y)
    two_there x y e f =
        ap (λ o. option_and_then (λ v. option_map (λ w. (v, w)) (found' (form' y))) o) (inverse.there x e)
        ∙ ap (option_map (λ w. (x, w))) (inverse'.there y f)

    module _ {C : Type 0} (form'' : C → Data) (fits'' : C → Bool) (found'' : Data → Option C) (inverse'' : Inverse form'' fits'' found'') where
      abbrev ThreeParts : Items → A × B × C → Type 0
      ThreeParts parts p = (parts ≡ items_of (form p.0 ∷ form' p.1 ∷ form'' p.2 ∷ [])) × ((fits p.0 && (fits' p.1 && fits'' p.2)) ≡ true)

      pub three_back : (parts : Items) (p : A × B × C) → three_found found found' found'' parts ≡ Some p → ThreeParts parts p
      three_back no_items p h = absurd (none-some p h)
      three_back (item a no_items) p h = absurd (none-some p h)
      three_back (item a (item b no_items)) p h = absurd (none-some p h)
      three_back (item a (item b (item c no_items))) p h =
          let x = then_some (λ u. option_and_then (λ v. option_map (λ w. (u, v, w)) (found'' c)) (found' b)) (found a) p h in
          let y = then_some (λ v. option_map (λ w. (x.0, v, w)) (found'' c)) (found' b) p x.2 in
          let z = map_some (λ w. (x.0, y.0, w)) (found'' c) p y.2 in
          let first = inverse.back a x.0 x.1 in
          let second = inverse'.back b y.0 y.1 in
          let third = inverse''.back c z.0 z.1 in
          subst (ThreeParts (item a (item b (item c no_items)))) z.2 (
            ap₂ (λ d e. item d e) first.0 (ap₂ (λ d e. item d (item e no_items)) second.0 third.0),
            and_from (fits x.0) _ first.1 (and_from (fits' y.0) (fits'' z.0) second.1 third.1),
          )
      three_back (item a (item b (item c (item d more)))) p h = absurd (none-some p h)

      pub three_there : (x : A) (y : B) (z : C) → fits x ≡ true → fits' y ≡ true → fits'' z ≡ true
          → three_found found found' found'' (items_of (form x ∷ form' y ∷ form'' z ∷ [])) ≡ Some (x, y, z)
      three_there x y z e f g =
          ap (λ o. option_and_then (λ u. option_and_then (λ v. option_map (λ w. (u, v, w)) (found'' (form'' z))) (found' (form' y))) o) (inverse.there x e)
          ∙ ap (λ o. option_and_then (λ v. option_map (λ w. (x, v, w)) (found'' (form'' z))) o) (inverse'.there y f)
          ∙ ap (option_map (λ w. (x, y, w))) (inverse''.there z g)
