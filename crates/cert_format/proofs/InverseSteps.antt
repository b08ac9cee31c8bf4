-- Reading a step from its JSON value gives it back, and what is read has that value.
use Rattle.std.proofs.Common.{◌≡◌, ◌∙◌, ap, subst, ℕ, true, ◌&&◌, List, map, Option, Some, None, option_map, option_and_then, codes}
use Rattle.std.proofs.lemmas.Bool.{and_parts}
use Rattle.std.proofs.lemmas.Option.{none-some}
use Rattle.std.proofs.lemmas.Slice.Eq.{bytes_eq-Decides}
use Rattle.std.specs.List.{list_all}
use Rattle.std.specs.Str.{bytes_eq}
use Rattle.lint_core.specs.declared.certificate.SameEdge.{SameEdge}
use Rattle.lint_core.specs.declared.certificate.Step.{Step}
use Rattle.lint_core.specs.declared.certificate.Step.TheVariants as step
use Rattle.lint_core.specs.declared.certificate.TextEdge.{TextEdge}
use Rattle.serde_json.specs.Data.{Data, null, boolean, number, string, array, object, Items, item, no_items}
use Rattle.cert_format.specs.declared.name.Name.{Name}
use Rattle.cert_format.specs.declared.name.Name.TheVariants as name
use Rattle.cert_format.specs.Forms.{whole, list, sum_edge_form, text_edge_form, same_edge_form, last_form, step_form}
use Rattle.cert_format.specs.Fitting.{is_small, sum_edge_fits, text_edge_fits, same_edge_fits, last_fits, step_fits}
use Rattle.cert_format.specs.inner.Found.{number_found, sum_edge_found, text_edge_found, same_edge_found, list_found, last_found, one_found, two_found, three_found, name_text, name_of, parts_found, step_items, step_found}
use Rattle.cert_format.proofs.Inverses.{Inverse, numbers, sum_edges, text_edges, same_edges, lasts, lists, map_some, then_some, choose, one_back, two_back, two_there, three_back, three_there}

sums : Inverse (λ xs. list (map sum_edge_form xs)) (list_all sum_edge_fits) (list_found sum_edge_found)
sums = lists sum_edge_form sum_edge_fits sum_edge_found sum_edges

chains : Inverse (λ xs. list (map text_edge_form xs)) (list_all text_edge_fits) (list_found text_edge_found)
chains = lists text_edge_form text_edge_fits text_edge_found text_edges

paths : Inverse (λ xs. list (map same_edge_form xs)) (list_all same_edge_fits) (list_found same_edge_found)
paths = lists same_edge_form same_edge_fits same_edge_found same_edges

-- ---- names

name_back : (s : List ℕ) (n : Name) → name_of s ≡ Some n → s ≡ name_text n
name_back s n h =
    let P : Name → Type 0 = λ m. s ≡ name_text m in
    let is = λ (text : List ℕ) (t : bytes_eq s text ≡ true). (bytes_eq-Decides s text).0 t in
    choose (bytes_eq s (codes "and")) name.And _ n P (is (codes "and"))
    (choose (bytes_eq s (codes "or")) name.Or _ n P (is (codes "or"))
    (choose (bytes_eq s (codes "ex")) name.Ex _ n P (is (codes "ex"))
    (choose (bytes_eq s (codes "all")) name.All _ n P (is (codes "all"))
    (choose (bytes_eq s (codes "sum")) name.Sum _ n P (is (codes "sum"))
    (choose (bytes_eq s (codes "text")) name.Text _ n P (is (codes "text"))
    (choose (bytes_eq s (codes "null")) name.Null _ n P (is (codes "null"))
    (choose (bytes_eq s (codes "same")) name.Same None n P (is (codes "same")) (λ e. absurd (none-some n e))))))))) h

-- ---- from the value of a step to the step

step_there : (s : Step) → step_fits s ≡ true → step_found (step_form s) ≡ Some s
step_there (step.And f) e = ap (option_map step.And) (numbers.there f e)
step_there (step.Or f) e = ap (option_map step.Or) (numbers.there f e)
step_there (step.Ex f) e = ap (option_map step.Ex) (numbers.there f e)
step_there (step.All f r) e =
    let p = and_parts (is_small f) (is_small r) e in
    ap (option_map (λ (q : ℕ × ℕ). step.All q.0 q.1)) (two_there whole is_small number_found numbers whole is_small number_found numbers f r p.0 p.1)
step_there (step.Sum edges) e = ap (option_map step.Sum) (sums.there edges e)
step_there (step.Text last edges) e =
    let p = and_parts (last_fits last) (list_all text_edge_fits edges) e in
    ap (option_map (λ (q : Option ℕ × List TextEdge). step.Text q.0 q.1))
    (two_there last_form last_fits last_found lasts (λ xs. list (map text_edge_form xs)) (list_all text_edge_fits) (list_found text_edge_found) chains last edges p.0 p.1)
step_there (step.Null f g path) e =
    let p = and_parts (is_small f) (is_small g && list_all same_edge_fits path) e in
    let q = and_parts (is_small g) (list_all same_edge_fits path) p.1 in
    ap (option_map (λ (r : ℕ × ℕ × List SameEdge). step.Null r.0 r.1 r.2))
    (three_there whole is_small number_found numbers whole is_small number_found numbers (λ xs. list (map same_edge_form xs)) (list_all same_edge_fits)
    (list_found same_edge_found) paths f g path p.0 q.0 q.1)
step_there (step.Same f path) e =
    let p = and_parts (is_small f) (list_all same_edge_fits path) e in
    ap (option_map (λ (q : ℕ × List SameEdge). step.Same q.0 q.1))
    (two_there whole is_small number_found numbers (λ xs. list (map same_edge_form xs)) (list_all same_edge_fits) (list_found same_edge_found) paths f path p.0 p.1)

-- ---- from what was read to its value

-- the parts behind the name are those of the step
abbrev Made : Name → Items → Step → Type 0
Made n parts s = (array (item (string (name_text n)) parts) ≡ step_form s) × (step_fits s ≡ true)

behind : (n : Name) (parts more : Items) → parts ≡ more → array (item (string (name_text n)) parts) ≡ array (item (string (name_text n)) more)
behind n parts more e = ap (λ p. array (item (string (name_text n)) p)) e

parts_back : (n : Name) (parts : Items) (s : Step) → parts_found n parts ≡ Some s → Made n parts s
parts_back name.And parts s h =
    let p = map_some step.And (one_found number_found parts) s h in
    let q = one_back whole is_small number_found numbers parts p.0 p.1 in
    subst (Made name.And parts) p.2 (behind name.And parts _ q.0, q.1)
parts_back name.Or parts s h =
    let p = map_some step.Or (one_found number_found parts) s h in
    let q = one_back whole is_small number_found numbers parts p.0 p.1 in
    subst (Made name.Or parts) p.2 (behind name.Or parts _ q.0, q.1)
parts_back name.Ex parts s h =
    let p = map_some step.Ex (one_found number_found parts) s h in
    let q = one_back whole is_small number_found numbers parts p.0 p.1 in
    subst (Made name.Ex parts) p.2 (behind name.Ex parts _ q.0, q.1)
parts_back name.All parts s h =
    let p = map_some (λ (q : ℕ × ℕ). step.All q.0 q.1) (two_found number_found number_found parts) s h in
    let q = two_back whole is_small number_found numbers whole is_small number_found numbers parts p.0 p.1 in
    subst (Made name.All parts) p.2 (behind name.All parts _ q.0, q.1)
parts_back name.Sum parts s h =
    let p = map_some step.Sum (one_found (list_found sum_edge_found) parts) s h in
    let q = one_back (λ xs. list (map sum_edge_form xs)) (list_all sum_edge_fits) (list_found sum_edge_found) sums parts p.0 p.1 in
    subst (Made name.Sum parts) p.2 (behind name.Sum parts _ q.0, q.1)
parts_back name.Text parts s h =
    let p = map_some (λ (q : Option ℕ × List TextEdge). step.Text q.0 q.1) (two_found last_found (list_found text_edge_found) parts) s h in
    let q = two_back last_form last_fits last_found lasts (λ xs. list (map text_edge_form xs)) (list_all text_edge_fits) (list_found text_edge_found) chains parts p.0 p.1 in
    subst (Made name.Text parts) p.2 (behind name.Text parts _ q.0, q.1)
parts_back name.Null parts s h =
    let p = map_some (λ (q : ℕ × ℕ × List SameEdge). step.Null q.0 q.1 q.2) (three_found number_found number_found (list_found same_edge_found) parts) s h in
    let q = three_back whole is_small number_found numbers whole is_small number_found numbers (λ xs. list (map same_edge_form xs)) (list_all same_edge_fits)
    (list_found same_edge_found) paths parts p.0 p.1 in
    subst (Made name.Null parts) p.2 (behind name.Null parts _ q.0, q.1)
parts_back name.Same parts s h =
    let p = map_some (λ (q : ℕ × List SameEdge). step.Same q.0 q.1) (two_found number_found (list_found same_edge_found) parts) s h in
    let q = two_back whole is_small number_found numbers (λ xs. list (map same_edge_form xs)) (list_all same_edge_fits) (list_found same_edge_found) paths parts p.0 p.1 in
    subst (Made name.Same parts) p.2 (behind name.Same parts _ q.0, q.1)

abbrev IsStep : Data → Step → Type 0
IsStep json s = (json ≡ step_form s) × (step_fits s ≡ true)

-- the first item is a text
headed : (text : List ℕ) (parts : Items) (s : Step) → option_and_then (λ n. parts_found n parts) (name_of text) ≡ Some s → IsStep (array (item (string text) parts)) s
headed text parts s h =
    let p = then_some (λ n. parts_found n parts) (name_of text) s h in
    let made = parts_back p.0 parts s p.2 in
    (ap (λ t. array (item (string t) parts)) (name_back text p.0 p.1) ∙ made.0, made.1)

items_back : (parts : Items) (s : Step) → step_items parts ≡ Some s → IsStep (array parts) s
items_back no_items s h = absurd (none-some s h)
items_back (item null parts) s h = absurd (none-some s h)
items_back (item (boolean b) parts) s h = absurd (none-some s h)
items_back (item (number n) parts) s h = absurd (none-some s h)
items_back (item (string text) parts) s h = headed text parts s h
items_back (item (array more) parts) s h = absurd (none-some s h)
items_back (item (object ms) parts) s h = absurd (none-some s h)

step_back : (json : Data) (s : Step) → step_found json ≡ Some s → IsStep json s
step_back null s h = absurd (none-some s h)
step_back (boolean b) s h = absurd (none-some s h)
step_back (number n) s h = absurd (none-some s h)
step_back (string text) s h = absurd (none-some s h)
step_back (array parts) s h = items_back parts s h
step_back (object ms) s h = absurd (none-some s h)

pub steps : Inverse step_form step_fits step_found
steps = record { there = step_there; back = step_back }
