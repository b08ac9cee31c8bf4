-- Reading a certificate from its JSON value gives it back, and what is read has that value; and so of a file's outer form.
use Rattle.std.proofs.Common.{◌≡◌, ◌∙◌, sym, ap, subst, refl, ℕ, ◌^◌, pos, negsuc, Bool, true, false, cond, List, map, Option, Some, None, option_map, option_and_then, codes, encode_utf8_all, nat_lt}
use Rattle.std.proofs.lemmas.Bool.{and_parts, and_from, eqb-true, true≢false}
use Rattle.std.proofs.lemmas.Option.{none-some, same_Some, cond_some}
use Rattle.std.proofs.lemmas.Slice.Eq.{bytes_eq-Decides}
use Rattle.std.proofs.lemmas.Str.{chars-encodes, encodes-chars, scalars-chars, IsUtf8-from_is_utf8, is_utf8-from_IsUtf8}
use Rattle.std.specs.List.{list_all}
use Rattle.std.specs.Str.{bytes_eq, chars, is_utf8}
use Rattle.lint_core.specs.declared.database.Value.{Value}
use Rattle.lint_core.specs.declared.database.Value.TheVariants as value
use Rattle.lint_core.specs.declared.certificate.Cert.{Cert}
use Rattle.lint_core.specs.declared.certificate.Step.{Step}
use Rattle.serde_json.specs.Data.{Data, null, boolean, number, unsigned, negative, float, string, array, object, Items, Members, member, no_members}
use Rattle.serde_json.specs.Find.{as_number, as_u64, as_array}
use Rattle.serde_json.specs.View.{items_of}
use Rattle.cert_format.specs.Forms.{whole, list, step_form, value_form, cert_form, file_form}
use Rattle.cert_format.specs.Fitting.{is_small, step_fits, value_fits, cert_fits, is_numbered}
use Rattle.cert_format.specs.CertFile.{IsCert}
use Rattle.cert_format.specs.inner.Found.{number_found, list_found, step_found, value_found, count_of, count_found, named, at_end, cert_members, cert_parts, cert_found, file_members, is_one, file_parts, certs_found}
use Rattle.cert_format.proofs.Inverses.{Inverse, numbers, lists, map_some, then_some}
use Rattle.cert_format.proofs.InverseSteps.{steps}

-- ---- values

value_there : (v : Value) → value_fits v ≡ true → value_found (value_form v) ≡ Some v
value_there value.Null e = refl
value_there (value.Int (pos n)) e = ap (λ b. cond b (Some (value.Int (pos n))) None) e
value_there (value.Int (negsuc n)) e = ap (λ b. cond b (Some (value.Int (negsuc n))) None) e
value_there (value.Text text) e =
    ap (λ b. cond b (Some (value.Text (chars (encode_utf8_all text)))) None) (is_utf8-from_IsUtf8 (encode_utf8_all text) (text, (e, refl)))
    ∙ ap (λ cs. Some (value.Text cs)) (chars-encodes text e)

abbrev IsValue : Data → Value → Type 0
IsValue json v = (json ≡ value_form v) × (value_fits v ≡ true)

value_back : (json : Data) (v : Value) → value_found json ≡ Some v → IsValue json v
value_back null v h = subst (IsValue null) (same_Some value.Null v h) (refl, refl)
value_back (boolean b) v h = absurd (none-some v h)
value_back (number (unsigned n)) v h =
    let p = cond_some (nat_lt n (2 ^ 63)) (value.Int (pos n)) v h in
    subst (IsValue (number (unsigned n))) p.1 (refl, p.0)
value_back (number (negative (pos n))) v h = absurd (none-some v h)
value_back (number (negative (negsuc n))) v h =
    let p = cond_some (nat_lt n (2 ^ 63)) (value.Int (negsuc n)) v h in
    subst (IsValue (number (negative (negsuc n)))) p.1 (refl, p.0)
value_back (number (float x)) v h = absurd (none-some v h)
value_back (string s) v h =
    let p = cond_some (is_utf8 s) (value.Text (chars s)) v h in
    let utf8 = IsUtf8-from_is_utf8 s p.0 in
    subst (IsValue (string s)) p.1 (ap string (sym (encodes-chars s utf8)), scalars-chars s utf8)
value_back (array parts) v h = absurd (none-some v h)
value_back (object ms) v h = absurd (none-some v h)

-- ---- counts

count_there : (n : ℕ) → is_small n ≡ true → nat_lt 0 n ≡ true → count_found (whole n) ≡ Some n
count_there n small some = ap (option_and_then count_of) (numbers.there n small) ∙ ap (λ b. cond b (Some n) None) some

count_back : (json : Data) (n : ℕ) → count_found json ≡ Some n → (json ≡ whole n) × (is_small n ≡ true) × (nat_lt 0 n ≡ true)
count_back json n h =
    let p = then_some count_of (number_found json) n h in
    let q = cond_some (nat_lt 0 p.0) p.0 n p.2 in
    let r = numbers.back json p.0 p.1 in
    (r.0 ∙ ap whole q.1, subst (λ m. is_small m ≡ true) q.1 r.1, subst (λ m. nat_lt 0 m ≡ true) q.1 q.0)

-- ---- members

named_back : (key : List ℕ) (ms : Members) (p : Data × Members) → named key ms ≡ Some p → ms ≡ member key p.0 p.1
named_back key no_members p h = absurd (none-some p h)
named_back key (member k json more) p h =
    let q = cond_some {A = Data × Members} (bytes_eq k key) (json, more) p h in
    ap (λ l. member l json more) ((bytes_eq-Decides k key).0 q.0) ∙ ap (λ (r : Data × Members). member key r.0 r.1) q.1

at_end_back : {A : Type 0} (x : A) (ms : Members) (y : A) → at_end x ms ≡ Some y → (ms ≡ no_members) × (x ≡ y)
at_end_back x no_members y h = (refl, same_Some x y h)
at_end_back x (member k json more) y h = absurd (none-some y h)

abbrev Four : Type 0
Four = Data × Data × Data × Data

abbrev cert_of : Four → Members
cert_of p = member (codes "query") p.0 (member (codes "question") p.1 (member (codes "steps") p.2 (member (codes "value") p.3 no_members)))

members_back : (ms : Members) (p : Four) → cert_members ms ≡ Some p → ms ≡ cert_of p
members_back ms p h =
    let f3 = λ (a b c d : Data × Members). at_end {A = Four} (a.0, b.0, c.0, d.0) d.1 in
    let f2 = λ (a b c : Data × Members). option_and_then (f3 a b c) (named (codes "value") c.1) in
    let f1 = λ (a b : Data × Members). option_and_then (f2 a b) (named (codes "steps") b.1) in
    let f0 = λ (a : Data × Members). option_and_then (f1 a) (named (codes "question") a.1) in
    let a = then_some f0 (named (codes "query") ms) p h in
    let b = then_some (f1 a.0) (named (codes "question") a.0.1) p a.2 in
    let c = then_some (f2 a.0 b.0) (named (codes "steps") b.0.1) p b.2 in
    let d = then_some (f3 a.0 b.0 c.0) (named (codes "value") c.0.1) p c.2 in
    let e = at_end_back {A = Four} (a.0.0, b.0.0, c.0.0, d.0.0) d.0.1 p d.2 in
    named_back (codes "query") ms a.0 a.1
    ∙ ap (member (codes "query") a.0.0) (named_back (codes "question") a.0.1 b.0 b.1
    ∙ ap (member (codes "question") b.0.0) (named_back (codes "steps") b.0.1 c.0 c.1
    ∙ ap (member (codes "steps") c.0.0) (named_back (codes "value") c.0.1 d.0 d.1
    ∙ ap (member (codes "value") d.0.0) e.0)))
    ∙ ap cert_of e.1

-- ---- certificates

step_lists : Inverse (λ xs. list (map step_form xs)) (list_all step_fits) (list_found step_found)
step_lists = lists step_form step_fits step_found steps

abbrev made : ℕ → ℕ → List Step → Value → Cert
made query question steps value = record { query = query; question = question; value = value; steps = steps }

pub cert_there : (cert : Cert) → cert_fits cert ≡ true → is_numbered cert ≡ true → cert_found (cert_form cert) ≡ Some cert
cert_there cert fits numbered =
    let p = and_parts (is_small cert.query) _ fits in
    let q = and_parts (is_small cert.question) _ p.1 in
    let r = and_parts (list_all step_fits cert.steps) (value_fits cert.value) q.1 in
    let n = and_parts (nat_lt 0 cert.query) (nat_lt 0 cert.question) numbered in
    let f3 = λ (query question : ℕ) (steps : List Step). option_map (λ v. made query question steps v) (value_found (value_form cert.value)) in
    let f2 = λ (query question : ℕ). option_and_then (f3 query question) (list_found step_found (list (map step_form cert.steps))) in
    let f1 = λ (query : ℕ). option_and_then (f2 query) (count_found (whole cert.question)) in
    ap (option_and_then f1) (count_there cert.query p.0 n.0)
    ∙ ap (option_and_then (f2 cert.query)) (count_there cert.question q.0 n.1)
    ∙ ap (option_and_then (f3 cert.query cert.question)) (step_lists.there cert.steps r.0)
    ∙ ap (option_map (λ v. made cert.query cert.question cert.steps v)) (value_there cert.value r.1)

parts_back : (p : Four) (cert : Cert) → cert_parts p ≡ Some cert → IsCert (object (cert_of p)) cert
parts_back p cert h =
    let f3 = λ (query question : ℕ) (steps : List Step). option_map (λ v. made query question steps v) (value_found p.3) in
    let f2 = λ (query question : ℕ). option_and_then (f3 query question) (list_found step_found p.2) in
    let f1 = λ (query : ℕ). option_and_then (f2 query) (count_found p.1) in
    let a = then_some f1 (count_found p.0) cert h in
    let b = then_some (f2 a.0) (count_found p.1) cert a.2 in
    let c = then_some (f3 a.0 b.0) (list_found step_found p.2) cert b.2 in
    let d = map_some (λ v. made a.0 b.0 c.0 v) (value_found p.3) cert c.2 in
    let query = count_back p.0 a.0 a.1 in
    let question = count_back p.1 b.0 b.1 in
    let steps = step_lists.back p.2 c.0 c.1 in
    let v = value_back p.3 d.0 d.1 in
    subst (IsCert (object (cert_of p))) d.2 (record {
      form = λ i. object (member (codes "query") (query.0 i) (member (codes "question") (question.0 i) (member (codes "steps") (steps.0 i) (member (codes "value") (v.0 i) no_members))));
      fits = and_from (is_small a.0) _ query.1 (and_from (is_small b.0) _ question.1 (and_from (list_all step_fits c.0) (value_fits d.0) steps.1 v.1));
      numbered = and_from (nat_lt 0 a.0) (nat_lt 0 b.0) query.2 question.2;
    })

pub cert_back : (json : Data) (cert : Cert) → cert_found json ≡ Some cert → IsCert json cert
cert_back null cert h = absurd (none-some cert h)
cert_back (boolean b) cert h = absurd (none-some cert h)
cert_back (number n) cert h = absurd (none-some cert h)
cert_back (string s) cert h = absurd (none-some cert h)
cert_back (array parts) cert h = absurd (none-some cert h)
cert_back (object ms) cert h =
    let p = then_some cert_parts (cert_members ms) cert h in
    subst (λ m. IsCert (object m) cert) (sym (members_back ms p.0 p.1)) (parts_back p.0 cert p.2)

-- where nothing is read, no certificate has the value
pub no_cert : (json : Data) → cert_found json ≡ None → (cert : Cert) → IsCert json cert → ⊥
no_cert json h cert is = none-some cert (sym h ∙ ap cert_found is.form ∙ cert_there cert is.fits is.numbered)

-- a certificate is told by its value
pub same_cert : (json : Data) (one two : Cert) → IsCert json one → IsCert json two → one ≡ two
same_cert json one two is other =
    same_Some one two (sym (cert_there one is.fits is.numbered) ∙ ap cert_found (sym is.form ∙ other.form) ∙ cert_there two other.fits other.numbered)

-- ---- the outer form

file_back : (ms : Members) (p : Data × Data) → file_members ms ≡ Some p → ms ≡ member (codes "certs") p.0 (member (codes "sqllint") p.1 no_members)
file_back ms p h =
    let f1 = λ (a b : Data × Members). at_end {A = Data × Data} (a.0, b.0) b.1 in
    let f0 = λ (a : Data × Members). option_and_then (f1 a) (named (codes "sqllint") a.1) in
    let a = then_some f0 (named (codes "certs") ms) p h in
    let b = then_some (f1 a.0) (named (codes "sqllint") a.0.1) p a.2 in
    let e = at_end_back {A = Data × Data} (a.0.0, b.0.0) b.0.1 p b.2 in
    named_back (codes "certs") ms a.0 a.1
    ∙ ap (member (codes "certs") a.0.0) (named_back (codes "sqllint") a.0.1 b.0 b.1 ∙ ap (member (codes "sqllint") b.0.0) e.0)
    ∙ ap (λ (q : Data × Data). member (codes "certs") q.0 (member (codes "sqllint") q.1 no_members)) e.1

version_back : (json : Data) → is_one (option_and_then as_u64 (as_number json)) ≡ true → json ≡ whole 1
version_back null h = absurd (true≢false (sym h))
version_back (boolean b) h = absurd (true≢false (sym h))
version_back (number (unsigned n)) h = ap whole (eqb-true n 1 h)
version_back (number (negative z)) h = absurd (true≢false (sym h))
version_back (number (float x)) h = absurd (true≢false (sym h))
version_back (string s) h = absurd (true≢false (sym h))
version_back (array parts) h = absurd (true≢false (sym h))
version_back (object ms) h = absurd (true≢false (sym h))

array_back : (json : Data) (parts : Items) → as_array json ≡ Some parts → json ≡ array parts
array_back null parts h = absurd (none-some parts h)
array_back (boolean b) parts h = absurd (none-some parts h)
array_back (number n) parts h = absurd (none-some parts h)
array_back (string s) parts h = absurd (none-some parts h)
array_back (array more) parts h = ap array (same_Some more parts h)
array_back (object ms) parts h = absurd (none-some parts h)

on_true : {A : Type 0} (b : Bool) (o : Option A) (y : A) → cond b o None ≡ Some y → (b ≡ true) × (o ≡ Some y)
on_true true o y h = (refl, h)
on_true false o y h = absurd (none-some y h)

abbrev outer : Items → Data
outer parts = object (member (codes "certs") (array parts) (member (codes "sqllint") (whole 1) no_members))

outer_back : (json : Data) (parts : Items) → certs_found json ≡ Some parts → json ≡ outer parts
outer_back null parts h = absurd (none-some parts h)
outer_back (boolean b) parts h = absurd (none-some parts h)
outer_back (number n) parts h = absurd (none-some parts h)
outer_back (string s) parts h = absurd (none-some parts h)
outer_back (array more) parts h = absurd (none-some parts h)
outer_back (object ms) parts h =
    let p = then_some file_parts (file_members ms) parts h in
    let q = on_true (is_one (option_and_then as_u64 (as_number p.0.1))) (as_array p.0.0) parts p.2 in
    ap object (file_back ms p.0 p.1)
    ∙ (λ i. object (member (codes "certs") (array_back p.0.0 parts q.1 i) (member (codes "sqllint") (version_back p.0.1 q.0 i) no_members)))

-- the values of the certificates of a file
pub certs_back : (json : Data) (values : List Data) → certs_found json ≡ Some (items_of values) → json ≡ file_form values
certs_back json values h = outer_back json (items_of values) h

-- where none are found, the value has not the outer form
pub no_certs : (json : Data) → certs_found json ≡ None → (values : List Data) → json ≡ file_form values → ⊥
no_certs json h values is = none-some (items_of values) (sym h ∙ ap certs_found is)
