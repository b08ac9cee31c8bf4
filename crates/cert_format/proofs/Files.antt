-- A file that was written is read as its certificates.
use Rattle.std.proofs.Common.{◌≡◌, ◌∙◌, ap, refl, ℕ, ◌^◌, pos, negsuc, true, ◌&&◌, List, [], ◌∷◌, map, Option, Some, None, codes, encode_utf8_all, inl, inr, arith, IsUtf8}
use Rattle.std.proofs.lemmas.Bool.{and_parts, ltb-true}
use Rattle.std.specs.List.{list_all}
use Rattle.lint_core.specs.declared.database.Value.{Value}
use Rattle.lint_core.specs.declared.database.Value.TheVariants as value
use Rattle.lint_core.specs.declared.certificate.SumEdge.{SumEdge}
use Rattle.lint_core.specs.declared.certificate.TextEdge.{TextEdge}
use Rattle.lint_core.specs.declared.certificate.SameEdge.{SameEdge}
use Rattle.lint_core.specs.declared.certificate.Step.{Step}
use Rattle.lint_core.specs.declared.certificate.Step.TheVariants as step
use Rattle.lint_core.specs.declared.certificate.Cert.{Cert}
use Rattle.serde_json.specs.Data.{Data, string, Members, member, no_members}
use Rattle.serde_json.specs.Read.{of_json, of_members, read}
use Rattle.serde_json.specs.Written.{outline, members_outline}
use Rattle.cert_format.specs.Forms.{whole, list, sum_edge_numbers, text_edge_numbers, same_edge_numbers, sum_edge_form, text_edge_form, same_edge_form, last_form, step_form, value_form, cert_form, file_form}
use Rattle.cert_format.specs.Fitting.{is_small, sum_edge_fits, text_edge_fits, same_edge_fits, last_fits, step_fits, value_fits, cert_fits, is_numbered}
use Rattle.cert_format.specs.CertFile.{file_text, ReadsAs}
use Rattle.cert_format.proofs.Shown.{Shows, deeper, integer_shows, whole_shows, string_shows, null_shows, list_shows, each_shows, object_shows, line_reads}

sum_edge_shows : (e : SumEdge) → sum_edge_fits e ≡ true → Shows 1 (sum_edge_form e)
sum_edge_shows e fits = each_shows 0 whole is_small whole_shows (sum_edge_numbers e) fits

text_edge_shows : (e : TextEdge) → text_edge_fits e ≡ true → Shows 1 (text_edge_form e)
text_edge_shows e fits = each_shows 0 whole is_small whole_shows (text_edge_numbers e) fits

same_edge_shows : (e : SameEdge) → same_edge_fits e ≡ true → Shows 1 (same_edge_form e)
same_edge_shows e fits = each_shows 0 whole is_small whole_shows (same_edge_numbers e) fits

-- the parts of a step
name_shows : (s : List ℕ) → Shows 2 (string s)
name_shows s = deeper 0 2 (string s) (omega arith) (string_shows s)

fact_shows : (n : ℕ) → is_small n ≡ true → Shows 2 (whole n)
fact_shows n fits = deeper 0 2 (whole n) (omega arith) (whole_shows n fits)

last_shows : (o : Option ℕ) → last_fits o ≡ true → Shows 2 (last_form o)
last_shows None fits = deeper 0 2 (last_form None) (omega arith) null_shows
last_shows (Some n) fits = fact_shows n fits

sum_shows : (edges : List SumEdge) → list_all sum_edge_fits edges ≡ true → Shows 2 (list (map sum_edge_form edges))
sum_shows = each_shows 1 sum_edge_form sum_edge_fits sum_edge_shows

chain_shows : (edges : List TextEdge) → list_all text_edge_fits edges ≡ true → Shows 2 (list (map text_edge_form edges))
chain_shows = each_shows 1 text_edge_form text_edge_fits text_edge_shows

path_shows : (path : List SameEdge) → list_all same_edge_fits path ≡ true → Shows 2 (list (map same_edge_form path))
path_shows = each_shows 1 same_edge_form same_edge_fits same_edge_shows

one_part : (name : List ℕ) (a : Data) → Shows 2 a → Shows 3 (list (string name ∷ a ∷ []))
one_part name a first = list_shows 2 (string name ∷ a ∷ []) (name_shows name, (first, tt))

two_parts : (name : List ℕ) (a b : Data) → Shows 2 a → Shows 2 b → Shows 3 (list (string name ∷ a ∷ b ∷ []))
two_parts name a b first second = list_shows 2 (string name ∷ a ∷ b ∷ []) (name_shows name, (first, (second, tt)))

three_parts : (name : List ℕ) (a b c : Data) → Shows 2 a → Shows 2 b → Shows 2 c → Shows 3 (list (string name ∷ a ∷ b ∷ c ∷ []))
three_parts name a b c first second third = list_shows 2 (string name ∷ a ∷ b ∷ c ∷ []) (name_shows name, (first, (second, (third, tt))))

step_shows : (s : Step) → step_fits s ≡ true → Shows 3 (step_form s)
step_shows (step.And f) fits = one_part (codes "and") (whole f) (fact_shows f fits)
step_shows (step.Or f) fits = one_part (codes "or") (whole f) (fact_shows f fits)
step_shows (step.Ex f) fits = one_part (codes "ex") (whole f) (fact_shows f fits)
step_shows (step.All f r) fits =
    let p = and_parts (is_small f) (is_small r) fits in
    two_parts (codes "all") (whole f) (whole r) (fact_shows f p.0) (fact_shows r p.1)
step_shows (step.Sum edges) fits = one_part (codes "sum") (list (map sum_edge_form edges)) (sum_shows edges fits)
step_shows (step.Text last edges) fits =
    let p = and_parts (last_fits last) (list_all text_edge_fits edges) fits in
    two_parts (codes "text") (last_form last) (list (map text_edge_form edges)) (last_shows last p.0) (chain_shows edges p.1)
step_shows (step.Null f g path) fits =
    let p = and_parts (is_small f) (is_small g && list_all same_edge_fits path) fits in
    let q = and_parts (is_small g) (list_all same_edge_fits path) p.1 in
    three_parts (codes "null") (whole f) (whole g) (list (map same_edge_form path)) (fact_shows f p.0) (fact_shows g q.0) (path_shows path q.1)
step_shows (step.Same f path) fits =
    let p = and_parts (is_small f) (list_all same_edge_fits path) fits in
    two_parts (codes "same") (whole f) (list (map same_edge_form path)) (fact_shows f p.0) (path_shows path p.1)

value_shows : (v : Value) → value_fits v ≡ true → Shows 4 (value_form v)
value_shows value.Null fits = deeper 0 4 (value_form value.Null) (omega arith) null_shows
value_shows (value.Int (pos n)) fits = deeper 0 4 (value_form (value.Int (pos n))) (omega arith) (integer_shows (pos n) n (inl refl) (ltb-true n (2 ^ 63) fits))
value_shows (value.Int (negsuc n)) fits = deeper 0 4 (value_form (value.Int (negsuc n))) (omega arith) (integer_shows (negsuc n) n (inr refl) (ltb-true n (2 ^ 63) fits))
value_shows (value.Text text) fits = deeper 0 4 (value_form (value.Text text)) (omega arith) (string_shows (encode_utf8_all text))

-- ---- certificates

number_shows : (n : ℕ) → is_small n ≡ true → Shows 4 (whole n)
number_shows n fits = deeper 0 4 (whole n) (omega arith) (whole_shows n fits)

abbrev four : Data → Data → Data → Data → Members
four a b c d = member (codes "query") a (member (codes "question") b (member (codes "steps") c (member (codes "value") d no_members)))

-- the keys stand in order
four_read : (a b c d : Data) → of_json (outline a) ≡ Some a → of_json (outline b) ≡ Some b → of_json (outline c) ≡ Some c → of_json (outline d) ≡ Some d
    → of_members (members_outline (four a b c d)) no_members ≡ Some (four a b c d)
four_read a b c d e f g h = rw (e, f, g, h) refl

cert_shows : (cert : Cert) → cert_fits cert ≡ true → Shows 5 (cert_form cert)
cert_shows cert fits =
    let p = and_parts (is_small cert.query) _ fits in
    let q = and_parts (is_small cert.question) _ p.1 in
    let r = and_parts (list_all step_fits cert.steps) (value_fits cert.value) q.1 in
    let query = number_shows cert.query p.0 in
    let question = number_shows cert.question q.0 in
    let steps = each_shows 3 step_form step_fits step_shows cert.steps r.0 in
    let shown = value_shows cert.value r.1 in
    let parts = four (whole cert.query) (whole cert.question) (list (map step_form cert.steps)) (value_form cert.value) in
    object_shows 4 parts (query, (question, (steps, (shown, tt))))
    (four_read (whole cert.query) (whole cert.question) (list (map step_form cert.steps)) (value_form cert.value) query.reads question.reads steps.reads shown.reads)

two_read : (a b : Data) → of_json (outline a) ≡ Some a → of_json (outline b) ≡ Some b
    → of_members (members_outline (member (codes "certs") a (member (codes "sqllint") b no_members))) no_members ≡ Some (member (codes "certs") a (member (codes "sqllint") b no_members))
two_read a b e f = rw (e, f) refl

file_shows : (certs : List Cert) → list_all cert_fits certs ≡ true → Shows 7 (file_form (map cert_form certs))
file_shows certs fits =
    let all = each_shows 5 cert_form cert_fits cert_shows certs fits in
    let one = deeper 0 6 (whole 1) (omega arith) (whole_shows 1 refl) in
    object_shows 6 (member (codes "certs") (list (map cert_form certs)) (member (codes "sqllint") (whole 1) no_members)) (all, (one, tt))
    (two_read (list (map cert_form certs)) (whole 1) all.reads one.reads)

pub written_reads : (certs : List Cert) (bytes : List ℕ) → list_all cert_fits certs ≡ true → list_all is_numbered certs ≡ true → IsUtf8 bytes → bytes ≡ file_text certs → ReadsAs bytes certs
written_reads certs bytes fits numbered utf8 is = record {
  reading = record { utf8 = utf8; value = ap read is ∙ line_reads 7 (file_form (map cert_form certs)) (omega arith) (file_shows certs fits) };
  fits = fits;
  numbered = numbered;
}
