-- The parts that stand in a JSON value, where it has their form: the inverse of `Forms`.
use Rattle.std.specs.Prelude.{ℕ, ◌^◌, ◌==◌, pos, negsuc, List, [], ◌∷◌, Bool, true, false, if◌then◌else◌, Option, Some, None, option_map, option_and_then, is_some, codes, nat_lt}
use Rattle.std.specs.Str.{bytes_eq, chars, is_utf8}
use Rattle.lint_core.specs.declared.database.Value.{Value}
use Rattle.lint_core.specs.declared.database.Value.TheVariants as value
use Rattle.lint_core.specs.declared.certificate.SumEdge.{SumEdge}
use Rattle.lint_core.specs.declared.certificate.SumEdge.TheVariants as edge
use Rattle.lint_core.specs.declared.certificate.TextEdge.{TextEdge}
use Rattle.lint_core.specs.declared.certificate.TextEdge.TheVariants as link
use Rattle.lint_core.specs.declared.certificate.SameEdge.{SameEdge}
use Rattle.lint_core.specs.declared.certificate.Step.{Step}
use Rattle.lint_core.specs.declared.certificate.Step.TheVariants as step
use Rattle.lint_core.specs.declared.certificate.Cert.{Cert}
use Rattle.serde_json.specs.Data.{Data, null, boolean, number, unsigned, negative, float, string, array, object, Items, item, no_items, Members, member, no_members}
use Rattle.serde_json.specs.Find.{as_null, as_number, as_u64, as_str, as_array, as_object}
use Rattle.cert_format.specs.declared.name.Name.{Name}
use Rattle.cert_format.specs.declared.name.Name.TheVariants as name
use Rattle.cert_format.specs.declared.edges.EdgeNumbers.{EdgeNumbers}
use Rattle.cert_format.specs.declared.edges.EdgeNumbers.TheVariants.{Two, Three}
use Rattle.cert_format.specs.Fitting.{is_small}

abbrev pub small_of : ℕ → Option ℕ
small_of n = if is_small n then Some n else None

abbrev pub number_found : Data → Option ℕ
number_found json = option_and_then small_of (option_and_then as_u64 (as_number json))

-- ---- edges

abbrev pub edge_items : Items → Option EdgeNumbers
edge_items no_items = None
edge_items (item kind no_items) = None
edge_items (item kind (item a no_items)) = option_and_then (λ k. option_map (λ x. Two k x) (number_found a)) (number_found kind)
edge_items (item kind (item a (item b no_items))) =
    option_and_then (λ k. option_and_then (λ x. option_map (λ y. Three k x y) (number_found b)) (number_found a)) (number_found kind)
edge_items (item kind (item a (item b (item c more)))) = None

abbrev pub edge_found : Data → Option EdgeNumbers
edge_found json = option_and_then edge_items (as_array json)

abbrev pub sum_edge_of : EdgeNumbers → Option SumEdge
sum_edge_of (Two kind fact) = if kind == 0 then Some (edge.Fact fact) else None
sum_edge_of (Three kind x y) =
    if kind == 1 then Some (edge.Low x y) else (if kind == 2 then Some (edge.High x y) else
    (if kind == 3 then Some (edge.Same x y) else (if kind == 4 then Some (edge.Back x y) else None)))

abbrev pub text_edge_of : EdgeNumbers → Option TextEdge
text_edge_of (Two kind fact) = if kind == 0 then Some (link.Fact fact) else (if kind == 1 then Some (link.FactBack fact) else None)
text_edge_of (Three kind x y) = if kind == 2 then Some (link.Same x y) else (if kind == 3 then Some (link.Back x y) else None)

abbrev pub same_edge_of : EdgeNumbers → Option SameEdge
same_edge_of (Two kind fact) =
    if kind == 0 then Some (record { fact = fact; back = false }) else (if kind == 1 then Some (record { fact = fact; back = true }) else None)
same_edge_of (Three kind x y) = None

abbrev pub sum_edge_found : Data → Option SumEdge
sum_edge_found json = option_and_then sum_edge_of (edge_found json)

abbrev pub text_edge_found : Data → Option TextEdge
text_edge_found json = option_and_then text_edge_of (edge_found json)

abbrev pub same_edge_found : Data → Option SameEdge
same_edge_found json = option_and_then same_edge_of (edge_found json)

-- ---- lists

abbrev pub all_found : {A : Type 0} → (Data → Option A) → Items → Option (List A)
all_found found no_items = Some []
all_found found (item json more) = option_and_then (λ x. option_map (λ xs. x ∷ xs) (all_found found more)) (found json)

abbrev pub list_found : {A : Type 0} → (Data → Option A) → Data → Option (List A)
list_found found json = option_and_then (all_found found) (as_array json)

-- ---- steps

abbrev pub last_found : Data → Option (Option ℕ)
last_found json = if is_some (as_null json) then Some None else option_map (λ n. Some n) (number_found json)

-- exactly one part, two or three
abbrev pub one_found : {A : Type 0} → (Data → Option A) → Items → Option A
one_found first no_items = None
one_found first (item a no_items) = first a
one_found first (item a (item b more)) = None

abbrev pub two_found : {A B : Type 0} → (Data → Option A) → (Data → Option B) → Items → Option (A × B)
two_found first second no_items = None
two_found first second (item a no_items) = None
two_found first second (item a (item b no_items)) = option_and_then (λ x. option_map (λ y. (x, y)) (second b)) (first a)
two_found first second (item a (item b (item c more))) = None

abbrev pub three_found : {A B C : Type 0} → (Data → Option A) → (Data → Option B) → (Data → Option C) → Items → Option (A × B × C)
three_found first second third no_items = None
three_found first second third (item a no_items) = None
three_found first second third (item a (item b no_items)) = None
three_found first second third (item a (item b (item c no_items))) =
    option_and_then (λ x. option_and_then (λ y. option_map (λ z. (x, y, z)) (third c)) (second b)) (first a)
three_found first second third (item a (item b (item c (item d more)))) = None

abbrev pub name_text : Name → List ℕ
name_text name.And = codes "and"
name_text name.Or = codes "or"
name_text name.Ex = codes "ex"
name_text name.All = codes "all"
name_text name.Sum = codes "sum"
name_text name.Text = codes "text"
name_text name.Null = codes "null"
name_text name.Same = codes "same"

abbrev pub name_of : List ℕ → Option Name
name_of s =
    if bytes_eq s (codes "and") then Some name.And else (if bytes_eq s (codes "or") then Some name.Or else
    (if bytes_eq s (codes "ex") then Some name.Ex else (if bytes_eq s (codes "all") then Some name.All else
    (if bytes_eq s (codes "sum") then Some name.Sum else (if bytes_eq s (codes "text") then Some name.Text else
    (if bytes_eq s (codes "null") then Some name.Null else (if bytes_eq s (codes "same") then Some name.Same else None)))))))

abbrev pub parts_found : Name → Items → Option Step
parts_found name.And parts = option_map step.And (one_found number_found parts)
parts_found name.Or parts = option_map step.Or (one_found number_found parts)
parts_found name.Ex parts = option_map step.Ex (one_found number_found parts)
parts_found name.All parts = option_map (λ p. step.All p.0 p.1) (two_found number_found number_found parts)
parts_found name.Sum parts = option_map step.Sum (one_found (list_found sum_edge_found) parts)
parts_found name.Text parts = option_map (λ p. step.Text p.0 p.1) (two_found last_found (list_found text_edge_found) parts)
parts_found name.Null parts = option_map (λ p. step.Null p.0 p.1 p.2) (three_found number_found number_found (list_found same_edge_found) parts)
parts_found name.Same parts = option_map (λ p. step.Same p.0 p.1) (two_found number_found (list_found same_edge_found) parts)

abbrev pub step_items : Items → Option Step
step_items no_items = None
step_items (item json parts) = option_and_then (λ found. parts_found found parts) (option_and_then name_of (as_str json))

abbrev pub step_found : Data → Option Step
step_found json = option_and_then step_items (as_array json)

-- ---- certificates

abbrev pub integer_found : Data → Option Value
integer_found null = None
integer_found (boolean b) = None
integer_found (number (unsigned n)) = if nat_lt n (2 ^ 63) then Some (value.Int (pos n)) else None
integer_found (number (negative (pos n))) = None
integer_found (number (negative (negsuc n))) = if nat_lt n (2 ^ 63) then Some (value.Int (negsuc n)) else None
integer_found (number (float x)) = None
integer_found (string s) = None
integer_found (array parts) = None
integer_found (object ms) = None

abbrev pub text_found : List ℕ → Option Value
text_found s = if is_utf8 s then Some (value.Text (chars s)) else None

abbrev pub text_or_integer : Option (List ℕ) → Data → Option Value
text_or_integer None json = integer_found json
text_or_integer (Some s) json = text_found s

abbrev pub value_found : Data → Option Value
value_found json = if is_some (as_null json) then Some value.Null else text_or_integer (as_str json) json

-- a number from 1
abbrev pub count_of : ℕ → Option ℕ
count_of n = if nat_lt 0 n then Some n else None

abbrev pub count_found : Data → Option ℕ
count_found json = option_and_then count_of (number_found json)

-- the first member, where it has this key, and the others
abbrev pub named : List ℕ → Members → Option (Data × Members)
named key no_members = None
named key (member k json more) = if bytes_eq k key then Some (json, more) else None

-- something, where no member is left over
abbrev pub at_end : {A : Type 0} → A → Members → Option A
at_end x no_members = Some x
at_end x (member k json more) = None

-- the values of members with these keys, in order
abbrev pub cert_members : Members → Option (Data × Data × Data × Data)
cert_members members =
    option_and_then (λ a. option_and_then (λ b. option_and_then (λ c. option_and_then (λ d.
    at_end (a.0, b.0, c.0, d.0) d.1) (named (codes "value") c.1)) (named (codes "steps") b.1))
    (named (codes "question") a.1)) (named (codes "query") members)

abbrev pub cert_parts : Data × Data × Data × Data → Option Cert
cert_parts parts =
    option_and_then (λ query. option_and_then (λ question. option_and_then (λ steps.
    option_map (λ value. record { query = query; question = question; value = value; steps = steps }) (value_found parts.3))
    (list_found step_found parts.2)) (count_found parts.1)) (count_found parts.0)

abbrev pub cert_found : Data → Option Cert
cert_found json = option_and_then cert_parts (option_and_then cert_members (as_object json))

abbrev pub file_members : Members → Option (Data × Data)
file_members members =
    option_and_then (λ a. option_and_then (λ b. at_end (a.0, b.0) b.1) (named (codes "sqllint") a.1)) (named (codes "certs") members)

-- the version is 1
abbrev pub is_one : Option ℕ → Bool
is_one None = false
is_one (Some n) = n == 1

abbrev pub file_parts : Data × Data → Option Items
file_parts parts = if is_one (option_and_then as_u64 (as_number parts.1)) then as_array parts.0 else None

abbrev pub certs_found : Data → Option Items
certs_found json = option_and_then file_parts (option_and_then file_members (as_object json))
