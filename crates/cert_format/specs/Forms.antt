-- The JSON value in which a certificate stands in a file, part by part.
use Rattle.std.specs.Prelude.{ℕ, List, [], ◌∷◌, map, if◌then◌else◌, Option, Some, None, codes, encode_utf8_all}
use Rattle.lint_core.specs.declared.database.Value.{Value}
use Rattle.lint_core.specs.declared.database.Value.TheVariants as value
use Rattle.lint_core.specs.declared.certificate.SumEdge.{SumEdge}
use Rattle.lint_core.specs.declared.certificate.SumEdge.TheVariants as edge
use Rattle.lint_core.specs.declared.certificate.TextEdge.{TextEdge}
use Rattle.lint_core.specs.declared.certificate.TextEdge.TheVariants as link
use Rattle.lint_core.specs.declared.certificate.SameEdge.{SameEdge}
use Rattle.lint_core.specs.declared.certificate.Step.{Step}
use Rattle.lint_core.specs.declared.certificate.Step.TheVariants as step
use Rattle.lint_core.specs.declared.certificate.Cert.{Cert}
use Rattle.serde_json.specs.Data.{Data, null, number, unsigned, string, array, object, member, no_members}
use Rattle.serde_json.specs.Find.{of_integer}
use Rattle.serde_json.specs.View.{items_of}

-- a whole number from 0
abbrev pub whole : ℕ → Data
whole n = number (unsigned n)

abbrev pub list : List Data → Data
list parts = array (items_of parts)

abbrev pub wholes : List ℕ → Data
wholes ns = list (map whole ns)

-- An edge is a list of whole numbers: its kind and its numbers.
abbrev pub sum_edge_numbers : SumEdge → List ℕ
sum_edge_numbers (edge.Fact fact) = 0 ∷ fact ∷ []
sum_edge_numbers (edge.Low row column) = 1 ∷ row ∷ column ∷ []
sum_edge_numbers (edge.High row column) = 2 ∷ row ∷ column ∷ []
sum_edge_numbers (edge.Same fact column) = 3 ∷ fact ∷ column ∷ []
sum_edge_numbers (edge.Back fact column) = 4 ∷ fact ∷ column ∷ []

abbrev pub text_edge_numbers : TextEdge → List ℕ
text_edge_numbers (link.Fact fact) = 0 ∷ fact ∷ []
text_edge_numbers (link.FactBack fact) = 1 ∷ fact ∷ []
text_edge_numbers (link.Same fact column) = 2 ∷ fact ∷ column ∷ []
text_edge_numbers (link.Back fact column) = 3 ∷ fact ∷ column ∷ []

abbrev pub same_edge_numbers : SameEdge → List ℕ
same_edge_numbers part = (if part.back then 1 else 0) ∷ part.fact ∷ []

abbrev pub sum_edge_form : SumEdge → Data
sum_edge_form e = wholes (sum_edge_numbers e)

abbrev pub text_edge_form : TextEdge → Data
text_edge_form e = wholes (text_edge_numbers e)

abbrev pub same_edge_form : SameEdge → Data
same_edge_form e = wholes (same_edge_numbers e)

-- the last fact of a chain, if it has one
abbrev pub last_form : Option ℕ → Data
last_form None = null
last_form (Some fact) = whole fact

-- a step is a list: its name and its parts
abbrev pub step_form : Step → Data
step_form (step.And fact) = list (string (codes "and") ∷ whole fact ∷ [])
step_form (step.Or fact) = list (string (codes "or") ∷ whole fact ∷ [])
step_form (step.Ex fact) = list (string (codes "ex") ∷ whole fact ∷ [])
step_form (step.All fact row) = list (string (codes "all") ∷ whole fact ∷ whole row ∷ [])
step_form (step.Sum edges) = list (string (codes "sum") ∷ list (map sum_edge_form edges) ∷ [])
step_form (step.Text last edges) = list (string (codes "text") ∷ last_form last ∷ list (map text_edge_form edges) ∷ [])
step_form (step.Null fact other path) = list (string (codes "null") ∷ whole fact ∷ whole other ∷ list (map same_edge_form path) ∷ [])
step_form (step.Same fact path) = list (string (codes "same") ∷ whole fact ∷ list (map same_edge_form path) ∷ [])

-- a value: null, a whole number or a text, in UTF-8
abbrev pub value_form : Value → Data
value_form value.Null = null
value_form (value.Int n) = number (of_integer n)
value_form (value.Text text) = string (encode_utf8_all text)

abbrev pub cert_form : Cert → Data
cert_form cert =
    object (member (codes "query") (whole cert.query) (member (codes "question") (whole cert.question)
    (member (codes "steps") (list (map step_form cert.steps)) (member (codes "value") (value_form cert.value) no_members))))

-- the value of a file whose certificates have these values
abbrev pub file_form : List Data → Data
file_form certs = object (member (codes "certs") (list certs) (member (codes "sqllint") (whole 1) no_members))
