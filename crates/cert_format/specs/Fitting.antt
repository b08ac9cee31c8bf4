-- Which numbers and texts may stand in a certificate: those that its types hold.
use Rattle.std.specs.Prelude.{ℕ, ◌^◌, ◌&&◌, pos, negsuc, Bool, true, Option, Some, None, nat_lt}
use Rattle.std.specs.List.{list_all}
use Rattle.std.specs.Str.{all_scalars}
use Rattle.lint_core.specs.declared.database.Value.{Value}
use Rattle.lint_core.specs.declared.database.Value.TheVariants as value
use Rattle.lint_core.specs.declared.certificate.SumEdge.{SumEdge}
use Rattle.lint_core.specs.declared.certificate.TextEdge.{TextEdge}
use Rattle.lint_core.specs.declared.certificate.SameEdge.{SameEdge}
use Rattle.lint_core.specs.declared.certificate.Step.{Step}
use Rattle.lint_core.specs.declared.certificate.Step.TheVariants as step
use Rattle.lint_core.specs.declared.certificate.Cert.{Cert}
use Rattle.cert_format.specs.Forms.{sum_edge_numbers, text_edge_numbers, same_edge_numbers}

-- a number is at most 4,294,967,295
abbrev pub is_small : ℕ → Bool
is_small n = nat_lt n (2 ^ 32)

abbrev pub sum_edge_fits : SumEdge → Bool
sum_edge_fits e = list_all is_small (sum_edge_numbers e)

abbrev pub text_edge_fits : TextEdge → Bool
text_edge_fits e = list_all is_small (text_edge_numbers e)

abbrev pub same_edge_fits : SameEdge → Bool
same_edge_fits e = list_all is_small (same_edge_numbers e)

abbrev pub last_fits : Option ℕ → Bool
last_fits None = true
last_fits (Some fact) = is_small fact

abbrev pub step_fits : Step → Bool
step_fits (step.And fact) = is_small fact
step_fits (step.Or fact) = is_small fact
step_fits (step.Ex fact) = is_small fact
step_fits (step.All fact row) = is_small fact && is_small row
step_fits (step.Sum edges) = list_all sum_edge_fits edges
step_fits (step.Text last edges) = last_fits last && list_all text_edge_fits edges
step_fits (step.Null fact other path) = is_small fact && (is_small other && list_all same_edge_fits path)
step_fits (step.Same fact path) = is_small fact && list_all same_edge_fits path

-- a whole number has 64 bits, and a text is one of characters
abbrev pub value_fits : Value → Bool
value_fits value.Null = true
value_fits (value.Int (pos n)) = nat_lt n (2 ^ 63)
value_fits (value.Int (negsuc n)) = nat_lt n (2 ^ 63)
value_fits (value.Text text) = all_scalars text

abbrev pub cert_fits : Cert → Bool
cert_fits cert = is_small cert.query && (is_small cert.question && (list_all step_fits cert.steps && value_fits cert.value))

-- the query and the question are numbered from 1
abbrev pub is_numbered : Cert → Bool
is_numbered cert = nat_lt 0 cert.query && nat_lt 0 cert.question
