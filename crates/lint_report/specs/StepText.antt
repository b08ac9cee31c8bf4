-- The steps of a certificate as JSON arrays, as docs/CERTIFICATES.md shows them.
use Rattle.std.specs.Prelude.{ℕ, List, ◌++◌, if◌then◌else◌, Option, Some, None, codes}
use Rattle.std.specs.Fmt.{decimal}
use Rattle.lint_core.specs.declared.certificate.SameEdge.{SameEdge}
use Rattle.lint_core.specs.declared.certificate.Step.{Step}
use Rattle.lint_core.specs.declared.certificate.Step.TheVariants as step
use Rattle.lint_core.specs.declared.certificate.SumEdge.{SumEdge}
use Rattle.lint_core.specs.declared.certificate.SumEdge.TheVariants as edge
use Rattle.lint_core.specs.declared.certificate.TextEdge.{TextEdge}
use Rattle.lint_core.specs.declared.certificate.TextEdge.TheVariants as link
use Rattle.insert_lines.specs.InsertText.{joined}

-- an edge of a ring, a chain or a path as a JSON array: a number for its kind, and its numbers
unfoldable pub edge_text : SumEdge → List ℕ
edge_text (edge.Fact fact) = codes "[0," ++ decimal fact ++ codes "]"
edge_text (edge.Low row column) = codes "[1," ++ decimal row ++ codes "," ++ decimal column ++ codes "]"
edge_text (edge.High row column) = codes "[2," ++ decimal row ++ codes "," ++ decimal column ++ codes "]"
edge_text (edge.Same fact column) = codes "[3," ++ decimal fact ++ codes "," ++ decimal column ++ codes "]"
edge_text (edge.Back fact column) = codes "[4," ++ decimal fact ++ codes "," ++ decimal column ++ codes "]"

unfoldable pub link_text : TextEdge → List ℕ
link_text (link.Fact fact) = codes "[0," ++ decimal fact ++ codes "]"
link_text (link.FactBack fact) = codes "[1," ++ decimal fact ++ codes "]"
link_text (link.Same fact column) = codes "[2," ++ decimal fact ++ codes "," ++ decimal column ++ codes "]"
link_text (link.Back fact column) = codes "[3," ++ decimal fact ++ codes "," ++ decimal column ++ codes "]"

unfoldable pub part_text : SameEdge → List ℕ
part_text part = (if part.back then codes "[1," else codes "[0,") ++ decimal part.fact ++ codes "]"

unfoldable pub chain_text : List TextEdge → List ℕ
chain_text edges = codes "[" ++ joined (codes ",") link_text edges ++ codes "]"

unfoldable pub path_text : List SameEdge → List ℕ
path_text parts = codes "[" ++ joined (codes ",") part_text parts ++ codes "]"

-- the last fact of a chain, if it has one
unfoldable pub last_text : Option ℕ → List ℕ
last_text None = codes "null"
last_text (Some fact) = decimal fact

-- a step as a JSON array: its name, its numbers, and its edges
unfoldable pub step_text : Step → List ℕ
step_text (step.And fact) = codes "[\"and\"," ++ decimal fact ++ codes "]"
step_text (step.Or fact) = codes "[\"or\"," ++ decimal fact ++ codes "]"
step_text (step.Ex fact) = codes "[\"ex\"," ++ decimal fact ++ codes "]"
step_text (step.All fact row) = codes "[\"all\"," ++ decimal fact ++ codes "," ++ decimal row ++ codes "]"
step_text (step.Sum edges) = codes "[\"sum\",[" ++ joined (codes ",") edge_text edges ++ codes "]]"
step_text (step.Text last edges) = codes "[\"text\"," ++ last_text last ++ codes "," ++ chain_text edges ++ codes "]"
step_text (step.Null fact other path) = codes "[\"null\"," ++ decimal fact ++ codes "," ++ decimal other ++ codes "," ++ path_text path ++ codes "]"
step_text (step.Same fact path) = codes "[\"same\"," ++ decimal fact ++ codes "," ++ path_text path ++ codes "]"

unfoldable pub steps_text : List Step → List ℕ
steps_text steps = codes "[" ++ joined (codes ",") step_text steps ++ codes "]"
