use Rattle.std.proofs.Common.{◌≡◌, ◌++◌, ◌+◌, drop, codes, string_bytes}
use Rattle.std.specs.Fmt.{decimal}
use Rattle.insert_lines.specs.InsertText.{texts}
use Rattle.lint_report.proofs.points.push_more_places.Given as goal

abbrev pub invariant-loop-place : goal.invariant-loop-place
invariant-loop-place l = string_bytes l.out ++ texts (λ p. codes "," ++ decimal (p + 1)) (drop l.place-index l.places) ≡ string_bytes l.fn.out ++ texts (λ p. codes "," ++ decimal (p + 1)) l.places
