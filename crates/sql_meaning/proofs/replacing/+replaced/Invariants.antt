use Rattle.std.proofs.Common.{◌≡◌, ◌++◌, length, drop}
use Rattle.std.specs.List.{flat_map}
use Rattle.lint_core.specs.Predicates.{predicates}
use Rattle.sql_meaning.specs.Replacing.{constant}
use Rattle.sql_meaning.specs.inner.ReplacedParts.{after, parts_at}
use Rattle.sql_meaning.proofs.replacing.+replaced.Given as goal

-- the parts so far and the rest, and what the rest leaves of the number
abbrev pub invariant-replace_each-loop-part : goal.invariant-replace_each-loop-part
invariant-replace_each-loop-part l = record {
  parts : l.copies ++ parts_at (constant l.by) l.left (drop l.part-index l.parts) ≡ parts_at (constant l.by) l.initial.left l.parts;
  left : after l.left (length (flat_map predicates (drop l.part-index l.parts))) ≡ after l.initial.left (length (flat_map predicates l.parts));
}
