-- Lists that are told, piece by piece.
use Rattle.std.proofs.Common.{ℕ, ◌+◌, List, take, drop, refl, append_assoc}
use Rattle.std.proofs.Math.Seq.{take-add}
use Rattle.std.specs.Prelude.{Option, Some, None}
use Rattle.lint_base.specs.Sink.{Appended}

-- a piece more of a text
pub appended_more : (old now later : Option (List ℕ)) (text : List ℕ) (k n : ℕ)
    → Appended old now (take k text) → Appended now later (take n (drop k text)) → Appended old later (take (k + n) text)
appended_more None now later text k n e f = rw (f, e) refl
appended_more (Some x) now later text k n e f = rw (f, e, take-add, append_assoc) refl
