use Rattle.std.proofs.Common.{◌≡◌, ℕ, ◌<◌, [], false, map, get_or}
use Rattle.std.specs.Str.{bytes_eq}
use Rattle.lint_tables.specs.Words.{upper}
use Rattle.lint_tables.proofs.fixed.Fixed.find.Given as goal

-- none of the words so far is the given one
abbrev pub invariant-loop-place : goal.invariant-loop-place
invariant-loop-place g l = (k : ℕ) → k < l.place → bytes_eq (map upper l.word) (get_or (map (λ w. w.now) l.known-items) k []) ≡ false
