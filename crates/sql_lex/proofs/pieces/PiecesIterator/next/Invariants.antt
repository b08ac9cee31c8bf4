use Rattle.std.proofs.Common.{◌≡◌, length, None}
use Rattle.sql_lex.specs.Classes.{Nothing, classes}
use Rattle.sql_lex.specs.inner.Runs.{to_come}
use Rattle.sql_lex.proofs.pieces.PiecesIterator.next.Given as goal

-- what was to come at the call still is
abbrev pub invariant-loop-class : goal.invariant-loop-class
invariant-loop-class l =
    to_come l.solid l.self.at (classes Nothing l.self.text.now)
    ≡ to_come None l.fn.self.at (classes Nothing l.fn.self.text.now)

abbrev pub decreases-loop-class : goal.decreases-loop-class
decreases-loop-class l = length l.self.text.now
