use Rattle.std.proofs.Common.{◌≡◌, ◌<◌, ◌+◌, ◌*◌, ℕ, sym, subst, length, List, Some, set, arith}
use Rattle.ground_theory.specs.declared.numbering.Cell.{Cell}
use Rattle.ground_theory.specs.inner.Numbering.{IsAdded}
use Rattle.ground_theory.proofs.Placing.{added, there_already, none_read, some_read}
use Rattle.ground_theory.proofs.numbering.Numbering.add.Goals as goal

pub returns-in_ok-push : goal.returns-in_ok-push
returns-in_ok-push c =
    let places = c.args.self.now.places.items in
    let cells = c.args.self.now.cells.items in
    let p = c.args.row * 64 + c.args.column in
    let count = c.requires.numbering.count in
    let row = c.requires.row in
    let column = c.requires.column in
    let here : c.args.row * 64 + c.args.column < length places = omega arith in
    let fresh = none_read places p c.index.result.now here c.index.ensures c.if-is_none.ensures in
    let size : c.len-number.result ≡ length cells = omega arith in
    subst (λ (n : ℕ). IsAdded c.args.rows c.args.row c.args.column places cells (set places p (Some n)) c.push.new.self.items) (sym size)
    (subst (λ (cs : List Cell). IsAdded c.args.rows c.args.row c.args.column places cells (set places p (Some (length cells))) cs) (sym c.in_ok-push.ensures.items)
    (added c.args.rows c.args.row c.args.column places cells c.requires.numbering row column fresh))

pub returns-else-is_none : goal.returns-else-is_none
returns-else-is_none c =
    let places = c.args.self.now.places.items in
    let count = c.requires.numbering.count in
    let row = c.requires.row in
    let column = c.requires.column in
    let here : c.args.row * 64 + c.args.column < length places = omega arith in
    let some = some_read places (c.args.row * 64 + c.args.column) c.index.result.now here c.index.ensures c.if-is_none.ensures in
    there_already c.args.rows c.args.row c.args.column places c.args.self.now.cells.items c.requires.numbering row column some.0 some.1
