use Rattle.std.proofs.Common.{◌≡◌, ◌∙◌, sym, refl, length}
use Rattle.std.proofs.lemmas.List.{get_or_read}
use Rattle.ground_theory.specs.inner.Joining.{label_at}
use Rattle.ground_theory.proofs.Relabelling.{joined, same_already}
use Rattle.ground_theory.proofs.joining.Joining.join.Goals as goal

pub returns-then-from-to : goal.returns-then-from-to
returns-then-from-to c =
    let labels = c.args.self.now.labels.items in
    let from : label_at labels c.args.same.other ≡ c.index-from.result.now = sym (get_or_read labels c.args.same.other c.index-from.result.now c.requires.other c.index-from.ensures 0) in
    let to : label_at labels c.args.same.row ≡ c.index-to.result.now = sym (get_or_read labels c.args.same.row c.index-to.result.now c.requires.row c.index-to.ensures 0) in
    joined (length labels) labels c.args.self.now.by.items c.args.same c.requires.joining c.requires.row c.requires.other
    c.index-from.result.now c.index-to.result.now from to c.if-from-to.true c.relabel.new.labels.items c.relabel.ensures _ refl refl

pub returns-else-from-to : goal.returns-else-from-to
returns-else-from-to c =
    let labels = c.args.self.now.labels.items in
    let from : label_at labels c.args.same.other ≡ c.index-from.result.now = sym (get_or_read labels c.args.same.other c.index-from.result.now c.requires.other c.index-from.ensures 0) in
    let to : label_at labels c.args.same.row ≡ c.index-to.result.now = sym (get_or_read labels c.args.same.row c.index-to.result.now c.requires.row c.index-to.ensures 0) in
    same_already labels c.args.self.now.by.items c.args.same c.requires.joining (to ∙ sym c.if-from-to.false ∙ sym from)
