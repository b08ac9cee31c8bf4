use Rattle.std.proofs.Common.{◌≡◌, ◌∙◌, sym, ap, subst, ℕ, List, ◌++◌, length, reverse}
use Rattle.text_classes.specs.inner.Nodes.{LeadsIn}
use Rattle.text_classes.proofs.Climbing.{joined_by}
use Rattle.text_classes.proofs.forest.Forest.path.Goals as goal

pub returns : goal.returns
returns c =
    let path = c.in_ok-path.path.items in
    let back = c.in_ok-back.back.items in
    let turned : c.deref.result.now ≡ reverse back = c.deref.ensures.value ∙ c.reverse.ensures.items in
    let whole : c.extend_from_slice.new.self.items ≡ path ++ reverse back = c.in_ok-extend_from_slice.ensures.items ∙ ap (λ (ns : List ℕ). path ++ ns) turned in
    subst (λ (ns : List ℕ). LeadsIn c.args.links.now c.args.from ns c.args.to) (sym whole)
    (joined_by (length c.args.self.now.places.items) c.args.links.now c.args.self.now c.requires.forest c.args.from c.args.to path back c.requires.same c.in_ok-path.ensures c.in_ok-back.ensures)
