use Rattle.std.proofs.Common.{◌≡◌, ◌∙◌, ◌-◌, ◌++◌, ◌∷◌, [], ap, sym, subst, length, get_or, append_assoc, OnOk, List, ℕ}
use Rattle.ground_theory.specs.declared.literal.Guard.{Guard}
use Rattle.instantiate.specs.Ground.{present_guard}
use Rattle.instantiate.specs.inner.Listings.{outlines_in}
use Rattle.instantiate.proofs.Guards.{inside_is}
use Rattle.instantiate.proofs.clauses.add_inside.Goals as goal

pub returns : goal.returns
returns c =
    let l = c.args.listing.now in
    let rows = c.args.rows.now in
    let guards = c.args.guards.now in
    let present = present_guard (outlines_in l) l.order.now l.terms.now (get_or rows (length rows - 1) 0) in
    let first = c.in_ok-push.ensures.ok ∙ ap (λ (n : ℕ). guards ++ record { clause = n; way = c.args.above.way } ∷ []) c.number_of.ensures in
    subst (λ (gs : List Guard). OnOk c.add_presence.result (c.add_presence.new.guards ≡ gs))
    (ap (λ (gs : List Guard). gs ++ present) first
    ∙ (append_assoc guards _ present
    ∙ ap (λ (gs : List Guard). guards ++ gs) (sym (inside_is l c.args.sentence rows (record { node = c.args.above.node; way = c.args.above.way }) c.requires.some))))
    c.add_presence.ensures
