use Rattle.std.proofs.Common.{◌∙◌, [], ap, sym, subst, length, map, List, ℕ}
use Rattle.sort_formula.specs.declared.formula.Formula.{out-Formula}
use Rattle.instantiate.specs.declared.outline.Binder.{Binder}
use Rattle.instantiate.specs.Ground.{rows_along}
use Rattle.instantiate.specs.inner.Flat.{node_of, quantifier_of}
use Rattle.instantiate.specs.inner.Listings.{IsClosedBy}
use Rattle.instantiate.proofs.Listed.{closed_key}
use Rattle.instantiate.proofs.Numbering.{key_of}
use Rattle.instantiate.proofs.clauses.clause_of.Goals as goal

pub ways-requires : goal.ways-requires
ways-requires c =
    let l = c.args.listing.now in
    let node = c.args.node.now in
    subst (λ (vs : List ℕ). IsClosedBy (length vs) (out-Formula node.formula.now))
    (sym (c.as_slice.ensures ∙ (c.in_ok-variables.ensures ∙ ap (λ (bs : List Binder). rows_along l.terms.now c.args.sentence [] c.args.rows.now (map quantifier_of bs)) c.as_slice-around.ensures)))
    (closed_key l c.requires.ready (key_of c.args.sentence c.args.number c.args.rows.now) (node_of node) c.requires.listed c.requires.stands)
