use Rattle.std.proofs.Common.{◌∙◌, ap, sym, refl, subst, length, List, ℕ}
use Rattle.std.proofs.lemmas.Option.{slice_get_read}
use Rattle.std.specs.Prelude.{slice_get}
use Rattle.sorted_skolem.specs.Terms.{term_lists}
use Rattle.instantiate.specs.inner.Flat.{node_of}
use Rattle.instantiate.specs.inner.Listings.{HasKey}
use Rattle.instantiate.proofs.Listed.{list_key}
use Rattle.instantiate.proofs.Numbering.{key_of}
use Rattle.instantiate.proofs.clauses.add_node.Goals as goal

pub clause_of-requires-clause-listed : goal.clause_of-requires-clause-listed
clause_of-requires-clause-listed c =
    let l = c.args.listing.now in
    let items = c.as_slice-rows-items.result.now in
    let i = c.loop-rows.rows-index in
    let rows = c.rows-item.result in
    let whole = c.as_slice-rows-items.ensures ∙ (c.in_ok-lists.ensures ∙ ap (term_lists l.terms.now) c.requires.tables) in
    let there = sym (ap (λ (ls : List (List ℕ)). slice_get ls i) whole) ∙ slice_get_read items (length items) i rows refl c.loop-rows-test.true c.rows-item.is in
    subst (λ (rs : List ℕ). HasKey l (key_of c.args.sentence c.args.number rs)) (sym c.as_slice.ensures)
    (list_key l c.requires.ready c.args.sentence c.args.number (node_of c.args.node.now) i rows c.requires.stands there)
