use Rattle.std.proofs.Common.{◌≡◌, ◌∙◌, ap, sym, true, false}
use Rattle.sorted_skolem.specs.Preorder.{is_forall_node}
use Rattle.instantiate.specs.inner.Flat.{node_of, way_above}
use Rattle.instantiate.proofs.Listed.{some_rows, inside_key, plain_key}
use Rattle.instantiate.proofs.Numbering.{key_of}
use Rattle.instantiate.proofs.Formed.{forall_is, forall_not}
use Rattle.instantiate.proofs.clauses.guards_of.Goals as goal
use Rattle.instantiate.proofs.clauses.guards_of.Goals.{in-Forall, in_default-matches}

pub add_inside-requires-clause-some : goal.add_inside-requires-clause-some
add_inside-requires-clause-some c =
    let parent = c.in-Some-node_at.parent.now in
    let is : is_forall_node (node_of parent) ≡ true =
    elim c.match-matches.branch [
      | in-Forall w ↦ forall_is parent.formula.now w.in-Forall.table w.in-Forall.body w.in-Forall.is
      | in_default-matches w ↦ let same : true ≡ false = sym c.if-matches.true ∙ w.matches-is in cc
    ] in
    some_rows c.args.listing.now c.requires.ready (key_of c.args.sentence c.args.number c.args.rows.now) (node_of c.args.node.now) (node_of parent) (record { node = c.in-Some.above.node; way = c.in-Some.above.way })
    c.requires.listed c.requires.stands (ap way_above c.in-Some.is) c.in-Some-node_at.ensures is

pub add_inside-requires-clause-listed : goal.add_inside-requires-clause-listed
add_inside-requires-clause-listed c =
    let parent = c.in-Some-node_at.parent.now in
    let is : is_forall_node (node_of parent) ≡ true =
    elim c.match-matches.branch [
      | in-Forall w ↦ forall_is parent.formula.now w.in-Forall.table w.in-Forall.body w.in-Forall.is
      | in_default-matches w ↦ let same : true ≡ false = sym c.if-matches.true ∙ w.matches-is in cc
    ] in
    inside_key c.args.listing.now c.requires.ready (key_of c.args.sentence c.args.number c.args.rows.now) (node_of c.args.node.now) (node_of parent) (record { node = c.in-Some.above.node; way = c.in-Some.above.way })
    c.requires.listed c.requires.stands (ap way_above c.in-Some.is) c.in-Some-node_at.ensures is

pub number_of-requires-clause-listed : goal.number_of-requires-clause-listed
number_of-requires-clause-listed c =
    let parent = c.in-Some-node_at.parent.now in
    let is : is_forall_node (node_of parent) ≡ false =
    elim c.match-matches.branch [
      | in-Forall w ↦ let same : true ≡ false = sym w.matches-is ∙ c.if-matches.false in cc
      | in_default-matches w ↦ forall_not parent.formula.now w.in_default-matches.not-Forall
    ] in
    plain_key c.args.listing.now c.requires.ready (key_of c.args.sentence c.args.number c.args.rows.now) (node_of c.args.node.now) (node_of parent) (record { node = c.in-Some.above.node; way = c.in-Some.above.way })
    c.requires.listed c.requires.stands (ap way_above c.in-Some.is) c.in-Some-node_at.ensures is
