use Rattle.std.proofs.Common.{◌≡◌, ◌∙◌, ◌<◌, ◌+◌, subst, ℕ, length, arith}
use Rattle.text_classes.specs.inner.Nodes.{AreWays, link_at}
use Rattle.text_classes.proofs.Reading.{ways_more, ways_passed, ways_are}
use Rattle.text_classes.proofs.graph.ways.Goals as goal
use Rattle.text_classes.proofs.graph.ways.Goals.{then-link+in_ok-add_way+in_ok-add_way-2, else-link}

pub loop-number-preserved : goal.loop-number-preserved
loop-number-preserved c =
    let inv = c.loop-number.invariant in
    let listed : c.loop-number.number < length c.args.links.now = omega arith in
    let count : length c.loop-number.ways.items ≡ c.args.nodes = inv.count in
    let both = c.requires.within c.loop-number.number listed in
    let left : (link_at c.args.links.now c.loop-number.number).left < length c.loop-number.ways.items = (let h = both.0 in omega arith) in
    let right : (link_at c.args.links.now c.loop-number.number).right < length c.loop-number.ways.items = (let h = both.1 in omega arith) in
    elim c.if-link.branch [
      | then-link+in_ok-add_way+in_ok-add_way-2 w ↦
          let more = ways_more c.args.links.now c.loop-number.number c.loop-number.ways.items inv.ways w.if-link.true left right w.add_way.new.ways.items w.add_way-then-link.new.ways.items w.in_ok-add_way.ensures w.in_ok-add_way-2.ensures in
          let are = ways_are c.args.links.now (c.loop-number.number + 1) c.args.nodes c.if-link.ways w.add_way-then-link.new.ways w.ways-is (more.0 ∙ count) more.1 in
          record { count = are.0; ways = are.1 }
      | else-link w ↦
          let are = ways_are c.args.links.now (c.loop-number.number + 1) c.args.nodes c.if-link.ways c.loop-number.ways w.ways-is count (ways_passed c.args.links.now c.loop-number.number c.loop-number.ways.items inv.ways w.if-link.false) in
          record { count = are.0; ways = are.1 }
    ]

pub returns-clause-ways : goal.returns-clause-ways
returns-clause-ways c =
    let end : c.loop-number.number ≡ length c.args.links.now = (let f = c.loop-number-test.false in omega arith) in
    subst (λ (k : ℕ). AreWays c.args.links.now k c.loop-number.ways.items) end c.loop-number.invariant.ways
