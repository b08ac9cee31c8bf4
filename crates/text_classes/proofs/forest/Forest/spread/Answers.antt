use Rattle.std.proofs.Common.{◌<◌, ◌≤◌, length, arith, refl}
use Rattle.text_classes.proofs.Meeting.{extends_both}
use Rattle.text_classes.proofs.Spreading.{read_numbers, ways_here, filled_on, met_more, filling_next}
use Rattle.text_classes.proofs.forest.Forest.spread.Goals as goal

pub meet-requires-clause-way : goal.meet-requires-clause-way
meet-requires-clause-way c =
    let inv = c.loop-number.invariant in
    let numbers = read_numbers c.args.ways.now c.index.result.now.node c.index-ways-node.result c.as_slice-number-items.result.now c.index-ways-node.is c.as_slice-number-items.ensures in
    let listed : c.loop-number.number-index < length c.as_slice-number-items.result.now = c.loop-number-test.true in
    (ways_here c.args.links.now c.args.ways.now c.args.place c.args.self.now c.loop-number.self c.requires.place inv.extends inv.filling c.requires.ways c.index.result.now c.index.ensures c.as_slice-number-items.result.now numbers).sound c.loop-number.number-index listed

pub loop-number-preserved : goal.loop-number-preserved
loop-number-preserved c =
    let inv = c.loop-number.invariant in
    let numbers = read_numbers c.args.ways.now c.index.result.now.node c.index-ways-node.result c.as_slice-number-items.result.now c.index-ways-node.is c.as_slice-number-items.ensures in
    record {
      node_is = inv.node_is;
      filling = filling_next c.args.links.now c.args.ways.now c.args.place c.args.self.now c.loop-number.self c.requires.place inv.extends inv.filling c.requires.ways c.index.result.now c.index.ensures c.as_slice-number-items.result.now numbers c.meet.new.self c.in_ok-meet.ensures.filling;
      extends = extends_both c.args.self.now c.loop-number.self c.meet.new.self inv.extends c.in_ok-meet.ensures.extends;
      met = met_more c.args.links.now c.args.ways.now c.args.place c.args.self.now c.loop-number.self c.requires.place inv.extends inv.filling c.requires.ways c.index.result.now c.index.ensures c.as_slice-number-items.result.now numbers
          (length c.args.ways.now) c.meet.new.self c.loop-number.number-index _ refl c.in_ok-meet.ensures.extends c.in_ok-meet.ensures.met inv.met;
    }

pub returns-clause-filling : goal.returns-clause-filling
returns-clause-filling c =
    let inv = c.loop-number.invariant in
    let numbers = read_numbers c.args.ways.now c.index.result.now.node c.index-ways-node.result c.as_slice-number-items.result.now c.index-ways-node.is c.as_slice-number-items.ensures in
    let ended : length c.as_slice-number-items.result.now ≤ c.loop-number.number-index = c.loop-number-test.false in
    filled_on c.args.links.now c.args.ways.now c.args.place c.args.self.now c.loop-number.self c.requires.place inv.extends inv.filling c.requires.ways c.index.result.now c.index.ensures c.as_slice-number-items.result.now numbers
    (λ k h. inv.met k (omega arith))
