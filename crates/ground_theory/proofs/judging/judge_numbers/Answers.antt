use Rattle.std.proofs.Common.{◌+◌, ◌≤◌, ℕ, List, length, sym, subst}
use Rattle.ground_theory.specs.declared.counting.Counted.{Counted}
use Rattle.ground_theory.specs.declared.numbering.Named.{Named}
use Rattle.ground_theory.specs.declared.sifting.Bound.{Bound}
use Rattle.ground_theory.specs.inner.Counted.{IfLeaf, IsRingLeaf}
use Rattle.ground_theory.specs.inner.Deciding.{IsReady, all_stated}
use Rattle.ground_theory.specs.inner.Numbering.{AreWithin, IsNumbered}
use Rattle.ground_theory.specs.inner.Sums.{AreInRoom}
use Rattle.ground_theory.proofs.Bounding as counting
use Rattle.ground_theory.proofs.judging.judge_numbers.Goals as goal

pub number_cells-requires-clause-rows : goal.number_cells-requires-clause-rows
number_cells-requires-clause-rows c =
    subst (λ (ls : List ℕ). length ls ≤ 512) (sym c.deref.ensures.value)
    (counting.labels_few c.args.frame.now c.args.literals.now c.requires.judged c.args.sifted.now c.requires.sifted c.args.joined c.requires.joined)

pub number_cells-requires-clause-within : goal.number_cells-requires-clause-within
number_cells-requires-clause-within c =
    subst (λ (ls : List ℕ). AreWithin (length ls) c.deref-2.result.now) (sym c.deref.ensures.value)
    (subst (AreWithin (length c.args.joined.labels.items)) (sym c.deref-2.ensures.value)
    (counting.firms_in c.args.frame.now c.args.literals.now c.requires.judged c.args.sifted.now c.requires.sifted c.args.joined c.requires.joined))

pub count_all-requires : goal.count_all-requires
count_all-requires c =
    let frame = c.args.frame.now in
    let literals = c.args.literals.now in
    let s = c.args.sifted.now in
    let n = c.in_ok-numbering.numbering in
    let first = subst (λ (ls : List ℕ). IsNumbered ls c.deref-2.result.now (length c.deref-2.result.now) n.places.items n.cells.items) c.deref.ensures.value c.in_ok-numbering.ensures in
    let numbered = subst (λ (fs : List Named). IsNumbered c.args.joined.labels.items fs (length fs) n.places.items n.cells.items) c.deref-2.ensures.value first in
    record {
      known = counting.known frame literals c.requires.judged s c.requires.sifted c.args.joined c.requires.joined n numbered;
      count = counting.count frame literals c.requires.judged s c.requires.sifted c.args.joined c.requires.joined n numbered;
      few = counting.few frame literals c.requires.judged s c.requires.sifted c.args.joined c.requires.joined n numbered;
      room = subst (AreInRoom n.places.items) (sym c.deref-3.ensures.value) (counting.room frame literals c.requires.judged s c.requires.sifted c.args.joined c.requires.joined n numbered);
      joins = counting.rows_room frame literals c.requires.judged s c.requires.sifted c.args.joined c.requires.joined n numbered;
      columns = counting.narrow frame literals c.requires.judged s c.requires.sifted c.args.joined c.requires.joined n numbered;
      ready = subst (λ (bs : List Bound). IsReady (length n.cells.items + 1) (all_stated frame c.args.joined n bs)) (sym c.deref-3.ensures.value)
          (counting.is_ready frame literals c.requires.judged s c.requires.sifted c.args.joined c.requires.joined n numbered);
    }

pub returns-in-Leaf-clause-clash : goal.returns-in-Leaf-clause-clash
returns-in-Leaf-clause-clash c =
    let frame = c.args.frame.now in
    let s = c.args.sifted.now in
    let n = c.in_ok-numbering.numbering in
    let first = subst (λ (ls : List ℕ). IsNumbered ls c.deref-2.result.now (length c.deref-2.result.now) n.places.items n.cells.items) c.deref.ensures.value c.in_ok-numbering.ensures in
    let numbered = subst (λ (fs : List Named). IsNumbered c.args.joined.labels.items fs (length fs) n.places.items n.cells.items) c.deref-2.ensures.value first in
    let is = subst (λ (x : Counted). IfLeaf x (IsRingLeaf (length n.cells.items + 1) n.cells.items (all_stated frame c.args.joined n c.deref-3.result.now))) c.in-Leaf.is c.in_ok-leaf.ensures.leaf in
    let here = subst (λ (bs : List Bound). IsRingLeaf (length n.cells.items + 1) n.cells.items (all_stated frame c.args.joined n bs) c.in-Leaf.leaf) c.deref-3.ensures.value is in
    counting.ring_leaf_right frame c.args.literals.now c.requires.judged s c.requires.sifted c.args.joined c.requires.joined n numbered c.in-Leaf.leaf here
