use Rattle.std.proofs.Common.{◌∷◌, ℕ, List, map, get_or}
use Rattle.sorted_skolem.proofs.Steps.{get_number, flat_next}
use Rattle.sorted_skolem.proofs.rows.led_by_each.Goals as goal

pub loop-row-preserved : goal.loop-row-preserved
loop-row-preserved c =
    let rows = c.args.rows.now in
    let row = get_or rows c.loop-row.row-index 0 in
    flat_next (λ (row : ℕ). map (λ (rest : List ℕ). row ∷ rest) c.args.lists.now) rows c.loop-row.row-index row c.loop-row.led.items c.push_led.new.led.items _
    (get_number rows c.loop-row.row-index c.loop-row-test.true) c.loop-row.invariant c.in_ok-push_led.ensures
