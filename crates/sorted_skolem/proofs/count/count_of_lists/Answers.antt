use Rattle.std.proofs.Common.{◌≡◌, ◌∙◌, sym, ap, ◌+◌, ◌*◌, drop, get_or, arith}
use Rattle.sorted_skolem.specs.inner.Listing.{capped, tallied, lists_tallied}
use Rattle.sorted_skolem.proofs.Steps.{get_number}
use Rattle.sorted_skolem.proofs.Tallying.{mul_seen, lists_drop}
use Rattle.sorted_skolem.proofs.count.count_of_lists.Goals as goal

pub loop-table-preserved : goal.loop-table-preserved
loop-table-preserved c =
    let tallies = c.args.tallies.now in
    let tables = c.args.tables.now in
    let i = c.loop-table.table-index in
    let table = get_or tables i 0 in
    let count = c.loop-table.count in
    let rest = lists_tallied tallies (drop (i + 1) tables) in
    let here = lists_drop tallies tables i table (get_number tables i c.loop-table-test.true) in
    let all = sym (ap (λ n. capped (count * n)) here) ∙ c.loop-table.invariant.total in
    let is : c.saturating_mul-count.result ≡ capped (count * capped (tallied tallies table)) = c.saturating_mul-count.ensures ∙ ap (λ n. capped (count * n)) c.count_so_far.ensures in
    record {
      within = omega arith;
      total = mul_seen count (tallied tallies table) rest c.saturating_mul-count.result _ all is;
    }
