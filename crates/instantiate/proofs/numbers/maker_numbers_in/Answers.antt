use Rattle.std.proofs.Common.{refl, length}
use Rattle.std.proofs.lemmas.Option.{slice_get_read}
use Rattle.instantiate.proofs.Listed.{maker_key}
use Rattle.instantiate.proofs.numbers.maker_numbers_in.Goals as goal

pub maker_number-requires-clause-listed : goal.maker_number-requires-clause-listed
maker_number-requires-clause-listed c =
    let l = c.args.listing.now in
    maker_key l c.requires c.loop-term.term-index c.term-item.result
    (slice_get_read l.terms.now (length l.terms.now) c.loop-term.term-index c.term-item.result refl c.loop-term-test.true c.term-item.is)
