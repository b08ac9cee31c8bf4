use Rattle.std.proofs.Common.{arith}
use Rattle.error_reductions.proofs.MainScope.{few_entries}
use Rattle.error_reductions.proofs.joins.both_fit.Goals as goal

pub entry_count-count-requires : goal.entry_count-count-requires
entry_count-count-requires c = few_entries c.args.schema.now c.args.query.now c.requires.fits

pub overflow_add-count : goal.overflow_add-count
overflow_add-count c = omega (arith, c.entry_count-count.ensures.entries, few_entries c.args.schema.now c.args.query.now c.requires.fits)

pub fits_at-requires-clause-depth : goal.fits_at-requires-clause-depth
fits_at-requires-clause-depth c = omega (arith, c.entry_count-count.ensures.entries, few_entries c.args.schema.now c.args.query.now c.requires.fits)

pub overflow_add-count-2 : goal.overflow_add-count-2
overflow_add-count-2 c = omega (arith, c.entry_count-count.ensures.entries, few_entries c.args.schema.now c.args.query.now c.requires.fits)

pub fits_at-requires-2-clause-depth : goal.fits_at-requires-2-clause-depth
fits_at-requires-2-clause-depth c = omega (arith, c.entry_count-count.ensures.entries, few_entries c.args.schema.now c.args.query.now c.requires.fits)
