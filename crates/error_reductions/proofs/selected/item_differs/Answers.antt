use Rattle.error_reductions.proofs.MainScope.{few_entries}
use Rattle.error_reductions.proofs.selected.item_differs.Goals as goal

pub own_scope-requires : goal.own_scope-requires
own_scope-requires c = few_entries c.args.schema.now c.args.query.now c.requires.fits
