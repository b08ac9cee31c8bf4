use Rattle.std.proofs.Common.{◌∙◌, sym}
use Rattle.worked_meaning.proofs.Room.{can_stand_at, only_item}
use Rattle.worked_meaning.proofs.formulas.fitting_formula.Goals as goal

pub is_true-requires : goal.is_true-requires
is_true-requires c =
    can_stand_at c.args.schema.now c.args.query.now c.entry-item.result c.in_ok-level.field-0 c.in_ok-level-2.field-0 c.requires
    (sym c.as_slice.ensures ∙ only_item c.as_slice.result.now c.entry-item.result c.in-len1.len_at_least c.in-len1.len_below c.entry-item.is)
    c.in_ok-level.ensures c.in_ok-level-2.ensures

pub is_false-requires : goal.is_false-requires
is_false-requires c =
    can_stand_at c.args.schema.now c.args.query.now c.entry-item.result c.in_ok-level.field-0 c.in_ok-level-2.field-0 c.requires
    (sym c.as_slice.ensures ∙ only_item c.as_slice.result.now c.entry-item.result c.in-len1.len_at_least c.in-len1.len_below c.entry-item.is)
    c.in_ok-level.ensures c.in_ok-level-2.ensures
