use Rattle.counter_forms.proofs.SmallLayers.{small_parts}
use Rattle.counter_forms.proofs.numbers.+small.Goals as goal

pub condition_has_small_numbers-returns-in-And : goal.condition_has_small_numbers-returns-in-And
condition_has_small_numbers-returns-in-And t c =
    let whole = small_parts c.args.cond.now c.in-And.parts c.in-And.is in
    cc
