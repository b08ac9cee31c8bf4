use Rattle.std.proofs.Common.{◌∙◌, List, ◌++◌, ap, map, length, arith}
use Rattle.std.specs.List.{filter}
use Rattle.lint_core.specs.Asked.{each_two, is_asked}
use Rattle.lint_core.specs.Database.{below}
use Rattle.lint_core.specs.declared.condition.Entry.{Entry}
use Rattle.lint_core.specs.declared.query.Item.{Item}
use Rattle.lint_core.specs.declared.query.Question.TheVariants.{Constant, Duplicate, NeedlessJoin, SameRow}
use Rattle.error_reductions.proofs.Asking.{listed, scalars_are, not_ins_are, predicates_are}
use Rattle.error_reductions.proofs.CountsWithin.{few_items}
use Rattle.error_reductions.proofs.listing.questions.Goals as goal

pub overflow_cast-items : goal.overflow_cast-items
overflow_cast-items c = omega (arith, few_items c.args.schema.now c.args.query.now c.requires.fits, ap length c.as_slice.ensures)

pub returns : goal.returns
returns c =
    let schema = c.args.schema.now in
    let query = c.args.query.now in
    let fits = c.requires.fits in
    let asked = is_asked schema query in
    listed schema query fits c.count-counts.result.scalars c.count-counts.result.not_ins c.count-counts.result.predicates
    (c.count-counts.ensures.scalars ∙ scalars_are schema query fits)
    (c.count-counts.ensures.not_ins ∙ not_ins_are schema query fits)
    (c.count-counts.ensures.predicates ∙ predicates_are schema query fits)
    c.new-asked.result c.add_each.new.asked c.ask.new.asked c.ask-2.new.asked c.ask_each.new.asked c.ask_each_two.new.asked c.ask_each-2.new.asked c.add_each-2.new.asked c.add_each-3.new.asked c.ask_each_two-2.new.asked c.add_each-4.new.asked
    (record {
      first = c.new-asked.ensures;
      add_rows = c.in_ok-add_each.ensures;
      add_empty = c.in_ok-ask.ensures;
      add_distinct = c.in_ok-ask-2.ensures;
      add_constants = c.in_ok-ask_each.ensures ∙ ap (λ (items : List Item). c.ask-2.new.asked ++ filter asked (map Constant (below (length items)))) c.as_slice.ensures;
      add_duplicates = c.in_ok-ask_each_two.ensures ∙ ap (λ (items : List Item). c.ask_each.new.asked ++ filter asked (each_two Duplicate (length items))) c.as_slice.ensures;
      add_joins = c.in_ok-ask_each-2.ensures ∙ ap (λ (entries : List Entry). c.ask_each_two.new.asked ++ filter asked (map NeedlessJoin (below (length entries)))) c.as_slice-2.ensures;
      add_implied = c.in_ok-add_each-2.ensures;
      add_impossible = c.in_ok-add_each-3.ensures;
      add_same = c.in_ok-ask_each_two-2.ensures ∙ ap (λ (entries : List Entry). c.add_each-3.new.asked ++ filter asked (each_two SameRow (length entries))) c.as_slice-2.ensures;
      add_nulls = c.in_ok-add_each-4.ensures;
    })
