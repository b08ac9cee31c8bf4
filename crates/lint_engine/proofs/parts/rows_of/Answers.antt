use Rattle.std.proofs.Common.{◌∙◌, ◌<◌, ◌^◌, sym, ap, subst, arith}
use Rattle.std.proofs.lemmas.Option.{slice_get-get_or}
use Rattle.std.specs.Prelude.{Some}
use Rattle.sort_formula.specs.declared.formula.Formula.{Formula}
use Rattle.sort_formula.specs.Nodes.{nodes}
use Rattle.witness_db.specs.Parts.{places_from}
use Rattle.lint_engine.specs.inner.Parts.{IsLedBy}
use Rattle.lint_engine.proofs.OrParts.{part_is_small, part_node_low}
use Rattle.lint_engine.proofs.parts.rows_of.Goals as goal

pub leading-count-requires : goal.leading-count-requires
leading-count-requires c =
    let parts = c.args.parts.now in
    record {
      few =
          subst (λ (g : Formula). nodes g < 2 ^ 32) (sym c.formula.ensures.formula)
          (part_is_small parts c.args.part c.index-parts-part.result c.requires.few c.requires.there c.index-parts-part.is);
    }

pub places_from-requires-clause-node : goal.places_from-requires-clause-node
places_from-requires-clause-node c = part_node_low c.args.parts.now c.args.part c.node_of-node.result c.node_of-node.ensures c.requires.few

pub places_from-requires-clause-count : goal.places_from-requires-clause-count
places_from-requires-clause-count c =
    let parts = c.args.parts.now in
    let own : nodes c.formula.result.now < 2 ^ 32 =
    subst (λ (g : Formula). nodes g < 2 ^ 32) (sym c.formula.ensures.formula)
    (part_is_small parts c.args.part c.index-parts-part.result c.requires.few c.requires.there c.index-parts-part.is) in
    let low = c.leading-count.ensures.low in
    omega arith

pub returns : goal.returns
returns c =
    let parts = c.args.parts.now in
    let part = c.args.part in
    let count = c.leading-count.result in
    record {
      formula = c.index-parts-part.result;
      stands = slice_get-get_or parts part c.index-parts-part.result c.requires.there ∙ ap Some (sym c.index-parts-part.is);
      count = count;
      led_by = subst (λ (g : Formula). IsLedBy g count) c.formula.ensures.formula c.leading-count.ensures.led;
      rows_are = c.in_ok-rows.ensures ∙ ap (λ node. places_from c.args.terms.now c.args.places.now node count) c.node_of-node.ensures;
    }
