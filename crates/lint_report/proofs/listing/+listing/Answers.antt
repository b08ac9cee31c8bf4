use Rattle.std.proofs.Common.{◌∙◌, sym, ap, ◌++◌, List}
use Rattle.std.proofs.lemmas.Result.{on_ok_weaker}
use Rattle.std.specs.List.{flat_map}
use Rattle.lint_base.specs.declared.place.Span.{Span}
use Rattle.lint_core.specs.declared.condition.Cond.{Cond}
use Rattle.lint_report.specs.inner.Listed.{places}
use Rattle.lint_report.proofs.ListedPlaces.{places_parts}
use Rattle.lint_report.proofs.listing.+listing.Goals as goal

pub push_places-returns-in-And : goal.push_places-returns-in-And
push_places-returns-in-And t c =
    let whole = places_parts c.args.listed c.args.cond.now c.in-And.parts c.in-And.is in
    let same = ap (λ (conds : List Cond). flat_map (places c.args.listed) conds) c.as_slice.ensures in
    on_ok_weaker c.push_each.result (λ e. e ∙ ap (λ (spans : List Span). c.args.out.now ++ spans) (same ∙ sym whole)) c.push_each.ensures
