use Rattle.std.proofs.Common.{◌≡◌, ◌+◌, ◌<◌, ◌^◌, true, take, drop, map}
use Rattle.std.specs.List.{list_all, sum_by}
use Rattle.sort_formula.specs.Translation.{translation}
use Rattle.truth_formula.specs.inner.HalfOpen.{is_half_open}
use Rattle.truth_formula.specs.inner.Standing.{scope_of}
use Rattle.truth_formula.specs.inner.Parts.{chosen}
use Rattle.truth_formula.specs.Scopes.{count_entries}
use Rattle.truth_formula.proofs.translation.+translate.Given as goal

abbrev pub invariant-translate_parts-loop-part : goal.invariant-translate_parts-loop-part
invariant-translate_parts-loop-part l = record {
  made : l.formulas ≡ map (λ part. chosen l.holds (translation l.tables part (scope_of l.standing))) (take l.part-index l.parts);
  near : list_all is_half_open l.formulas ≡ true;
  room : (scope_of l.standing).depth + sum_by count_entries (drop l.part-index l.parts) < 2 ^ 32;
}
