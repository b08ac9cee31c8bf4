-- The tables of the quantifiers outside, where one more stands inside.
use Rattle.std.proofs.Common.{◌≡◌, ◌∙◌, ap, sym, ℕ, List, [], ◌∷◌, ◌++◌}
use Rattle.std.specs.Borrow.{Bor}
use Rattle.sort_formula.specs.inner.Standing.{tables_step, tables_outside}
use Rattle.sort_formula.specs.declared.outside.Outside.{Outside}
use Rattle.sort_formula.specs.declared.outside.Outside.TheFolds.{fold-roll-Outside}
use Rattle.sort_formula.specs.declared.outside.Outside.TheOpen.{Outside-F}
use Rattle.sort_formula.specs.declared.outside.Outside.TheVariants as outside

pub tables_inside : (table : ℕ) (outer : Bor Outside) → tables_outside (outside.Quantifier table outer) ≡ tables_outside outer.now ++ table ∷ []
tables_inside table outer = ap tables_outside (sym (outside.rolls-Quantifier table outer)) ∙ fold-roll-Outside (List ℕ) tables_step (Outside-F.Quantifier table outer)

pub tables_nothing : tables_outside outside.Nothing ≡ []
tables_nothing = ap tables_outside (sym outside.rolls-Nothing) ∙ fold-roll-Outside (List ℕ) tables_step Outside-F.Nothing
