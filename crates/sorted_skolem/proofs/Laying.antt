-- The nodes of a formula of each kind, by its parts.
use Rattle.std.proofs.Common.{◌≡◌, ◌∙◌, ap, ℕ, List, map}
use Rattle.sort_formula.specs.declared.formula.Atom.{Atom}
use Rattle.sort_formula.specs.declared.formula.Formula.{Formula, fold_out-Formula, map-Formula, out-Formula}
use Rattle.sort_formula.specs.declared.formula.Formula.TheVariants as f
use Rattle.sort_formula.specs.declared.formula.Formula.TheOpen.{Formula-F}
use Rattle.sorted_skolem.specs.Preorder.{Laid, laid, laid_step, laid_at, below_step}

abbrev layer_laid : Formula-F Formula → Laid
layer_laid layer = laid_step (map-Formula Formula Laid laid layer)

laid_out : (g : Formula) → laid g ≡ layer_laid (out-Formula g)
laid_out g = fold_out-Formula Laid laid_step g

pub laid_atom : (a : Atom) → laid (f.Atom a) ≡ laid_at (Formula-F.Atom a) (below_step (Formula-F.Atom a))
laid_atom a = laid_out (f.Atom a) ∙ ap layer_laid (f.outs-Atom a)

pub laid_and : (parts : List Formula) → laid (f.And parts) ≡ laid_step (Formula-F.And (map laid parts))
laid_and parts = laid_out (f.And parts) ∙ ap layer_laid (f.outs-And parts)

pub laid_or : (parts : List Formula) → laid (f.Or parts) ≡ laid_step (Formula-F.Or (map laid parts))
laid_or parts = laid_out (f.Or parts) ∙ ap layer_laid (f.outs-Or parts)

pub laid_exists : (table : ℕ) (body : Formula) → laid (f.Exists table body) ≡ laid_step (Formula-F.Exists table (laid body))
laid_exists table body = laid_out (f.Exists table body) ∙ ap layer_laid (f.outs-Exists table body)

pub laid_forall : (table : ℕ) (body : Formula) → laid (f.Forall table body) ≡ laid_step (Formula-F.Forall table (laid body))
laid_forall table body = laid_out (f.Forall table body) ∙ ap layer_laid (f.outs-Forall table body)
