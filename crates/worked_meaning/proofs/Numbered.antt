-- The variables of an And and of an Or are numbered where those of all parts are.
use Rattle.std.proofs.Common.{◌≡◌, ◌∙◌, ap, ℕ, List}
use Rattle.std.proofs.lemmas.List.Folds.{list_all-map}
use Rattle.std.specs.List.{list_all}
use Rattle.sort_formula.specs.declared.formula.Formula.{Formula, fold_out-Formula, map-Formula, out-Formula}
use Rattle.sort_formula.specs.declared.formula.Formula.TheVariants as f
use Rattle.sort_formula.specs.declared.formula.Formula.TheOpen.{Formula-F}
use Rattle.sort_formula.specs.Variables.{Meaning, numbered_from_step, is_numbered_from}

abbrev from : Formula → Meaning
from g n = is_numbered_from n g

abbrev layer_from : Formula-F Formula → Meaning
layer_from layer = numbered_from_step (map-Formula Formula Meaning from layer)

numbered_out : (n : ℕ) (g : Formula) → is_numbered_from n g ≡ layer_from (out-Formula g) n
numbered_out n g = ap (λ (m : Meaning). m n) (fold_out-Formula Meaning numbered_from_step g)

pub numbered_and : (n : ℕ) (parts : List Formula) → is_numbered_from n (f.And parts) ≡ list_all (is_numbered_from n) parts
numbered_and n parts =
    numbered_out n (f.And parts)
    ∙ (ap (λ layer. layer_from layer n) (f.outs-And parts) ∙ list_all-map (λ (m : Meaning). m n) from parts)

pub numbered_or : (n : ℕ) (parts : List Formula) → is_numbered_from n (f.Or parts) ≡ list_all (is_numbered_from n) parts
numbered_or n parts =
    numbered_out n (f.Or parts)
    ∙ (ap (λ layer. layer_from layer n) (f.outs-Or parts) ∙ list_all-map (λ (m : Meaning). m n) from parts)
