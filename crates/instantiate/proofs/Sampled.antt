-- The row terms and the ground list of a small example.
use Rattle.std.proofs.Common.{◌≡◌, ◌∙◌, refl, ap, pos, [], ◌∷◌, List}
use Rattle.std.specs.Prelude.{None}
use Rattle.sort_formula.specs.declared.formula.Side.TheVariants as side
use Rattle.sort_formula.specs.declared.formula.Atom.TheVariants as atom
use Rattle.sort_formula.specs.declared.formula.Formula.{Formula}
use Rattle.sort_formula.specs.declared.formula.Formula.TheVariants as f
use Rattle.sort_formula.specs.declared.formula.Formula.TheOpen.{Formula-F}
use Rattle.sorted_skolem.proofs.Laying.{laid_atom, laid_and, laid_or, laid_exists, laid_forall}
use Rattle.sorted_skolem.specs.Preorder.{Node, Laid, laid, laid_step, nodes_of, outlines_of}
use Rattle.sorted_skolem.specs.Terms.{row_terms}
use Rattle.instantiate.specs.Examples.{eight_clauses, two_sentences, two_terms}
use Rattle.instantiate.specs.Ground.{clauses_of}

abbrev low : Formula
low = f.Atom (atom.Le (side.Cell 0 0) side.Zero (pos 5))

abbrev null : Formula
null = f.Atom (atom.IsNull 0 0)

abbrev link : Formula
link = f.Atom (atom.Le (side.Cell 0 0) (side.Cell 1 0) (pos 0))

abbrev there : Formula
there = f.Exists 1 link

abbrev low_laid : Laid
low_laid = laid_step (Formula-F.Atom (atom.Le (side.Cell 0 0) side.Zero (pos 5)))

abbrev and_laid : Laid
and_laid = laid_step (Formula-F.And (low_laid ∷ []))

abbrev first_laid : Laid
first_laid = laid_step (Formula-F.Exists 0 and_laid)

and_is : laid (f.And (low ∷ [])) ≡ and_laid
and_is = laid_and (low ∷ []) ∙ ap (λ (l : Laid). laid_step (Formula-F.And (l ∷ []))) (laid_atom (atom.Le (side.Cell 0 0) side.Zero (pos 5)))

first_is : laid (f.Exists 0 (f.And (low ∷ []))) ≡ first_laid
first_is = laid_exists 0 (f.And (low ∷ [])) ∙ ap (λ (l : Laid). laid_step (Formula-F.Exists 0 l)) and_is

abbrev null_laid : Laid
null_laid = laid_step (Formula-F.Atom (atom.IsNull 0 0))

abbrev link_laid : Laid
link_laid = laid_step (Formula-F.Atom (atom.Le (side.Cell 0 0) (side.Cell 1 0) (pos 0)))

abbrev there_laid : Laid
there_laid = laid_step (Formula-F.Exists 1 link_laid)

abbrev or_laid : Laid
or_laid = laid_step (Formula-F.Or (null_laid ∷ there_laid ∷ []))

abbrev second_laid : Laid
second_laid = laid_step (Formula-F.Forall 0 or_laid)

there_is : laid there ≡ there_laid
there_is = laid_exists 1 link ∙ ap (λ (l : Laid). laid_step (Formula-F.Exists 1 l)) (laid_atom (atom.Le (side.Cell 0 0) (side.Cell 1 0) (pos 0)))

or_is : laid (f.Or (null ∷ there ∷ [])) ≡ or_laid
or_is =
    laid_or (null ∷ there ∷ [])
    ∙ (ap (λ (l : Laid). laid_step (Formula-F.Or (l ∷ laid there ∷ []))) (laid_atom (atom.IsNull 0 0))
    ∙ ap (λ (l : Laid). laid_step (Formula-F.Or (null_laid ∷ l ∷ []))) there_is)

second_is : laid (f.Forall 0 (f.Or (null ∷ there ∷ []))) ≡ second_laid
second_is = laid_forall 0 (f.Or (null ∷ there ∷ [])) ∙ ap (λ (l : Laid). laid_step (Formula-F.Forall 0 l)) or_is

abbrev outlines : List (List Node)
outlines = first_laid.nodes 0 None [] ∷ second_laid.nodes 0 None [] ∷ []

outlines_are : outlines_of two_sentences ≡ outlines
outlines_are =
    ap (λ (l : Laid). l.nodes 0 None [] ∷ nodes_of (f.Forall 0 (f.Or (null ∷ there ∷ []))) ∷ []) first_is
    ∙ ap (λ (l : Laid). first_laid.nodes 0 None [] ∷ l.nodes 0 None [] ∷ []) second_is

computed : row_terms outlines (0 ∷ 1 ∷ []) ≡ two_terms
computed = refl

pub terms_are : row_terms (outlines_of two_sentences) (0 ∷ 1 ∷ []) ≡ two_terms
terms_are = ap (λ (os : List (List Node)). row_terms os (0 ∷ 1 ∷ [])) outlines_are ∙ computed

clauses_computed : clauses_of outlines (0 ∷ 1 ∷ []) two_terms ≡ eight_clauses
clauses_computed = refl

pub clauses_are : clauses_of (outlines_of two_sentences) (0 ∷ 1 ∷ []) two_terms ≡ eight_clauses
clauses_are = ap (λ (os : List (List Node)). clauses_of os (0 ∷ 1 ∷ []) two_terms) outlines_are ∙ clauses_computed
