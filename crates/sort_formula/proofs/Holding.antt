-- What a formula of each kind says, what its negation is, and what it is in another place, by its parts.
use Rattle.std.proofs.Common.{◌≡◌, ◌∙◌, ap, ℕ, List, [], ◌∷◌, ◌++◌, map}
use Rattle.std.proofs.lemmas.List.Folds.{list_all-map}
use Rattle.std.specs.List.{list_any, list_all}
use Rattle.lint_core.specs.declared.database.Database.{Database}
use Rattle.lint_core.specs.Database.{Place, places_of}
use Rattle.sort_formula.specs.declared.formula.Atom.{Atom}
use Rattle.sort_formula.specs.declared.formula.Formula.{Formula, fold_out-Formula, map-Formula, out-Formula}
use Rattle.sort_formula.specs.declared.formula.Formula.TheVariants as f
use Rattle.sort_formula.specs.declared.formula.Formula.TheOpen.{Formula-F}
use Rattle.sort_formula.specs.Holds.{holds, atom_holds, formula_step, Meaning}
use Rattle.sort_formula.specs.Negated.{negated, negated_atom, negated_step}
use Rattle.sort_formula.specs.Placed.{placed, placed_atom, placed_step}
use Rattle.lint_base.proofs.Lists.{any_map}

module _ (db : Database) where
  -- what a formula means, by its outermost layer
  abbrev pub layer_holds : Formula-F Formula → Meaning db
  layer_holds layer = formula_step db (map-Formula Formula (Meaning db) (holds db) layer)

  pub holds_out : (g : Formula) (rows : List Place) → holds db g rows ≡ layer_holds (out-Formula g) rows
  holds_out g rows = ap (λ (m : Meaning db). m rows) (fold_out-Formula (Meaning db) (formula_step db) g)

  pub holds_atom : (a : Atom) (rows : List Place) → holds db (f.Atom a) rows ≡ atom_holds db rows a
  holds_atom a rows = holds_out (f.Atom a) rows ∙ ap (λ layer. layer_holds layer rows) (f.outs-Atom a)

  pub holds_and : (parts : List Formula) (rows : List Place) → holds db (f.And parts) rows ≡ list_all (λ g. holds db g rows) parts
  holds_and parts rows =
      holds_out (f.And parts) rows
      ∙ (ap (λ layer. layer_holds layer rows) (f.outs-And parts) ∙ list_all-map (λ (m : Meaning db). m rows) (holds db) parts)

  pub holds_or : (parts : List Formula) (rows : List Place) → holds db (f.Or parts) rows ≡ list_any (λ g. holds db g rows) parts
  holds_or parts rows =
      holds_out (f.Or parts) rows
      ∙ (ap (λ layer. layer_holds layer rows) (f.outs-Or parts) ∙ any_map (holds db) (λ (m : Meaning db). m rows) parts)

  pub holds_exists : (table : ℕ) (body : Formula) (rows : List Place) →
      holds db (f.Exists table body) rows ≡ list_any (λ place. holds db body (rows ++ place ∷ [])) (places_of db table)
  holds_exists table body rows = holds_out (f.Exists table body) rows ∙ ap (λ layer. layer_holds layer rows) (f.outs-Exists table body)

  pub holds_forall : (table : ℕ) (body : Formula) (rows : List Place) →
      holds db (f.Forall table body) rows ≡ list_all (λ place. holds db body (rows ++ place ∷ [])) (places_of db table)
  holds_forall table body rows = holds_out (f.Forall table body) rows ∙ ap (λ layer. layer_holds layer rows) (f.outs-Forall table body)

abbrev layer_negated : Formula-F Formula → Formula
layer_negated layer = negated_step (map-Formula Formula Formula negated layer)

negated_out : (g : Formula) → negated g ≡ layer_negated (out-Formula g)
negated_out g = fold_out-Formula Formula negated_step g

pub negated_of_atom : (a : Atom) → negated (f.Atom a) ≡ negated_atom a
negated_of_atom a = negated_out (f.Atom a) ∙ ap layer_negated (f.outs-Atom a)

pub negated_and : (parts : List Formula) → negated (f.And parts) ≡ f.Or (map negated parts)
negated_and parts = negated_out (f.And parts) ∙ ap layer_negated (f.outs-And parts)

pub negated_or : (parts : List Formula) → negated (f.Or parts) ≡ f.And (map negated parts)
negated_or parts = negated_out (f.Or parts) ∙ ap layer_negated (f.outs-Or parts)

pub negated_exists : (table : ℕ) (body : Formula) → negated (f.Exists table body) ≡ f.Forall table (negated body)
negated_exists table body = negated_out (f.Exists table body) ∙ ap layer_negated (f.outs-Exists table body)

pub negated_forall : (table : ℕ) (body : Formula) → negated (f.Forall table body) ≡ f.Exists table (negated body)
negated_forall table body = negated_out (f.Forall table body) ∙ ap layer_negated (f.outs-Forall table body)

module _ (numbers : List ℕ) (depth : ℕ) where
  abbrev layer_placed : Formula-F Formula → Formula
  layer_placed layer = placed_step numbers depth (map-Formula Formula Formula (placed numbers depth) layer)

  placed_out : (g : Formula) → placed numbers depth g ≡ layer_placed (out-Formula g)
  placed_out g = fold_out-Formula Formula (placed_step numbers depth) g

  pub placed_of_atom : (a : Atom) → placed numbers depth (f.Atom a) ≡ f.Atom (placed_atom numbers depth a)
  placed_of_atom a = placed_out (f.Atom a) ∙ ap layer_placed (f.outs-Atom a)

  pub placed_and : (parts : List Formula) → placed numbers depth (f.And parts) ≡ f.And (map (placed numbers depth) parts)
  placed_and parts = placed_out (f.And parts) ∙ ap layer_placed (f.outs-And parts)

  pub placed_or : (parts : List Formula) → placed numbers depth (f.Or parts) ≡ f.Or (map (placed numbers depth) parts)
  placed_or parts = placed_out (f.Or parts) ∙ ap layer_placed (f.outs-Or parts)

  pub placed_exists : (table : ℕ) (body : Formula) → placed numbers depth (f.Exists table body) ≡ f.Exists table (placed numbers depth body)
  placed_exists table body = placed_out (f.Exists table body) ∙ ap layer_placed (f.outs-Exists table body)

  pub placed_forall : (table : ℕ) (body : Formula) → placed numbers depth (f.Forall table body) ≡ f.Forall table (placed numbers depth body)
  placed_forall table body = placed_out (f.Forall table body) ∙ ap layer_placed (f.outs-Forall table body)
