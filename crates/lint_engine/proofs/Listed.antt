-- Sentences: the axioms as they are made, and what holds of each.
use Rattle.std.proofs.Common.{◌≡◌, ◌∙◌, ap, refl, subst, sym, ℕ, ◌+◌, ◌<◌, ◌≤◌, ◌^◌, ◌-◌, true, List, [], ◌∷◌, map, length, take, get_or, arith}
use Rattle.std.proofs.lemmas.List.Elements.{All-more}
use Rattle.std.proofs.lemmas.List.Folds.{list_all-map}
use Rattle.std.proofs.lemmas.Option.{slice_get-get_or}
use Rattle.std.specs.Prelude.{All, Some, min}
use Rattle.std.specs.List.{list_all}
use Rattle.constraint_axioms.specs.declared.axiom.Axiom.{Axiom as Made}
use Rattle.constraint_axioms.specs.Spoken.{spoken}
use Rattle.lint_core.specs.declared.schema.Table.{Table}
use Rattle.sort_formula.specs.declared.formula.Formula.{Formula}
use Rattle.sort_formula.specs.Axioms.{Axiom, axioms}
use Rattle.sort_formula.specs.Nodes.{nodes}
use Rattle.sort_formula.specs.Sentences.{formula_fits}
use Rattle.lint_engine.specs.Limits.{HasManyNodes}

pub spoken_sentences : (made : List Made) → map (λ (a : Axiom). a.sentence) (map spoken made) ≡ map (λ (a : Made). a.sentence) made
spoken_sentences [] = refl
spoken_sentences (a ∷ made) = ap (λ (ss : List Formula). a.sentence ∷ ss) (spoken_sentences made)

pub made_fit : (schema : List Table) (made : List Made) → map spoken made ≡ axioms schema → list_all (λ (a : Made). formula_fits schema a.sentence []) made ≡ true →
    list_all (λ (s : Formula). formula_fits schema s []) (map (λ (a : Axiom). a.sentence) (axioms schema)) ≡ true
made_fit schema made same fit =
    ap (list_all (λ (s : Formula). formula_fits schema s [])) (ap (map (λ (a : Axiom). a.sentence)) (sym same) ∙ spoken_sentences made)
    ∙ (list_all-map (λ (s : Formula). formula_fits schema s []) (λ (a : Made). a.sentence) made ∙ fit)

pub all_more : (P : Formula → Type 0) (ss : List Formula) (i : ℕ) (s : Formula) → i < length ss → s ≡ get_or ss i s → P s → All P (take i ss) → All P (take (i + 1) ss)
all_more P ss i s low is here all = All-more P ss i s low all (subst P is here)

-- a count of nodes that stops at the greatest `u64`
pub few_counted : (n m : ℕ) → m ≡ min n (2 ^ 64 - 1) → m < 2 ^ 32 → n < 2 ^ 32
few_counted n m is low = omega arith

pub many_counted : (n m : ℕ) → m ≡ min n (2 ^ 64 - 1) → 2 ^ 32 ≤ m → 2 ^ 32 ≤ n
many_counted n m is high = omega arith

pub has_many : (ss : List Formula) (i : ℕ) (s : Formula) → i < length ss → s ≡ get_or ss i s → 2 ^ 32 ≤ nodes s → HasManyNodes ss
has_many ss i s low is many = record {
  number = i;
  sentence = s;
  stands = slice_get-get_or ss i s low ∙ ap Some (sym is);
  many = many;
}
