-- An Or of parts: that it is a sentence and fits, how many nodes it has, and how many Exists lead a part.
use Rattle.std.proofs.Common.{◌≡◌, ◌∙◌, sym, ap, refl, subst, ℕ, ◌+◌, ◌^◌, ◌<◌, inr, true, List, [], ◌∷◌, length, map, take, get_or, arith}
use Rattle.std.proofs.lemmas.Bool.{and_from}
use Rattle.std.proofs.lemmas.List.Elements.{All-head}
use Rattle.std.proofs.lemmas.Option.{same_Some}
use Rattle.std.proofs.lemmas.List.Sums.{get_or-le-sum_by, list_all-from_AllPass, sum-map, sum_by-take-le}
use Rattle.std.specs.Prelude.{All, Option, sum}
use Rattle.std.specs.List.{list_all, sum_by}
use Rattle.lint_core.specs.declared.database.Database.{Database}
use Rattle.lint_core.specs.declared.schema.Table.{Table}
use Rattle.lint_core.specs.DatabaseFits.{database_fits}
use Rattle.lint_core.specs.Meets.{meets}
use Rattle.lint_core.specs.Points.{are_rows}
use Rattle.sort_formula.specs.declared.formula.Atom.{Atom}
use Rattle.sort_formula.specs.declared.formula.Formula.{Formula, out-Formula, map-Formula, fold_out-Formula}
use Rattle.sort_formula.specs.declared.formula.Formula.TheOpen.{Formula-F}
use Rattle.sort_formula.specs.declared.formula.Formula.TheVariants as f
use Rattle.sort_formula.specs.Nodes.{nodes, nodes_step}
use Rattle.sort_formula.specs.Sentences.{formula_fits, is_sentence}
use Rattle.sort_formula.specs.Translation.{exist_rows}
use Rattle.sort_formula.proofs.Fitting.{bound_parts, fits_or}
use Rattle.sort_formula.specs.Axioms.{Axiom, axioms}
use Rattle.sort_formula.specs.Holds.{holds}
use Rattle.counter_laws.specs.LeadingRows.{leading_rows}
use Rattle.sorted_skolem.specs.declared.term.RowTerm.{RowTerm}
use Rattle.instantiate.specs.declared.problem.Problem.{Problem}
use Rattle.witness_db.specs.Parts.{PartHolds, part_node, places_from}
use Rattle.lint_engine.specs.Settled.{IsSometimes, judged}
use Rattle.lint_engine.specs.inner.Parts.{AreRowsOf, IsLedBy}
use Rattle.lint_engine.specs.inner.Problems.{IsReady}
use Rattle.lint_engine.proofs.Judged.{parts_limits}

pub or_is_sentence : (parts : List Formula) → All (λ s. is_sentence s ≡ true) parts → is_sentence (f.Or parts) ≡ true
or_is_sentence parts all = bound_parts (f.Or parts) parts [] (inr refl) ∙ list_all-from_AllPass is_sentence parts all

pub or_fits : (schema : List Table) (parts : List Formula) → list_all (λ s. formula_fits schema s []) parts ≡ true → formula_fits schema (f.Or parts) [] ≡ true
or_fits schema parts fit = fits_or schema parts [] ∙ fit

-- so do the Or and the axioms
pub judged_fit : (schema : List Table) (parts list : List Formula) → list ≡ judged schema parts → list_all (λ s. formula_fits schema s []) parts ≡ true →
    list_all (λ s. formula_fits schema s []) (map (λ (a : Axiom). a.sentence) (axioms schema)) ≡ true → list_all (λ s. formula_fits schema s []) list ≡ true
judged_fit schema parts list same fit rest =
    ap (list_all (λ s. formula_fits schema s [])) same
    ∙ and_from (formula_fits schema (f.Or parts) []) (list_all (λ s. formula_fits schema s []) (map (λ (a : Axiom). a.sentence) (axioms schema))) (or_fits schema parts fit) rest

-- ---- nodes

nodes_out : (g : Formula) → nodes g ≡ nodes_step (map-Formula Formula ℕ nodes (out-Formula g))
nodes_out g = fold_out-Formula ℕ nodes_step g

pub or_nodes : (parts : List Formula) → nodes (f.Or parts) ≡ 1 + sum_by nodes parts
or_nodes parts =
    nodes_out (f.Or parts)
    ∙ (ap (λ layer. nodes_step (map-Formula Formula ℕ nodes layer)) (f.outs-Or parts) ∙ ap (λ n. 1 + n) (sum-map nodes parts))

pub exists_nodes : (table : ℕ) (body : Formula) → nodes (f.Exists table body) ≡ 1 + nodes body
exists_nodes table body = nodes_out (f.Exists table body) ∙ ap (λ layer. nodes_step (map-Formula Formula ℕ nodes layer)) (f.outs-Exists table body)

-- a part, and what stands before it
pub part_is_small : (parts : List Formula) (part : ℕ) (g : Formula) → nodes (f.Or parts) < 2 ^ 32 → part < length parts → g ≡ get_or parts part g → nodes g < 2 ^ 32
part_is_small parts part g few low is =
    let all = or_nodes parts in
    let own = get_or-le-sum_by nodes parts part g low in
    let same : nodes g ≡ nodes (get_or parts part g) = ap nodes is in
    omega arith

pub part_node_low : (parts : List Formula) (part node : ℕ) → node ≡ part_node parts part → nodes (f.Or parts) < 2 ^ 32 → node < 2 ^ 33
part_node_low parts part node is few =
    let all = or_nodes parts in
    let before = sum_by-take-le nodes parts part in
    let same : sum (map nodes (take part parts)) ≡ sum_by nodes (take part parts) = sum-map nodes (take part parts) in
    omega arith

-- ---- what leads a formula

pub led_none : (g : Formula) → ((table : ℕ) (inner : Formula) → g ≡ f.Exists table inner → ⊥) → IsLedBy g 0
led_none g never = record { lead = []; body = g; led = record { is = refl; no_more = never }; as_many = refl }

pub led_more : (g : Formula) (table : ℕ) (inner : Formula) (count : ℕ) → g ≡ f.Exists table inner → IsLedBy inner count → IsLedBy g (count + 1)
led_more g table inner count is inside = record {
  lead = table ∷ inside.lead;
  body = inside.body;
  led = record { is = is ∙ ap (f.Exists table) inside.led.is; no_more = inside.led.no_more };
  as_many = let size = inside.as_many in omega arith;
}

-- formulas of other layers
no_exists : (g : Formula) (layer : Formula-F Formula) → out-Formula g ≡ layer → ((table : ℕ) (inner : Formula) → layer ≡ Formula-F.Exists table inner → ⊥) → (table : ℕ) (inner : Formula) → g ≡ f.Exists table inner → ⊥
no_exists g layer is never table inner same = never table inner (sym is ∙ (ap out-Formula same ∙ f.outs-Exists table inner))

pub no_atom : (g : Formula) (a : Atom) → g ≡ f.Atom a → (table : ℕ) (inner : Formula) → g ≡ f.Exists table inner → ⊥
no_atom g a is = no_exists g (Formula-F.Atom a) (ap out-Formula is ∙ f.outs-Atom a) (λ table inner same. cc)

pub no_and : (g : Formula) (parts : List Formula) → g ≡ f.And parts → (table : ℕ) (inner : Formula) → g ≡ f.Exists table inner → ⊥
no_and g parts is = no_exists g (Formula-F.And parts) (ap out-Formula is ∙ f.outs-And parts) (λ table inner same. cc)

pub no_or : (g : Formula) (parts : List Formula) → g ≡ f.Or parts → (table : ℕ) (inner : Formula) → g ≡ f.Exists table inner → ⊥
no_or g parts is = no_exists g (Formula-F.Or parts) (ap out-Formula is ∙ f.outs-Or parts) (λ table inner same. cc)

pub no_forall : (g : Formula) (over : ℕ) (body : Formula) → g ≡ f.Forall over body → (table : ℕ) (inner : Formula) → g ≡ f.Exists table inner → ⊥
no_forall g over body is = no_exists g (Formula-F.Forall over body) (ap out-Formula is ∙ f.outs-Forall over body) (λ table inner same. cc)

-- ---- what is found of a full case

module _ (schema : List Table) (parts : List Formula) (problem : Problem) (ready : IsReady schema (judged schema parts) problem) where
  -- the Or is one of the sentences, which have few nodes
  pub or_is_small : nodes (f.Or parts) < 2 ^ 32
  or_is_small =
      All-head (λ s. nodes s < 2 ^ 32) (f.Or parts) (map (λ (a : Axiom). a.sentence) (axioms schema))
      (subst (λ (ss : List Formula). All (λ s. nodes s < 2 ^ 32) ss) ready.sentences_are ready.grounded.few_nodes)

-- with the rows that are found, a part that holds is one that is asked for
pub sometimes : (schema : List Table) (parts : List Formula) (problem : Problem) → IsReady schema (judged schema parts) problem → (db : Database) → database_fits schema db ≡ true →
    meets schema db ≡ true → (terms : List RowTerm) (places : List (Option ℕ)) (part : ℕ) → PartHolds db terms places parts part → (rows : List ℕ) → AreRowsOf terms places parts part rows →
    IsSometimes schema parts db part rows
sometimes schema parts problem ready db fit met terms places part known rows found =
    let lead : List ℕ = found.led_by.lead in
    let body : Formula = found.led_by.body in
    let same : known.formula ≡ found.formula = same_Some known.formula found.formula (sym known.stands ∙ found.stands) in
    let is : known.formula ≡ exist_rows lead body = same ∙ found.led_by.led.is in
    let rows_are : places_from terms places (part_node parts part) (length lead) ≡ rows = ap (places_from terms places (part_node parts part)) found.led_by.as_many ∙ sym found.rows_are in
    record {
      limits = parts_limits schema parts problem ready;
      fits = fit;
      meets_schema = met;
      formula = found.formula;
      stands = found.stands;
      lead = lead;
      body = body;
      led = found.led_by.led;
      there = subst (λ (ps : List ℕ). are_rows db lead ps ≡ true) rows_are (known.there lead body is);
      inside = subst (λ (ps : List ℕ). holds db body (leading_rows lead ps) ≡ true) rows_are (known.inside lead body is);
    }
