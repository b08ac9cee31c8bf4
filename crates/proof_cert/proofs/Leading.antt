-- What stands at a clause whose guards are on the way, and which fact of a branch says it.
use Rattle.std.proofs.Common.{◌≡◌, ◌∙◌, sym, ap, refl, subst, ℕ, ◌+◌, ◌<◌, ◌≤◌, Bool, true, false, ◌||◌, List, [], ◌∷◌, ◌++◌, length, take, get_or, append-nil, arith}
use Rattle.std.proofs.lemmas.Bool.{and_from}
use Rattle.std.proofs.lemmas.Bool.Decides.{nat_tests}
use Rattle.std.proofs.lemmas.Option.{same_Some, slice_get_within}
use Rattle.std.specs.Prelude.{Option, Some, None, slice_get, nat_eq, option_and_then}
use Rattle.lint_core.specs.declared.certificate.Step.TheVariants as step
use Rattle.lint_core.specs.declared.schema.Table.{Table}
use Rattle.lint_base.proofs.Lists.{slice_get_front}
use Rattle.sort_formula.specs.declared.formula.Formula.{Formula, out-Formula}
use Rattle.sort_formula.specs.declared.formula.Formula.TheOpen.{Formula-F}
use Rattle.sort_formula.specs.Certificate.{fact_of, with_facts, at_row, children, branches_after}
use Rattle.sort_formula.specs.Facts.{Fact, Branch}
use Rattle.ground_theory.specs.declared.literal.Clause.{Clause}
use Rattle.ground_theory.specs.declared.literal.Guard.{Guard}
use Rattle.case_split.specs.Trees.{is_same_guard, is_among}
use Rattle.instantiate.specs.declared.problem.Problem.{Problem}
use Rattle.instantiate.specs.Hanging.{StandsAt, Hanging, guards_at, at_way}
use Rattle.proof_cert.specs.declared.path.Opened.{Opened}
use Rattle.proof_cert.specs.declared.reaching.Reached.{Reached}
use Rattle.proof_cert.specs.declared.reaching.Said.{Said}
use Rattle.proof_cert.specs.inner.Known.{Names, HasFact}
use Rattle.proof_cert.specs.inner.Paths.{opened_at, Covers, AreMakers, AreStanding, row_by, HasOpened, IsOpened}
use Rattle.proof_cert.specs.inner.Ranks.{slot_of, count_in, AreRanks}
use Rattle.proof_cert.specs.inner.Reaching.{said_steps, IsRootOf, IsPartOf, IsAtRow, LeadsTo, IsReached}
use Rattle.proof_cert.proofs.Growing.{get_middle, names_last, stands_one, stands_variables}
use Rattle.proof_cert.proofs.Paths.{opened_in, row_is}
use Rattle.proof_cert.proofs.Refuting.{opened_is, at_row_is}
use Rattle.proof_cert.proofs.Standing.{guards_there, part_of_and, part_of_or, part_of_exists, root_at, inside_at}

-- ---- guards

pub one_guard : (gs : List Guard) (d : Guard) → 1 ≤ length gs → length gs < 2 → gs ≡ get_or gs 0 d ∷ []
one_guard [] d some few = absurd (omega arith)
one_guard (g ∷ []) d some few = refl
one_guard (g ∷ h ∷ gs) d some few = absurd (omega arith)

pub two_guards : (gs : List Guard) (d : Guard) → 2 ≤ length gs → length gs < 3 → gs ≡ get_or gs 0 d ∷ get_or gs 1 d ∷ []
two_guards [] d some few = absurd (omega arith)
two_guards (g ∷ []) d some few = absurd (omega arith)
two_guards (g ∷ h ∷ []) d some few = refl
two_guards (g ∷ h ∷ i ∷ gs) d some few = absurd (omega arith)

-- the way of the first guard was taken
pub took_way : (way : List Opened) (gs rest : List Guard) (g : Guard) (o : Opened) → Covers way gs → gs ≡ g ∷ rest → opened_at way g.clause ≡ Some o → o.way ≡ g.way
took_way way gs rest g o covers are at =
    let found = covers g (subst (λ gs. is_among gs g ≡ true) (sym are) (is_first g rest)) in
    ap (λ (o : Opened). o.way) (same_Some o found.0 (sym at ∙ found.1)) ∙ found.2
  where
    left : (a b : Bool) → a ≡ true → (a || b) ≡ true
    left true b is = refl
    left false b is = cc

    equal : (m : ℕ) → nat_eq m m ≡ true
    equal m = grind (arith, nat_tests)

    is_first : (g : Guard) (rest : List Guard) → is_among (g ∷ rest) g ≡ true
    is_first g rest = left (is_same_guard g g) (is_among rest g) (and_from (nat_eq g.clause g.clause) (nat_eq g.way g.way) (equal g.clause) (equal g.way))

module _ (problem : Problem) (makers : List ℕ) (hanging : Hanging problem) (ranks : List ℕ) (are_ranks : AreRanks problem.clauses ranks) (are_makers : AreMakers problem makers)
    (way : List Opened) (facts clause : ℕ) where
  -- nothing is to be said first
  unsaid : (schema : List Table) (b : Branch) (r : Reached) → r.said ≡ None → (has : HasFact problem b (row_by makers way) clause r.fact) → has.formula ≡ r.formula.now →
      LeadsTo problem makers schema b way clause r
  unsaid schema b r none has same = record {
    more = [];
    count = sym (ap (λ (s : Option Said). length (said_steps s)) none);
    after = λ rest. ap (λ (s : Option Said). branches_after schema (said_steps s) (b ∷ rest)) none
        ∙ ap (λ (fs : List Fact). Some (record { facts = fs; tables = b.tables } ∷ rest)) (sym (append-nil b.facts));
    has = record {
      formula = has.formula;
      variables = has.variables;
      named = has.named;
      stands = has.stands;
      is_fact = slice_get_front b.facts [] r.fact (fact_of has.named has.formula) has.is_fact;
      names = has.names;
    };
    same = same;
  }

  rank_there : (c : Clause) (slot rank : ℕ) → slice_get problem.clauses clause ≡ Some c → slot_of c.guards ≡ Some slot → slot ≤ length problem.clauses → slice_get ranks clause ≡ Some rank →
      rank ≡ count_in slot (take clause problem.clauses)
  rank_there c slot rank at is low has = same_Some rank (count_in slot (take clause problem.clauses)) (sym has ∙ are_ranks clause slot c at is low)

  -- ---- a sentence

  pub root_reached : (c : Clause) (rank : ℕ) (r : Reached) → slice_get problem.clauses clause ≡ Some c → c.guards ≡ [] → slice_get ranks clause ≡ Some rank → IsRootOf problem rank r →
      IsReached problem makers way facts clause r
  root_reached c rank r at none has is =
      let root = root_at problem hanging clause c at none in
      let counted : rank ≡ count_in 0 (take clause problem.clauses) = rank_there c 0 rank at (ap slot_of none) (omega arith) has in
      let same : root.formula ≡ r.formula.now = same_Some root.formula r.formula.now (sym root.is_sentence ∙ (ap (slice_get problem.sentences) (sym counted) ∙ is.formula)) in
      record {
        variables = [];
        stands = subst (λ (g : Formula). StandsAt problem clause (out-Formula g) []) same root.stands;
        leads = λ schema b rows isb.
            unsaid schema b r is.unsaid
            (record {
              formula = root.formula;
              variables = [];
              named = [];
              stands = root.stands;
              is_fact = isb.sentences rank r.fact r.formula.now is.formula is.fact ∙ ap (λ (g : Formula). Some (fact_of [] g)) (sym same);
              names = tt;
            })
            same;
      }

  -- ---- a part

  module _ (c : Clause) (at : slice_get problem.clauses clause ≡ Some c) (rank : ℕ) (r : Reached) (has : slice_get ranks clause ≡ Some rank)
      (g : Guard) (guards : c.guards ≡ g ∷ []) (o : Opened) (place : ℕ) (there : slice_get way place ≡ Some o) (found : opened_at way o.clause ≡ Some o) (same : o.clause ≡ g.clause) (took : o.way ≡ g.way)
      (variables : List ℕ) (stands : StandsAt problem o.clause (out-Formula o.formula.now) variables) where
    guards_are : guards_at problem clause ≡ at_way o.clause g.way ∷ []
    guards_are = guards_there problem clause c at ∙ (guards ∙ ap (λ k. at_way k g.way ∷ []) (sym same))

    -- what the branch has of the split above
    abbrev Own : Branch → Type 0
    Own b = IsOpened problem makers b way o

    vars : (b : Branch) (own : Own b) → own.has.variables ≡ variables
    vars b own =
        stands_variables problem o.clause (out-Formula own.has.formula) (out-Formula o.formula.now) own.has.variables variables own.has.stands stands

    layer_of : (b : Branch) (own : Own b) (y : Formula-F Formula) → out-Formula o.formula.now ≡ y → HasOpened b o own.has.named y
    layer_of b own y is = subst (HasOpened b o own.has.named) (ap out-Formula own.same ∙ is) own.opened

    of_and : (gs : List Formula) → out-Formula o.formula.now ≡ Formula-F.And gs → IsPartOf o rank r (Formula-F.And gs) → IsReached problem makers way facts clause r
    of_and gs is part =
        let here : StandsAt problem o.clause (Formula-F.And gs) variables = subst (λ y. StandsAt problem o.clause y variables) is stands in
        let own_part = part_of_and problem o.clause g.way clause variables gs (hanging.below o.clause (Formula-F.And gs) variables here) guards_are in
        let listed = hanging.listed o.clause (Formula-F.And gs) variables here in
        let low = slice_get_within problem.clauses o.clause listed.0 listed.1 in
        let slot : slot_of c.guards ≡ Some (o.clause + 1) = ap slot_of guards ∙ ap (λ k. Some (k + 1)) (sym same) in
        let counted : rank ≡ count_in (o.clause + 1) (take clause problem.clauses) = rank_there c (o.clause + 1) rank at slot (omega arith) has in
        let one : own_part.0 ≡ r.formula.now = same_Some own_part.0 r.formula.now (sym own_part.1 ∙ (ap (slice_get gs) (sym counted) ∙ part.1)) in
        let stands' : StandsAt problem clause (out-Formula r.formula.now) variables = subst (λ (h : Formula). StandsAt problem clause (out-Formula h) variables) one own_part.2 in
        record {
          variables = variables;
          stands = stands';
          leads = λ schema b rows isb.
              let own = isb.splits place o there in
              unsaid schema b r part.0
              (record {
                formula = r.formula.now;
                variables = own.has.variables;
                named = own.has.named;
                stands = subst (λ vs. StandsAt problem clause (out-Formula r.formula.now) vs) (sym (vars b own)) stands';
                is_fact = ap (slice_get b.facts) part.2 ∙ layer_of b own (Formula-F.And gs) is rank r.formula.now part.1;
                names = own.has.names;
              })
              refl;
        }

    of_or : (gs : List Formula) → out-Formula o.formula.now ≡ Formula-F.Or gs → IsPartOf o rank r (Formula-F.Or gs) → IsReached problem makers way facts clause r
    of_or gs is part =
        let here : StandsAt problem o.clause (Formula-F.Or gs) variables = subst (λ y. StandsAt problem o.clause y variables) is stands in
        let own_part = part_of_or problem o.clause g.way clause variables gs (hanging.below o.clause (Formula-F.Or gs) variables here) guards_are in
        let one : own_part.0 ≡ r.formula.now = same_Some own_part.0 r.formula.now (sym own_part.1 ∙ (ap (slice_get gs) (sym took) ∙ part.1)) in
        let stands' : StandsAt problem clause (out-Formula r.formula.now) variables = subst (λ (h : Formula). StandsAt problem clause (out-Formula h) variables) one own_part.2 in
        record {
          variables = variables;
          stands = stands';
          leads = λ schema b rows isb.
              let own = isb.splits place o there in
              unsaid schema b r part.0
              (record {
                formula = r.formula.now;
                variables = own.has.variables;
                named = own.has.named;
                stands = subst (λ vs. StandsAt problem clause (out-Formula r.formula.now) vs) (sym (vars b own)) stands';
                is_fact = ap (slice_get b.facts) part.2 ∙ layer_of b own (Formula-F.Or gs) is r.formula.now part.1;
                names = own.has.names;
              })
              refl;
        }

    of_exists : (table : ℕ) (body : Formula) → out-Formula o.formula.now ≡ Formula-F.Exists table body → IsPartOf o rank r (Formula-F.Exists table body) → IsReached problem makers way facts clause r
    of_exists table body is part =
        let here : StandsAt problem o.clause (Formula-F.Exists table body) variables = subst (λ y. StandsAt problem o.clause y variables) is stands in
        let hung = hanging.below o.clause (Formula-F.Exists table body) variables here in
        let inner = part_of_exists problem o.clause g.way clause table variables body hung guards_are in
        let stands' : StandsAt problem clause (out-Formula r.formula.now) (variables ++ hung.row ∷ []) =
        subst (λ (h : Formula). StandsAt problem clause (out-Formula h) (variables ++ hung.row ∷ [])) part.1 inner in
        let row : row_by makers way hung.row ≡ Some o.row = row_is makers way hung.row o.clause o (are_makers.all hung.row o.clause table hung.is_maker) found in
        record {
          variables = variables ++ hung.row ∷ [];
          stands = stands';
          leads = λ schema b rows isb.
              let own = isb.splits place o there in
              let facts' = layer_of b own (Formula-F.Exists table body) is in
              unsaid schema b r part.0
              (record {
                formula = r.formula.now;
                variables = variables ++ hung.row ∷ [];
                named = own.has.named ++ o.row ∷ [];
                stands = stands';
                is_fact = ap (slice_get b.facts) part.2 ∙ (facts'.0 ∙ ap (λ (h : Formula). Some (fact_of (own.has.named ++ o.row ∷ []) h)) part.1);
                names = names_last (row_by makers way) variables own.has.named hung.row o.row (subst (λ vs. Names (row_by makers way) vs own.has.named) (vars b own) own.has.names) row;
              })
              refl;
        }

    of_layer : (y : Formula-F Formula) → out-Formula o.formula.now ≡ y → IsPartOf o rank r y → IsReached problem makers way facts clause r
    of_layer (Formula-F.Atom a) is part = absurd part
    of_layer (Formula-F.And gs) is part = of_and gs is part
    of_layer (Formula-F.Or gs) is part = of_or gs is part
    of_layer (Formula-F.Exists table body) is part = of_exists table body is part
    of_layer (Formula-F.Forall table body) is part = absurd part

  pub part_reached : (c : Clause) (rank : ℕ) (r : Reached) (g : Guard) (o : Opened) → slice_get problem.clauses clause ≡ Some c → c.guards ≡ g ∷ [] → slice_get ranks clause ≡ Some rank →
      AreStanding problem way → opened_at way g.clause ≡ Some o → o.way ≡ g.way → IsPartOf o rank r (out-Formula o.formula.now) → IsReached problem makers way facts clause r
  part_reached c rank r g o at guards has standing opened took part =
      let own = opened_in way g.clause o opened in
      let stands = standing own.0 o own.1 in
      of_layer c at rank r has g guards o own.0 own.1 (ap (opened_at way) own.2 ∙ opened) own.2 took stands.0 stands.1 (out-Formula o.formula.now) refl part

  -- ---- at a row

  module _ (r : Reached) (g h : Guard) (guards : guards_at problem clause ≡ g ∷ h ∷ []) (o m : Opened) (place other : ℕ) (there : slice_get way place ≡ Some o) (there' : slice_get way other ≡ Some m)
      (opened : opened_at way m.clause ≡ Some m) (first : o.clause ≡ g.clause) (second : m.clause ≡ h.clause) where
    at_layer : (table : ℕ) (body : Formula) → out-Formula o.formula.now ≡ Formula-F.Forall table body → IsAtRow o m facts r (Formula-F.Forall table body) →
        (variables : List ℕ) → StandsAt problem o.clause (Formula-F.Forall table body) variables → IsReached problem makers way facts clause r
    at_layer table body is says variables stands =
        let inner = inside_at problem hanging clause g h guards in
        let row : ℕ = inner.1.0 in
        let hung = inner.1.1.1 in
        let above : o.clause ≡ inner.0 = first ∙ ap (λ (g : Guard). g.clause) inner.1.1.2 in
        let maker : m.clause ≡ inner.1.1.0 = second ∙ ap (λ (g : Guard). g.clause) inner.1.1.3 in
        let above_is : StandsAt problem o.clause (Formula-F.Forall hung.table hung.body) hung.variables =
        subst (λ k. StandsAt problem k (Formula-F.Forall hung.table hung.body) hung.variables) (sym above) hung.above_is in
        let layers : Formula-F.Forall table body ≡ Formula-F.Forall hung.table hung.body =
        stands_one problem o.clause (Formula-F.Forall table body) (Formula-F.Forall hung.table hung.body) variables hung.variables stands above_is in
        let tables_one : table ≡ hung.table = cc in
        let bodies : hung.body ≡ r.formula.now = let e : hung.body ≡ body = cc in e ∙ says.1 in
        let stands' : StandsAt problem clause (out-Formula r.formula.now) (hung.variables ++ row ∷ []) =
        subst (λ (f : Formula). StandsAt problem clause (out-Formula f) (hung.variables ++ row ∷ [])) bodies hung.clause_is in
        let at : row_by makers way row ≡ Some m.row = row_is makers way row m.clause m (are_makers.all row inner.1.1.0 hung.table hung.row_is ∙ ap Some (sym maker)) opened in
        record {
          variables = hung.variables ++ row ∷ [];
          stands = stands';
          leads = λ schema b rows isb.
              let own = isb.splits place o there in
              let made = isb.splits other m there' in
              let layer : out-Formula own.has.formula ≡ Formula-F.Forall table body = ap out-Formula own.same ∙ is in
              let vars : own.has.variables ≡ hung.variables =
              stands_variables problem o.clause (out-Formula own.has.formula) (Formula-F.Forall hung.table hung.body) own.has.variables hung.variables own.has.stands above_is in
              let maker_is : StandsAt problem m.clause (Formula-F.Exists hung.table hung.row_is.body) hung.row_is.variables =
              subst (λ k. StandsAt problem k (Formula-F.Exists hung.table hung.row_is.body) hung.row_is.variables) (sym maker) hung.row_is.stands in
              let maker_layer : out-Formula made.has.formula ≡ Formula-F.Exists hung.table hung.row_is.body =
              stands_one problem m.clause (out-Formula made.has.formula) (Formula-F.Exists hung.table hung.row_is.body) made.has.variables hung.row_is.variables made.has.stands maker_is in
              let came : HasOpened b m made.has.named (Formula-F.Exists hung.table hung.row_is.body) = subst (HasOpened b m made.has.named) maker_layer made.opened in
              let new : Fact = fact_of (own.has.named ++ m.row ∷ []) body in
              let right : children schema b (step.All o.fact m.row) ≡ Some (with_facts b (new ∷ []) ∷ []) =
              opened_is schema problem hanging b o.fact own.has.named own.has.formula (Formula-F.Forall table body) (at_row m.row) own.has.is_fact layer
              ∙ at_row_is schema problem hanging m.row table body b own.has.named (came.1 ∙ ap Some (sym tables_one)) in
              let said : (rest : List Branch) → branches_after schema (step.All o.fact m.row ∷ []) (b ∷ rest) ≡ Some (with_facts b (new ∷ []) ∷ rest) =
              λ rest. ap (option_and_then (λ bs. branches_after schema [] (bs ++ rest))) right in
              record {
                more = new ∷ [];
                count = sym (ap (λ (s : Option Said). length (said_steps s)) says.0);
                after = λ rest. ap (λ (s : Option Said). branches_after schema (said_steps s) (b ∷ rest)) says.0 ∙ said rest;
                has = record {
                  formula = r.formula.now;
                  variables = hung.variables ++ row ∷ [];
                  named = own.has.named ++ m.row ∷ [];
                  stands = stands';
                  is_fact = ap (slice_get (b.facts ++ new ∷ [])) (says.2 ∙ sym isb.facts_are) ∙ (get_middle b.facts new [] ∙ ap (λ (f : Formula). Some (fact_of (own.has.named ++ m.row ∷ []) f)) says.1);
                  names = names_last (row_by makers way) hung.variables own.has.named row m.row (subst (λ vs. Names (row_by makers way) vs own.has.named) vars own.has.names) at;
                };
                same = refl;
              };
        }

    by_layer : (y : Formula-F Formula) → out-Formula o.formula.now ≡ y → IsAtRow o m facts r y → (variables : List ℕ) → StandsAt problem o.clause y variables → IsReached problem makers way facts clause r
    by_layer (Formula-F.Atom a) is says variables stands = absurd says
    by_layer (Formula-F.And gs) is says variables stands = absurd says
    by_layer (Formula-F.Or gs) is says variables stands = absurd says
    by_layer (Formula-F.Exists table body) is says variables stands = absurd says
    by_layer (Formula-F.Forall table body) is says variables stands = at_layer table body is says variables stands

  pub row_reached : (c : Clause) (r : Reached) (g h : Guard) (o m : Opened) → slice_get problem.clauses clause ≡ Some c → c.guards ≡ g ∷ h ∷ [] →
      AreStanding problem way → opened_at way g.clause ≡ Some o → opened_at way h.clause ≡ Some m → IsAtRow o m facts r (out-Formula o.formula.now) → IsReached problem makers way facts clause r
  row_reached c r g h o m at guards standing opened made says =
      let own = opened_in way g.clause o opened in
      let other = opened_in way h.clause m made in
      let stands = standing own.0 o own.1 in
      by_layer r g h (guards_there problem clause c at ∙ guards) o m own.0 other.0 own.1 other.1 (ap (opened_at way) other.2 ∙ made) own.2 other.2
      (out-Formula o.formula.now) refl says stands.0 stands.1
