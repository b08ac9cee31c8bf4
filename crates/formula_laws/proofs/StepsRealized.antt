-- A right step leads from a realized branch to one among its children that is realized by the same places, or by these
-- and one more. So steps that close every branch close none that is realized.
use Rattle.std.proofs.Common.{◌≡◌, ◌∙◌, sym, ap, refl, subst, ℕ, zero, suc, true, false, ◌<◌, ◌≤◌, ◌⊎◌, inl, inr, List, [], ◌∷◌, ◌++◌, length, map, arith}
use Rattle.std.proofs.lemmas.Bool.{and_parts, or_cases, eqb-true}
use Rattle.std.proofs.lemmas.List.{length-map, map-append, append-nil}
use Rattle.std.proofs.lemmas.List.Folds.{list_all-map}
use Rattle.std.proofs.lemmas.Option.{option_and_then_some, same_Some, cond_some}
use Rattle.std.specs.Prelude.{Option, Some, slice_get, nat_lt, nat_eq}
use Rattle.std.specs.List.{AllByRecursion, list_all, list_any}
use Rattle.std.specs.Option.{option_map_or}
use Rattle.lint_core.specs.declared.certificate.Step.{Step}
use Rattle.lint_core.specs.declared.certificate.Step.TheVariants as step
use Rattle.lint_core.specs.declared.database.Database.{Database}
use Rattle.lint_core.specs.declared.schema.Table.{Table}
use Rattle.lint_core.specs.Database.{Place, rows_of, below, places_of}
use Rattle.lint_core.specs.Meets.{is_of_domains}
use Rattle.lint_base.proofs.Lists.{every_at, every_append, every_then, any_map, all_at, below_true, false_unless}
use Rattle.lint_core.proofs.Lists.{some_below, below_at}
use Rattle.sort_formula.specs.declared.formula.Formula.{Formula, out-Formula}
use Rattle.sort_formula.specs.declared.formula.Formula.TheOpen.{Formula-F}
use Rattle.sort_formula.specs.Axioms.{Axiom, axioms}
use Rattle.sort_formula.specs.Certificate.{with_facts, fact_of, with_parts, with_each_part, with_row, at_row, opened, children, branches_after, first_branch, are_closed, accepts}
use Rattle.sort_formula.specs.Chains.{is_null_clash, is_same_clash, is_text_clash}
use Rattle.sort_formula.specs.Facts.{Fact, Branch}
use Rattle.sort_formula.specs.Holds.{holds}
use Rattle.sort_formula.specs.Rings.{is_contradiction}
use Rattle.sort_formula.specs.Realized.{Names, Stands, HasRow, Realized}
use Rattle.sort_formula.proofs.Holding.{layer_holds, holds_out}
use Rattle.formula_laws.proofs.Linked.{passes, no_null_clash, no_same_clash, no_text_clash}
use Rattle.formula_laws.proofs.Named.{names_more, names_next, names_new}
use Rattle.formula_laws.proofs.Realized.{place_at}
use Rattle.formula_laws.proofs.RingEdges.{no_contradiction}

-- some branch of the list is realized
abbrev pub SomeRealized : Database → List Branch → Type 0
SomeRealized db [] = ⊥
SomeRealized db (b ∷ bs) = ((places : List Place) × Realized db b places) ⊎ SomeRealized db bs

realized_first : (db : Database) (xs ys : List Branch) → SomeRealized db xs → SomeRealized db (xs ++ ys)
realized_first db [] ys some = absurd some
realized_first db (x ∷ xs) ys some = elim some [ inl here ↦ inl here | inr later ↦ inr (realized_first db xs ys later) ]

realized_later : (db : Database) (xs ys : List Branch) → SomeRealized db ys → SomeRealized db (xs ++ ys)
realized_later db [] ys some = some
realized_later db (x ∷ xs) ys some = inr (realized_later db xs ys some)

-- the places realize the branch, or these and one more
abbrev pub Follows : Database → List Place → Branch → Type 0
Follows db places branch = (more : List Place) × (length more ≤ 1) × Realized db branch (places ++ more)

by_same : (db : Database) (places : List Place) (branch : Branch) → Realized db branch places → Follows db places branch
by_same db places branch realized = ([], omega arith, subst (Realized db branch) (sym (append-nil places)) realized)

-- some branch of the list is realized so
abbrev pub SomeFollows : Database → List Place → List Branch → Type 0
SomeFollows db places [] = ⊥
SomeFollows db places (b ∷ bs) = Follows db places b ⊎ SomeFollows db places bs

some_realized : (db : Database) (places : List Place) (bs : List Branch) → SomeFollows db places bs → SomeRealized db bs
some_realized db places [] some = some
some_realized db places (b ∷ bs) some =
    elim some [ inl here ↦ inl (places ++ here.0, here.2) | inr later ↦ inr (some_realized db places bs later) ]

-- that branch, by its number
abbrev pub FollowsAt : Database → List Place → List Branch → Type 0
FollowsAt db places bs =
    (i : ℕ) × (child : Branch) × (slice_get bs i ≡ Some child) × (more : List Place) × (length more ≤ 1) × Realized db child (places ++ more)

follows_at : (db : Database) (places : List Place) (bs : List Branch) → SomeFollows db places bs → FollowsAt db places bs
follows_at db places [] some = absurd some
follows_at db places (b ∷ bs) some =
    elim some [
      | inl here ↦ (zero, b, refl, here.0, here.1, here.2)
      | inr later ↦ let at = follows_at db places bs later in (suc at.0, at.1, at.2, at.3, at.4, at.5)
    ]

abbrev in_table : ℕ → ℕ → Place
in_table table row = record { table = table; row = row }

abbrev with_new_row : Branch → List ℕ → ℕ → Formula → Branch
with_new_row branch rs table body = record { facts = branch.facts ++ fact_of (rs ++ length branch.tables ∷ []) body ∷ []; tables = branch.tables ++ table ∷ [] }

module _ (db : Database) where
  more_facts : (branch : Branch) (places : List Place) → Realized db branch places → (more : List Fact) →
      AllByRecursion (Stands db places) more → Realized db (with_facts branch more) places
  more_facts branch places realized more stand = record {
    tables = realized.tables;
    rows = realized.rows;
    facts = every_append (Stands db places) branch.facts more realized.facts stand;
  }

  stands_more : (places more : List Place) (x : Fact) → Stands db places x → Stands db (places ++ more) x
  stands_more places more x stands = (stands.0, names_more places more x.rows stands.0 stands.1, stands.2)

  -- of a fact that holds at places ps, which its rows rs name, one of the children is realized
  abbrev Leads : (Branch → List ℕ → Formula-F Formula → Option (List Branch)) → Type 0
  Leads children_of =
      (branch : Branch) (places : List Place) → Realized db branch places → (rs : List ℕ) (ps : List Place) → Names places rs ps →
      (layer : Formula-F Formula) → layer_holds db layer ps ≡ true → (bs : List Branch) → children_of branch rs layer ≡ Some bs →
      SomeFollows db places bs

  opened_realized : (children_of : Branch → List ℕ → Formula-F Formula → Option (List Branch)) → Leads children_of → (branch : Branch) (places : List Place) →
      Realized db branch places → (fact : ℕ) (bs : List Branch) → opened branch fact children_of ≡ Some bs → SomeFollows db places bs
  opened_realized children_of leads branch places realized fact bs made =
      option_and_then_some (λ (x : Fact). children_of branch x.rows (out-Formula x.formula)) (slice_get branch.facts fact) bs made
      (λ x at more.
      let stands = every_at (Stands db places) branch.facts fact x realized.facts at in
      leads branch places realized x.rows stands.0 stands.1 (out-Formula x.formula) (sym (holds_out db x.formula stands.0) ∙ stands.2) bs more)

  parts_stand : (places : List Place) (rs : List ℕ) (ps : List Place) → Names places rs ps → (parts : List Formula) →
      list_all (λ m. m ps) (map (holds db) parts) ≡ true → AllByRecursion (Stands db places) (map (fact_of rs) parts)
  parts_stand places rs ps names [] all = tt
  parts_stand places rs ps names (part ∷ parts) all =
      let both = and_parts (holds db part ps) (list_all (λ m. m ps) (map (holds db) parts)) all in
      ((ps, names, both.0), parts_stand places rs ps names parts both.1)

  and_leads : Leads with_parts
  and_leads branch places realized rs ps names (Formula-F.And parts) stands bs made =
      let more = map (fact_of rs) parts in
      subst (SomeFollows db places) (same_Some (with_facts branch more ∷ []) bs made)
      (inl (by_same db places (with_facts branch more) (more_facts branch places realized more (parts_stand places rs ps names parts stands))))
  and_leads branch places realized rs ps names (Formula-F.Atom a) stands bs made = cc
  and_leads branch places realized rs ps names (Formula-F.Or parts) stands bs made = cc
  and_leads branch places realized rs ps names (Formula-F.Exists table body) stands bs made = cc
  and_leads branch places realized rs ps names (Formula-F.Forall table body) stands bs made = cc

  some_part : (branch : Branch) (places : List Place) → Realized db branch places → (rs : List ℕ) (ps : List Place) → Names places rs ps →
      (parts : List Formula) → list_any (λ m. m ps) (map (holds db) parts) ≡ true →
      SomeFollows db places (map (λ part. with_facts branch (fact_of rs part ∷ [])) parts)
  some_part branch places realized rs ps names [] some = cc
  some_part branch places realized rs ps names (part ∷ parts) some =
      elim (or_cases (holds db part ps) (list_any (λ m. m ps) (map (holds db) parts)) some) [
        | inl here ↦
            let new : List Fact = fact_of rs part ∷ [] in
            inl (by_same db places (with_facts branch new) (more_facts branch places realized new ((ps, names, here), tt)))
        | inr later ↦ inr (some_part branch places realized rs ps names parts later)
      ]

  or_leads : Leads with_each_part
  or_leads branch places realized rs ps names (Formula-F.Or parts) stands bs made =
      subst (SomeFollows db places) (same_Some (map (λ part. with_facts branch (fact_of rs part ∷ [])) parts) bs made)
      (some_part branch places realized rs ps names parts stands)
  or_leads branch places realized rs ps names (Formula-F.Atom a) stands bs made = cc
  or_leads branch places realized rs ps names (Formula-F.And parts) stands bs made = cc
  or_leads branch places realized rs ps names (Formula-F.Exists table body) stands bs made = cc
  or_leads branch places realized rs ps names (Formula-F.Forall table body) stands bs made = cc

  new_row : (branch : Branch) (places : List Place) → Realized db branch places → (rs : List ℕ) (ps : List Place) → Names places rs ps →
      (table : ℕ) (body : Formula) (row : ℕ) → HasRow db (in_table table row) → holds db body (ps ++ in_table table row ∷ []) ≡ true →
      Realized db (with_new_row branch rs table body) (places ++ in_table table row ∷ [])
  new_row branch places realized rs ps names table body row there stands =
      let place : Place = in_table table row in
      let more : List Place = places ++ place ∷ [] in
      let count : length places ≡ length branch.tables = sym (length-map places (λ (p : Place). p.table)) ∙ ap length realized.tables in
      let new : Stands db more (fact_of (rs ++ length branch.tables ∷ []) body) =
      (ps ++ place ∷ [], subst (λ n. Names more (rs ++ n ∷ []) (ps ++ place ∷ [])) count (names_new places place rs ps names), stands) in
      record {
        tables = map-append (λ (p : Place). p.table) places (place ∷ []) ∙ ap (λ ts. ts ++ table ∷ []) realized.tables;
        rows = every_append (HasRow db) places (place ∷ []) realized.rows (there, tt);
        facts = every_append (Stands db more) branch.facts (fact_of (rs ++ length branch.tables ∷ []) body ∷ [])
            (every_then (Stands db places) (Stands db more) (stands_more places (place ∷ [])) branch.facts realized.facts)
            (new, tt);
      }

  exists_leads : Leads with_row
  exists_leads branch places realized rs ps names (Formula-F.Exists table body) stands bs made =
      let count : ℕ = length (rows_of db table) in
      let found = some_below (λ row. holds db body (ps ++ in_table table row ∷ [])) count
      (sym (any_map (in_table table) (λ place. holds db body (ps ++ place ∷ [])) (below count)) ∙ stands) in
      subst (SomeFollows db places) (same_Some (with_new_row branch rs table body ∷ []) bs made)
      (inl (in_table table found.0 ∷ [], omega arith, new_row branch places realized rs ps names table body found.0 found.1 found.2))
  exists_leads branch places realized rs ps names (Formula-F.And parts) stands bs made = cc
  exists_leads branch places realized rs ps names (Formula-F.Or parts) stands bs made = cc
  exists_leads branch places realized rs ps names (Formula-F.Atom a) stands bs made = cc
  exists_leads branch places realized rs ps names (Formula-F.Forall table body) stands bs made = cc

  -- what holds at all places of a table holds at one that has a row
  at_place : (table : ℕ) (body : Formula) (ps : List Place) → list_all (λ place. holds db body (ps ++ place ∷ [])) (places_of db table) ≡ true →
      (place : Place) → place.table ≡ table → HasRow db place → holds db body (ps ++ place ∷ []) ≡ true
  at_place table body ps all place same there =
      let count : ℕ = length (rows_of db table) in
      let low : place.row < count = below_true place.row count (subst (λ t. nat_lt place.row (length (rows_of db t)) ≡ true) same there) in
      let one : in_table table place.row ≡ place = ap (λ t. in_table t place.row) (sym same) in
      subst (λ (p : Place). holds db body (ps ++ p ∷ []) ≡ true) one
      (all_at (λ row. holds db body (ps ++ in_table table row ∷ [])) (below count) place.row place.row
      (sym (list_all-map (λ place. holds db body (ps ++ place ∷ [])) (in_table table) (below count)) ∙ all)
      (below_at count place.row low))

  forall_leads : (row : ℕ) → Leads (at_row row)
  forall_leads row branch places realized rs ps names (Formula-F.Forall table body) stands bs made =
      let new : Fact = fact_of (rs ++ row ∷ []) body in
      let parts = cond_some (option_map_or (nat_eq table) (slice_get branch.tables row) false) (with_facts branch (new ∷ []) ∷ []) bs made in
      let at = passes (nat_eq table) (slice_get branch.tables row) parts.0 in
      let place = place_at places branch.tables row at.0 realized.tables at.1 in
      let same : place.0.table ≡ table = place.2 ∙ sym (eqb-true table at.0 at.2) in
      let there : HasRow db place.0 = every_at (HasRow db) places row place.0 realized.rows place.1 in
      let stand : Stands db places new =
      (ps ++ place.0 ∷ [], names_next places rs ps names row place.0 place.1, at_place table body ps stands place.0 same there) in
      subst (SomeFollows db places) parts.1
      (inl (by_same db places (with_facts branch (new ∷ [])) (more_facts branch places realized (new ∷ []) (stand, tt))))
  forall_leads row branch places realized rs ps names (Formula-F.Exists table body) stands bs made = cc
  forall_leads row branch places realized rs ps names (Formula-F.And parts) stands bs made = cc
  forall_leads row branch places realized rs ps names (Formula-F.Or parts) stands bs made = cc
  forall_leads row branch places realized rs ps names (Formula-F.Atom a) stands bs made = cc

  axioms_stand : (xs : List Axiom) → list_all (λ (a : Axiom). holds db a.sentence []) xs ≡ true →
      AllByRecursion (Stands db []) (map (λ (a : Axiom). fact_of [] a.sentence) xs)
  axioms_stand [] all = tt
  axioms_stand (x ∷ xs) all =
      let both = and_parts (holds db x.sentence []) (list_all (λ (a : Axiom). holds db a.sentence []) xs) all in
      (([], tt, both.0), axioms_stand xs both.1)

closed_is : (branches : List Branch) → are_closed branches ≡ true → branches ≡ []
closed_is [] closed = refl
closed_is (b ∷ bs) closed = cc

module _ (schema : List Table) (db : Database) (domains : is_of_domains schema db ≡ true) where
  -- a right step's children: one of them is realized where the branch is
  step_follows : (branch : Branch) (places : List Place) → Realized db branch places → (s : Step) (bs : List Branch) →
      children schema branch s ≡ Some bs → SomeFollows db places bs
  step_follows branch places realized (step.And fact) bs made = opened_realized db with_parts (and_leads db) branch places realized fact bs made
  step_follows branch places realized (step.Or fact) bs made = opened_realized db with_each_part (or_leads db) branch places realized fact bs made
  step_follows branch places realized (step.Ex fact) bs made = opened_realized db with_row (exists_leads db) branch places realized fact bs made
  step_follows branch places realized (step.All fact row) bs made =
      opened_realized db (at_row row) (forall_leads db row) branch places realized fact bs made
  step_follows branch places realized (step.Sum edges) bs made =
      absurd (no_contradiction schema db domains branch places realized edges (cond_some (is_contradiction schema branch edges) [] bs made).0)
  step_follows branch places realized (step.Text last edges) bs made =
      absurd (no_text_clash db branch places realized schema last edges (cond_some (is_text_clash schema branch last edges) [] bs made).0)
  step_follows branch places realized (step.Null fact other path) bs made =
      absurd (no_null_clash db branch places realized fact other path (cond_some (is_null_clash branch fact other path) [] bs made).0)
  step_follows branch places realized (step.Same fact path) bs made =
      absurd (no_same_clash db branch places realized fact path (cond_some (is_same_clash branch fact path) [] bs made).0)

  pub step_realized : (branch : Branch) (places : List Place) → Realized db branch places → (s : Step) (bs : List Branch) →
      children schema branch s ≡ Some bs → SomeRealized db bs
  step_realized branch places realized s bs made = some_realized db places bs (step_follows branch places realized s bs made)

  pub some_child : (branch : Branch) (places : List Place) → Realized db branch places → (s : Step) (bs : List Branch) →
      children schema branch s ≡ Some bs → FollowsAt db places bs
  some_child branch places realized s bs made = follows_at db places bs (step_follows branch places realized s bs made)

  -- steps that close all branches leave none that is realized
  none_realized : (steps : List Step) (branches : List Branch) → branches_after schema steps branches ≡ Some [] →
      SomeRealized db branches → ⊥
  none_realized [] branches closed some = subst (SomeRealized db) (same_Some branches [] closed) some
  none_realized (s ∷ steps) [] closed some = some
  none_realized (s ∷ steps) (b ∷ bs) closed some =
      option_and_then_some (λ new. branches_after schema steps (new ++ bs)) (children schema b s) [] closed
      (λ new made rest.
      none_realized steps (new ++ bs) rest
      (elim some [
        | inl here ↦ realized_first db new bs (step_realized b here.0 here.1 s new made)
        | inr later ↦ realized_later db new bs later
      ]))

  pub refuted : (sentence : Formula) (steps : List Step) → accepts schema sentence steps ≡ true →
      list_all (λ (a : Axiom). holds db a.sentence []) (axioms schema) ≡ true → holds db sentence [] ≡ false
  refuted sentence steps accepted all =
      let first : Branch = first_branch schema sentence in
      let end = passes are_closed (branches_after schema steps (first ∷ [])) accepted in
      let closed : branches_after schema steps (first ∷ []) ≡ Some [] = end.1 ∙ ap Some (closed_is end.0 end.2) in
      false_unless (holds db sentence [])
      (λ stands. none_realized steps (first ∷ []) closed
      (inl ([], record { tables = refl; rows = tt; facts = (([], tt, stands), axioms_stand db (axioms schema) all) })))
