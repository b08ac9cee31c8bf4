-- A closed leaf closes each branch in which its choices are known.
use Rattle.std.proofs.Common.{◌≡◌, ◌∙◌, sym, ap, ap₂, refl, subst, ℕ, zero, suc, ◌+◌, ◌-◌, ◌<◌, inl, inr, true, false, ◌&&◌, ◌||◌, List, [], ◌∷◌, ◌++◌, length, map, arith}
use Rattle.std.proofs.lemmas.Bool.{and_parts, or_cases, eqb-true}
use Rattle.std.proofs.lemmas.Bool.Decides.{nat_tests}
use Rattle.std.proofs.lemmas.Option.{option_and_then_some, same_Some}
use Rattle.std.specs.Prelude.{Option, Some, None, slice_get, nat_lt, nat_eq, option_and_then, unwrap_or}
use Rattle.std.specs.Option.{option_map_or}
use Rattle.lint_core.specs.declared.certificate.Step.{Step}
use Rattle.lint_core.specs.declared.schema.Column.{Column}
use Rattle.lint_core.specs.declared.schema.Domain.{Domain}
use Rattle.lint_core.specs.declared.schema.Table.{Table}
use Rattle.sort_formula.specs.declared.formula.Side.{Side}
use Rattle.sort_formula.specs.declared.formula.Side.TheVariants as side
use Rattle.sort_formula.specs.declared.formula.Atom.{Atom}
use Rattle.sort_formula.specs.declared.formula.Atom.TheVariants as atom
use Rattle.sort_formula.specs.declared.formula.Formula.{Formula, out-Formula}
use Rattle.sort_formula.specs.declared.formula.Formula.TheOpen.{Formula-F}
use Rattle.sort_formula.specs.Certificate.{children, branches_after}
use Rattle.sort_formula.specs.Facts.{Fact, Branch, atom_of, atom_in, atom_at, side_at, sides_at, domain_at}
use Rattle.sort_formula.specs.Placed.{placed_row, placed_side, placed_atom}
use Rattle.sort_formula.specs.Variables.{side_is_below, atom_is_below}
use Rattle.ground_theory.specs.declared.literal.Guard.{Guard}
use Rattle.ground_theory.specs.declared.literal.Literal.{Literal}
use Rattle.ground_theory.specs.Moving.{renamed_side, renamed, side_has_row, has_row}
use Rattle.ground_theory.specs.declared.literal.Conflict.{Conflict}
use Rattle.ground_theory.specs.Leaves.{bare_column, bare_table, bare_schema, literal_branch, is_right_leaf}
use Rattle.ground_theory.specs.Moving.{moved}
use Rattle.ground_theory.proofs.RightLeaves.{leaf_moves}
use Rattle.case_split.specs.declared.tree.CaseTree.{CaseTree}
use Rattle.case_split.specs.declared.tree.CaseTree.TheOpen.{CaseTree-F}
use Rattle.case_split.specs.Choices.{literal_of}
use Rattle.case_split.specs.Trees.{is_among, are_among, literal_at, literals_at, closed_step, is_closed}
use Rattle.lint_base.proofs.Lists.{below_true, true_below}
use Rattle.ground_theory.proofs.Moving.{passes}
use Rattle.instantiate.specs.declared.problem.Problem.{Problem}
use Rattle.instantiate.specs.Ground.{ways_in, domains_of}
use Rattle.instantiate.specs.Hanging.{StandsAt, Hanging}
use Rattle.proof_cert.specs.inner.Known.{Pairs, row_of, Names, HasFact, Grounded}
use Rattle.proof_cert.proofs.Refuting.{refutes}

-- ---- a named list of variables

names_at : (row_for : ℕ → Option ℕ) (vs rs : List ℕ) → Names row_for vs rs → (i : ℕ) → nat_lt i (length vs) ≡ true →
    (v : ℕ) × ((r : ℕ) × (slice_get vs i ≡ Some v) × (slice_get rs i ≡ Some r) × (row_for v ≡ Some r))
names_at row_for [] rs names i low = absurd (let e : i < 0 = grind (arith, nat_tests) in omega arith)
names_at row_for (v ∷ vs) [] names i low = absurd names
names_at row_for (v ∷ vs) (r ∷ rs) names zero low = (v, (r, refl, refl, names.0))
names_at row_for (v ∷ vs) (r ∷ rs) names (suc i) low = names_at row_for vs rs names.1 i (let e : suc i < suc (length vs) = below_true (suc i) (suc (length vs)) low in true_below i (length vs) (omega arith))

-- each named row term is renamed to its row
module _ (row_for : ℕ → Option ℕ) (rename : ℕ → ℕ) (agrees : (v r : ℕ) → row_for v ≡ Some r → rename v ≡ r) (vs rs : List ℕ) (names : Names row_for vs rs) where
  -- the row of the branch for a variable is that for its row term
  row_at : (i : ℕ) → nat_lt i (length vs) ≡ true → slice_get rs i ≡ Some (rename (placed_row vs 0 i))
  row_at i low =
      let n = names_at row_for vs rs names i low in
      n.1.2 ∙ (ap (λ (r : ℕ). Some r) (sym (agrees n.0 n.1.0 n.1.3)) ∙ ap (λ (o : Option ℕ). Some (rename (unwrap_or o (0 + (i - length vs))))) (sym n.1.1))

  side_named : (s : Side) → side_is_below (length vs) s ≡ true → side_at rs s ≡ Some (renamed_side rename (placed_side vs 0 s))
  side_named (side.Cell row column) low = ap (option_and_then (λ r. Some (side.Cell r column))) (row_at row low)
  side_named side.Zero low = refl
  side_named (side.Text text) low = refl

  sides_named : (make : Side → Side → Atom) (left right : Side) → (side_is_below (length vs) left && side_is_below (length vs) right) ≡ true →
      sides_at rs make left right ≡ Some (make (renamed_side rename (placed_side vs 0 left)) (renamed_side rename (placed_side vs 0 right)))
  sides_named make left right low =
      let both = and_parts (side_is_below (length vs) left) (side_is_below (length vs) right) low in
      ap₂ (λ (l r : Option Side). option_and_then (λ l. option_and_then (λ r. Some (make l r)) r) l) (side_named left both.0) (side_named right both.1)

  atom_named : (a : Atom) → atom_is_below (length vs) a ≡ true → atom_at rs a ≡ Some (renamed rename (placed_atom vs 0 a))
  atom_named (atom.Le left right most) low = sides_named (λ l r. atom.Le l r most) left right low
  atom_named (atom.TextEq left right) low = sides_named atom.TextEq left right low
  atom_named (atom.TextNe left right) low = sides_named atom.TextNe left right low
  atom_named (atom.IsNull row column) low = ap (option_and_then (λ r. Some (atom.IsNull r column))) (row_at row low)
  atom_named (atom.NotNull row column) low = ap (option_and_then (λ r. Some (atom.NotNull r column))) (row_at row low)
  atom_named (atom.Same row other) low =
      let both = and_parts (nat_lt row (length vs)) (nat_lt other (length vs)) low in
      ap₂ (λ (p q : Option ℕ). option_and_then (λ r. option_and_then (λ s. Some (atom.Same r s)) q) p) (row_at row both.0) (row_at other both.1)
  atom_named (atom.Other row other) low =
      let both = and_parts (nat_lt row (length vs)) (nat_lt other (length vs)) low in
      ap₂ (λ (p q : Option ℕ). option_and_then (λ r. option_and_then (λ s. Some (atom.Other r s)) q) p) (row_at row both.0) (row_at other both.1)

  -- ---- each row of the literal has a name

  abbrev Named : ℕ → Type 0
  Named row = (r : ℕ) × (row_for row ≡ Some r)

  named_row : (i row : ℕ) → nat_lt i (length vs) ≡ true → nat_eq row (placed_row vs 0 i) ≡ true → Named row
  named_row i row low same =
      let n = names_at row_for vs rs names i low in
      let is : row ≡ n.0 = eqb-true row (placed_row vs 0 i) same ∙ ap (λ (o : Option ℕ). unwrap_or o (0 + (i - length vs))) n.1.1 in
      (n.1.0, ap row_for is ∙ n.1.3)

  named_side : (row : ℕ) (s : Side) → side_is_below (length vs) s ≡ true → side_has_row row (placed_side vs 0 s) ≡ true → Named row
  named_side row (side.Cell i column) low has = named_row i row low has
  named_side row side.Zero low has = cc
  named_side row (side.Text text) low has = cc

  named_sides : (row : ℕ) (left right : Side) → (side_is_below (length vs) left && side_is_below (length vs) right) ≡ true →
      (side_has_row row (placed_side vs 0 left) || side_has_row row (placed_side vs 0 right)) ≡ true → Named row
  named_sides row left right low has =
      let both = and_parts (side_is_below (length vs) left) (side_is_below (length vs) right) low in
      elim (or_cases (side_has_row row (placed_side vs 0 left)) (side_has_row row (placed_side vs 0 right)) has) [
        | inl here ↦ named_side row left both.0 here
        | inr there ↦ named_side row right both.1 there
      ]

  named_rows : (row i j : ℕ) → (nat_lt i (length vs) && nat_lt j (length vs)) ≡ true → (nat_eq row (placed_row vs 0 i) || nat_eq row (placed_row vs 0 j)) ≡ true → Named row
  named_rows row i j low has =
      let both = and_parts (nat_lt i (length vs)) (nat_lt j (length vs)) low in
      elim (or_cases (nat_eq row (placed_row vs 0 i)) (nat_eq row (placed_row vs 0 j)) has) [
        | inl here ↦ named_row i row both.0 here
        | inr there ↦ named_row j row both.1 there
      ]

  named_in : (a : Atom) (row : ℕ) → atom_is_below (length vs) a ≡ true → has_row row (placed_atom vs 0 a) ≡ true → Named row
  named_in (atom.Le left right most) row low has = named_sides row left right low has
  named_in (atom.TextEq left right) row low has = named_sides row left right low has
  named_in (atom.TextNe left right) row low has = named_sides row left right low has
  named_in (atom.IsNull i column) row low has = named_row i row low has
  named_in (atom.NotNull i column) row low has = named_row i row low has
  named_in (atom.Same i j) row low has = named_rows row i j low has
  named_in (atom.Other i j) row low has = named_rows row i j low has

-- ---- domains

-- the domain of a column of a table of the schema
abbrev domain_in : List Table → ℕ → ℕ → Option Domain
domain_in schema table column = option_and_then (λ (t : Table). option_and_then (λ (c : Column). Some c.domain) (slice_get t.columns column)) (slice_get schema table)

column_domain : (cs : List Column) (column : ℕ) →
    option_and_then (λ (c : Column). Some c.domain) (slice_get cs column)
    ≡ option_and_then (λ (c : Column). Some c.domain) (slice_get (map bare_column (map (λ (c : Column). c.domain) cs)) column)
column_domain [] column = refl
column_domain (c ∷ cs) zero = refl
column_domain (c ∷ cs) (suc column) = column_domain cs column

table_domain : (schema : List Table) (table column : ℕ) → domain_in schema table column ≡ domain_in (map bare_table (domains_of schema)) table column
table_domain [] table column = refl
table_domain (t ∷ ts) zero column = column_domain t.columns column
table_domain (t ∷ ts) (suc table) column = table_domain ts table column

abbrev no_literal : Formula → Option Literal
no_literal g = None

abbrev literal_in : List (Option Literal) → ℕ → Option Literal
literal_in ways way = option_and_then (λ l. l) (slice_get ways way)

-- ---- leaves

module _ (schema : List Table) (problem : Problem) (hanging : Hanging problem) (same_domains : domains_of schema ≡ problem.frame.domains) (b : Branch)
    (row_for : ℕ → Option ℕ) (rename : ℕ → ℕ) (agrees : (v r : ℕ) → row_for v ≡ Some r → rename v ≡ r)
    (tables : (row named : ℕ) → row_for row ≡ Some named → (table : ℕ) × (slice_get b.tables named ≡ Some table) × (slice_get problem.frame.tables row ≡ Some table)) where
  -- the fact says what the literal says
  abbrev pub Says : Literal → ℕ → Type 0
  Says l fact =
      (atom_of b fact ≡ Some (renamed rename l.atom)) × ((row : ℕ) → has_row row l.atom ≡ true → (r : ℕ) × (row_for row ≡ Some r))

  no_way : (gs : List Formula) (way : ℕ) (l : Literal) → literal_in (map (λ (g : Formula). no_literal g) gs) way ≡ Some l → ⊥
  no_way [] way l is = cc
  no_way (g ∷ gs) zero l is = cc
  no_way (g ∷ gs) (suc way) l is = no_way gs way l is

  one_none : (way : ℕ) (l : Literal) → literal_in (None ∷ []) way ≡ Some l → ⊥
  one_none zero l is = cc
  one_none (suc way) l is = cc

  one_some : (m : Literal) (way : ℕ) (l : Literal) → literal_in (Some m ∷ []) way ≡ Some l → m ≡ l
  one_some m zero l is = same_Some m l is
  one_some m (suc way) l is = cc

  says_layer : (clause fact way : ℕ) (l : Literal) (has : HasFact problem b row_for clause fact) (y : Formula-F Formula) → out-Formula has.formula ≡ y → StandsAt problem clause y has.variables →
      literal_in (ways_in has.variables y) way ≡ Some l → Says l fact
  says_layer clause fact way l has (Formula-F.And gs) is stands at = absurd (one_none way l at)
  says_layer clause fact way l has (Formula-F.Or gs) is stands at = absurd (no_way gs way l at)
  says_layer clause fact way l has (Formula-F.Exists table body) is stands at = absurd (one_none way l at)
  says_layer clause fact way l has (Formula-F.Forall table body) is stands at = absurd (one_none way l at)
  says_layer clause fact way l has (Formula-F.Atom a) is stands at =
      let low = hanging.bound clause a has.variables stands in
      let same : record { atom = placed_atom has.variables 0 a } ≡ l = one_some (record { atom = placed_atom has.variables 0 a }) way l at in
      let atoms : placed_atom has.variables 0 a ≡ l.atom = ap (λ (m : Literal). m.atom) same in (
        ap (option_and_then (λ (x : Fact). atom_in x.rows (out-Formula x.formula))) has.is_fact
            ∙ (ap (atom_in has.named) is ∙ (atom_named row_for rename agrees has.variables has.named has.names a low ∙ ap (λ (x : Atom). Some (renamed rename x)) atoms)),
        λ row named. named_in row_for rename agrees has.variables has.named has.names a row low (subst (λ (x : Atom). has_row row x ≡ true) (sym atoms) named),
      )

  -- the fact of a clause says what its literal says
  pub fact_says : (g : Guard) (l : Literal) → literal_at problem.clauses problem.frame g ≡ Some l → (fact : ℕ) → HasFact problem b row_for g.clause fact → Says l fact
  fact_says g l is fact has =
      let listed = hanging.listed g.clause (out-Formula has.formula) has.variables has.stands in
      says_layer g.clause fact g.way l has (out-Formula has.formula) refl has.stands
      (sym (ap (λ ways. literal_in ways g.way) listed.2) ∙ (sym (ap (option_and_then (λ c. literal_of c g.way)) listed.1) ∙ is))

  -- a row with a name has there the domains of its row term
  domains_are : (row r column : ℕ) → row_for row ≡ Some r → (ls : List Literal) →
      domain_at schema b (rename row) column ≡ domain_at (bare_schema problem.frame) (literal_branch problem.frame ls) row column
  domains_are row r column named ls =
      let t = tables row r named in
      let here : slice_get b.tables (rename row) ≡ Some t.0 = ap (slice_get b.tables) (agrees row r named) ∙ t.1 in
      ap (option_and_then (λ n. domain_in schema n column)) here
      ∙ (table_domain schema t.0 column
      ∙ (ap (λ (ds : List (List Domain)). domain_in (map bare_table ds) t.0 column) same_domains
      ∙ sym (ap (option_and_then (λ n. domain_in (bare_schema problem.frame) n column)) t.2)))

  -- so a right leaf closes the branch
  pub leaf_closes : (leaf : Step) (ls : List Literal) → is_right_leaf problem.frame ls leaf ≡ true → (fact : ℕ → ℕ) →
      ((i : ℕ) (l : Literal) → slice_get ls i ≡ Some l → Says l (fact i)) → children schema b (moved fact rename leaf) ≡ Some []
  leaf_closes leaf ls right fact say =
      leaf_moves problem.frame ls fact rename schema b
      (record {
        atoms = λ i l at. (say i l at).0;
        domains = λ i l row at has column. let r = (say i l at).1 row has in domains_are row r.0 column r.1 ls;
      })
      leaf right

module _ (schema : List Table) (problem : Problem) (hanging : Hanging problem) (same_domains : domains_of schema ≡ problem.frame.domains)
    (b : Branch) (facts rows : Pairs) (guards : List Guard) (grounded : Grounded problem b facts rows guards) where
  abbrev row_named : ℕ → ℕ
  row_named row = unwrap_or (row_of rows row) 0

  agree : (v r : ℕ) → row_of rows v ≡ Some r → row_named v ≡ r
  agree v r at = ap (λ (o : Option ℕ). unwrap_or o 0) at

  abbrev SaysHere : Literal → ℕ → Type 0
  SaysHere = Says schema problem hanging same_domains b (row_of rows) row_named agree grounded.tables

  -- of a way that is chosen
  says : (g : Guard) (l : Literal) → literal_at problem.clauses problem.frame g ≡ Some l → is_among guards g ≡ true → (fact : ℕ) × SaysHere l fact
  says g l is among =
      let known = (grounded.done g among).known in
      (known.0, fact_says schema problem hanging same_domains b (row_of rows) row_named agree grounded.tables g l is known.0 (grounded.is g.clause known.0 known.1))

  -- the facts of all
  abbrev AllSay : List ℕ → List Literal → Type 0
  AllSay ns ls = (i : ℕ) (l : Literal) → slice_get ls i ≡ Some l → SaysHere l (unwrap_or (slice_get ns i) 0)

  all_say : (gs : List Guard) (ls : List Literal) → literals_at problem.clauses problem.frame gs ≡ Some ls → are_among guards gs ≡ true → (ns : List ℕ) × AllSay ns ls
  all_say [] ls is among = ([], λ i l at. absurd (none_there i l (subst (λ (ls : List Literal). slice_get ls i ≡ Some l) (sym (same_Some [] ls is)) at)))
    where
      none_there : (i : ℕ) (l : Literal) → slice_get [] i ≡ Some l → ⊥
      none_there i l at = cc
  all_say (g ∷ gs) ls is among =
      let parts = and_parts (is_among guards g) (are_among guards gs) among in
      option_and_then_some (λ l. option_and_then (λ rest. Some (l ∷ rest)) (literals_at problem.clauses problem.frame gs)) (literal_at problem.clauses problem.frame g) ls is
      (λ l here more.
      option_and_then_some (λ rest. Some (l ∷ rest)) (literals_at problem.clauses problem.frame gs) ls more
      (λ rest there same.
      let first = says g l here parts.0 in
      let later = all_say gs rest there parts.1 in
      (first.0 ∷ later.0, λ i m at. together first.0 later.0 l rest first.1 later.1 i m (subst (λ (ls : List Literal). slice_get ls i ≡ Some m) (sym (same_Some (l ∷ rest) ls same)) at))))
    where
      together : (n : ℕ) (ns : List ℕ) (l : Literal) (rest : List Literal) → SaysHere l n → AllSay ns rest → AllSay (n ∷ ns) (l ∷ rest)
      together n ns l rest one all zero m at = subst (λ (l : Literal). SaysHere l n) (same_Some l m at) one
      together n ns l rest one all (suc i) m at = all i m at

  -- so the leaf closes it
  leaf_refutes : (conflict : Conflict) (chosen : List Guard) → closed_step problem.clauses problem.frame (CaseTree-F.Leaf conflict chosen) guards ≡ true →
      (step : Step) × (children schema b step ≡ Some [])
  leaf_refutes conflict chosen closed =
      let parts = and_parts (are_among guards chosen) (option_map_or (λ ls. is_right_leaf problem.frame ls conflict.leaf) (literals_at problem.clauses problem.frame chosen) false) closed in
      let ls = passes (λ ls. is_right_leaf problem.frame ls conflict.leaf) (literals_at problem.clauses problem.frame chosen) parts.1 in
      let say = all_say chosen ls.0 ls.1 parts.0 in
      let fact : ℕ → ℕ = λ i. unwrap_or (slice_get say.0 i) 0 in (
        moved fact row_named conflict.leaf,
        leaf_closes schema problem hanging same_domains b (row_of rows) row_named agree grounded.tables conflict.leaf ls.0 ls.2 fact say.1,
      )

-- a closed tree refutes each branch in which its choices are known
pub closed_refutes : (schema : List Table) (problem : Problem) (hanging : Hanging problem) → domains_of schema ≡ problem.frame.domains → (tree : CaseTree) (guards : List Guard) →
    is_closed problem.clauses problem.frame tree guards ≡ true → (b : Branch) (facts rows : Pairs) → Grounded problem b facts rows guards →
    (steps : List Step) × ((rest : List Branch) → branches_after schema steps (b ∷ rest) ≡ Some rest)
closed_refutes schema problem hanging same_domains =
    refutes schema problem hanging
    (λ conflict chosen guards closed b facts rows grounded.
    let leaf = leaf_refutes schema problem hanging same_domains b facts rows guards grounded conflict chosen closed in
    (leaf.0 ∷ [], λ rest. ap (option_and_then (λ bs. branches_after schema [] (bs ++ rest))) leaf.1))
