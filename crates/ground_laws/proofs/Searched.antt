-- A problem whose sentences fit a schema can be searched.
use Rattle.std.proofs.Common.{◌≡◌, ◌∙◌, ap, refl, subst, ℕ, suc, ◌<◌, ◌≤◌, ◌^◌, Bool, true, ◌&&◌, ◌+◌, List, [], ◌∷◌, length, map, nat_le, arith}
use Rattle.std.proofs.lemmas.Bool.{and_parts, and_from}
use Rattle.std.proofs.lemmas.Bool.Decides.{nat_tests}
use Rattle.std.proofs.lemmas.List.{length-map}
use Rattle.std.proofs.lemmas.List.Folds.{list_all-map}
use Rattle.std.proofs.lemmas.Option.{slice_get_within, get_or_from_slice_get}
use Rattle.std.specs.Prelude.{Option, Some, None, slice_get, nat_lt}
use Rattle.std.specs.List.{list_all}
use Rattle.lint_base.proofs.Lists.{all_at, true_below}
use Rattle.lint_core.specs.declared.schema.Column.{Column}
use Rattle.lint_core.specs.declared.schema.Domain.{Domain}
use Rattle.lint_core.specs.declared.schema.Table.{Table}
use Rattle.lint_core.specs.Schema.{is_domain, are_columns, are_keys, are_checks, are_foreign_keys, is_table as is_right_table, are_tables}
use Rattle.sort_formula.specs.declared.formula.Formula.{Formula}
use Rattle.sort_formula.specs.declared.formula.Formula.TheOpen.{Formula-F}
use Rattle.sort_formula.specs.Nodes.{nodes}
use Rattle.sort_formula.specs.Placed.{placed_atom}
use Rattle.sort_formula.specs.Sentences.{formula_fits}
use Rattle.sorted_skolem.specs.declared.term.RowTerm.{RowTerm}
use Rattle.ground_theory.specs.declared.literal.Clause.{Clause}
use Rattle.ground_theory.specs.declared.literal.Frame.{Frame}
use Rattle.ground_theory.specs.declared.literal.Literal.{Literal}
use Rattle.ground_theory.specs.Fitting.{has_domains}
use Rattle.case_split.specs.Fitting.{is_fit, are_fit, have_few_ways}
use Rattle.ground_theory.specs.Judgeable.{is_frame}
use Rattle.instantiate.specs.declared.problem.Problem.{Problem}
use Rattle.instantiate.specs.Ground.{ways_in, domains_of}
use Rattle.instantiate.specs.Hanging.{StandsAt, Hanging}
use Rattle.ground_laws.specs.Grounded.{IsGrounded}
use Rattle.ground_laws.proofs.Parts.{few_parts, table_there}
use Rattle.ground_laws.proofs.Standing.{IsStanding, standing_at}
use Rattle.ground_laws.proofs.Literals.{judged}

all_from : {A : Type 0} (p : A → Bool) (xs : List A) → ((i : ℕ) (x : A) → slice_get xs i ≡ Some x → p x ≡ true) → list_all p xs ≡ true
all_from p [] each = refl
all_from p (x ∷ xs) each = and_from (p x) (list_all p xs) (each 0 x refl) (all_from p xs (λ i y at. each (suc i) y at))

-- ---- tables of a schema

abbrev few_columns : Table → Bool
few_columns t = nat_le (length t.columns) 64

abbrev right_columns : Table → Bool
right_columns t = list_all (λ (c : Column). is_domain c.domain) t.columns

each_right : (schema : List Table) (number : ℕ) (tables : List Table) → are_tables schema number tables ≡ true → (list_all few_columns tables ≡ true) × (list_all right_columns tables ≡ true)
each_right schema number [] are = (refl, refl)
each_right schema number (t ∷ ts) are =
    let here = and_parts (is_right_table schema number t) (are_tables schema (number + 1) ts) are in
    let foreign = and_parts (are_columns t.columns && are_keys t t.keys && are_checks schema number t.checks) (are_foreign_keys schema t t.foreign) here.0 in
    let checks = and_parts (are_columns t.columns && are_keys t t.keys) (are_checks schema number t.checks) foreign.0 in
    let keys = and_parts (are_columns t.columns) (are_keys t t.keys) checks.0 in
    let columns = and_parts (few_columns t) (right_columns t) keys.0 in
    let rest = each_right schema (number + 1) ts here.1 in
    (and_from (few_columns t) (list_all few_columns ts) columns.0 rest.0, and_from (right_columns t) (list_all right_columns ts) columns.1 rest.1)

abbrev domains_in : Table → List Domain
domains_in t = map (λ (c : Column). c.domain) t.columns

few_domains : (schema : List Table) → list_all few_columns schema ≡ true → list_all (λ (ds : List Domain). nat_le (length ds) 64) (domains_of schema) ≡ true
few_domains schema few =
    list_all-map (λ (ds : List Domain). nat_le (length ds) 64) domains_in schema
    ∙ all_from (λ (t : Table). nat_le (length (domains_in t)) 64) schema
    (λ i t at. ap (λ n. nat_le n 64) (length-map t.columns (λ (c : Column). c.domain)) ∙ all_at few_columns schema i t few at)

right_domains : (schema : List Table) → list_all right_columns schema ≡ true → list_all (λ (ds : List Domain). list_all is_domain ds) (domains_of schema) ≡ true
right_domains schema right =
    list_all-map (λ (ds : List Domain). list_all is_domain ds) domains_in schema
    ∙ all_from (λ (t : Table). list_all is_domain (domains_in t)) schema
    (λ i t at. list_all-map is_domain (λ (c : Column). c.domain) t.columns ∙ all_at right_columns schema i t right at)

-- ---- ways without literals

no_literals : (frame : Frame) (parts : List Formula) → list_all (is_fit frame) (map (λ part. None) parts) ≡ true
no_literals frame [] = refl
no_literals frame (part ∷ parts) = no_literals frame parts

module _ (schema : List Table) (problem : Problem) (is : IsGrounded schema problem) (hanging : Hanging problem) where
  same_domains : problem.frame.domains ≡ domains_of schema
  same_domains = ap (λ (f : Frame). f.domains) is.problem_is.frame

  same_tables : problem.frame.tables ≡ map (λ (t : RowTerm). t.table) problem.rows.terms
  same_tables = ap (λ (f : Frame). f.tables) is.problem_is.frame

  standing : (clause : ℕ) (layer : Formula-F Formula) (rows : List ℕ) → StandsAt problem clause layer rows → IsStanding schema problem layer rows
  standing =
      standing_at schema problem hanging is.closed (λ sentence formula at. all_at (λ s. formula_fits schema s []) problem.sentences sentence formula is.fits at)
      (λ sentence formula at.
      subst (λ (g : Formula). nodes g < 2 ^ 32) (get_or_from_slice_get problem.sentences sentence formula formula at)
      (is.few_nodes sentence formula (slice_get_within problem.sentences sentence formula at)))

  -- ---- the frame

  table_known : (row : ℕ) (t : RowTerm) → slice_get problem.rows.terms row ≡ Some t → nat_lt t.table (length problem.frame.domains) ≡ true
  table_known row t at =
      let maker = hanging.makers row t at in
      let stands = standing maker.0 (Formula-F.Exists t.table maker.1.body) maker.1.variables maker.1.stands in
      let count : length problem.frame.domains ≡ length schema = ap length same_domains ∙ length-map schema domains_in in
      ap (nat_lt t.table) count ∙ table_there schema t.table maker.1.body stands.tables stands.fine

  abbrev are_few : List (List Domain) → Bool
  are_few dss = list_all (λ (ds : List Domain). nat_le (length ds) 64) dss

  abbrev are_known : List ℕ → Bool
  are_known ts = list_all (λ t. nat_lt t (length problem.frame.domains)) ts

  known : are_known problem.frame.tables ≡ true
  known =
      ap are_known same_tables
      ∙ (list_all-map (λ t. nat_lt t (length problem.frame.domains)) (λ (t : RowTerm). t.table) problem.rows.terms
      ∙ all_from (λ (t : RowTerm). nat_lt t.table (length problem.frame.domains)) problem.rows.terms table_known)

  few_tables : nat_le (length problem.frame.tables) 512 ≡ true
  few_tables =
      ap (λ n. nat_le n 512) (ap length same_tables ∙ length-map problem.rows.terms (λ (t : RowTerm). t.table))
      ∙ at_most (length problem.rows.terms) 512 is.few_rows
    where
      at_most : (m n : ℕ) → m ≤ n → nat_le m n ≡ true
      at_most m n low = grind (arith, nat_tests)

  pub frame_is : is_frame problem.frame ≡ true
  frame_is =
      let tables = each_right schema 0 schema (and_parts (nat_le (length schema) 200) (are_tables schema 0 schema) is.right).1 in
      let domains : has_domains problem.frame ≡ true = ap (list_all (λ (ds : List Domain). list_all is_domain ds)) same_domains ∙ right_domains schema tables.1 in
      let few : are_few problem.frame.domains ≡ true = ap are_few same_domains ∙ few_domains schema tables.0 in
      let rows = and_from (are_known problem.frame.tables) (nat_le (length problem.frame.tables) 512) known few_tables in
      and_from (has_domains problem.frame) (are_few problem.frame.domains && (are_known problem.frame.tables && nat_le (length problem.frame.tables) 512)) domains
      (and_from (are_few problem.frame.domains) (are_known problem.frame.tables && nat_le (length problem.frame.tables) 512) few rows)

  -- ---- the clauses

  layer_fits : (layer : Formula-F Formula) (rows : List ℕ) → IsStanding schema problem layer rows → list_all (is_fit problem.frame) (ways_in rows layer) ≡ true
  layer_fits (Formula-F.Atom a) rows stands =
      and_from (is_fit problem.frame (Some (record { atom = placed_atom rows 0 a }))) true
      (judged schema problem.frame same_domains rows stands.tables stands.has a stands.fine.bound stands.fine.fits) refl
  layer_fits (Formula-F.And parts) rows stands = refl
  layer_fits (Formula-F.Or parts) rows stands = no_literals problem.frame parts
  layer_fits (Formula-F.Exists table body) rows stands = refl
  layer_fits (Formula-F.Forall table body) rows stands = refl

  layer_few : (layer : Formula-F Formula) (rows : List ℕ) → IsStanding schema problem layer rows → length (ways_in rows layer) < 2 ^ 32
  layer_few (Formula-F.Atom a) rows stands = omega arith
  layer_few (Formula-F.And parts) rows stands = omega arith
  layer_few (Formula-F.Or parts) rows stands =
      let count : length (ways_in rows (Formula-F.Or parts)) ≡ length parts = length-map parts _ in
      let few = few_parts schema parts stands.tables stands.fine in
      omega arith
  layer_few (Formula-F.Exists table body) rows stands = omega arith
  layer_few (Formula-F.Forall table body) rows stands = omega arith

  pub clauses_fit : are_fit problem.frame problem.clauses ≡ true
  clauses_fit =
      all_from (λ (c : Clause). list_all (is_fit problem.frame) c.ways) problem.clauses
      (λ i c at.
      let own = hanging.stands i c at in
      ap (list_all (is_fit problem.frame)) own.1.2 ∙ layer_fits own.0 own.1.0 (standing i own.0 own.1.0 own.1.1))

  pub ways_few : have_few_ways problem.clauses ≡ true
  ways_few =
      all_from (λ (c : Clause). nat_lt (length c.ways) (2 ^ 32)) problem.clauses
      (λ i c at.
      let own = hanging.stands i c at in
      ap (λ (ways : List (Option Literal)). nat_lt (length ways) (2 ^ 32)) own.1.2
      ∙ true_below (length (ways_in own.1.0 own.0)) (2 ^ 32) (layer_few own.0 own.1.0 (standing i own.0 own.1.0 own.1.1)))
