-- Splits by their clauses, and branches that grow.
use Rattle.std.proofs.Common.{Vec, Global, vec_len, ◌≡◌, ◌∙◌, sym, ap, refl, subst, ℕ, zero, suc, ◌+◌, ◌<◌, ◌⊎◌, inl, inr, Bool, true, false, List, [], ◌∷◌, ◌++◌, length, take, set, arith}
use Rattle.std.proofs.lemmas.Bool.{eqb-true}
use Rattle.std.proofs.lemmas.Bool.Decides.{nat_tests}
use Rattle.std.proofs.lemmas.Grind.{common_steps}
use Rattle.std.proofs.lemmas.Option.{same_Some, option_and_then_some}
use Rattle.std.specs.Prelude.{Option, Some, None, slice_get, nat_eq, option_and_then, if◌then◌else◌}
use Rattle.sort_formula.specs.declared.formula.Formula.{Formula, out-Formula}
use Rattle.sort_formula.specs.declared.formula.Formula.TheOpen.{Formula-F}
use Rattle.sort_formula.specs.Certificate.{fact_of}
use Rattle.sort_formula.specs.Facts.{Fact, Branch}
use Rattle.instantiate.specs.declared.problem.Problem.{Problem}
use Rattle.proof_cert.specs.declared.path.Opened.{Opened}
use Rattle.proof_cert.specs.inner.Known.{HasFact}
use Rattle.proof_cert.specs.inner.Paths.{opened_at, row_by, HasOpened, IsOpened, IsBranch}
use Rattle.proof_cert.proofs.Growing.{Grows, names_more}
use Rattle.proof_cert.proofs.Ranking.{get_set, get_set_same}

equal : (m n : ℕ) → m ≡ n → nat_eq m n ≡ true
equal m n same = grind (arith, nat_tests)

taken : (b : Bool) (o p : Option Opened) → b ≡ true → (if b then o else p) ≡ o
taken true o p is = refl
taken false o p is = cc

passed : (b : Bool) (o p : Option Opened) → b ≡ false → (if b then o else p) ≡ p
passed true o p is = cc
passed false o p is = refl

-- ---- the split of a clause

-- it stands among the splits
pub opened_in : (os : List Opened) (clause : ℕ) (o : Opened) → opened_at os clause ≡ Some o → (place : ℕ) × (slice_get os place ≡ Some o) × (o.clause ≡ clause)
opened_in [] clause o is = cc
opened_in (p ∷ ps) clause o is = by (nat_eq p.clause clause) refl is (opened_in ps clause o)
  where
    by : (b : Bool) → nat_eq p.clause clause ≡ b → (if b then Some p else opened_at ps clause) ≡ Some o →
        (opened_at ps clause ≡ Some o → (place : ℕ) × (slice_get ps place ≡ Some o) × (o.clause ≡ clause)) → (place : ℕ) × (slice_get (p ∷ ps) place ≡ Some o) × (o.clause ≡ clause)
    by true same is rest = (0, is, sym (ap (λ (o : Opened). o.clause) (same_Some p o is)) ∙ eqb-true p.clause clause same)
    by false same is rest = let found = rest is in (suc found.0, found.1, found.2)

-- a split of the clause is found, the first one
pub opened_there : (os : List Opened) (place : ℕ) (o : Opened) → slice_get os place ≡ Some o → (p : Opened) × (opened_at os o.clause ≡ Some p)
opened_there [] place o at = cc
opened_there (p ∷ ps) zero o at = (p, taken (nat_eq p.clause o.clause) (Some p) (opened_at ps o.clause) (equal p.clause o.clause (ap (λ (o : Opened). o.clause) (same_Some p o at))))
opened_there (p ∷ ps) (suc place) o at = by (nat_eq p.clause o.clause) (opened_there ps place o at)
  where
    by : (b : Bool) → (q : Opened) × (opened_at ps o.clause ≡ Some q) → (q : Opened) × ((if b then Some p else opened_at ps o.clause) ≡ Some q)
    by true rest = (p, refl)
    by false rest = rest

pub opened_front : (os more : List Opened) (clause : ℕ) (o : Opened) → opened_at os clause ≡ Some o → opened_at (os ++ more) clause ≡ Some o
opened_front [] more clause o is = cc
opened_front (p ∷ ps) more clause o is = by (nat_eq p.clause clause) is (opened_front ps more clause o)
  where
    by : (b : Bool) → (if b then Some p else opened_at ps clause) ≡ Some o → (opened_at ps clause ≡ Some o → opened_at (ps ++ more) clause ≡ Some o) →
        (if b then Some p else opened_at (ps ++ more) clause) ≡ Some o
    by true is rest = is
    by false is rest = rest is

pub opened_last : (os : List Opened) (o : Opened) → opened_at os o.clause ≡ None → opened_at (os ++ o ∷ []) o.clause ≡ Some o
opened_last [] o none = taken (nat_eq o.clause o.clause) (Some o) None (equal o.clause o.clause refl)
opened_last (p ∷ ps) o none = by (nat_eq p.clause o.clause) none (opened_last ps o)
  where
    by : (b : Bool) → (if b then Some p else opened_at ps o.clause) ≡ None → (opened_at ps o.clause ≡ None → opened_at (ps ++ o ∷ []) o.clause ≡ Some o) →
        (if b then Some p else opened_at (ps ++ o ∷ []) o.clause) ≡ Some o
    by true none rest = cc
    by false none rest = rest none

-- ---- the index

pub long : (v : Vec Opened Global) → vec_len v ≡ length v.items
long v = let h = v.ok in grind (arith, common_steps)

module _ (splits : List Opened) (places : List ℕ) (index : (place : ℕ) (o : Opened) → slice_get splits place ≡ Some o → slice_get places o.clause ≡ Some place) where
  -- where no place is kept for the clause, or one behind the end, no split is of it
  pub none_of : (clause : ℕ) → ((place : ℕ) → slice_get places clause ≡ Some place → slice_get splits place ≡ None) → opened_at splits clause ≡ None
  none_of clause never = by (opened_at splits clause) refl
    where
      by : (o : Option Opened) → opened_at splits clause ≡ o → o ≡ None
      by None is = refl
      by (Some o) is =
          let found = opened_in splits clause o is in
          let at : slice_get places clause ≡ Some found.0 = subst (λ n. slice_get places n ≡ Some found.0) found.2 (index found.0 o found.1) in
          let no = never found.0 at in
          let yes = found.1 in
          cc

  -- the split at the place that is kept for the clause is the one, if it is of the clause
  pub one_of : (clause place : ℕ) (o : Opened) → slice_get places clause ≡ Some place → slice_get splits place ≡ Some o →
      opened_at splits clause ≡ (if nat_eq o.clause clause then Some o else None)
  one_of clause place o kept at = by (opened_at splits clause) refl
    where
      by : (p : Option Opened) → opened_at splits clause ≡ p → p ≡ (if nat_eq o.clause clause then Some o else None)
      by None is = sym (passed (nat_eq o.clause clause) (Some o) None (other (nat_eq o.clause clause) refl))
        where
          other : (b : Bool) → nat_eq o.clause clause ≡ b → b ≡ false
          other false same = refl
          other true same =
              let there = opened_there splits place o at in
              let e : opened_at splits clause ≡ Some there.0 = subst (λ n. opened_at splits n ≡ Some there.0) (eqb-true o.clause clause same) there.1 in
              cc
      by (Some p) is =
          let found = opened_in splits clause p is in
          let own : slice_get places clause ≡ Some found.0 = subst (λ n. slice_get places n ≡ Some found.0) found.2 (index found.0 p found.1) in
          let places_one : found.0 ≡ place = same_Some found.0 place (sym own ∙ kept) in
          let one : p ≡ o = same_Some p o (sym found.1 ∙ (ap (slice_get splits) places_one ∙ at)) in
          let same : nat_eq o.clause clause ≡ true = equal o.clause clause (sym (ap (λ (o : Opened). o.clause) one) ∙ found.2) in
          ap Some one ∙ sym (taken (nat_eq o.clause clause) (Some o) None same)

  pub none_at : (clause place : ℕ) → slice_get places clause ≡ Some place → slice_get splits place ≡ None → opened_at splits clause ≡ None
  none_at clause place kept none = none_of clause (λ other at. subst (λ n. slice_get splits n ≡ None) (same_Some place other (sym kept ∙ at)) none)

  pub found_at : (clause place : ℕ) (o : Opened) → slice_get places clause ≡ Some place → slice_get splits place ≡ Some o → o.clause ≡ clause → opened_at splits clause ≡ Some o
  found_at clause place o kept at same = one_of clause place o kept at ∙ taken (nat_eq o.clause clause) (Some o) None (equal o.clause clause same)

  pub other_at : (clause place : ℕ) (o : Opened) → slice_get places clause ≡ Some place → slice_get splits place ≡ Some o → (o.clause ≡ clause → ⊥) → opened_at splits clause ≡ None
  other_at clause place o kept at other = one_of clause place o kept at ∙ passed (nat_eq o.clause clause) (Some o) None (differ (nat_eq o.clause clause) refl)
    where
      differ : (b : Bool) → nat_eq o.clause clause ≡ b → b ≡ false
      differ false same = refl
      differ true same = absurd (other (eqb-true o.clause clause same))

get_front_or_last : (xs : List Opened) (o : Opened) (place : ℕ) (p : Opened) → slice_get (xs ++ o ∷ []) place ≡ Some p → (slice_get xs place ≡ Some p) ⊎ ((place ≡ length xs) × (o ≡ p))
get_front_or_last [] o zero p at = inr (refl, same_Some o p at)
get_front_or_last [] o (suc place) p at = cc
get_front_or_last (x ∷ xs) o zero p at = inl at
get_front_or_last (x ∷ xs) o (suc place) p at = elim (get_front_or_last xs o place p at) [ inl front ↦ inl front | inr last ↦ inr (ap suc last.0, last.1) ]

pub front_or_last : (xs : List Opened) (o : Opened) (place : ℕ) (p : Opened) → slice_get (xs ++ o ∷ []) place ≡ Some p → (slice_get xs place ≡ Some p) ⊎ (o ≡ p)
front_or_last xs o place p at = elim (get_front_or_last xs o place p at) [ inl front ↦ inl front | inr last ↦ inr last.1 ]

-- fewer splits are indexed too
pub index_take : (count : ℕ) (splits : List Opened) (places : List ℕ) → ((place : ℕ) (o : Opened) → slice_get splits place ≡ Some o → slice_get places o.clause ≡ Some place) →
    (place : ℕ) (o : Opened) → slice_get (take count splits) place ≡ Some o → slice_get places o.clause ≡ Some place
index_take count splits places index place o at = index place o (within count splits place at)
  where
    within : (count : ℕ) (os : List Opened) (place : ℕ) → slice_get (take count os) place ≡ Some o → slice_get os place ≡ Some o
    within zero os place at = cc
    within (suc count) [] place at = cc
    within (suc count) (p ∷ ps) zero at = at
    within (suc count) (p ∷ ps) (suc place) at = within count ps place at

-- and one more of another clause
pub index_more : (splits : List Opened) (places : List ℕ) (o : Opened) → ((place : ℕ) (o : Opened) → slice_get splits place ≡ Some o → slice_get places o.clause ≡ Some place) →
    opened_at splits o.clause ≡ None → o.clause < length places → (place : ℕ) (p : Opened) → slice_get (splits ++ o ∷ []) place ≡ Some p →
    slice_get (set places o.clause (length splits)) p.clause ≡ Some place
index_more splits places o index none low place p at =
    elim (get_front_or_last splits o place p at) [
      | inl front ↦
          get_set places o.clause (length splits) p.clause place
          (λ same.
          let there = opened_there splits place p front in
          let e : opened_at splits o.clause ≡ Some there.0 = subst (λ n. opened_at splits n ≡ Some there.0) same there.1 in
          cc)
          (index place p front)
      | inr last ↦
          subst (λ (q : Opened). slice_get (set places o.clause (length splits)) q.clause ≡ Some place) last.1
          (get_set_same places o.clause (length splits) low ∙ ap Some (sym last.0))
    ]

-- ---- branches

-- the second has all that the first has
pub record Extends (b c : Branch) : Type 0 where
  pub facts : (i : ℕ) (x : Fact) → slice_get b.facts i ≡ Some x → slice_get c.facts i ≡ Some x
  pub tables : (i table : ℕ) → slice_get b.tables i ≡ Some table → slice_get c.tables i ≡ Some table

-- ---- rows of row terms

module _ (makers : List ℕ) where
  -- the split of the row term's Exists
  pub row_made : (way : List Opened) (row named : ℕ) → row_by makers way row ≡ Some named → (maker : ℕ) × ((o : Opened) × (slice_get makers row ≡ Some maker) × (opened_at way maker ≡ Some o) × (o.row ≡ named))
  row_made way row named is =
      option_and_then_some (λ maker. option_and_then (λ (o : Opened). Some o.row) (opened_at way maker)) (slice_get makers row) named is
      (λ maker at more. option_and_then_some (λ (o : Opened). Some o.row) (opened_at way maker) named more (λ o opened same. (maker, (o, at, opened, same_Some o.row named same))))

  pub row_is : (way : List Opened) (row maker : ℕ) (o : Opened) → slice_get makers row ≡ Some maker → opened_at way maker ≡ Some o → row_by makers way row ≡ Some o.row
  row_is way row maker o at opened =
      ap (option_and_then (λ maker. option_and_then (λ (o : Opened). Some o.row) (opened_at way maker))) at ∙ ap (option_and_then (λ (o : Opened). Some o.row)) opened

  pub rows_grow : (way more : List Opened) → Grows (row_by makers way) (row_by makers (way ++ more))
  rows_grow way more row named is =
      let made = row_made way row named is in
      row_is (way ++ more) row made.0 made.1.0 made.1.1 (opened_front way more made.0 made.1.0 made.1.2) ∙ ap Some made.1.3

  module _ (problem : Problem) where
    -- ---- more facts, rows and splits

    opened_more : (b c : Branch) → Extends b c → (o : Opened) (named : List ℕ) (layer : Formula-F Formula) → HasOpened b o named layer → HasOpened c o named layer
    opened_more b c more o named (Formula-F.Atom a) has = tt
    opened_more b c more o named (Formula-F.And gs) has = λ i g at. more.facts (o.first + i) (fact_of named g) (has i g at)
    opened_more b c more o named (Formula-F.Or gs) has = λ g at. more.facts o.first (fact_of named g) (has g at)
    opened_more b c more o named (Formula-F.Exists table body) has = (more.facts o.first (fact_of (named ++ o.row ∷ []) body) has.0, more.tables o.row table has.1)
    opened_more b c more o named (Formula-F.Forall table body) has = tt

    abbrev pub fact_moved : (b c : Branch) → Extends b c → (way later : List Opened) → Grows (row_by makers way) (row_by makers later) → (clause fact : ℕ) →
        HasFact problem b (row_by makers way) clause fact → HasFact problem c (row_by makers later) clause fact
    fact_moved b c more way later grows clause fact has = record {
      formula = has.formula;
      variables = has.variables;
      named = has.named;
      stands = has.stands;
      is_fact = more.facts fact (fact_of has.named has.formula) has.is_fact;
      names = names_more (row_by makers way) (row_by makers later) grows has.variables has.named has.names;
    }

    split_moved : (b c : Branch) → Extends b c → (way later : List Opened) → Grows (row_by makers way) (row_by makers later) → (o : Opened) → IsOpened problem makers b way o → IsOpened problem makers c later o
    split_moved b c more way later grows o is = record {
      has = fact_moved b c more way later grows o.clause o.fact is.has;
      same = is.same;
      opened = opened_more b c more o is.has.named (out-Formula is.has.formula) is.opened;
    }

    -- more facts and rows
    pub branch_more : (b c : Branch) → Extends b c → (way : List Opened) (facts rows facts' rows' : ℕ) → length c.facts ≡ facts' → length c.tables ≡ rows' → IsBranch problem makers b way facts rows →
        IsBranch problem makers c way facts' rows'
    branch_more b c more way facts rows facts' rows' count count' is = record {
      facts_are = count;
      rows_are = count';
      sentences = λ sentence number g at named. more.facts number (fact_of [] g) (is.sentences sentence number g at named);
      splits = λ place o at. split_moved b c more way way (λ v r named. named) o (is.splits place o at);
    }

    -- and one more split
    pub branch_split : (b c : Branch) → Extends b c → (way : List Opened) (o : Opened) (facts rows facts' rows' : ℕ) → length c.facts ≡ facts' → length c.tables ≡ rows' → IsBranch problem makers b way facts rows →
        IsOpened problem makers c (way ++ o ∷ []) o → IsBranch problem makers c (way ++ o ∷ []) facts' rows'
    branch_split b c more way o facts rows facts' rows' count count' is opened = record {
      facts_are = count;
      rows_are = count';
      sentences = λ sentence number g at named. more.facts number (fact_of [] g) (is.sentences sentence number g at named);
      splits = λ place p at. elim (front_or_last way o place p at) [
        | inl front ↦ split_moved b c more way (way ++ o ∷ []) (rows_grow way (o ∷ [])) p (is.splits place p front)
        | inr last ↦ subst (IsOpened problem makers c (way ++ o ∷ [])) last opened
      ];
    }
