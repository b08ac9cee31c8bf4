-- Lists of pairs, and what stays known when more becomes known.
use Rattle.std.proofs.Common.{◌≡◌, ◌∙◌, sym, ap, ap₂, refl, subst, ℕ, zero, suc, ◌⊎◌, inl, inr, Bool, true, false, ◌||◌, List, [], ◌∷◌, ◌++◌, length, arith}
use Rattle.std.proofs.lemmas.Bool.{or_cases, eqb-true}
use Rattle.std.proofs.lemmas.Bool.Decides.{nat_tests}
use Rattle.std.proofs.lemmas.List.Folds.{list_any-append}
use Rattle.std.proofs.lemmas.Option.{same_Some}
use Rattle.std.specs.Prelude.{Option, Some, None, slice_get, nat_eq, if◌then◌else◌}
use Rattle.lint_base.proofs.Lists.{slice_get_front}
use Rattle.sort_formula.specs.declared.formula.Formula.{Formula}
use Rattle.sort_formula.specs.declared.formula.Formula.TheOpen.{Formula-F}
use Rattle.sort_formula.specs.Certificate.{fact_of, with_facts}
use Rattle.sort_formula.specs.Facts.{Fact, Branch}
use Rattle.ground_theory.specs.declared.literal.Guard.{Guard}
use Rattle.case_split.specs.Trees.{is_same_guard, is_among}
use Rattle.case_split.proofs.Closed.{same_guard}
use Rattle.instantiate.specs.declared.problem.Problem.{Problem}
use Rattle.sorted_skolem.specs.Preorder.{Node, outlines_of, node_at}
use Rattle.instantiate.specs.Keys.{Key}
use Rattle.instantiate.specs.Ground.{variables_of}
use Rattle.instantiate.specs.Hanging.{StandsAt}
use Rattle.proof_cert.specs.inner.Known.{Pairs, IsIn, row_of, Names, IsKnown, HasFact, IsDone, Grounded}

-- ---- lists

pub get_middle : {A : Type 0} (xs : List A) (x : A) (ys : List A) → slice_get (xs ++ x ∷ ys) (length xs) ≡ Some x
get_middle [] x ys = refl
get_middle (z ∷ xs) x ys = get_middle xs x ys

pub in_left : (ps qs : Pairs) (x : ℕ × ℕ) → IsIn ps x → IsIn (ps ++ qs) x
in_left [] qs x is = absurd is
in_left (p ∷ ps) qs x is = elim is [ inl here ↦ inl here | inr later ↦ inr (in_left ps qs x later) ]

pub in_right : (ps qs : Pairs) (x : ℕ × ℕ) → IsIn qs x → IsIn (ps ++ qs) x
in_right [] qs x is = is
in_right (p ∷ ps) qs x is = inr (in_right ps qs x is)

pub in_either : (ps qs : Pairs) (x : ℕ × ℕ) → IsIn (ps ++ qs) x → IsIn ps x ⊎ IsIn qs x
in_either [] qs x is = inr is
in_either (p ∷ ps) qs x is =
    elim is [ inl here ↦ inl (inl here) | inr later ↦ elim (in_either ps qs x later) [ inl left ↦ inl (inr left) | inr right ↦ inr right ] ]

-- the clauses with the numbers from this one on
abbrev pub numbered_from : ℕ → List ℕ → Pairs
numbered_from n [] = []
numbered_from n (c ∷ cs) = (c, n) ∷ numbered_from (suc n) cs

pub in_numbered : (n : ℕ) (cs : List ℕ) (i c : ℕ) → slice_get cs i ≡ Some c → IsKnown (numbered_from n cs) c
in_numbered n [] i c at = cc
in_numbered n (d ∷ ds) zero c at = (n, inl (ap (λ d. (d, n)) (same_Some d c at)))
in_numbered n (d ∷ ds) (suc i) c at = let more = in_numbered (suc n) ds i c at in (more.0, inr more.1)

-- ---- names

abbrev pub Grows : (ℕ → Option ℕ) → (ℕ → Option ℕ) → Type 0
Grows row_for more = (v r : ℕ) → row_for v ≡ Some r → more v ≡ Some r

pub names_more : (row_for more : ℕ → Option ℕ) → Grows row_for more → (vs rs : List ℕ) → Names row_for vs rs → Names more vs rs
names_more row_for more grows [] [] names = tt
names_more row_for more grows [] (r ∷ rs) names = absurd names
names_more row_for more grows (v ∷ vs) [] names = absurd names
names_more row_for more grows (v ∷ vs) (r ∷ rs) names = (grows v r names.0, names_more row_for more grows vs rs names.1)

pub names_last : (row_for : ℕ → Option ℕ) (vs rs : List ℕ) (v r : ℕ) → Names row_for vs rs → row_for v ≡ Some r → Names row_for (vs ++ v ∷ []) (rs ++ r ∷ [])
names_last row_for [] [] v r names at = (at, tt)
names_last row_for [] (s ∷ rs) v r names at = absurd names
names_last row_for (w ∷ vs) [] v r names at = absurd names
names_last row_for (w ∷ vs) (s ∷ rs) v r names at = (names.0, names_last row_for vs rs v r names.1 at)

if_false_grows : (b : Bool) (x : ℕ) (o : Option ℕ) (r : ℕ) → (b ≡ true → o ≡ None) → o ≡ Some r → (if b then Some x else o) ≡ Some r
if_false_grows true x o r none at = let no = none refl in cc
if_false_grows false x o r none at = at

-- a row term that had no row gets one
pub new_grows : (rows : Pairs) (row named : ℕ) → row_of rows row ≡ None → Grows (row_of rows) (row_of ((row, named) ∷ rows))
new_grows rows row named none v r at =
    if_false_grows (nat_eq row v) named (row_of rows v) r (λ same. ap (row_of rows) (sym (eqb-true row v same)) ∙ none) at

true_first : (b : Bool) (x : ℕ) (o : Option ℕ) → b ≡ true → (if b then Some x else o) ≡ Some x
true_first true x o is = refl
true_first false x o is = cc

equal_self : (n : ℕ) → nat_eq n n ≡ true
equal_self n = grind (arith, nat_tests)

pub new_row_is : (row named : ℕ) (rows : Pairs) → row_of ((row, named) ∷ rows) row ≡ Some named
new_row_is row named rows = true_first (nat_eq row row) named (row_of rows row) (equal_self row)

either_row : (b : Bool) (named n : ℕ) (o : Option ℕ) → (if b then Some named else o) ≡ Some n → ((b ≡ true) × (named ≡ n)) ⊎ (o ≡ Some n)
either_row true named n o at = inl (refl, same_Some named n at)
either_row false named n o at = inr at

-- a row that is named is the new one, or was named before
pub named_either : (row named : ℕ) (rows : Pairs) (other n : ℕ) → row_of ((row, named) ∷ rows) other ≡ Some n →
    ((row ≡ other) × (named ≡ n)) ⊎ (row_of rows other ≡ Some n)
named_either row named rows other n at =
    elim (either_row (nat_eq row other) named n (row_of rows other) at) [ inl new ↦ inl (eqb-true row other new.0, new.1) | inr old ↦ inr old ]

-- ---- what stands at a clause is determined

module _ (problem : Problem) where
  pub stands_one : (clause : ℕ) (y z : Formula-F Formula) (vs ws : List ℕ) → StandsAt problem clause y vs → StandsAt problem clause z ws → y ≡ z
  stands_one clause y z vs ws one other =
      let keys : one.key ≡ other.key = same_Some one.key other.key (sym one.is_key ∙ other.is_key) in
      let nodes : one.node ≡ other.node =
      same_Some one.node other.node
      (sym one.is_node ∙ (ap (λ (k : Key). node_at (outlines_of problem.sentences) k.sentence k.node) keys ∙ other.is_node)) in
      sym one.is_layer ∙ (ap (λ (n : Node). n.layer) nodes ∙ other.is_layer)

  pub stands_variables : (clause : ℕ) (y z : Formula-F Formula) (vs ws : List ℕ) → StandsAt problem clause y vs → StandsAt problem clause z ws → vs ≡ ws
  stands_variables clause y z vs ws one other =
      let keys : one.key ≡ other.key = same_Some one.key other.key (sym one.is_key ∙ other.is_key) in
      let nodes : one.node ≡ other.node =
      same_Some one.node other.node
      (sym one.is_node ∙ (ap (λ (k : Key). node_at (outlines_of problem.sentences) k.sentence k.node) keys ∙ other.is_node)) in
      sym one.are_variables ∙ (ap₂ (λ (k : Key) (n : Node). variables_of problem.rows.terms k n) keys nodes ∙ other.are_variables)

  -- ---- what is known stays known

  pub known_more : (new facts : Pairs) (clause : ℕ) → IsKnown facts clause → IsKnown (new ++ facts) clause
  known_more new facts clause known = (known.0, in_right new facts (clause, known.0) known.1)

  pub done_more : (new facts rows more : Pairs) → Grows (row_of rows) (row_of more) → (guard : Guard) → IsDone problem facts rows guard → IsDone problem (new ++ facts) more guard
  done_more new facts rows more grows guard done = record {
    known = known_more new facts guard.clause done.known;
    below = λ clause hangs. known_more new facts clause (done.below clause hangs);
    made = λ row table maker. let named = done.made row table maker in (named.0, grows row named.0 named.1);
  }

  pub fact_more : (b : Branch) (row_for more : ℕ → Option ℕ) → Grows row_for more → (facts : List Fact) (tables : List ℕ) → (clause fact : ℕ) → HasFact problem b row_for clause fact →
      HasFact problem (record { facts = b.facts ++ facts; tables = tables }) more clause fact
  fact_more b row_for more grows facts tables clause fact has = record {
    formula = has.formula;
    variables = has.variables;
    named = has.named;
    stands = has.stands;
    is_fact = slice_get_front b.facts facts fact (fact_of has.named has.formula) has.is_fact;
    names = names_more row_for more grows has.variables has.named has.names;
  }

  -- more facts, no more rows
  pub grown : (b : Branch) (facts rows : Pairs) (guards : List Guard) → Grounded problem b facts rows guards → (more : List Fact) (new : Pairs) →
      ((clause fact : ℕ) → IsIn new (clause, fact) → HasFact problem (with_facts b more) (row_of rows) clause fact) →
      Grounded problem (with_facts b more) (new ++ facts) rows guards
  grown b facts rows guards grounded more new are = record {
    is = λ clause fact known. elim (in_either new facts (clause, fact) known) [
      | inl fresh ↦ are clause fact fresh
      | inr old ↦ fact_more b (row_of rows) (row_of rows) (λ v r at. at) more b.tables clause fact (grounded.is clause fact old)
    ];
    tables = grounded.tables;
    made = λ row named maker table at is. done_more new facts rows rows (λ v r at. at) (record { clause = maker; way = 0 }) (grounded.made row named maker table at is);
    done = λ guard among. done_more new facts rows rows (λ v r at. at) guard (grounded.done guard among);
    roots = λ sentence clause root. known_more new facts clause (grounded.roots sentence clause root);
  }

  -- one more choice that is done
  pub chosen_more : (b : Branch) (facts rows : Pairs) (guards : List Guard) (g : Guard) → Grounded problem b facts rows guards → IsDone problem facts rows g →
      Grounded problem b facts rows (guards ++ g ∷ [])
  chosen_more b facts rows guards g grounded done = record {
    is = grounded.is;
    tables = grounded.tables;
    made = grounded.made;
    done = λ guard among.
        elim (or_cases (is_among guards guard) (is_same_guard guard g || false) (sym (list_any-append (is_same_guard guard) guards (g ∷ [])) ∙ among)) [
          | inl old ↦ grounded.done guard old
          | inr new ↦ elim (or_cases (is_same_guard guard g) false new) [
            | inl same ↦ subst (IsDone problem facts rows) (sym (same_guard guard g same)) done
            | inr never ↦ cc
          ]
        ];
    roots = grounded.roots;
  }
