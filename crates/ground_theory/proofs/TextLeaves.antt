-- From a path of equal facts to a right Text leaf.
use Rattle.std.proofs.Common.{◌≡◌, ◌∙◌, sym, ap, refl, subst, ℕ, ◌<◌, true, false, List, [], ◌∷◌, length, inl, inr}
use Rattle.std.proofs.lemmas.Bool.{both_ways, cases_Bool, cond_both, cond-true, cond-false, eqb-true, not-true, not_from_false}
use Rattle.std.proofs.lemmas.Option.{option_and_then_some, same_Some}
use Rattle.std.proofs.lemmas.Bool.Decides.{Decides-eqb}
use Rattle.std.proofs.lemmas.Slice.Eq.{slice_eq-Decides}
use Rattle.std.specs.Prelude.{Option, Some, None, option_and_then, if◌then◌else◌}
use Rattle.std.specs.List.{AllByRecursion}
use Rattle.std.specs.Option.{option_map_or}
use Rattle.lint_core.specs.declared.certificate.Step.TheVariants as step
use Rattle.lint_core.specs.declared.certificate.TextEdge.{TextEdge}
use Rattle.lint_core.specs.declared.certificate.TextEdge.TheVariants as edge
use Rattle.lint_core.specs.Comparison.{is_same_text}
use Rattle.sort_formula.specs.declared.formula.Side.{Side}
use Rattle.sort_formula.specs.declared.formula.Atom.{Atom}
use Rattle.sort_formula.specs.declared.formula.Atom.TheVariants as atom
use Rattle.sort_formula.specs.Certificate.{are_closed, closed_if}
use Rattle.sort_formula.specs.Chains.{back, chain_end, chain_leads_to, text_clash, are_two_texts, constants_clash, is_text_clash}
use Rattle.sort_formula.specs.Facts.{atom_of, is_same_side}
use Rattle.text_classes.specs.declared.facts.TextEnd.{TextEnd}
use Rattle.text_classes.specs.declared.facts.TextEnd.TheVariants as end
use Rattle.text_classes.specs.declared.facts.TextFact.{TextFact}
use Rattle.text_classes.specs.Paths.{fact_at, Leads, IsPath}
use Rattle.ground_theory.specs.declared.literal.Frame.{Frame}
use Rattle.ground_theory.specs.declared.literal.Literal.{Literal}
use Rattle.ground_theory.specs.Leaves.{bare_schema, literal_branch, is_right_leaf}
use Rattle.ground_theory.specs.TextEdges.{fact_in, end_side, equal_ends, unequal_ends, ends, unequal_sides, IsTextSystem}
use Rattle.ground_theory.specs.TextLeaf.{is_same_end, back_of, text_origin_at, are_apart, walk, end_of, start_of, text_leaf}
use Rattle.ground_theory.proofs.Moving.{same_self, equal_self}
use Rattle.ground_theory.proofs.SumLeaves.{zip_at}

end_self : (a : TextEnd) → is_same_end a a ≡ true
end_self (end.Var n) = equal_self n
end_self (end.Text text) = (slice_eq-Decides Decides-eqb text text (is_same_text text text) refl).1 refl

one_end : (a b : TextEnd) → is_same_end a b ≡ true → a ≡ b
one_end (end.Var n) (end.Var m) h = ap end.Var (eqb-true n m h)
one_end (end.Var n) (end.Text other) h = cc
one_end (end.Text text) (end.Var m) h = cc
one_end (end.Text text) (end.Text other) h = ap end.Text ((slice_eq-Decides Decides-eqb text other (is_same_text text other) refl).0 h)

same_ends : (a b : TextEnd) → a ≡ b → is_same_end a b ≡ true
same_ends a b same = subst (λ (c : TextEnd). is_same_end a c ≡ true) same (end_self a)

module _ (frame : Frame) (literals : List Literal) (side_of : ℕ → Side) (origins : List TextEdge) (facts : List TextFact)
    (system : IsTextSystem frame literals side_of origins facts) where
  abbrev fact : ℕ → TextFact
  fact n = fact_at facts n

  abbrev origin : ℕ → TextEdge
  origin n = text_origin_at origins n

  abbrev at : TextEnd → Side
  at x = end_side side_of x

  abbrev IsListed : ℕ → Type 0
  IsListed n = (n < length facts) × ((fact n).equal ≡ true)

  says : (n : ℕ) → n < length facts → ends frame literals (fact n).equal (origin n) ≡ Some (at (fact n).left, at (fact n).right)
  says n listed =
      zip_at (λ o (f : TextFact). ends frame literals f.equal o ≡ Some (at f.left, at f.right)) origins facts n (edge.Fact 0) (record { left = end.Text []; right = end.Text []; equal = false }) system listed

  forth : (n : ℕ) → IsListed n → equal_ends frame literals (origin n) ≡ Some (at (fact n).left, at (fact n).right)
  forth n listed = ap (λ b. ends frame literals b (origin n)) (sym listed.1) ∙ says n listed.0

  turned_back : (o : TextEdge) → equal_ends frame literals (back_of o) ≡ back (bare_schema frame) (literal_branch frame literals) (equal_ends frame literals o)
  turned_back (edge.Fact fact) = refl
  turned_back (edge.Same fact column) = refl
  turned_back (edge.FactBack fact) = twice (equal_ends frame literals (edge.Fact fact))
    where
      twice : (o : Option (Side × Side)) → o ≡ back (bare_schema frame) (literal_branch frame literals) (back (bare_schema frame) (literal_branch frame literals) o)
      twice None = refl
      twice (Some both) = refl
  turned_back (edge.Back fact column) = twice (equal_ends frame literals (edge.Same fact column))
    where
      twice : (o : Option (Side × Side)) → o ≡ back (bare_schema frame) (literal_branch frame literals) (back (bare_schema frame) (literal_branch frame literals) o)
      twice None = refl
      twice (Some both) = refl

  other_way : (n : ℕ) → IsListed n → equal_ends frame literals (back_of (origin n)) ≡ Some (at (fact n).right, at (fact n).left)
  other_way n listed = turned_back (origin n) ∙ ap (back (bare_schema frame) (literal_branch frame literals)) (forth n listed)

  abbrev the_end : Side → List TextEdge → Option Side
  the_end from es = chain_end (bare_schema frame) (literal_branch frame literals) from es

  abbrev steps : TextEnd → List ℕ → List TextEdge
  steps from path = walk origins facts from path

  abbrev leads_to : TextEnd → List ℕ → Option TextEnd
  leads_to from path = end_of origins facts from path

  -- an edge that begins where the chain stands
  one_more : (e : TextEdge) (from : Side) (both : Side × Side) (es : List TextEdge) → equal_ends frame literals e ≡ Some both → from ≡ both.0 → the_end from (e ∷ es) ≡ the_end both.1 es
  one_more e from both es is same =
      ap (option_and_then (λ (both : Side × Side). if is_same_side from both.0 then the_end both.1 es else None)) is
      ∙ cond-true (is_same_side from both.0) (the_end both.1 es) None (subst (λ (s : Side). is_same_side from s ≡ true) same (same_self from))

  -- the first edge of a walk
  record Begins (from : TextEnd) (n : ℕ) (ns : List ℕ) : Type 0 where
    e : TextEdge
    next : TextEnd
    walk_is : steps from (n ∷ ns) ≡ e ∷ steps next ns
    ends_are : equal_ends frame literals e ≡ Some (at from, at next)
    goes : leads_to from (n ∷ ns) ≡ leads_to next ns

  begins : (from to : TextEnd) (n : ℕ) (ns : List ℕ) → IsListed n → leads_to from (n ∷ ns) ≡ Some to → Begins from n ns
  begins from to n ns listed is =
      elim (cases_Bool (is_same_end from (fact n).left)) [
        | inl left ↦ record {
          e = origin n;
          next = (fact n).right;
          walk_is = cond-true (is_same_end from (fact n).left) (origin n ∷ steps (fact n).right ns) _ left;
          ends_are = forth n listed ∙ ap (λ (x : TextEnd). Some (at x, at (fact n).right)) (sym (one_end from (fact n).left left));
          goes = cond-true (is_same_end from (fact n).left) (leads_to (fact n).right ns) _ left;
        }
        | inr not_left ↦
            let rest : leads_to from (n ∷ ns) ≡ (if is_same_end from (fact n).right then leads_to (fact n).left ns else None) = cond-false (is_same_end from (fact n).left) (leads_to (fact n).right ns) _ not_left in
            elim (cases_Bool (is_same_end from (fact n).right)) [
              | inl right ↦ record {
                e = back_of (origin n);
                next = (fact n).left;
                walk_is = cond-false (is_same_end from (fact n).left) _ (back_of (origin n) ∷ steps (fact n).left ns) not_left;
                ends_are = other_way n listed ∙ ap (λ (x : TextEnd). Some (at x, at (fact n).left)) (sym (one_end from (fact n).right right));
                goes = rest ∙ cond-true (is_same_end from (fact n).right) (leads_to (fact n).left ns) None right;
              }
              | inr neither ↦
                  let none : None ≡ Some to = sym (rest ∙ cond-false (is_same_end from (fact n).right) (leads_to (fact n).left ns) None neither) ∙ is in
                  cc
            ]
      ]

  -- the walk is a chain of edges to where it ends
  walk_chain : (from to : TextEnd) (path : List ℕ) → AllByRecursion IsListed path → leads_to from path ≡ Some to → the_end (at from) (steps from path) ≡ Some (at to)
  walk_chain from to [] listed is = ap (λ (x : TextEnd). Some (at x)) (same_Some from to is)
  walk_chain from to (n ∷ ns) listed is =
      let first = begins from to n ns listed.0 is in
      ap (the_end (at from)) first.walk_is
      ∙ (one_more first.e (at from) (at from, at first.next) (steps first.next ns) first.ends_are refl
      ∙ walk_chain first.next to ns listed.1 (sym first.goes ∙ is))

  -- facts that lead somewhere are listed and equal, and the walk ends there
  all_listed : (from to : TextEnd) (path : List ℕ) → Leads facts from path to → AllByRecursion IsListed path
  all_listed from to [] leads = tt
  all_listed from to (n ∷ ns) leads = ((leads.1, leads.2.equal), all_listed leads.0 to ns leads.3)

  walk_ends : (from to : TextEnd) (path : List ℕ) → Leads facts from path to → leads_to from path ≡ Some to
  walk_ends from to [] leads = ap Some leads
  walk_ends from to (n ∷ ns) leads =
      elim (cases_Bool (is_same_end from (fact n).left)) [
        | inl left ↦
            let next : leads.0 ≡ (fact n).right = elim leads.2.ends [ inl there ↦ there.1 | inr here ↦ here.1 ∙ (sym (one_end from (fact n).left left) ∙ here.0) ] in
            cond-true (is_same_end from (fact n).left) (leads_to (fact n).right ns) _ left ∙ walk_ends (fact n).right to ns (subst (λ (x : TextEnd). Leads facts x ns to) next leads.3)
        | inr not_left ↦
            let sides : (from ≡ (fact n).right) × (leads.0 ≡ (fact n).left) = elim leads.2.ends [ inl there ↦ absurd (both_ways (is_same_end from (fact n).left) not_left (same_ends from (fact n).left there.0)) | inr here ↦ here ] in
            cond-false (is_same_end from (fact n).left) _ (if is_same_end from (fact n).right then leads_to (fact n).left ns else None) not_left
            ∙ (cond-true (is_same_end from (fact n).right) (leads_to (fact n).left ns) None (same_ends from (fact n).right sides.0)
            ∙ walk_ends (fact n).left to ns (subst (λ (x : TextEnd). Leads facts x ns to) sides.1 leads.3))
      ]

  -- ---- from the one side of an unequal fact to the other

  unequal_atom : (x : Atom) (both : Side × Side) → unequal_sides x ≡ Some both → x ≡ atom.TextNe both.0 both.1
  unequal_atom (atom.TextNe left right) both is = ap (λ (p : Side × Side). atom.TextNe p.0 p.1) (same_Some (left, right) both is)
  unequal_atom (atom.Le left right most) both is = cc
  unequal_atom (atom.TextEq left right) both is = cc
  unequal_atom (atom.IsNull row column) both is = cc
  unequal_atom (atom.NotNull row column) both is = cc
  unequal_atom (atom.Same row second) both is = cc
  unequal_atom (atom.Other row second) both is = cc

  ne_atom : (o : TextEdge) (both : Side × Side) → unequal_ends frame literals o ≡ Some both → atom_of (literal_branch frame literals) (fact_in o) ≡ Some (atom.TextNe both.0 both.1)
  ne_atom (edge.Fact n) both is =
      option_and_then_some unequal_sides (atom_of (literal_branch frame literals) n) both is (λ x here same. here ∙ ap Some (unequal_atom x both same))
  ne_atom (edge.FactBack n) both is = cc
  ne_atom (edge.Same n column) both is = cc
  ne_atom (edge.Back n column) both is = cc

  closes : (last : Option ℕ) (es : List TextEdge) → is_text_clash (bare_schema frame) (literal_branch frame literals) last es ≡ true → is_right_leaf frame literals (step.Text last es) ≡ true
  closes last es is = ap (λ b. option_map_or are_closed (closed_if b) false) is

  last_right : (last : ℕ) (path : List ℕ) → IsPath facts (Some last) path → is_right_leaf frame literals (text_leaf origins facts (Some last) path) ≡ true
  last_right last path is =
      let left : TextEnd = (fact last).left in
      let right : TextEnd = (fact last).right in
      let both : unequal_ends frame literals (origin last) ≡ Some (at left, at right) = ap (λ b. ends frame literals b (origin last)) (sym is.1) ∙ says last is.0 in
      let chain : the_end (at left) (steps left path) ≡ Some (at right) = walk_chain left right path (all_listed left right path is.2) (walk_ends left right path is.2) in
      closes (Some (fact_in (origin last))) (steps left path)
      (ap (λ o. option_map_or (text_clash (bare_schema frame) (literal_branch frame literals) (steps left path)) o false) (ne_atom (origin last) (at left, at right) both)
      ∙ (ap (λ o. option_map_or (is_same_side (at right)) o false) chain ∙ same_self (at right)))

  -- ---- from a text to another

  -- a walk from a text to another
  record IsStart (from : TextEnd) (path : List ℕ) : Type 0 where
    first : List ℕ
    second : List ℕ
    from_is : from ≡ end.Text first
    leads : leads_to from path ≡ Some (end.Text second)
    differ : is_same_text first second ≡ false

  apart_parts : (from : TextEnd) (path : List ℕ) (o : Option TextEnd) → leads_to from path ≡ o → are_apart from o ≡ true → IsStart from path
  apart_parts (end.Text text) path (Some (end.Text other)) leads is = record { first = text; second = other; from_is = refl; leads = leads; differ = not-true (is_same_text text other) is }
  apart_parts (end.Text text) path (Some (end.Var n)) leads is = cc
  apart_parts (end.Text text) path None leads is = cc
  apart_parts (end.Var n) path o leads is = cc

  start_is : (n : ℕ) (ns : List ℕ) → IsPath facts None (n ∷ ns) → IsStart (start_of origins facts (n ∷ ns)) (n ∷ ns)
  start_is n ns is =
      let path : List ℕ = n ∷ ns in
      let left : TextEnd = (fact n).left in
      let right : TextEnd = (fact n).right in
      let ends : leads_to (end.Text is.0) path ≡ Some (end.Text is.1) = walk_ends (end.Text is.0) (end.Text is.1) path is.3 in
      cond_both (are_apart left (leads_to left path)) left right (λ (x : TextEnd). IsStart x path)
      (λ apart. apart_parts left path (leads_to left path) refl apart)
      (λ together.
      let from : end.Text is.0 ≡ right = elim is.3.2.ends [
        | inl there ↦
            let apart : are_apart left (leads_to left path) ≡ true =
            subst (λ (x : TextEnd). are_apart x (leads_to x path) ≡ true) there.0 (ap (are_apart (end.Text is.0)) ends ∙ not_from_false (is_same_text is.0 is.1) is.2) in
            absurd (both_ways (are_apart left (leads_to left path)) together apart)
        | inr here ↦ here.0
      ] in
      record { first = is.0; second = is.1; from_is = sym from; leads = ap (λ (x : TextEnd). leads_to x path) (sym from) ∙ ends; differ = is.2 })

  none_right : (path : List ℕ) → IsPath facts None path → is_right_leaf frame literals (text_leaf origins facts None path) ≡ true
  none_right [] is =
      -- a text leads to itself alone
      let same : is.0 ≡ is.1 = let e : end.Text is.0 ≡ end.Text is.1 = is.3 in cc in
      absurd (both_ways (is_same_text is.0 is.1) is.2 (subst (λ t. is_same_text is.0 t ≡ true) same ((slice_eq-Decides Decides-eqb is.0 is.0 (is_same_text is.0 is.0) refl).1 refl)))
  none_right (n ∷ ns) is =
      let start : IsStart (start_of origins facts (n ∷ ns)) (n ∷ ns) = start_is n ns is in
      closes None (steps (start_of origins facts (n ∷ ns)) (n ∷ ns))
      (from_start (start_of origins facts (n ∷ ns)) start)
    where
      from_start : (from : TextEnd) → IsStart from (n ∷ ns) → constants_clash (bare_schema frame) (literal_branch frame literals) (steps from (n ∷ ns)) ≡ true
      from_start from start =
          let listed = all_listed (end.Text is.0) (end.Text is.1) (n ∷ ns) is.3 in
          let to : TextEnd = end.Text start.second in
          let first = begins from to n ns listed.0 start.leads in
          let es : List TextEdge = first.e ∷ steps first.next ns in
          let chain : the_end (at from) es ≡ Some (at to) = ap (the_end (at from)) (sym first.walk_is) ∙ walk_chain from to (n ∷ ns) listed start.leads in
          let differ : are_two_texts (bare_schema frame) (literal_branch frame literals) (at from) (at to) ≡ true =
          ap (λ (x : TextEnd). are_two_texts (bare_schema frame) (literal_branch frame literals) (at x) (at to)) start.from_is ∙ not_from_false (is_same_text start.first start.second) start.differ in
          ap (constants_clash (bare_schema frame) (literal_branch frame literals)) first.walk_is
          ∙ (ap (λ o. option_map_or (λ (both : Side × Side). chain_leads_to (bare_schema frame) (literal_branch frame literals) both.0 es (are_two_texts (bare_schema frame) (literal_branch frame literals) both.0)) o false) first.ends_are
          ∙ (ap (λ o. option_map_or (are_two_texts (bare_schema frame) (literal_branch frame literals) (at from)) o false) chain ∙ differ))

  right_leaf : (last : Option ℕ) (path : List ℕ) → IsPath facts last path → is_right_leaf frame literals (text_leaf origins facts last path) ≡ true
  right_leaf (Some last) path is = last_right last path is
  right_leaf None path is = none_right path is

pub paths_make_leaves : (frame : Frame) (literals : List Literal) (side_of : ℕ → Side) (origins : List TextEdge) (facts : List TextFact) (last : Option ℕ) (path : List ℕ) →
    IsTextSystem frame literals side_of origins facts → IsPath facts last path → is_right_leaf frame literals (text_leaf origins facts last path) ≡ true
paths_make_leaves frame literals side_of origins facts last path system is = right_leaf frame literals side_of origins facts system last path is
