-- A ring that is a contradiction in one branch is one in another, where the facts that it cites are the same but for the names
-- of their rows.
use Rattle.std.proofs.Common.{◌≡◌, ◌∙◌, sym, ap, ap₂, refl, subst, ℕ, pos, ◌+ℤ◌, Bool, true, false, not, ◌&&◌, ◌||◌, List, [], ◌∷◌, length, map, arith}
use Rattle.std.proofs.lemmas.Bool.{and_parts, and_from, or_left, or_right, eqb-true}
use Rattle.std.proofs.lemmas.Bool.Decides.{nat_tests, Decides-eqb}
use Rattle.std.proofs.lemmas.List.{length-map}
use Rattle.std.proofs.lemmas.Option.{option_and_then_some, same_Some}
use Rattle.std.proofs.lemmas.Slice.Eq.{slice_eq-Decides}
use Rattle.std.specs.Prelude.{Option, Some, None, option_and_then, nat_eq, nat_le, int_lt, if◌then◌else◌, ⊤}
use Rattle.std.specs.List.{AllByRecursion}
use Rattle.std.specs.Option.{option_map_or}
use Rattle.lint_core.specs.declared.certificate.SumEdge.{SumEdge}
use Rattle.lint_core.specs.declared.certificate.SumEdge.TheVariants as sum
use Rattle.lint_core.specs.declared.schema.Domain.{Domain}
use Rattle.lint_core.specs.declared.schema.Domain.TheVariants.{Number, Text}
use Rattle.lint_core.specs.declared.schema.Table.{Table}
use Rattle.lint_core.specs.Comparison.{is_same_text}
use Rattle.sort_formula.specs.declared.formula.Side.{Side}
use Rattle.sort_formula.specs.declared.formula.Side.TheVariants as side
use Rattle.sort_formula.specs.declared.formula.Atom.{Atom}
use Rattle.sort_formula.specs.declared.formula.Atom.TheVariants as atom
use Rattle.sort_formula.specs.Facts.{Branch, atom_of, same_rows_in, same_rows_of, domain_at, is_same_side}
use Rattle.sort_formula.specs.Rings.{Bound, bound_in, low_bound, high_bound, same_bound, bound_of, bounds_of, is_chain, is_ring, sum_of, is_fact, is_low, is_high, may_follow, may_follow_round, is_guarded, is_negative_ring, is_contradiction}
use Rattle.lint_core.specs.declared.certificate.SameEdge.{SameEdge}
use Rattle.lint_core.specs.declared.certificate.TextEdge.{TextEdge}
use Rattle.lint_core.specs.declared.certificate.TextEdge.TheVariants as text
use Rattle.lint_core.specs.declared.certificate.Step.{Step}
use Rattle.lint_core.specs.declared.certificate.Step.TheVariants as step
use Rattle.sort_formula.specs.Certificate.{children, closed_if}
use Rattle.sort_formula.specs.Chains.{turned, path_end, leads_to, is_cell, says_not_null, null_clash, is_null_clash, same_clash, is_same_clash, equal_sides, text_cells, same_cells, back, ends_of, chain_end, chain_leads_to, text_clash, are_two_texts, constants_clash, is_text_clash}
use Rattle.ground_theory.specs.Moving.{moved_sum, moved_text, moved_path, moved, renamed_side, renamed, side_has_row, has_row}

pub passes : {A : Type 0} (test : A → Bool) (o : Option A) → option_map_or test o false ≡ true → (x : A) × (o ≡ Some x) × (test x ≡ true)
passes test None h = cc
passes test (Some x) h = (x, refl, h)

implied : (x y : Bool) → (not x || y) ≡ true → x ≡ true → y ≡ true
implied true y h given = h
implied false y h given = cc

pub equal_self : (n : ℕ) → nat_eq n n ≡ true
equal_self n = grind (arith, nat_tests)

pub same_self : (s : Side) → is_same_side s s ≡ true
same_self (side.Cell row column) = and_from (nat_eq row row) (nat_eq column column) (equal_self row) (equal_self column)
same_self side.Zero = refl
same_self (side.Text text) = (slice_eq-Decides Decides-eqb text text (is_same_text text text) refl).1 refl

pub one_side : (a b : Side) → is_same_side a b ≡ true → a ≡ b
one_side side.Zero side.Zero h = refl
one_side side.Zero (side.Cell row column) h = cc
one_side side.Zero (side.Text text) h = cc
one_side (side.Cell row column) side.Zero h = cc
one_side (side.Cell row column) (side.Text text) h = cc
one_side (side.Cell row column) (side.Cell other second) h =
    let parts = and_parts (nat_eq row other) (nat_eq column second) h in
    ap₂ side.Cell (eqb-true row other parts.0) (eqb-true column second parts.1)
one_side (side.Text text) side.Zero h = cc
one_side (side.Text text) (side.Cell row column) h = cc
one_side (side.Text text) (side.Text other) h = ap side.Text ((slice_eq-Decides Decides-eqb text other (is_same_text text other) refl).0 h)

-- the steps that open a fact close no branch, where no fact is an Or
abbrev pub Opens : Step → Type 0
Opens (step.And fact) = ⊤
Opens (step.Or fact) = ⊤
Opens (step.Ex fact) = ⊤
Opens (step.All fact row) = ⊤
Opens (step.Sum edges) = ⊥
Opens (step.Text last edges) = ⊥
Opens (step.Null fact second path) = ⊥
Opens (step.Same fact path) = ⊥

module _ (facts rows : ℕ → ℕ) where
  abbrev move : SumEdge → SumEdge
  move = moved_sum facts rows

  abbrev rename : Bound → Bound
  rename b = record { left = renamed_side rows b.left; right = renamed_side rows b.right; most = b.most }

  -- ---- what doesn't look at facts and rows

  low_moved : (e : SumEdge) → is_low (move e) ≡ is_low e
  low_moved (sum.Fact fact) = refl
  low_moved (sum.Low row column) = refl
  low_moved (sum.High row column) = refl
  low_moved (sum.Same fact column) = refl
  low_moved (sum.Back fact column) = refl

  high_moved : (e : SumEdge) → is_high (move e) ≡ is_high e
  high_moved (sum.Fact fact) = refl
  high_moved (sum.Low row column) = refl
  high_moved (sum.High row column) = refl
  high_moved (sum.Same fact column) = refl
  high_moved (sum.Back fact column) = refl

  fact_moved : (e : SumEdge) → is_fact (move e) ≡ is_fact e
  fact_moved (sum.Fact fact) = refl
  fact_moved (sum.Low row column) = refl
  fact_moved (sum.High row column) = refl
  fact_moved (sum.Same fact column) = refl
  fact_moved (sum.Back fact column) = refl

  follow_moved : (e next : SumEdge) → may_follow (move e) (move next) ≡ may_follow e next
  follow_moved e next = rw (low_moved e, high_moved next, fact_moved e, fact_moved next) refl

  round_moved : (first : SumEdge) (es : List SumEdge) → may_follow_round (move first) (map move es) ≡ may_follow_round first es
  round_moved first [] = refl
  round_moved first (e ∷ []) = follow_moved e first
  round_moved first (e ∷ next ∷ es) = ap₂ (λ x y. x && y) (follow_moved e next) (round_moved first (next ∷ es))

  guarded_moved : (es : List SumEdge) → is_guarded (map move es) ≡ is_guarded es
  guarded_moved [] = refl
  guarded_moved (e ∷ es) = round_moved e (e ∷ es)

  sum_moved : (bs : List Bound) → sum_of (map rename bs) ≡ sum_of bs
  sum_moved [] = refl
  sum_moved (b ∷ bs) = ap (λ n. b.most +ℤ n) (sum_moved bs)

  side_moved : (a b : Side) → is_same_side a b ≡ true → is_same_side (renamed_side rows a) (renamed_side rows b) ≡ true
  side_moved a b same = subst (λ (c : Side). is_same_side (renamed_side rows a) (renamed_side rows c) ≡ true) (one_side a b same) (same_self (renamed_side rows a))

  chain_moved : (from : Side) (bs : List Bound) (to : Side) → is_chain from bs to ≡ true → is_chain (renamed_side rows from) (map rename bs) (renamed_side rows to) ≡ true
  chain_moved from [] to chain = side_moved from to chain
  chain_moved from (b ∷ bs) to chain =
      let parts = and_parts (is_same_side from b.left) (is_chain b.right bs to) chain in
      and_from (is_same_side (renamed_side rows from) (renamed_side rows b.left)) (is_chain (renamed_side rows b.right) (map rename bs) (renamed_side rows to))
      (side_moved from b.left parts.0) (chain_moved b.right bs to parts.1)

  ring_moved : (bs : List Bound) → is_ring bs ≡ true → is_ring (map rename bs) ≡ true
  ring_moved [] ring = cc
  ring_moved (b ∷ bs) ring = chain_moved b.left (b ∷ bs) b.left ring

  -- ---- the bounds of edges

  module _ (schema other : List Table) (b c : Branch)
      (atoms : (i : ℕ) (x : Atom) → atom_of b i ≡ Some x → atom_of c (facts i) ≡ Some (renamed rows x))
      (domains : (i : ℕ) (x : Atom) (row : ℕ) → atom_of b i ≡ Some x → has_row row x ≡ true → (column : ℕ) → domain_at other c (rows row) column ≡ domain_at schema b row column) where
    bound_in_moved : (x : Atom) (β : Bound) → bound_in x ≡ Some β → bound_in (renamed rows x) ≡ Some (rename β)
    bound_in_moved (atom.Le left right most) β is = ap (λ (β : Bound). Some (rename β)) (same_Some (record { left = left; right = right; most = most }) β is)
    bound_in_moved (atom.TextEq left right) β is = cc
    bound_in_moved (atom.TextNe left right) β is = cc
    bound_in_moved (atom.IsNull row column) β is = cc
    bound_in_moved (atom.NotNull row column) β is = cc
    bound_in_moved (atom.Same row other) β is = cc
    bound_in_moved (atom.Other row other) β is = cc

    -- what an edge has to know of the row of a domain's bound
    abbrev Known : SumEdge → Type 0
    Known (sum.Low row column) = domain_at other c (rows row) column ≡ domain_at schema b row column
    Known (sum.High row column) = domain_at other c (rows row) column ≡ domain_at schema b row column
    Known (sum.Fact fact) = Unit {0}
    Known (sum.Same fact column) = Unit {0}
    Known (sum.Back fact column) = Unit {0}

    low_is : (row column : ℕ) (d : Domain) (β : Bound) → low_bound row column d ≡ Some β → low_bound (rows row) column d ≡ Some (rename β)
    low_is row column (Number least greatest unit) β is = ap (λ (β : Bound). Some (rename β)) (same_Some _ β is)
    low_is row column (Text length) β is = cc

    high_is : (row column : ℕ) (d : Domain) (β : Bound) → high_bound row column d ≡ Some β → high_bound (rows row) column d ≡ Some (rename β)
    high_is row column (Number least greatest unit) β is = ap (λ (β : Bound). Some (rename β)) (same_Some _ β is)
    high_is row column (Text length) β is = cc

    same_is : (row second column : ℕ) (d : Domain) (β : Bound) → same_bound row second column d ≡ Some β → same_bound (rows row) (rows second) column d ≡ Some (rename β)
    same_is row second column (Number least greatest unit) β is = ap (λ (β : Bound). Some (rename β)) (same_Some _ β is)
    same_is row second column (Text length) β is = cc

    at_domain : (d e : Option Domain) (f : Domain → Option Bound) (g : Domain → Option Bound) (β γ : Bound) → e ≡ d → ((x : Domain) → f x ≡ Some β → g x ≡ Some γ) →
        option_and_then f d ≡ Some β → option_and_then g e ≡ Some γ
    at_domain d e f g β γ same leads is =
        option_and_then_some f d β is (λ x here more. ap (option_and_then g) (same ∙ here) ∙ leads x more)

    same_rows_are : (x : Atom) (pair : ℕ × ℕ) → same_rows_in x ≡ Some pair → x ≡ atom.Same pair.0 pair.1
    same_rows_are (atom.Same row second) pair is = ap (λ (p : ℕ × ℕ). atom.Same p.0 p.1) (same_Some (row, second) pair is)
    same_rows_are (atom.Le left right most) pair is = cc
    same_rows_are (atom.TextEq left right) pair is = cc
    same_rows_are (atom.TextNe left right) pair is = cc
    same_rows_are (atom.IsNull row column) pair is = cc
    same_rows_are (atom.NotNull row column) pair is = cc
    same_rows_are (atom.Other row second) pair is = cc

    -- the two rows that a fact says are one
    abbrev Joins : ℕ → ℕ × ℕ → Type 0
    Joins fact pair = (same_rows_of c (facts fact) ≡ Some (rows pair.0, rows pair.1)) × ((column : ℕ) → domain_at other c (rows pair.0) column ≡ domain_at schema b pair.0 column)

    joins : (fact : ℕ) (pair : ℕ × ℕ) → same_rows_of b fact ≡ Some pair → Joins fact pair
    joins fact pair is =
        option_and_then_some same_rows_in (atom_of b fact) pair is
        (λ x at same.
        let one : x ≡ atom.Same pair.0 pair.1 = same_rows_are x pair same in
        let named : has_row pair.0 x ≡ true = subst (λ (y : Atom). has_row pair.0 y ≡ true) (sym one) (or_left (nat_eq pair.0 pair.0) (nat_eq pair.0 pair.1) (equal_self pair.0)) in
        (ap (option_and_then same_rows_in) (atoms fact x at ∙ ap (λ (y : Atom). Some (renamed rows y)) one), domains fact x pair.0 at named))

    bound_moved : (e : SumEdge) (β : Bound) → Known e → bound_of schema b e ≡ Some β → bound_of other c (move e) ≡ Some (rename β)
    bound_moved (sum.Fact fact) β known is =
        option_and_then_some bound_in (atom_of b fact) β is (λ x at bound. ap (option_and_then bound_in) (atoms fact x at) ∙ bound_in_moved x β bound)
    bound_moved (sum.Low row column) β known is =
        at_domain (domain_at schema b row column) (domain_at other c (rows row) column) (low_bound row column) (low_bound (rows row) column) β (rename β) known (λ d. low_is row column d β) is
    bound_moved (sum.High row column) β known is =
        at_domain (domain_at schema b row column) (domain_at other c (rows row) column) (high_bound row column) (high_bound (rows row) column) β (rename β) known (λ d. high_is row column d β) is
    bound_moved (sum.Same fact column) β known is =
        option_and_then_some (λ (pair : ℕ × ℕ). option_and_then (same_bound pair.0 pair.1 column) (domain_at schema b pair.0 column)) (same_rows_of b fact) β is
        (λ pair here more.
        let joined = joins fact pair here in
        ap (option_and_then (λ (pair : ℕ × ℕ). option_and_then (same_bound pair.0 pair.1 column) (domain_at other c pair.0 column))) joined.0
        ∙ at_domain (domain_at schema b pair.0 column) (domain_at other c (rows pair.0) column) (same_bound pair.0 pair.1 column) (same_bound (rows pair.0) (rows pair.1) column) β (rename β)
        (joined.1 column) (λ d. same_is pair.0 pair.1 column d β) more)
    bound_moved (sum.Back fact column) β known is =
        option_and_then_some (λ (pair : ℕ × ℕ). option_and_then (same_bound pair.1 pair.0 column) (domain_at schema b pair.0 column)) (same_rows_of b fact) β is
        (λ pair here more.
        let joined = joins fact pair here in
        ap (option_and_then (λ (pair : ℕ × ℕ). option_and_then (same_bound pair.1 pair.0 column) (domain_at other c pair.0 column))) joined.0
        ∙ at_domain (domain_at schema b pair.0 column) (domain_at other c (rows pair.0) column) (same_bound pair.1 pair.0 column) (same_bound (rows pair.1) (rows pair.0) column) β (rename β)
        (joined.1 column) (λ d. same_is pair.1 pair.0 column d β) more)

    bounds_moved : (es : List SumEdge) (bs : List Bound) → AllByRecursion Known es → bounds_of schema b es ≡ Some bs → bounds_of other c (map move es) ≡ Some (map rename bs)
    bounds_moved [] bs known are = ap (λ (bs : List Bound). Some (map rename bs)) (same_Some [] bs are)
    bounds_moved (e ∷ es) bs known are =
        option_and_then_some (λ β. option_and_then (λ rest. Some (β ∷ rest)) (bounds_of schema b es)) (bound_of schema b e) bs are
        (λ β here more.
        option_and_then_some (λ rest. Some (β ∷ rest)) (bounds_of schema b es) bs more
        (λ rest there same.
        ap (option_and_then (λ β. option_and_then (λ rest. Some (β ∷ rest)) (bounds_of other c (map move es)))) (bound_moved e β known.0 here)
        ∙ (ap (option_and_then (λ rest. Some (rename β ∷ rest))) (bounds_moved es rest known.1 there)
        ∙ ap (λ (bs : List Bound). Some (map rename bs)) (same_Some (β ∷ rest) bs same))))

    -- ---- the row of a domain's bound is named by the fact beside it

    low_right : (row column : ℕ) (o : Option Domain) (β : Bound) → option_and_then (low_bound row column) o ≡ Some β → β.right ≡ side.Cell row column
    low_right row column None β is = cc
    low_right row column (Some (Number least greatest unit)) β is = ap (λ (β : Bound). β.right) (sym (same_Some _ β is))
    low_right row column (Some (Text length)) β is = cc

    high_left : (row column : ℕ) (o : Option Domain) (β : Bound) → option_and_then (high_bound row column) o ≡ Some β → β.left ≡ side.Cell row column
    high_left row column None β is = cc
    high_left row column (Some (Number least greatest unit)) β is = ap (λ (β : Bound). β.left) (sym (same_Some _ β is))
    high_left row column (Some (Text length)) β is = cc

    left_named : (x : Atom) (β : Bound) (row column : ℕ) → bound_in x ≡ Some β → β.left ≡ side.Cell row column → has_row row x ≡ true
    left_named (atom.Le left right most) β row column is at =
        let same : left ≡ side.Cell row column = ap (λ (β : Bound). β.left) (same_Some (record { left = left; right = right; most = most }) β is) ∙ at in
        or_left (side_has_row row left) (side_has_row row right) (ap (side_has_row row) same ∙ equal_self row)
    left_named (atom.TextEq left right) β row column is at = cc
    left_named (atom.TextNe left right) β row column is at = cc
    left_named (atom.IsNull other' second) β row column is at = cc
    left_named (atom.NotNull other' second) β row column is at = cc
    left_named (atom.Same other' second) β row column is at = cc
    left_named (atom.Other other' second) β row column is at = cc

    right_named : (x : Atom) (β : Bound) (row column : ℕ) → bound_in x ≡ Some β → β.right ≡ side.Cell row column → has_row row x ≡ true
    right_named (atom.Le left right most) β row column is at =
        let same : right ≡ side.Cell row column = ap (λ (β : Bound). β.right) (same_Some (record { left = left; right = right; most = most }) β is) ∙ at in
        or_right (side_has_row row left) (side_has_row row right) (ap (side_has_row row) same ∙ equal_self row)
    right_named (atom.TextEq left right) β row column is at = cc
    right_named (atom.TextNe left right) β row column is at = cc
    right_named (atom.IsNull other' second) β row column is at = cc
    right_named (atom.NotNull other' second) β row column is at = cc
    right_named (atom.Same other' second) β row column is at = cc
    right_named (atom.Other other' second) β row column is at = cc

    -- a fact whose bound begins, or ends, at the cell
    begins_known : (e : SumEdge) (β : Bound) (row column : ℕ) → is_fact e ≡ true → bound_of schema b e ≡ Some β → β.left ≡ side.Cell row column →
        domain_at other c (rows row) column ≡ domain_at schema b row column
    begins_known (sum.Fact fact) β row column is at begins =
        option_and_then_some bound_in (atom_of b fact) β at (λ x here bound. domains fact x row here (left_named x β row column bound begins) column)
    begins_known (sum.Low other' second) β row column is at begins = cc
    begins_known (sum.High other' second) β row column is at begins = cc
    begins_known (sum.Same fact second) β row column is at begins = cc
    begins_known (sum.Back fact second) β row column is at begins = cc

    ends_known : (e : SumEdge) (β : Bound) (row column : ℕ) → is_fact e ≡ true → bound_of schema b e ≡ Some β → β.right ≡ side.Cell row column →
        domain_at other c (rows row) column ≡ domain_at schema b row column
    ends_known (sum.Fact fact) β row column is at ends =
        option_and_then_some bound_in (atom_of b fact) β at (λ x here bound. domains fact x row here (right_named x β row column bound ends) column)
    ends_known (sum.Low other' second) β row column is at ends = cc
    ends_known (sum.High other' second) β row column is at ends = cc
    ends_known (sum.Same fact second) β row column is at ends = cc
    ends_known (sum.Back fact second) β row column is at ends = cc

    -- by the edge behind it and the edge before it
    known_between : (before e next : SumEdge) (α β γ : Bound) → bound_of schema b before ≡ Some α → bound_of schema b e ≡ Some β → bound_of schema b next ≡ Some γ →
        may_follow before e ≡ true → may_follow e next ≡ true → is_same_side α.right β.left ≡ true → is_same_side β.right γ.left ≡ true → Known e
    known_between before (sum.Fact fact) next α β γ first here second behind ahead meets leads = tt
    known_between before (sum.Same fact column) next α β γ first here second behind ahead meets leads = tt
    known_between before (sum.Back fact column) next α β γ first here second behind ahead meets leads = tt
    known_between before (sum.Low row column) next α β γ first here second behind ahead meets leads =
        let fact : is_fact next ≡ true = implied true (is_fact next) (and_parts (not true || is_fact next) (not (is_high next) || false) ahead).0 refl in
        begins_known next γ row column fact second (sym (one_side β.right γ.left leads) ∙ low_right row column (domain_at schema b row column) β here)
    known_between before (sum.High row column) next α β γ first here second behind ahead meets leads =
        let fact : is_fact before ≡ true = implied true (is_fact before) (and_parts (not (is_low before) || false) (not true || is_fact before) behind).1 refl in
        ends_known before α row column fact first (one_side α.right β.left meets ∙ high_left row column (domain_at schema b row column) β here)

    -- ---- round the ring

    abbrev AreBounds : List SumEdge → List Bound → Type 0
    AreBounds [] [] = Unit {0}
    AreBounds [] (β ∷ bs) = ⊥
    AreBounds (e ∷ es) [] = ⊥
    AreBounds (e ∷ es) (β ∷ bs) = (bound_of schema b e ≡ Some β) × AreBounds es bs

    are_bounds : (es : List SumEdge) (bs : List Bound) → bounds_of schema b es ≡ Some bs → AreBounds es bs
    are_bounds [] bs are = subst (AreBounds []) (same_Some [] bs are) tt
    are_bounds (e ∷ es) bs are =
        option_and_then_some (λ β. option_and_then (λ rest. Some (β ∷ rest)) (bounds_of schema b es)) (bound_of schema b e) bs are
        (λ β here more.
        option_and_then_some (λ rest. Some (β ∷ rest)) (bounds_of schema b es) bs more
        (λ rest there same. subst (AreBounds (e ∷ es)) (same_Some (β ∷ rest) bs same) (here, are_bounds es rest there)))

    -- the last edge stands before the first
    abbrev EndsBefore : SumEdge → Bound → Type 0
    EndsBefore first φ = (last : SumEdge) × ((ω : Bound) × (bound_of schema b last ≡ Some ω) × (may_follow last first ≡ true) × (is_same_side ω.right φ.left ≡ true))

    last_of : (first : SumEdge) (φ : Bound) (e : SumEdge) (es : List SumEdge) (β : Bound) (bs : List Bound) → AreBounds (e ∷ es) (β ∷ bs) → may_follow_round first (e ∷ es) ≡ true →
        is_chain β.right bs φ.left ≡ true → EndsBefore first φ
    last_of first φ e [] β [] are round chain = (e, (β, are.0, round, chain))
    last_of first φ e [] β (γ ∷ bs) are round chain = absurd are.1
    last_of first φ e (next ∷ es) β [] are round chain = absurd are.1
    last_of first φ e (next ∷ es) β (γ ∷ bs) are round chain =
        last_of first φ next es γ bs are.1 (and_parts (may_follow e next) (may_follow_round first (next ∷ es)) round).1 (and_parts (is_same_side β.right γ.left) (is_chain γ.right bs φ.left) chain).1

    all_known : (first : SumEdge) (φ : Bound) → bound_of schema b first ≡ Some φ → (before : SumEdge) (α : Bound) → bound_of schema b before ≡ Some α →
        (e : SumEdge) (es : List SumEdge) (β : Bound) (bs : List Bound) → AreBounds (e ∷ es) (β ∷ bs) → may_follow before e ≡ true → is_same_side α.right β.left ≡ true →
        may_follow_round first (e ∷ es) ≡ true → is_chain β.right bs φ.left ≡ true → AllByRecursion Known (e ∷ es)
    all_known first φ starts before α here e [] β [] are behind meets round chain =
        (known_between before e first α β φ here are.0 starts behind round meets chain, tt)
    all_known first φ starts before α here e [] β (γ ∷ bs) are behind meets round chain = absurd are.1
    all_known first φ starts before α here e (next ∷ es) β [] are behind meets round chain = absurd are.1
    all_known first φ starts before α here e (next ∷ es) β (γ ∷ bs) are behind meets round chain =
        let rounds = and_parts (may_follow e next) (may_follow_round first (next ∷ es)) round in
        let chains = and_parts (is_same_side β.right γ.left) (is_chain γ.right bs φ.left) chain in (
          known_between before e next α β γ here are.0 are.1.0 behind rounds.0 meets chains.0,
          all_known first φ starts e β are.0 next es γ bs are.1 rounds.0 chains.0 rounds.1 chains.1,
        )

    guarded_known : (es : List SumEdge) (bs : List Bound) → bounds_of schema b es ≡ Some bs → is_guarded es ≡ true → is_ring bs ≡ true → AllByRecursion Known es
    guarded_known [] bs are guarded ring = tt
    guarded_known (e ∷ es) [] are guarded ring = cc
    guarded_known (e ∷ es) (β ∷ bs) are guarded ring =
        let both = are_bounds (e ∷ es) (β ∷ bs) are in
        let chain = (and_parts (is_same_side β.left β.left) (is_chain β.right bs β.left) ring).1 in
        let last = last_of e β e es β bs both guarded chain in
        all_known e β both.0 last.0 last.1.0 last.1.1 e es β bs both last.1.2 last.1.3 guarded chain

    -- a contradiction stays one
    pub contradiction_moved : (es : List SumEdge) → is_contradiction schema b es ≡ true → is_contradiction other c (map move es) ≡ true
    contradiction_moved es is =
        let first = and_parts (nat_le (length es) 32769 && is_guarded es) (option_map_or is_negative_ring (bounds_of schema b es) false) is in
        let second = and_parts (nat_le (length es) 32769) (is_guarded es) first.0 in
        let bs = passes is_negative_ring (bounds_of schema b es) first.1 in
        let parts = and_parts (is_ring bs.0) (int_lt (sum_of bs.0) (pos 0)) bs.2 in
        let known = guarded_known es bs.0 bs.1 second.1 parts.0 in
        let count : nat_le (length (map move es)) 32769 ≡ true = ap (λ n. nat_le n 32769) (length-map es move) ∙ second.0 in
        let guarded : is_guarded (map move es) ≡ true = guarded_moved es ∙ second.1 in
        let negative : is_negative_ring (map rename bs.0) ≡ true =
        and_from (is_ring (map rename bs.0)) (int_lt (sum_of (map rename bs.0)) (pos 0)) (ring_moved bs.0 parts.0) (ap (λ n. int_lt n (pos 0)) (sum_moved bs.0) ∙ parts.1) in
        and_from (nat_le (length (map move es)) 32769 && is_guarded (map move es)) (option_map_or is_negative_ring (bounds_of other c (map move es)) false)
        (and_from (nat_le (length (map move es)) 32769) (is_guarded (map move es)) count guarded)
        (ap (λ o. option_map_or is_negative_ring o false) (bounds_moved es bs.0 known bs.1) ∙ negative)

    -- ---- paths

    chosen : {A : Type 0} (t : Bool) (o : Option A) (x : A) → (if t then o else None) ≡ Some x → (t ≡ true) × (o ≡ Some x)
    chosen true o x at = (refl, at)
    chosen false o x at = cc

    if_chosen : {A : Type 0} (t : Bool) (o : Option A) (x : A) → t ≡ true → o ≡ Some x → (if t then o else None) ≡ Some x
    if_chosen true o x is at = at
    if_chosen false o x is at = cc

    turned_moved : (backwards : Bool) (pair : ℕ × ℕ) → turned backwards (rows pair.0, rows pair.1) ≡ (rows (turned backwards pair).0, rows (turned backwards pair).1)
    turned_moved true pair = refl
    turned_moved false pair = refl

    path_moved : (row : ℕ) (path : List SameEdge) (end : ℕ) → path_end b row path ≡ Some end → path_end c (rows row) (moved_path facts rows path) ≡ Some (rows end)
    path_moved row [] end is = ap (λ r. Some (rows r)) (same_Some row end is)
    path_moved row (e ∷ es) end is =
        option_and_then_some (λ (pair : ℕ × ℕ). if nat_eq row pair.0 then path_end b pair.1 es else None)
        (option_and_then (λ pair. Some (turned e.back pair)) (same_rows_of b e.fact)) end is
        (λ pair here more.
        option_and_then_some (λ (pair : ℕ × ℕ). Some (turned e.back pair)) (same_rows_of b e.fact) pair here
        (λ own at same.
        let both = chosen (nat_eq row pair.0) (path_end b pair.1 es) end more in
        let new : option_and_then (λ (p : ℕ × ℕ). Some (turned e.back p)) (same_rows_of c (facts e.fact)) ≡ Some (rows pair.0, rows pair.1) =
        ap (option_and_then (λ (p : ℕ × ℕ). Some (turned e.back p))) (joins e.fact own at).0
        ∙ (ap Some (turned_moved e.back own) ∙ ap (λ (p : ℕ × ℕ). Some (rows p.0, rows p.1)) (same_Some (turned e.back own) pair same)) in
        let begins : nat_eq (rows row) (rows pair.0) ≡ true = subst (λ r. nat_eq (rows row) (rows r) ≡ true) (eqb-true row pair.0 both.0) (equal_self (rows row)) in
        ap (option_and_then (λ (p : ℕ × ℕ). if nat_eq (rows row) p.0 then path_end c p.1 (moved_path facts rows es) else None)) new
        ∙ if_chosen (nat_eq (rows row) (rows pair.0)) (path_end c (rows pair.1) (moved_path facts rows es)) (rows end) begins (path_moved pair.1 es end both.1)))

    leads_moved : (row : ℕ) (path : List SameEdge) (test after : ℕ → Bool) → ((end : ℕ) → test end ≡ true → after (rows end) ≡ true) → leads_to b row path test ≡ true →
        leads_to c (rows row) (moved_path facts rows path) after ≡ true
    leads_moved row path test after leads is =
        let end = passes test (path_end b row path) is in
        ap (λ o. option_map_or after o false) (path_moved row path end.0 end.1) ∙ leads end.0 end.2

    -- ---- a cell that is NULL and is not, rows that are one and are not

    or_moved : (p q r s : Bool) → (p ≡ true → r ≡ true) → (q ≡ true → s ≡ true) → (p || q) ≡ true → (r || s) ≡ true
    or_moved true q r s one two is = or_left r s (one refl)
    or_moved false q r s one two is = or_right r s (two is)

    equal_moved : (m n : ℕ) → nat_eq m n ≡ true → nat_eq (rows m) (rows n) ≡ true
    equal_moved m n same = subst (λ k. nat_eq (rows m) (rows k) ≡ true) (eqb-true m n same) (equal_self (rows m))

    not_null_moved : (row column : ℕ) (x : Atom) → says_not_null row column x ≡ true → says_not_null (rows row) column (renamed rows x) ≡ true
    not_null_moved row column (atom.NotNull second other') is =
        let parts = and_parts (nat_eq row second) (nat_eq column other') is in
        and_from (nat_eq (rows row) (rows second)) (nat_eq column other') (equal_moved row second parts.0) parts.1
    not_null_moved row column (atom.Le left right most) is =
        or_moved (is_cell row column left) (is_cell row column right) (is_cell (rows row) column (renamed_side rows left)) (is_cell (rows row) column (renamed_side rows right))
        (side_moved left (side.Cell row column)) (side_moved right (side.Cell row column)) is
    not_null_moved row column (atom.TextEq left right) is =
        or_moved (is_cell row column left) (is_cell row column right) (is_cell (rows row) column (renamed_side rows left)) (is_cell (rows row) column (renamed_side rows right))
        (side_moved left (side.Cell row column)) (side_moved right (side.Cell row column)) is
    not_null_moved row column (atom.TextNe left right) is =
        or_moved (is_cell row column left) (is_cell row column right) (is_cell (rows row) column (renamed_side rows left)) (is_cell (rows row) column (renamed_side rows right))
        (side_moved left (side.Cell row column)) (side_moved right (side.Cell row column)) is
    not_null_moved row column (atom.IsNull second other') is = cc
    not_null_moved row column (atom.Same second other') is = cc
    not_null_moved row column (atom.Other second other') is = cc

    null_moved : (path : List SameEdge) (x y : Atom) → null_clash b path x y ≡ true → null_clash c (moved_path facts rows path) (renamed rows x) (renamed rows y) ≡ true
    null_moved path (atom.IsNull row column) y is =
        leads_moved row path (λ end. says_not_null end column y) (λ end. says_not_null end column (renamed rows y)) (λ end. not_null_moved end column y) is
    null_moved path (atom.Le left right most) y is = cc
    null_moved path (atom.TextEq left right) y is = cc
    null_moved path (atom.TextNe left right) y is = cc
    null_moved path (atom.NotNull row column) y is = cc
    null_moved path (atom.Same row second) y is = cc
    null_moved path (atom.Other row second) y is = cc

    pub null_clash_moved : (fact second : ℕ) (path : List SameEdge) → is_null_clash b fact second path ≡ true → is_null_clash c (facts fact) (facts second) (moved_path facts rows path) ≡ true
    null_clash_moved fact second path is =
        let x = passes (λ x. option_map_or (null_clash b path x) (atom_of b second) false) (atom_of b fact) is in
        let y = passes (null_clash b path x.0) (atom_of b second) x.2 in
        ap₂ (λ p q. option_map_or (λ x. option_map_or (null_clash c (moved_path facts rows path) x) q false) p false) (atoms fact x.0 x.1) (atoms second y.0 y.1)
        ∙ null_moved path x.0 y.0 y.2

    same_moved : (path : List SameEdge) (x : Atom) → same_clash b path x ≡ true → same_clash c (moved_path facts rows path) (renamed rows x) ≡ true
    same_moved path (atom.Other row second) is = leads_moved row path (nat_eq second) (nat_eq (rows second)) (λ end. equal_moved second end) is
    same_moved path (atom.Le left right most) is = cc
    same_moved path (atom.TextEq left right) is = cc
    same_moved path (atom.TextNe left right) is = cc
    same_moved path (atom.IsNull row column) is = cc
    same_moved path (atom.NotNull row column) is = cc
    same_moved path (atom.Same row second) is = cc

    pub same_clash_moved : (fact : ℕ) (path : List SameEdge) → is_same_clash b fact path ≡ true → is_same_clash c (facts fact) (moved_path facts rows path) ≡ true
    same_clash_moved fact path is =
        let x = passes (same_clash b path) (atom_of b fact) is in
        ap (λ o. option_map_or (same_clash c (moved_path facts rows path)) o false) (atoms fact x.0 x.1) ∙ same_moved path x.0 x.2

    -- ---- texts

    abbrev Ends : Type 0
    Ends = Side × Side

    abbrev rename_ends : Ends → Ends
    rename_ends both = (renamed_side rows both.0, renamed_side rows both.1)

    equal_sides_moved : (x : Atom) (both : Ends) → equal_sides x ≡ Some both → equal_sides (renamed rows x) ≡ Some (rename_ends both)
    equal_sides_moved (atom.TextEq left right) both is = ap (λ (both : Ends). Some (rename_ends both)) (same_Some (left, right) both is)
    equal_sides_moved (atom.Le left right most) both is = cc
    equal_sides_moved (atom.TextNe left right) both is = cc
    equal_sides_moved (atom.IsNull row column) both is = cc
    equal_sides_moved (atom.NotNull row column) both is = cc
    equal_sides_moved (atom.Same row second) both is = cc
    equal_sides_moved (atom.Other row second) both is = cc

    fact_ends : (fact : ℕ) (both : Ends) → option_and_then equal_sides (atom_of b fact) ≡ Some both → option_and_then equal_sides (atom_of c (facts fact)) ≡ Some (rename_ends both)
    fact_ends fact both is =
        option_and_then_some equal_sides (atom_of b fact) both is (λ x at same. ap (option_and_then equal_sides) (atoms fact x at) ∙ equal_sides_moved x both same)

    text_cells_moved : (column : ℕ) (pair : ℕ × ℕ) (o p : Option Domain) (both : Ends) → p ≡ o → option_and_then (text_cells column pair) o ≡ Some both →
        option_and_then (text_cells column (rows pair.0, rows pair.1)) p ≡ Some (rename_ends both)
    text_cells_moved column pair None p both same is = cc
    text_cells_moved column pair (Some (Number least greatest unit)) p both same is = cc
    text_cells_moved column pair (Some (Text length)) p both same is =
        ap (option_and_then (text_cells column (rows pair.0, rows pair.1))) same
        ∙ ap (λ (both : Ends). Some (rename_ends both)) (same_Some (side.Cell pair.0 column, side.Cell pair.1 column) both is)

    cells_ends : (fact column : ℕ) (both : Ends) → same_cells schema b fact column ≡ Some both → same_cells other c (facts fact) column ≡ Some (rename_ends both)
    cells_ends fact column both is =
        option_and_then_some (λ (pair : ℕ × ℕ). option_and_then (text_cells column pair) (domain_at schema b pair.0 column)) (same_rows_of b fact) both is
        (λ pair here more.
        let joined = joins fact pair here in
        ap (option_and_then (λ (pair : ℕ × ℕ). option_and_then (text_cells column pair) (domain_at other c pair.0 column))) joined.0
        ∙ text_cells_moved column pair (domain_at schema b pair.0 column) (domain_at other c (rows pair.0) column) both (joined.1 column) more)

    back_moved : (o p : Option Ends) (both : Ends) → ((x : Ends) → o ≡ Some x → p ≡ Some (rename_ends x)) → back schema b o ≡ Some both → back other c p ≡ Some (rename_ends both)
    back_moved o p both moves is =
        option_and_then_some (λ (x : Ends). Some (x.1, x.0)) o both is
        (λ x here same.
        ap (option_and_then (λ (x : Ends). Some (x.1, x.0))) (moves x here) ∙ ap (λ (x : Ends). Some (rename_ends x)) (same_Some (x.1, x.0) both same))

    ends_moved : (e : TextEdge) (both : Ends) → ends_of schema b e ≡ Some both → ends_of other c (moved_text facts rows e) ≡ Some (rename_ends both)
    ends_moved (text.Fact fact) both is = fact_ends fact both is
    ends_moved (text.FactBack fact) both is =
        back_moved (option_and_then equal_sides (atom_of b fact)) (option_and_then equal_sides (atom_of c (facts fact))) both (fact_ends fact) is
    ends_moved (text.Same fact column) both is = cells_ends fact column both is
    ends_moved (text.Back fact column) both is = back_moved (same_cells schema b fact column) (same_cells other c (facts fact) column) both (cells_ends fact column) is

    text_chain_moved : (from : Side) (es : List TextEdge) (end : Side) → chain_end schema b from es ≡ Some end →
        chain_end other c (renamed_side rows from) (map (moved_text facts rows) es) ≡ Some (renamed_side rows end)
    text_chain_moved from [] end is = ap (λ s. Some (renamed_side rows s)) (same_Some from end is)
    text_chain_moved from (e ∷ es) end is =
        option_and_then_some (λ (both : Ends). if is_same_side from both.0 then chain_end schema b both.1 es else None) (ends_of schema b e) end is
        (λ both here more.
        let parts = chosen (is_same_side from both.0) (chain_end schema b both.1 es) end more in
        ap (option_and_then (λ (both : Ends). if is_same_side (renamed_side rows from) both.0 then chain_end other c both.1 (map (moved_text facts rows) es) else None)) (ends_moved e both here)
        ∙ if_chosen (is_same_side (renamed_side rows from) (renamed_side rows both.0)) (chain_end other c (renamed_side rows both.1) (map (moved_text facts rows) es)) (renamed_side rows end)
        (side_moved from both.0 parts.0) (text_chain_moved both.1 es end parts.1))

    chain_leads_moved : (from : Side) (es : List TextEdge) (test after : Side → Bool) → ((end : Side) → test end ≡ true → after (renamed_side rows end) ≡ true) →
        chain_leads_to schema b from es test ≡ true → chain_leads_to other c (renamed_side rows from) (map (moved_text facts rows) es) after ≡ true
    chain_leads_moved from es test after leads is =
        let end = passes test (chain_end schema b from es) is in
        ap (λ o. option_map_or after o false) (text_chain_moved from es end.0 end.1) ∙ leads end.0 end.2

    text_moved : (es : List TextEdge) (x : Atom) → text_clash schema b es x ≡ true → text_clash other c (map (moved_text facts rows) es) (renamed rows x) ≡ true
    text_moved es (atom.TextNe left right) is = chain_leads_moved left es (is_same_side right) (is_same_side (renamed_side rows right)) (λ end. side_moved right end) is
    text_moved es (atom.Le left right most) is = cc
    text_moved es (atom.TextEq left right) is = cc
    text_moved es (atom.IsNull row column) is = cc
    text_moved es (atom.NotNull row column) is = cc
    text_moved es (atom.Same row second) is = cc
    text_moved es (atom.Other row second) is = cc

    two_texts_moved : (x y : Side) → are_two_texts schema b x y ≡ true → are_two_texts other c (renamed_side rows x) (renamed_side rows y) ≡ true
    two_texts_moved (side.Text x) (side.Text y) is = is
    two_texts_moved (side.Text x) side.Zero is = cc
    two_texts_moved (side.Text x) (side.Cell row column) is = cc
    two_texts_moved side.Zero y is = cc
    two_texts_moved (side.Cell row column) y is = cc

    constants_moved : (es : List TextEdge) → constants_clash schema b es ≡ true → constants_clash other c (map (moved_text facts rows) es) ≡ true
    constants_moved [] is = cc
    constants_moved (e ∷ es) is =
        let both = passes (λ (both : Ends). chain_leads_to schema b both.0 (e ∷ es) (are_two_texts schema b both.0)) (ends_of schema b e) is in
        ap (λ o. option_map_or (λ (both : Ends). chain_leads_to other c both.0 (map (moved_text facts rows) (e ∷ es)) (are_two_texts other c both.0)) o false) (ends_moved e both.0 both.1)
        ∙ chain_leads_moved both.0.0 (e ∷ es) (are_two_texts schema b both.0.0) (are_two_texts other c (renamed_side rows both.0.0)) (λ end. two_texts_moved both.0.0 end) both.2

    pub text_clash_moved : (last : Option ℕ) (es : List TextEdge) → is_text_clash schema b last es ≡ true →
        is_text_clash other c (option_and_then (λ f. Some (facts f)) last) (map (moved_text facts rows) es) ≡ true
    text_clash_moved (Some last) es is =
        let x = passes (text_clash schema b es) (atom_of b last) is in
        ap (λ o. option_map_or (text_clash other c (map (moved_text facts rows) es)) o false) (atoms last x.0 x.1) ∙ text_moved es x.0 x.2
    text_clash_moved None es is = constants_moved es is

    -- ---- steps

    closed_step : (t u : Bool) → (t ≡ true → u ≡ true) → closed_if t ≡ Some [] → closed_if u ≡ Some []
    closed_step true u leads is = ap closed_if (leads refl)
    closed_step false u leads is = cc

    -- a right leaf stays right
    pub step_moved : (s : Step) → (Opens s → ⊥) → children schema b s ≡ Some [] → children other c (moved facts rows s) ≡ Some []
    step_moved (step.Sum edges) none is = closed_step (is_contradiction schema b edges) (is_contradiction other c (map move edges)) (contradiction_moved edges) is
    step_moved (step.Text last edges) none is =
        closed_step (is_text_clash schema b last edges) (is_text_clash other c (option_and_then (λ f. Some (facts f)) last) (map (moved_text facts rows) edges)) (text_clash_moved last edges) is
    step_moved (step.Null fact second path) none is =
        closed_step (is_null_clash b fact second path) (is_null_clash c (facts fact) (facts second) (moved_path facts rows path)) (null_clash_moved fact second path) is
    step_moved (step.Same fact path) none is =
        closed_step (is_same_clash b fact path) (is_same_clash c (facts fact) (moved_path facts rows path)) (same_clash_moved fact path) is
    step_moved (step.And fact) none is = absurd (none tt)
    step_moved (step.Or fact) none is = absurd (none tt)
    step_moved (step.Ex fact) none is = absurd (none tt)
    step_moved (step.All fact row) none is = absurd (none tt)
