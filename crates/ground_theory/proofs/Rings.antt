-- A closed chain of edges with a negative sum, in which zero is left at most once, makes a right Sum leaf.
use Rattle.std.proofs.Common.{◌≡◌, ◌∙◌, sym, ap, ap₂, refl, subst, ℕ, suc, ℤ, pos, neg_ℤ, ◌+ℤ◌, ◌<ℤ◌, ◌≤ℤ◌, ◌≤◌, ◌+◌, Bool, true, false, not, ◌&&◌, ◌||◌, List, [], ◌∷◌, ◌++◌, length, map, arith}
use Rattle.std.proofs.lemmas.Bool.{and_from, or_parts, and_parts, cond_both, le-leb, false_from_ne_true, both_ways}
use Rattle.std.proofs.lemmas.Int.{ints}
use Rattle.std.proofs.lemmas.List.{length-append}
use Rattle.std.specs.Prelude.{Some, option_and_then, nat_le, int_lt, ⊤}
use Rattle.std.specs.List.{AllByRecursion}
use Rattle.std.specs.Option.{option_map_or}
use Rattle.lint_core.specs.declared.certificate.Step.TheVariants as step
use Rattle.lint_core.specs.declared.certificate.SumEdge.{SumEdge}
use Rattle.lint_core.specs.declared.certificate.SumEdge.TheVariants as edge
use Rattle.lint_core.specs.declared.schema.Domain.TheVariants.{Number}
use Rattle.sort_formula.specs.declared.formula.Side.{Side}
use Rattle.sort_formula.specs.declared.formula.Side.TheVariants as side
use Rattle.sort_formula.specs.Certificate.{are_closed, closed_if}
use Rattle.sort_formula.specs.Facts.{is_same_side}
use Rattle.sort_formula.specs.Rings.{Bound, bounds_of, is_chain, is_ring, sum_of, is_fact, is_low, is_high, may_follow, may_follow_round, is_guarded, is_negative_ring, is_contradiction}
use Rattle.ground_theory.specs.declared.literal.Frame.{Frame}
use Rattle.ground_theory.specs.declared.literal.Literal.{Literal}
use Rattle.ground_theory.specs.Fitting.{all_fit, has_ranges}
use Rattle.ground_theory.specs.Edges.{domain_of}
use Rattle.ground_theory.specs.Leaves.{bare_schema, literal_branch, is_right_leaf}
use Rattle.ground_theory.specs.SumLeaf.{bound, is_same, low_at, high_at, leads_high, leaves_zero, turned, cut_back, cut_front, cut}
use Rattle.ground_theory.proofs.Bounds.{Has, has_from, InRange, IsLow, IsHigh, IsSame, is_low_from, is_high_from, is_same_from, is_back_from, low_stated, high_stated, low_of, high_of, in_order}
use Rattle.ground_theory.proofs.Moving.{same_self, one_side}

-- an edge may follow another where a Low is before a fact, and a High behind one
may : (e next : SumEdge) → (is_low e ≡ true → is_fact next ≡ true) → (is_high next ≡ true → is_fact e ≡ true) → may_follow e next ≡ true
may e next low high =
    and_from (not (is_low e) || is_fact next) (not (is_high next) || is_fact e) (implies (is_low e) (is_fact next) low) (implies (is_high next) (is_fact e) high)
  where
    implies : (x y : Bool) → (x ≡ true → y ≡ true) → (not x || y) ≡ true
    implies true y leads = leads refl
    implies false y leads = refl

-- no High comes later where none comes behind Sames, and no High and its fact are here
none_later : (e : SumEdge) (es : List SumEdge) → is_low e ≡ false → leads_high (e ∷ es) ≡ false → (is_fact e && leads_high es) ≡ false → leads_high es ≡ false
none_later (edge.Fact fact) es low here later = later
none_later (edge.Low row column) es low here later = cc
none_later (edge.High row column) es low here later = cc
none_later (edge.Same fact column) es low here later = here
none_later (edge.Back fact column) es low here later = here

module _ (frame : Frame) (literals : List Literal) (all : all_fit frame literals ≡ true) (ranges : has_ranges frame ≡ true) where
  abbrev pub bd : SumEdge → Bound
  bd e = bound frame literals e

  abbrev pub AllHave : List SumEdge → Type 0
  AllHave es = AllByRecursion (Has frame literals) es

  -- no edge leaves zero
  abbrev pub AllInside : List SumEdge → Type 0
  AllInside es = AllByRecursion (λ e. (bd e).left ≡ side.Zero → ⊥) es

  abbrev TailInside : List SumEdge → Type 0
  TailInside [] = ⊤
  TailInside (e ∷ es) = AllInside es

  tail_inside : (es : List SumEdge) → AllInside es → TailInside es
  tail_inside [] inside = tt
  tail_inside (e ∷ es) inside = inside.1

  -- each edge's left side is the right one of the edge before
  abbrev pub Chain : Side → List SumEdge → Side → Type 0
  Chain from [] to = from ≡ to
  Chain from (e ∷ es) to = (from ≡ (bd e).left) × Chain (bd e).right es to

  abbrev pub Closed : List SumEdge → Type 0
  Closed [] = ⊥
  Closed (e ∷ es) = Chain (bd e).right es (bd e).left

  abbrev pub sum : List SumEdge → ℤ
  sum [] = pos 0
  sum (e ∷ es) = (bd e).most +ℤ sum es

  low_is : (row column : ℕ) → Has frame literals (edge.Low row column) → IsLow frame literals row column (bd (edge.Low row column))
  low_is row column has = is_low_from frame literals row column (bd (edge.Low row column)) has

  high_is : (row column : ℕ) → Has frame literals (edge.High row column) → IsHigh frame literals row column (bd (edge.High row column))
  high_is row column has = is_high_from frame literals row column (bd (edge.High row column)) has

  -- ---- a right leaf

  pub record IsRightRing (most : ℕ) (es : List SumEdge) : Type 0 where
    pub has : AllHave es
    pub closed : Closed es
    pub negative : sum es <ℤ pos 0
    pub guarded : is_guarded es ≡ true
    pub short : length es ≤ most

  bounds_are : (es : List SumEdge) → AllHave es → bounds_of (bare_schema frame) (literal_branch frame literals) es ≡ Some (map bd es)
  bounds_are [] has = refl
  bounds_are (e ∷ es) has =
      ap (option_and_then (λ (b : Bound). option_and_then (λ bs. Some (b ∷ bs)) (bounds_of (bare_schema frame) (literal_branch frame literals) es))) has.0
      ∙ ap (option_and_then (λ bs. Some (bd e ∷ bs))) (bounds_are es has.1)

  sums_are : (es : List SumEdge) → sum_of (map bd es) ≡ sum es
  sums_are [] = refl
  sums_are (e ∷ es) = ap (λ n. (bd e).most +ℤ n) (sums_are es)

  sides_meet : (a b : Side) → a ≡ b → is_same_side a b ≡ true
  sides_meet a b same = subst (λ (c : Side). is_same_side a c ≡ true) same (same_self a)

  chain_is : (from : Side) (es : List SumEdge) (to : Side) → Chain from es to → is_chain from (map bd es) to ≡ true
  chain_is from [] to chain = sides_meet from to chain
  chain_is from (e ∷ es) to chain =
      and_from (is_same_side from (bd e).left) (is_chain (bd e).right (map bd es) to) (sides_meet from (bd e).left chain.0) (chain_is (bd e).right es to chain.1)

  ring_is : (es : List SumEdge) → Closed es → is_ring (map bd es) ≡ true
  ring_is [] closed = absurd closed
  ring_is (e ∷ es) closed = chain_is (bd e).left (e ∷ es) (bd e).left (refl, closed)

  pub right_ring : (es : List SumEdge) → IsRightRing 32769 es → is_right_leaf frame literals (step.Sum es) ≡ true
  right_ring es right =
      let negative : int_lt (sum_of (map bd es)) (pos 0) ≡ true = subst (λ n. int_lt n (pos 0) ≡ true) (sym (sums_are es)) (below (sum es) right.negative) in
      let ring : option_map_or is_negative_ring (bounds_of (bare_schema frame) (literal_branch frame literals) es) false ≡ true =
      ap (λ o. option_map_or is_negative_ring o false) (bounds_are es right.has) ∙ and_from (is_ring (map bd es)) (int_lt (sum_of (map bd es)) (pos 0)) (ring_is es right.closed) negative in
      let few : nat_le (length es) 32769 ≡ true = le-leb (length es) 32769 right.short in
      let is : is_contradiction (bare_schema frame) (literal_branch frame literals) es ≡ true = three (nat_le (length es) 32769) (is_guarded es) _ few right.guarded ring in
      ap (λ b. option_map_or are_closed (closed_if b) false) is
    where
      below : (z : ℤ) → z <ℤ pos 0 → int_lt z (pos 0) ≡ true
      below z h = grind (arith, ints)

      three : (x y z : Bool) → x ≡ true → y ≡ true → z ≡ true → (x && y && z) ≡ true
      three true true z p q r = r
      three true false z p q r = cc
      three false y z p q r = cc

  -- ---- the Sames before a High

  -- Sames and a High lead from a cell to zero, with the greatest of the cell's domain
  pub record IsHighEnd (from to : Side) (es : List SumEdge) : Type 0 where
    pub row : ℕ
    pub column : ℕ
    pub least : ℤ
    pub greatest : ℤ
    pub range : InRange frame literals row column least greatest
    pub from_is : from ≡ side.Cell row column
    pub to_is : to ≡ side.Zero
    pub sum_is : sum es ≡ greatest

  high_alone : (row column : ℕ) (es : List SumEdge) (from to : Side) → AllHave (edge.High row column ∷ es) → AllInside es → Chain from (edge.High row column ∷ es) to → IsHighEnd from to (edge.High row column ∷ es)
  high_alone row column [] from to has inside chain =
      let high = high_is row column has.0 in
      record {
        row = row;
        column = column;
        least = high.least;
        greatest = high.greatest;
        range = high.range;
        from_is = chain.0 ∙ ap (λ (b : Bound). b.left) high.is;
        to_is = sym chain.1 ∙ ap (λ (b : Bound). b.right) high.is;
        sum_is = plain (bd (edge.High row column)).most high.greatest (ap (λ (b : Bound). b.most) high.is);
      }
    where
      plain : (a b : ℤ) → a ≡ b → (a +ℤ pos 0) ≡ b
      plain a b same = omega (arith, ints)
  high_alone row column (e ∷ es) from to has inside chain =
      let high = high_is row column has.0 in
      absurd (inside.0 (sym chain.1.0 ∙ ap (λ (b : Bound). b.right) high.is))

  same_first : (e : SumEdge) (es : List SumEdge) (from to : Side) → IsSame frame literals (bd e) → Chain from (e ∷ es) to → IsHighEnd (bd e).right to es → IsHighEnd from to (e ∷ es)
  same_first e es from to same chain rest = record {
    row = same.row;
    column = rest.column;
    least = rest.least;
    greatest = rest.greatest;
    range = record { unit = rest.range.unit; domain = ap (domain_of frame literals same.row) column_is ∙ (same.domains ∙ (ap₂ (domain_of frame literals) row_is (sym column_is) ∙ rest.range.domain)) };
    from_is = chain.0 ∙ (ap (λ (b : Bound). b.left) same.is ∙ ap (side.Cell same.row) (sym column_is));
    to_is = rest.to_is;
    sum_is = plain (bd e).most (sum es) (ap (λ (b : Bound). b.most) same.is) ∙ rest.sum_is;
  }
    where
      sides : side.Cell same.other same.column ≡ side.Cell rest.row rest.column
      sides = ap (λ (b : Bound). b.right) (sym same.is) ∙ rest.from_is

      row_is : same.other ≡ rest.row
      row_is = let s = sides in cc

      column_is : rest.column ≡ same.column
      column_is = let s = sides in cc

      plain : (a b : ℤ) → a ≡ pos 0 → (a +ℤ b) ≡ b
      plain a b none = omega (arith, ints)

  high_end : (es : List SumEdge) (from to : Side) → leads_high es ≡ true → AllHave es → TailInside es → Chain from es to → IsHighEnd from to es
  high_end [] from to leads has inside chain = cc
  high_end (edge.High row column ∷ es) from to leads has inside chain = high_alone row column es from to has inside chain
  high_end (edge.Same fact column ∷ es) from to leads has inside chain =
      same_first (edge.Same fact column) es from to (is_same_from frame literals all fact column (bd (edge.Same fact column)) has.0) chain
      (high_end es (bd (edge.Same fact column)).right to leads has.1 (tail_inside es inside) chain.1)
  high_end (edge.Back fact column ∷ es) from to leads has inside chain =
      same_first (edge.Back fact column) es from to (is_back_from frame literals all fact column (bd (edge.Back fact column)) has.0) chain
      (high_end es (bd (edge.Back fact column)).right to leads has.1 (tail_inside es inside) chain.1)
  high_end (edge.Fact fact ∷ es) from to leads has inside chain = cc
  high_end (edge.Low row column ∷ es) from to leads has inside chain = cc

  -- a chain that leads from the one side to the other, with the same sum and no more edges
  record Replaces (from to : Side) (es rs : List SumEdge) : Type 0 where
    has : AllHave rs
    chain : Chain from rs to
    sum_is : sum rs ≡ sum es
    short : length rs ≤ length es

  high_replaces : (from to : Side) (es : List SumEdge) → leads_high es ≡ true → IsHighEnd from to es → Replaces from to es (high_at from)
  high_replaces from to es leads end =
      subst (λ (s : Side). Replaces s to es (high_at s)) (sym end.from_is)
      (let at = has_from frame literals (edge.High end.row end.column) (high_of end.row end.column end.greatest) (high_stated frame literals end.row end.column end.least end.greatest end.range) in
      let high = edge.High end.row end.column in
      record {
        has = (at.0, tt);
        chain = (sym (ap (λ (b : Bound). b.left) at.1), ap (λ (b : Bound). b.right) at.1 ∙ sym end.to_is);
        sum_is = plain (bd high).most end.greatest (ap (λ (b : Bound). b.most) at.1) ∙ sym end.sum_is;
        short = some es leads;
      })
    where
      plain : (a b : ℤ) → a ≡ b → (a +ℤ pos 0) ≡ b
      plain a b same = omega (arith, ints)

      some : (es : List SumEdge) → leads_high es ≡ true → 1 ≤ length es
      some [] leads = cc
      some (e ∷ es) leads = omega arith

  back_replaces : (from to : Side) (es : List SumEdge) → AllHave es → TailInside es → Chain from es to → Replaces from to es (cut_back frame literals es)
  back_replaces from to [] has inside chain = record { has = tt; chain = chain; sum_is = refl; short = omega arith }
  back_replaces from to (e ∷ es) has inside chain =
      cond_both (is_fact e && leads_high es) (high_at (bd e).right) (cut_back frame literals es) (λ rs. Replaces from to (e ∷ es) (e ∷ rs))
      (λ yes.
      let leads : leads_high es ≡ true = (and_parts (is_fact e) (leads_high es) yes).1 in
      more (high_at (bd e).right) (high_replaces (bd e).right to es leads (high_end es (bd e).right to leads has.1 (tail_inside es inside) chain.1)))
      (λ no. more (cut_back frame literals es) (back_replaces (bd e).right to es has.1 (tail_inside es inside) chain.1))
    where
      more : (rs : List SumEdge) → Replaces (bd e).right to es rs → Replaces from to (e ∷ es) (e ∷ rs)
      more rs rest = record { has = (has.0, rest.has); chain = (chain.0, rest.chain); sum_is = ap (λ n. (bd e).most +ℤ n) rest.sum_is; short = let h : length rs ≤ length es = rest.short in omega arith }

  inside_no_low : (e : SumEdge) → Has frame literals e → ((bd e).left ≡ side.Zero → ⊥) → is_low e ≡ false
  inside_no_low (edge.Low row column) has inside = absurd (inside (ap (λ (b : Bound). b.left) (low_is row column has).is))
  inside_no_low (edge.Fact fact) has inside = refl
  inside_no_low (edge.High row column) has inside = refl
  inside_no_low (edge.Same fact column) has inside = refl
  inside_no_low (edge.Back fact column) has inside = refl

  back_guarded : (first e : SumEdge) (es : List SumEdge) (to : Side) → is_high first ≡ false → is_low e ≡ false → leads_high (e ∷ es) ≡ false →
      AllHave (e ∷ es) → AllInside es → Chain (bd e).right es to → may_follow_round first (cut_back frame literals (e ∷ es)) ≡ true
  back_guarded first e [] to first_no low none has inside chain =
      cond_both (is_fact e && false) (high_at (bd e).right) [] (λ rs. may_follow_round first (e ∷ rs) ≡ true)
      (λ yes. let parts = and_parts (is_fact e) false yes in absurd (both_ways false refl parts.1))
      (λ no. may e first (λ is. absurd (both_ways (is_low e) low is)) (λ is. absurd (both_ways (is_high first) first_no is)))
  back_guarded first e (f ∷ es) to first_no low none has inside chain =
      cond_both (is_fact e && leads_high (f ∷ es)) (high_at (bd e).right) (cut_back frame literals (f ∷ es)) (λ rs. may_follow_round first (e ∷ rs) ≡ true)
      (λ yes.
      let parts = and_parts (is_fact e) (leads_high (f ∷ es)) yes in
      let end = high_end (f ∷ es) (bd e).right to parts.1 has.1 inside.1 chain in
      let high = edge.High end.row end.column in
      subst (λ (s : Side). may_follow_round first (e ∷ high_at s) ≡ true) (sym end.from_is)
      (and_from (may_follow e high) (may_follow high first) (may e high (λ is. absurd (both_ways (is_low e) low is)) (λ is. parts.0)) (may high first (λ is. cc) (λ is. absurd (both_ways (is_high first) first_no is)))))
      (λ no.
      let later = none_later e (f ∷ es) low none no in
      let no_high : is_high f ≡ false = (or_parts (is_high f) (is_same f && leads_high es) later).0 in
      and_from (may_follow e f) (may_follow_round first (cut_back frame literals (f ∷ es)))
      (may e f (λ is. absurd (both_ways (is_low e) low is)) (λ is. absurd (both_ways (is_high f) no_high is)))
      (back_guarded first f es to first_no (inside_no_low f has.1.0 inside.0) later has.1 inside.1 chain.1))

  -- ---- a chain from zero, or without it

  -- a closed chain from an edge that is no Low, in which at most that edge leaves zero
  back_right : (most : ℕ) (e : SumEdge) (es : List SumEdge) → is_low e ≡ false → AllHave (e ∷ es) → AllInside es → Closed (e ∷ es) → sum (e ∷ es) <ℤ pos 0 → length (e ∷ es) ≤ most →
      IsRightRing most (cut_back frame literals (e ∷ es))
  back_right most e es low has inside closed negative short =
      let none : leads_high (e ∷ es) ≡ false = false_from_ne_true (leads_high (e ∷ es)) no_end in
      let no_high : is_high e ≡ false = (or_parts (is_high e) (is_same e && leads_high es) none).0 in
      let rest : Replaces (bd e).left (bd e).left (e ∷ es) (cut_back frame literals (e ∷ es)) = back_replaces (bd e).left (bd e).left (e ∷ es) has inside (refl, closed) in
      record {
        has = rest.has;
        closed = rest.chain.1;
        negative = subst (λ z. z <ℤ pos 0) (sym rest.sum_is) negative;
        guarded = back_guarded e e es (bd e).left no_high low none has inside closed;
        short = let h : length (cut_back frame literals (e ∷ es)) ≤ length (e ∷ es) = rest.short in omega arith;
      }
    where
      -- else the chain would end at zero and begin at a cell
      no_end : leads_high (e ∷ es) ≡ true → ⊥
      no_end leads =
          let end = high_end (e ∷ es) (bd e).left (bd e).left leads has inside (refl, closed) in
          let apart : side.Cell end.row end.column ≡ side.Zero = sym end.from_is ∙ end.to_is in
          cc

  -- a Same leads to a cell of the same domain
  same_step : (row column : ℕ) (least greatest : ℤ) (e : SumEdge) (es : List SumEdge) → InRange frame literals row column least greatest →
      (same : IsSame frame literals (bd e)) → Chain (side.Cell row column) (e ∷ es) side.Zero → (neg_ℤ least +ℤ sum (e ∷ es)) <ℤ pos 0 →
      InRange frame literals same.other same.column least greatest × Chain (side.Cell same.other same.column) es side.Zero × ((neg_ℤ least +ℤ sum es) <ℤ pos 0)
  same_step row column least greatest e es range same chain negative = (
    record { unit = range.unit; domain = sym same.domains ∙ (ap₂ (domain_of frame literals) (sym row_is) (sym column_is) ∙ range.domain) },
    subst (λ (s : Side). Chain s es side.Zero) (ap (λ (b : Bound). b.right) same.is) chain.1,
    plain (bd e).most (sum es) (ap (λ (b : Bound). b.most) same.is) negative,
  )
    where
      sides : side.Cell row column ≡ side.Cell same.row same.column
      sides = chain.0 ∙ ap (λ (b : Bound). b.left) same.is

      row_is : row ≡ same.row
      row_is = let s = sides in cc

      column_is : column ≡ same.column
      column_is = let s = sides in cc

      plain : (m s : ℤ) → m ≡ pos 0 → (neg_ℤ least +ℤ (m +ℤ s)) <ℤ pos 0 → (neg_ℤ least +ℤ s) <ℤ pos 0
      plain m s none h = omega (arith, ints)

  -- behind a Low of a domain, from a cell of this domain on
  front_right : (most : ℕ) (row column : ℕ) (least greatest : ℤ) (es : List SumEdge) → InRange frame literals row column least greatest →
      AllHave es → AllInside es → Chain (side.Cell row column) es side.Zero → (neg_ℤ least +ℤ sum es) <ℤ pos 0 → suc (length es) ≤ most →
      IsRightRing most (cut_front frame literals es)
  front_right most row column least greatest [] range has inside chain negative short = cc
  front_right most row column least greatest (edge.Fact fact ∷ es) range has inside chain negative short =
      subst (λ (s : Side). IsRightRing most (low_at s ++ cut_back frame literals (edge.Fact fact ∷ es))) chain.0
      (let low = edge.Low row column in
      let at = has_from frame literals low (low_of row column least) (low_stated frame literals row column least greatest range) in
      let left = ap (λ (b : Bound). b.left) at.1 in
      let rest : Replaces (side.Cell row column) side.Zero (edge.Fact fact ∷ es) (cut_back frame literals (edge.Fact fact ∷ es)) =
      back_replaces (side.Cell row column) side.Zero (edge.Fact fact ∷ es) has inside.1 chain in
      let no_high : is_high low ≡ false = refl in
      record {
        has = (at.0, rest.has);
        closed = subst (λ (s : Side). Chain s (cut_back frame literals (edge.Fact fact ∷ es)) (bd low).left) (sym (ap (λ (b : Bound). b.right) at.1))
            (subst (λ (s : Side). Chain (side.Cell row column) (cut_back frame literals (edge.Fact fact ∷ es)) s) (sym left) rest.chain);
        negative = below (bd low).most (neg_ℤ least) (sum (cut_back frame literals (edge.Fact fact ∷ es))) (sum (edge.Fact fact ∷ es)) (ap (λ (b : Bound). b.most) at.1) rest.sum_is negative;
        guarded = and_from (may_follow low (edge.Fact fact)) (may_follow_round low (cut_back frame literals (edge.Fact fact ∷ es))) refl
            (back_guarded low (edge.Fact fact) es side.Zero refl refl refl has inside.1 chain.1);
        short = let h : length (cut_back frame literals (edge.Fact fact ∷ es)) ≤ length (edge.Fact fact ∷ es) = rest.short in omega arith;
      })
    where
      below : (a b c d : ℤ) → a ≡ b → c ≡ d → (b +ℤ d) <ℤ pos 0 → (a +ℤ c) <ℤ pos 0
      below a b c d first second h = omega (arith, ints)
  front_right most row column least greatest (edge.Low second other ∷ es) range has inside chain negative short =
      absurd (inside.0 (ap (λ (b : Bound). b.left) (low_is second other has.0).is))
  front_right most row column least greatest (edge.High second other ∷ es) range has inside chain negative short =
      let end = high_end (edge.High second other ∷ es) (side.Cell row column) side.Zero refl has inside.1 chain in
      let one : Some (Number least greatest range.unit) ≡ Some (Number end.least end.greatest end.range.unit) =
      sym range.domain ∙ (ap₂ (domain_of frame literals) (row_is end) (column_is end) ∙ end.range.domain) in
      let same : greatest ≡ end.greatest = cc in
      let order : least ≤ℤ greatest = in_order frame literals ranges row column least greatest range in
      absurd (apart end.greatest (sum (edge.High second other ∷ es)) same order end.sum_is negative)
    where
      row_is : (end : IsHighEnd (side.Cell row column) side.Zero (edge.High second other ∷ es)) → row ≡ end.row
      row_is end = let s : side.Cell row column ≡ side.Cell end.row end.column = end.from_is in cc

      column_is : (end : IsHighEnd (side.Cell row column) side.Zero (edge.High second other ∷ es)) → column ≡ end.column
      column_is end = let s : side.Cell row column ≡ side.Cell end.row end.column = end.from_is in cc

      apart : (g s : ℤ) → greatest ≡ g → least ≤ℤ greatest → s ≡ g → (neg_ℤ least +ℤ s) <ℤ pos 0 → ⊥
      apart g s same order sum_is h = omega (arith, ints)
  front_right most row column least greatest (edge.Same fact second ∷ es) range has inside chain negative short =
      let same = is_same_from frame literals all fact second (bd (edge.Same fact second)) has.0 in
      let step = same_step row column least greatest (edge.Same fact second) es range same chain negative in
      front_right most same.other same.column least greatest es step.0 has.1 inside.1 step.1 step.2 (omega arith)
  front_right most row column least greatest (edge.Back fact second ∷ es) range has inside chain negative short =
      let same = is_back_from frame literals all fact second (bd (edge.Back fact second)) has.0 in
      let step = same_step row column least greatest (edge.Back fact second) es range same chain negative in
      front_right most same.other same.column least greatest es step.0 has.1 inside.1 step.1 step.2 (omega arith)

  pub cut_right : (most : ℕ) (es : List SumEdge) → AllHave es → TailInside es → Closed es → sum es <ℤ pos 0 → length es ≤ most → IsRightRing most (cut frame literals es)
  cut_right most [] has inside closed negative short = absurd closed
  cut_right most (edge.Low row column ∷ es) has inside closed negative short =
      let low = low_is row column has.0 in
      let e = edge.Low row column in
      let chain : Chain (side.Cell row column) es side.Zero =
      subst (λ (s : Side). Chain s es side.Zero) (ap (λ (b : Bound). b.right) low.is) (subst (λ (s : Side). Chain (bd e).right es s) (ap (λ (b : Bound). b.left) low.is) closed) in
      front_right most row column low.least low.greatest es low.range has.1 inside chain
      (subst (λ z. (z +ℤ sum es) <ℤ pos 0) (ap (λ (b : Bound). b.most) low.is) negative) (omega arith)
  cut_right most (edge.Fact fact ∷ es) has inside closed negative short = back_right most (edge.Fact fact) es refl has inside closed negative short
  cut_right most (edge.High row column ∷ es) has inside closed negative short = back_right most (edge.High row column) es refl has inside closed negative short
  cut_right most (edge.Same fact column ∷ es) has inside closed negative short = back_right most (edge.Same fact column) es refl has inside closed negative short
  cut_right most (edge.Back fact column ∷ es) has inside closed negative short = back_right most (edge.Back fact column) es refl has inside closed negative short

  -- ---- the chain turned

  -- where an edge leaves zero, no later one does
  abbrev pub Apart : List SumEdge → Type 0
  Apart [] = ⊤
  Apart (e ∷ es) = ((bd e).left ≡ side.Zero → AllInside es) × Apart es

  all_append : (P : SumEdge → Type 0) (es fs : List SumEdge) → AllByRecursion P es → AllByRecursion P fs → AllByRecursion P (es ++ fs)
  all_append P [] fs left right = right
  all_append P (e ∷ es) fs left right = (left.0, all_append P es fs left.1 right)

  chain_append : (from middle to : Side) (es fs : List SumEdge) → Chain from es middle → Chain middle fs to → Chain from (es ++ fs) to
  chain_append from middle to [] fs left right = subst (λ (s : Side). Chain s fs to) (sym left) right
  chain_append from middle to (e ∷ es) fs left right = (left.0, chain_append (bd e).right middle to es fs left.1 right)

  sum_append : (es fs : List SumEdge) → sum (es ++ fs) ≡ sum es +ℤ sum fs
  sum_append [] fs = let z : ℤ = sum fs in omega (arith, ints)
  sum_append (e ∷ es) fs = let rest = sum_append es fs in omega (arith, ints)

  -- a chain before these edges, and these back to where it began
  pub turned_right : (most : ℕ) (from middle : Side) (before es : List SumEdge) → AllHave before → AllInside before → Chain from before middle →
      AllHave es → Apart es → Chain middle es from → (sum before +ℤ sum es) <ℤ pos 0 → 1 ≤ length before + length es → length before + length es ≤ most →
      IsRightRing most (cut frame literals (turned frame literals before es))
  turned_right most from middle [] [] has inside chain more apart back negative some short = absurd (omega arith)
  turned_right most from middle (b ∷ bs) [] has inside chain more apart back negative some short =
      cut_right most (b ∷ bs) has inside.1 (subst (λ (s : Side). Chain (bd b).right bs s) (back ∙ chain.0) chain.1) (omega (arith, ints)) (omega arith)
  turned_right most from middle before (e ∷ es) has inside chain more apart back negative some short =
      cond_both (leaves_zero frame literals e) ((e ∷ es) ++ before) (turned frame literals (before ++ e ∷ []) es) (λ rs. IsRightRing most (cut frame literals rs))
      (λ leaves.
      cut_right most ((e ∷ es) ++ before) (all_append (Has frame literals) (e ∷ es) before more has)
      (all_append (λ e. (bd e).left ≡ side.Zero → ⊥) es before (apart.0 (one_side (bd e).left side.Zero leaves)) inside)
      (chain_append (bd e).right from (bd e).left es before back.1 (subst (λ (s : Side). Chain from before s) back.0 chain))
      (let parts = sum_append (e ∷ es) before in omega (arith, ints))
      (let count = length-append (e ∷ es) before in omega arith))
      (λ stays.
      let e_inside : (bd e).left ≡ side.Zero → ⊥ = λ zero. both_ways (leaves_zero frame literals e) stays (sides_meet (bd e).left side.Zero zero) in
      turned_right most from (bd e).right (before ++ e ∷ []) es
      (all_append (Has frame literals) before (e ∷ []) has (more.0, tt))
      (all_append (λ e. (bd e).left ≡ side.Zero → ⊥) before (e ∷ []) inside (e_inside, tt))
      (chain_append from middle (bd e).right before (e ∷ []) chain (back.0, refl))
      more.1 apart.1 back.1
      (let parts = sum_append before (e ∷ []) in omega (arith, ints))
      (let count = length-append before (e ∷ []) in omega arith)
      (let count = length-append before (e ∷ []) in omega arith))
