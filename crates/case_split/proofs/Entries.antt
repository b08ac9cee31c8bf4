-- The entries of a search: what is chosen, what is needed, what is among them.
use Rattle.std.proofs.Common.{◌≡◌, ◌∙◌, sym, ap, refl, subst, ℕ, zero, suc, ◌<◌, ◌≤◌, inl, inr, Bool, true, false, ◌||◌, List, [], ◌∷◌, length, arith, length-set}
use Rattle.std.proofs.lemmas.Bool.{and_from, or_cases, or_left, or_right, eq-eqb, cases_eq, lt-ltb, ltb-true}
use Rattle.std.proofs.lemmas.List.{length-replicate}
use Rattle.std.proofs.lemmas.Option.{same_Some, slice_get_within}
use Rattle.std.specs.Prelude.{Option, Some, None, slice_get, slice_set, nat_lt, nat_eq, replicate}
use Rattle.std.specs.List.{list_all}
use Rattle.std.specs.Option.{option_map_or}
use Rattle.ground_theory.specs.declared.literal.Clause.{Clause}
use Rattle.ground_theory.specs.declared.literal.Frame.{Frame}
use Rattle.ground_theory.specs.declared.literal.Guard.{Guard}
use Rattle.case_split.specs.declared.state.Entry.{Entry}
use Rattle.case_split.specs.Choices.{Choices, is_chosen}
use Rattle.case_split.specs.Trees.{is_same_guard, is_among, are_among}
use Rattle.case_split.specs.inner.Entries.{guard_of, guards_of, is_marked, with_marked, needed_of, mark_all, choices_of, has_one_way, splits_before, IsEntry, AreEntries}
use Rattle.case_split.proofs.Closed.{same_guard, among_passes}
use Rattle.case_split.proofs.Ordering.{set_same, set_other, get_replicate, chosen_way, way_chosen}
use Rattle.case_split.proofs.Refuting.{all_then, Within, within_behind, all_from_among, refutes_more}

pub choices_length : (n : ℕ) (es : List Entry) → length (choices_of n es) ≡ n
choices_length n [] = length-replicate n None
choices_length n (e ∷ es) = length-set (choices_of n es) e.clause (Some e.way) ∙ choices_length n es

-- ---- marks

with_within : (b : Bool) (g : Guard) (gs : List Guard) → Within gs (with_marked b g gs)
with_within true g gs h among = or_right (is_same_guard h g) (is_among gs h) among
with_within false g gs h among = among

with_more : (a b : Bool) (g : Guard) (gs hs : List Guard) → (a ≡ true → b ≡ true) → Within gs hs → Within (with_marked a g gs) (with_marked b g hs)
with_more true true g gs hs more within h among = within_behind gs hs g within h among
with_more true false g gs hs more within h among = let no = more refl in cc
with_more false b g gs hs more within h among = with_within b g hs h (within h among)

pub needed_more : (marks more : List Bool) (es : List Entry) → ((k : ℕ) → is_marked marks k ≡ true → is_marked more k ≡ true) → Within (needed_of marks es) (needed_of more es)
needed_more marks more [] grow g among = among
needed_more marks more (e ∷ es) grow g among =
    with_more (is_marked marks e.clause) (is_marked more e.clause) (guard_of e) (needed_of marks es) (needed_of more es) (grow e.clause) (needed_more marks more es grow) g among

with_whole : (b : Bool) (g : Guard) (gs hs : List Guard) → Within gs hs → Within (with_marked b g gs) (g ∷ hs)
with_whole true g gs hs within h among = within_behind gs hs g within h among
with_whole false g gs hs within h among = or_right (is_same_guard h g) (is_among hs h) (within h among)

pub needed_within : (marks : List Bool) (es : List Entry) → Within (needed_of marks es) (guards_of es)
needed_within marks [] g among = among
needed_within marks (e ∷ es) g among = with_whole (is_marked marks e.clause) (guard_of e) (needed_of marks es) (guards_of es) (needed_within marks es) g among

with_here : (b : Bool) (g : Guard) (gs : List Guard) (h : Guard) → b ≡ true → is_same_guard h g ≡ true → is_among (with_marked b g gs) h ≡ true
with_here true g gs h is same = or_left (is_same_guard h g) (is_among gs h) same
with_here false g gs h is same = cc

-- an entry whose clause is marked is needed
pub needed_now : (marks : List Bool) (es : List Entry) (g : Guard) → is_among (guards_of es) g ≡ true → is_marked marks g.clause ≡ true → is_among (needed_of marks es) g ≡ true
needed_now marks [] g among marked = cc
needed_now marks (e ∷ es) g among marked = elim (or_cases (is_same_guard g (guard_of e)) (is_among (guards_of es) g) among) [
  | inl here ↦
      with_here (is_marked marks e.clause) (guard_of e) (needed_of marks es) g (ap (λ (h : Guard). is_marked marks h.clause) (sym (same_guard g (guard_of e) here)) ∙ marked) here
  | inr later ↦ with_within (is_marked marks e.clause) (guard_of e) (needed_of marks es) g (needed_now marks es g later marked)
]

mark_here : (marks : List Bool) (i : ℕ) → i < length marks → is_marked (slice_set marks i true) i ≡ true
mark_here marks i low = ap (λ o. option_map_or (λ b. b) o false) (set_same marks i true low)

mark_other : (marks : List Bool) (i j : ℕ) (b : Bool) → (j ≡ i → ⊥) → is_marked (slice_set marks i b) j ≡ is_marked marks j
mark_other marks i j b other = ap (λ o. option_map_or (λ b. b) o false) (set_other marks i j b other)

marked_low : (marks : List Bool) (i : ℕ) → is_marked marks i ≡ true → i < length marks
marked_low [] i marked = cc
marked_low (b ∷ bs) zero marked = omega arith
marked_low (b ∷ bs) (suc i) marked = let low = marked_low bs i marked in omega arith

mark_keeps : (marks : List Bool) (i k : ℕ) → is_marked marks k ≡ true → is_marked (slice_set marks i true) k ≡ true
mark_keeps marks i k marked = elim (cases_eq k i) [
  | inl same ↦
      subst (λ n. is_marked (slice_set marks i true) n ≡ true) (sym same) (mark_here marks i (subst (λ n. n < length marks) same (marked_low marks k marked)))
  | inr other ↦ mark_other marks i k true other ∙ marked
]

pub marks_keep : (marks : List Bool) (gs : List Guard) (k : ℕ) → is_marked marks k ≡ true → is_marked (mark_all marks gs) k ≡ true
marks_keep marks [] k marked = marked
marks_keep marks (g ∷ gs) k marked = marks_keep (slice_set marks g.clause true) gs k (mark_keeps marks g.clause k marked)

pub marks_length : (marks : List Bool) (gs : List Guard) → length (mark_all marks gs) ≡ length marks
marks_length marks [] = refl
marks_length marks (g ∷ gs) = marks_length (slice_set marks g.clause true) gs ∙ length-set marks g.clause true

marks_each : (marks : List Bool) (gs : List Guard) (g : Guard) → is_among gs g ≡ true → g.clause < length marks → is_marked (mark_all marks gs) g.clause ≡ true
marks_each marks [] g among low = cc
marks_each marks (h ∷ hs) g among low = elim (or_cases (is_same_guard g h) (is_among hs g) among) [
  | inl here ↦
      let same : g.clause ≡ h.clause = ap (λ (x : Guard). x.clause) (same_guard g h here) in
      marks_keep (slice_set marks h.clause true) hs g.clause
      (subst (λ n. is_marked (slice_set marks h.clause true) n ≡ true) (sym same) (mark_here marks h.clause (subst (λ n. n < length marks) same low)))
  | inr later ↦
      marks_each (slice_set marks h.clause true) hs g later (subst (λ n. g.clause < n) (sym (length-set marks h.clause true)) low)
]

-- ---- what is chosen is what the entries took

-- setting a clause without choice leaves what is chosen
keep_chosen : (xs : Choices) (k : ℕ) (x : Option ℕ) (g : Guard) → slice_get xs k ≡ Some None → is_chosen xs g ≡ true → is_chosen (slice_set xs k x) g ≡ true
keep_chosen xs k x g fresh chosen =
    way_chosen (slice_set xs k x) g
    (set_other xs k g.clause x (λ same. let at = chosen_way xs g chosen in let at' = ap (slice_get xs) same in cc) ∙ chosen_way xs g chosen)

-- a choice of the entries is that of the newest or of the earlier ones
pub among_chosen : (n : ℕ) (es : List Entry) (g : Guard) → is_chosen (choices_of n es) g ≡ true → is_among (guards_of es) g ≡ true
among_chosen n [] g chosen = let no = get_replicate n g.clause None (Some g.way) (chosen_way (replicate n None) g chosen) in cc
among_chosen n (e ∷ es) g chosen =
    let xs = choices_of n es in
    let at = chosen_way (slice_set xs e.clause (Some e.way)) g chosen in
    elim (cases_eq g.clause e.clause) [
      | inl same ↦
          let low : g.clause < length (slice_set xs e.clause (Some e.way)) = slice_get_within (slice_set xs e.clause (Some e.way)) g.clause (Some g.way) at in
          let low' : e.clause < length xs = let size = length-set xs e.clause (Some e.way) in omega arith in
          let here = set_same xs e.clause (Some e.way) low' in
          let back : slice_get (slice_set xs e.clause (Some e.way)) e.clause ≡ Some (Some g.way) = subst (λ k. slice_get (slice_set xs e.clause (Some e.way)) k ≡ Some (Some g.way)) same at in
          let way : e.way ≡ g.way = same_Some e.way g.way (same_Some (Some e.way) (Some g.way) (sym here ∙ back)) in
          or_left (is_same_guard g (guard_of e)) (is_among (guards_of es) g)
          (and_from (nat_eq g.clause e.clause) (nat_eq g.way e.way) (eq-eqb g.clause e.clause same) (eq-eqb g.way e.way (sym way)))
      | inr other ↦
          or_right (is_same_guard g (guard_of e)) (is_among (guards_of es) g)
          (among_chosen n es g (way_chosen xs g (sym (set_other xs e.clause g.clause (Some e.way) other) ∙ at)))
    ]

pub splits_more : (clauses : List Clause) (a b : ℕ) (es : List Entry) → a ≤ b → splits_before clauses a es ≡ true → splits_before clauses b es ≡ true
splits_more clauses a b es more all =
    all_then (λ (e : Entry). has_one_way clauses e.clause || nat_lt e.clause a) (λ (e : Entry). has_one_way clauses e.clause || nat_lt e.clause b)
    (λ e is.
    elim (or_cases (has_one_way clauses e.clause) (nat_lt e.clause a) is) [
      | inl one ↦ or_left (has_one_way clauses e.clause) (nat_lt e.clause b) one
      | inr low ↦ or_right (has_one_way clauses e.clause) (nat_lt e.clause b) (let low' = ltb-true e.clause a low in lt-ltb e.clause b (omega arith))
    ])
    es all

-- a clause without choice stays so among the earlier entries, and is none of theirs
record IsFree (n : ℕ) (e : Entry) (es : List Entry) (j : ℕ) : Type 0 where
  other : j ≡ e.clause → ⊥
  earlier : slice_get (choices_of n es) j ≡ Some None

free_earlier : (n : ℕ) (e : Entry) (es : List Entry) (j : ℕ) → slice_get (choices_of n (e ∷ es)) j ≡ Some None → IsFree n e es j
free_earlier n e es j fresh =
    let xs = choices_of n es in
    let low : j < length (slice_set xs e.clause (Some e.way)) = slice_get_within (slice_set xs e.clause (Some e.way)) j None fresh in
    let size = length-set xs e.clause (Some e.way) in
    let other : j ≡ e.clause → ⊥ = λ same.
    let low' : e.clause < length xs = omega arith in
    let here = set_same xs e.clause (Some e.way) low' in
    let back : slice_get (slice_set xs e.clause (Some e.way)) e.clause ≡ Some None = subst (λ k. slice_get (slice_set xs e.clause (Some e.way)) k ≡ Some None) same fresh in
    cc
    in
    record { other = other; earlier = sym (set_other xs e.clause j (Some e.way) other) ∙ fresh }

-- the mark of a clause without choice makes no difference
pub needed_fresh : (n : ℕ) (marks : List Bool) (es : List Entry) (j : ℕ) (b : Bool) → slice_get (choices_of n es) j ≡ Some None → needed_of (slice_set marks j b) es ≡ needed_of marks es
needed_fresh n marks [] j b fresh = refl
needed_fresh n marks (e ∷ es) j b fresh =
    let free = free_earlier n e es j fresh in
    let here : is_marked (slice_set marks j b) e.clause ≡ is_marked marks e.clause = mark_other marks j e.clause b (λ same. free.other (sym same)) in
    let rest : needed_of (slice_set marks j b) es ≡ needed_of marks es = needed_fresh n marks es j b free.earlier in
    ap (λ c. with_marked c (guard_of e) (needed_of (slice_set marks j b) es)) here ∙ ap (λ gs. with_marked (is_marked marks e.clause) (guard_of e) gs) rest

module _ (clauses : List Clause) (frame : Frame) where
  abbrev n : ℕ
  n = length clauses

  pub entries_more : (counted : List Choices) (marks more : List Bool) (es : List Entry) → ((k : ℕ) → is_marked marks k ≡ true → is_marked more k ≡ true) →
      AreEntries clauses frame counted marks es → AreEntries clauses frame counted more es
  entries_more counted marks more [] grow are = tt
  entries_more counted marks more (e ∷ es) grow are =
      let is = are.0 in (
        record {
          clause = is.clause;
          stands = is.stands;
          way = is.way;
          reached = is.reached;
          before = is.before;
          fresh = is.fresh;
          above = is.above;
          as_many = is.as_many;
          closed = λ v t at.
              let g : Guard = record { clause = e.clause; way = v } in
              refutes_more clauses frame (g ∷ needed_of marks es) (g ∷ needed_of more es) t (within_behind (needed_of marks es) (needed_of more es) g (needed_more marks more es grow)) (is.closed v t at);
          split = is.split;
        },
        entries_more counted marks more es grow are.1,
      )

  pub entries_fresh : (counted : List Choices) (marks : List Bool) (es : List Entry) (j : ℕ) (b : Bool) → slice_get (choices_of n es) j ≡ Some None →
      AreEntries clauses frame counted marks es → AreEntries clauses frame counted (slice_set marks j b) es
  entries_fresh counted marks [] j b fresh are = tt
  entries_fresh counted marks (e ∷ es) j b fresh are =
      let is = are.0 in
      let free = free_earlier n e es j fresh in (
        record {
          clause = is.clause;
          stands = is.stands;
          way = is.way;
          reached = is.reached;
          before = is.before;
          fresh = is.fresh;
          above = is.above;
          as_many = is.as_many;
          closed = λ v t at.
              let g : Guard = record { clause = e.clause; way = v } in
              let same : needed_of marks es ≡ needed_of (slice_set marks j b) es = sym (needed_fresh n marks es j b free.earlier) in
              refutes_more clauses frame (g ∷ needed_of marks es) (g ∷ needed_of (slice_set marks j b) es) t
              (within_behind (needed_of marks es) (needed_of (slice_set marks j b) es) g (λ h among. ap (λ gs. is_among gs h) (sym same) ∙ among)) (is.closed v t at);
          split = is.split;
        },
        entries_fresh counted marks es j b free.earlier are.1,
      )

  pub guards_chosen : (counted : List Choices) (marks : List Bool) (es : List Entry) → AreEntries clauses frame counted marks es → list_all (is_chosen (choices_of n es)) (guards_of es) ≡ true
  guards_chosen counted marks [] are = refl
  guards_chosen counted marks (e ∷ es) are =
      let xs = choices_of n es in
      let now = slice_set xs e.clause (Some e.way) in
      let low = slice_get_within xs e.clause None are.0.fresh in
      and_from (is_chosen now (guard_of e)) (list_all (is_chosen now) (guards_of es)) (way_chosen now (guard_of e) (set_same xs e.clause (Some e.way) low))
      (all_then (is_chosen xs) (is_chosen now) (λ g chosen. keep_chosen xs e.clause (Some e.way) g are.0.fresh chosen) (guards_of es) (guards_chosen counted marks es are.1))

  -- the entry of a clause that has a way
  pub record IsAt (counted : List Choices) (marks : List Bool) (es : List Entry) (j w : ℕ) : Type 0 where
    pub entry : Entry
    pub earlier : List Entry
    pub is : IsEntry clauses frame counted marks earlier entry
    pub are : AreEntries clauses frame counted marks earlier
    pub clause_is : entry.clause ≡ j
    pub way_is : entry.way ≡ w
    pub within : Within (guards_of earlier) (guards_of es)

  pub entry_at : (counted : List Choices) (marks : List Bool) (es : List Entry) (j w : ℕ) → AreEntries clauses frame counted marks es → slice_get (choices_of n es) j ≡ Some (Some w) →
      IsAt counted marks es j w
  entry_at counted marks [] j w are at = let no = get_replicate n j None (Some w) at in cc
  entry_at counted marks (e ∷ es) j w are at =
      let xs = choices_of n es in
      elim (cases_eq j e.clause) [
        | inl same ↦
            let low = slice_get_within xs e.clause None are.0.fresh in
            let here = set_same xs e.clause (Some e.way) low in
            let back : slice_get (slice_set xs e.clause (Some e.way)) e.clause ≡ Some (Some w) = subst (λ k. slice_get (slice_set xs e.clause (Some e.way)) k ≡ Some (Some w)) same at in
            record {
              entry = e;
              earlier = es;
              is = are.0;
              are = are.1;
              clause_is = sym same;
              way_is = same_Some e.way w (same_Some (Some e.way) (Some w) (sym here ∙ back));
              within = λ g among. or_right (is_same_guard g (guard_of e)) (is_among (guards_of es) g) among;
            }
        | inr other ↦
            let up = entry_at counted marks es j w are.1 (sym (set_other xs e.clause j (Some e.way) other) ∙ at) in
            record {
              entry = up.entry;
              earlier = up.earlier;
              is = up.is;
              are = up.are;
              clause_is = up.clause_is;
              way_is = up.way_is;
              within = λ g among. or_right (is_same_guard g (guard_of e)) (is_among (guards_of es) g) (up.within g among);
            }
      ]

  -- once they are marked, guards that are chosen are needed
  pub needed_all : (marks : List Bool) (es : List Entry) (gs : List Guard) → length marks ≡ n → list_all (is_chosen (choices_of n es)) gs ≡ true →
      are_among (needed_of (mark_all marks gs) es) gs ≡ true
  needed_all marks es gs size chosen =
      all_from_among (is_among (needed_of (mark_all marks gs) es)) gs
      (λ g among.
      let here = among_passes (is_chosen (choices_of n es)) gs g chosen among in
      let low : g.clause < length (choices_of n es) = slice_get_within (choices_of n es) g.clause (Some g.way) (chosen_way (choices_of n es) g here) in
      let low' : g.clause < length marks = let size' = choices_length n es in omega arith in
      needed_now (mark_all marks gs) es g (among_chosen n es g here) (marks_each marks gs g among low'))
