-- Leaving an entry with a closed tree, and coming to a split.
use Rattle.std.proofs.Common.{◌≡◌, ◌∙◌, ◌⊎◌, sym, ap, refl, subst, ℕ, zero, suc, ◌+◌, ◌^◌, ◌<◌, ◌≤◌, inl, inr, Bool, true, false, ◌||◌, List, [], ◌∷◌, ◌++◌, length, take, reverse, arith, length-set, take-suc-set}
use Rattle.std.proofs.lemmas.Bool.{and_from, or_right, lt-ltb, ltb-true}
use Rattle.std.proofs.lemmas.List.{length-take-le, length-append}
use Rattle.std.proofs.lemmas.Option.{same_Some, slice_get_within}
use Rattle.std.specs.Prelude.{Some, None, slice_get, slice_set, nat_lt}
use Rattle.std.specs.List.{list_all}
use Rattle.ground_theory.specs.declared.literal.Clause.{Clause}
use Rattle.ground_theory.specs.declared.literal.Frame.{Frame}
use Rattle.ground_theory.specs.declared.literal.Guard.{Guard}
use Rattle.ground_theory.specs.Forward.{guards_before}
use Rattle.lint_base.proofs.Lists.{all_at}
use Rattle.case_split.specs.Fitting.{have_few_ways}
use Rattle.case_split.specs.declared.state.Entry.{Entry}
use Rattle.case_split.specs.declared.state.State.{State}
use Rattle.case_split.specs.declared.tree.CaseTree.{CaseTree, roll-CaseTree}
use Rattle.case_split.specs.declared.tree.CaseTree.TheOpen.{CaseTree-F}
use Rattle.case_split.specs.Answers.{Closes}
use Rattle.case_split.specs.Choices.{Choices, is_chosen, is_reached, are_choices}
use Rattle.case_split.specs.Trees.{are_among}
use Rattle.case_split.specs.inner.Entries.{guard_of, guards_of, is_marked, with_marked, needed_of, mark_all, choices_of, has_one_way, splits_before, AllBefore, Refutes, IsSplit, IsEntry, AreEntries, HasEntries, entries_of, IsSearch, IsReady, IsRefuted}
use Rattle.case_split.proofs.Closed.{reached_earlier, all_among_pass}
use Rattle.case_split.proofs.Entries.{choices_length, splits_more, entries_more, entries_fresh, guards_chosen, needed_more, needed_all, needed_fresh, marks_keep, marks_length}
use Rattle.case_split.proofs.Ordering.{set_back, chosen_whole, before_raised, all_before_then, choices_more}
use Rattle.case_split.proofs.Refuting.{all_then, within_behind, refutes_more, split_refutes}
use Rattle.case_split.proofs.TakingWays.{entries_snoc, choice_of_way}

-- the trees with one more: each has its place
case_at : (ts : List CaseTree) (t : CaseTree) (v : ℕ) (u : CaseTree) → slice_get (ts ++ t ∷ []) v ≡ Some u → (slice_get ts v ≡ Some u) ⊎ ((v ≡ length ts) × (t ≡ u))
case_at [] t zero u at = inr (refl, same_Some t u at)
case_at [] t (suc v) u at = cc
case_at (x ∷ xs) t zero u at = inl at
case_at (x ∷ xs) t (suc v) u at = elim (case_at xs t v u at) [
  | inl earlier ↦ inl earlier
  | inr last ↦ inr (ap suc last.0, last.1)
]

module _ (clauses : List Clause) (frame : Frame) where
  abbrev n : ℕ
  n = length clauses

  -- the trees of an entry and the one more are closed under its ways and what the earlier entries need
  cases_refute : (counted : List Choices) (marks : List Bool) (es : List Entry) (e : Entry) (tree : CaseTree) → IsEntry clauses frame counted marks es e →
      Refutes clauses frame (guard_of e ∷ needed_of marks es) tree →
      (v : ℕ) (t : CaseTree) → slice_get (e.cases ++ tree ∷ []) v ≡ Some t → Refutes clauses frame (record { clause = e.clause; way = v } ∷ needed_of marks es) t
  cases_refute counted marks es e tree is refutes v t at = elim (case_at e.cases tree v t at) [
    | inl earlier ↦ is.closed v t earlier
    | inr last ↦
        let way : v ≡ e.way = last.0 ∙ is.as_many in
        subst (λ u. Refutes clauses frame (record { clause = e.clause; way = v } ∷ needed_of marks es) u) last.1
        (subst (λ w. Refutes clauses frame (record { clause = e.clause; way = w } ∷ needed_of marks es) tree) (sym way) refutes)
  ]

  -- the choices without the newest entry
  popped : (s : State) (e : Entry) (es : List Entry) (counted : List Choices) → HasEntries clauses frame s (e ∷ es) counted → slice_set s.chosen.items e.clause None ≡ choices_of n es
  popped s e es counted has =
      let is = has.entries.0 in
      ap (λ (xs : Choices). slice_set xs e.clause None) has.chosen ∙ set_back (choices_of n es) e.clause None (Some e.way) is.fresh

  pub left_out : (s t : State) (e : Entry) (tree : CaseTree) → IsSearch clauses frame s (e ∷ entries_of s) → Refutes clauses frame (needed_of s.needed.items (e ∷ entries_of s)) tree →
      is_marked s.needed.items e.clause ≡ false → t.tried ≡ s.tried → t.chosen.items ≡ slice_set s.chosen.items e.clause None → t.needed.items ≡ s.needed.items → t.entries.items ≡ s.entries.items →
      IsRefuted clauses frame t tree
  left_out s t e tree search refutes marked tried chosen needed entries =
      let es = entries_of s in
      let has = search.has in
      let same : entries_of t ≡ es = ap (λ (fs : List Entry). reverse fs) entries in
      let now : HasEntries clauses frame t es search.counted = record {
        chosen = chosen ∙ popped s e es search.counted has;
        marks = ap length needed ∙ has.marks;
        entries = subst (λ (ms : List Bool). AreEntries clauses frame search.counted ms es) (sym needed) has.entries.1;
        as_many = has.as_many ∙ sym tried;
        ascending = has.ascending;
        all_counted = has.all_counted;
      } in
      let left : Refutes clauses frame (needed_of s.needed.items es) tree =
      subst (λ b. Refutes clauses frame (with_marked b (guard_of e) (needed_of s.needed.items es)) tree) marked refutes in (
        record { counted = search.counted; has = subst (λ (fs : List Entry). HasEntries clauses frame t fs search.counted) (sym same) now },
        subst (λ (fs : List Entry). Refutes clauses frame (needed_of t.needed.items fs) tree) (sym same)
            (subst (λ (ms : List Bool). Refutes clauses frame (needed_of ms es) tree) (sym needed) left),
      )

  marked_refutes : (marks : List Bool) (e : Entry) (es : List Entry) (tree : CaseTree) → Refutes clauses frame (needed_of marks (e ∷ es)) tree → is_marked marks e.clause ≡ true →
      Refutes clauses frame (guard_of e ∷ needed_of marks es) tree
  marked_refutes marks e es tree refutes marked = subst (λ b. Refutes clauses frame (with_marked b (guard_of e) (needed_of marks es)) tree) marked refutes

  -- all ways of the entry's clause are closed
  pub wrapped : (s t : State) (e : Entry) (tree : CaseTree) (c : Clause) → IsSearch clauses frame s (e ∷ entries_of s) → Refutes clauses frame (needed_of s.needed.items (e ∷ entries_of s)) tree →
      is_marked s.needed.items e.clause ≡ true → slice_get clauses e.clause ≡ Some c → length c.ways ≤ e.way + 1 →
      t.tried ≡ s.tried → t.chosen.items ≡ slice_set s.chosen.items e.clause None → t.needed.items ≡ mark_all s.needed.items c.guards → t.entries.items ≡ s.entries.items →
      IsRefuted clauses frame t (roll-CaseTree (CaseTree-F.Split e.clause (e.cases ++ tree ∷ [])))
  wrapped s t e tree c search refutes marked at last tried chosen needed entries =
      let es = entries_of s in
      let has = search.has in
      let is = has.entries.0 in
      let marks = s.needed.items in
      let more = mark_all marks c.guards in
      let grow : (k : ℕ) → is_marked marks k ≡ true → is_marked more k ≡ true = λ k here. marks_keep marks c.guards k here in
      let same : entries_of t ≡ es = ap (λ (fs : List Entry). reverse fs) entries in
      let same_clause : is.clause ≡ c = same_Some is.clause c (sym is.stands ∙ at) in
      let low : e.way < length c.ways = subst (λ (d : Clause). e.way < length d.ways) same_clause is.way in
      let now : HasEntries clauses frame t es search.counted = record {
        chosen = chosen ∙ popped s e es search.counted has;
        marks = ap length needed ∙ (marks_length marks c.guards ∙ has.marks);
        entries = subst (λ (ms : List Bool). AreEntries clauses frame search.counted ms es) (sym needed) (entries_more clauses frame search.counted marks more es grow has.entries.1);
        as_many = has.as_many ∙ sym tried;
        ascending = has.ascending;
        all_counted = has.all_counted;
      } in
      let among_all : are_among (guards_of es) c.guards ≡ true = subst (λ (d : Clause). are_among (guards_of es) d.guards ≡ true) same_clause is.reached in
      let chosen_all : list_all (is_chosen (choices_of n es)) c.guards ≡ true =
      all_among_pass (is_chosen (choices_of n es)) (guards_of es) c.guards (guards_chosen clauses frame search.counted marks es has.entries.1) among_all in
      let among : are_among (needed_of more es) c.guards ≡ true = needed_all clauses frame marks es c.guards has.marks chosen_all in
      let count : length (e.cases ++ tree ∷ []) ≡ length c.ways = (let many = is.as_many in let size = length-append e.cases (tree ∷ []) in omega arith) in
      let before : guards_before e.clause c ≡ true = subst (λ (d : Clause). guards_before e.clause d ≡ true) same_clause is.before in
      let closed : Refutes clauses frame (needed_of more es) (roll-CaseTree (CaseTree-F.Split e.clause (e.cases ++ tree ∷ []))) =
      split_refutes clauses frame (needed_of more es) e.clause c (e.cases ++ tree ∷ []) at among before count
      (λ v u place.
      let g : Guard = record { clause = e.clause; way = v } in
      refutes_more clauses frame (g ∷ needed_of marks es) (g ∷ needed_of more es) u (within_behind (needed_of marks es) (needed_of more es) g (needed_more marks more es grow))
      (cases_refute search.counted marks es e tree is (marked_refutes marks e es tree refutes marked) v u place))
      in (
        record { counted = search.counted; has = subst (λ (fs : List Entry). HasEntries clauses frame t fs search.counted) (sym same) now },
        subst (λ (fs : List Entry). Refutes clauses frame (needed_of t.needed.items fs) (roll-CaseTree (CaseTree-F.Split e.clause (e.cases ++ tree ∷ [])))) (sym same)
            (subst (λ (ms : List Bool). Refutes clauses frame (needed_of ms es) (roll-CaseTree (CaseTree-F.Split e.clause (e.cases ++ tree ∷ [])))) (sym needed) closed),
      )

  split_next : (counted : List Choices) (es : List Entry) (e f : Entry) → f.clause ≡ e.clause → f.way ≡ e.way + 1 → IsSplit clauses frame counted es e → IsSplit clauses frame counted es f
  split_next counted es e f same way split =
      let xs = choices_of n es in
      let less : e.way + 1 < suc (e.way + 1) = omega arith in
      let later : AllBefore counted (take e.clause xs ++ Some (suc (e.way + 1)) ∷ []) =
      all_before_then counted (take e.clause xs ++ Some (suc e.way) ∷ []) (take e.clause xs ++ Some (suc (e.way + 1)) ∷ [])
      (before_raised (take e.clause xs) [] (suc e.way) (suc (e.way + 1)) (omega arith)) split.later in
      record {
        legal = ap (λ k. are_choices clauses (take k xs)) same ∙ split.legal;
        later =
            subst (λ k. AllBefore counted (take k xs ++ Some (suc f.way) ∷ [])) (sym same)
            (subst (λ w. AllBefore counted (take e.clause xs ++ Some (suc w) ∷ [])) (sym way) later);
      }

  -- the next way of the entry's clause
  pub next_way : (s t : State) (e f : Entry) (tree : CaseTree) (c : Clause) → IsSearch clauses frame s (e ∷ entries_of s) → Refutes clauses frame (needed_of s.needed.items (e ∷ entries_of s)) tree →
      is_marked s.needed.items e.clause ≡ true → slice_get clauses e.clause ≡ Some c → e.way + 1 < length c.ways → f.clause ≡ e.clause → f.way ≡ e.way + 1 → f.cases ≡ e.cases ++ tree ∷ [] →
      t.tried ≡ s.tried → t.chosen.items ≡ slice_set (slice_set s.chosen.items e.clause None) f.clause (Some f.way) → t.needed.items ≡ slice_set s.needed.items f.clause false →
      t.entries.items ≡ s.entries.items ++ f ∷ [] → IsReady clauses frame t (e.clause + 1)
  next_way s t e f tree c search refutes marked at low same way cases tried chosen needed entries =
      let es = entries_of s in
      let has = search.has in
      let is = has.entries.0 in
      let counted = search.counted in
      let marks = s.needed.items in
      let xs = choices_of n es in
      let more = slice_set marks f.clause false in
      let same_clause : is.clause ≡ c = same_Some is.clause c (sym is.stands ∙ at) in
      let many : length is.clause.ways ≡ length c.ways = ap (λ (d : Clause). length d.ways) same_clause in
      let fresh : slice_get xs f.clause ≡ Some None = ap (slice_get xs) same ∙ is.fresh in
      let split : IsSplit clauses frame counted es e = elim is.split [
        | inl one ↦ absurd (omega arith)
        | inr split ↦ split
      ] in
      let unmarked : needed_of more es ≡ needed_of marks es = needed_fresh n marks es f.clause false fresh in
      let entry : IsEntry clauses frame counted more es f = record {
        clause = c;
        stands = ap (slice_get clauses) same ∙ at;
        way = (let w = way in omega arith);
        reached = subst (λ (d : Clause). are_among (guards_of es) d.guards ≡ true) same_clause is.reached;
        before = subst (λ k. guards_before k c ≡ true) (sym same) (subst (λ (d : Clause). guards_before e.clause d ≡ true) same_clause is.before);
        fresh = fresh;
        above = ap (λ k. splits_before clauses k es) same ∙ is.above;
        as_many = (let size = length-append e.cases (tree ∷ []) in let count = is.as_many in ap length cases ∙ omega arith);
        closed = λ v u place.
            subst (λ k. Refutes clauses frame (record { clause = k; way = v } ∷ needed_of more es) u) (sym same)
            (subst (λ (gs : List Guard). Refutes clauses frame (record { clause = e.clause; way = v } ∷ gs) u) (sym unmarked)
            (cases_refute counted marks es e tree is (marked_refutes marks e es tree refutes marked) v u (ap (λ (ts : List CaseTree). slice_get ts v) (sym cases) ∙ place)));
        split = inr (split_next counted es e f same way split);
      } in
      let gone : slice_set s.chosen.items e.clause None ≡ xs = popped s e es counted has in
      let chosen' : t.chosen.items ≡ slice_set xs f.clause (Some f.way) = chosen ∙ ap (λ (ys : Choices). slice_set ys f.clause (Some f.way)) gone in
      let now : HasEntries clauses frame t (f ∷ es) counted = record {
        chosen = chosen';
        marks = ap length needed ∙ (length-set marks f.clause false ∙ has.marks);
        entries = subst (λ (ms : List Bool). AreEntries clauses frame counted ms (f ∷ es)) (sym needed) (entry, entries_fresh clauses frame counted marks es f.clause false fresh has.entries.1);
        as_many = has.as_many ∙ sym tried;
        ascending = has.ascending;
        all_counted = has.all_counted;
      } in
      let longer : entries_of t ≡ f ∷ es = entries_snoc s t f entries in
      let inside : e.clause < length xs = slice_get_within xs e.clause None is.fresh in
      let size : length xs ≡ n = choices_length n es in
      let one : e.clause + 1 ≡ suc e.clause = omega arith in
      let next : take (e.clause + 1) t.chosen.items ≡ take e.clause xs ++ Some (suc e.way) ∷ [] =
      ap (λ (ys : Choices). take (e.clause + 1) ys) chosen' ∙ (ap (λ k. take (e.clause + 1) (slice_set xs k (Some f.way))) same ∙
      (ap (λ i. take i (slice_set xs e.clause (Some f.way))) one ∙ (take-suc-set xs e.clause (Some f.way) inside ∙
      ap (λ w. take e.clause xs ++ Some w ∷ []) (let w = way in let up : f.way ≡ suc e.way = omega arith in up)))) in
      let reached : is_reached (take e.clause xs) c ≡ true =
      reached_earlier xs e.clause c.guards
      (all_among_pass (is_chosen xs) (guards_of es) c.guards (guards_chosen clauses frame counted marks es has.entries.1) (subst (λ (d : Clause). are_among (guards_of es) d.guards ≡ true) same_clause is.reached))
      (subst (λ (d : Clause). guards_before e.clause d ≡ true) same_clause is.before) in
      let long : length (take e.clause xs) ≡ e.clause = length-take-le e.clause xs (omega arith) in
      record {
        counted = counted;
        has = subst (λ (fs : List Entry). HasEntries clauses frame t fs counted) (sym longer) now;
        within = omega arith;
        legal =
            ap (are_choices clauses) next ∙
            choices_more [] clauses (take e.clause xs) c (Some (suc e.way)) split.legal (ap (slice_get clauses) long ∙ at) (choice_of_way clauses frame (take e.clause xs) c (suc e.way) reached (omega arith));
        splits =
            ap (splits_before clauses (e.clause + 1)) longer ∙
            and_from (has_one_way clauses f.clause || nat_lt f.clause (e.clause + 1)) (splits_before clauses (e.clause + 1) es)
            (or_right (has_one_way clauses f.clause) (nat_lt f.clause (e.clause + 1)) (lt-ltb f.clause (e.clause + 1) (omega arith)))
            (splits_more clauses e.clause (e.clause + 1) es (omega arith) is.above);
        later = subst (AllBefore counted) (sym next) split.later;
      }

  -- guards that are chosen become needed
  pub more_needed : (s t : State) (gs : List Guard) → IsSearch clauses frame s (entries_of s) →
      t.tried ≡ s.tried → t.chosen.items ≡ s.chosen.items → t.needed.items ≡ mark_all s.needed.items gs → t.entries.items ≡ s.entries.items → list_all (is_chosen s.chosen.items) gs ≡ true →
      IsSearch clauses frame t (entries_of t) × (are_among (needed_of t.needed.items (entries_of t)) gs ≡ true)
  more_needed s t gs search tried chosen needed entries all =
      let es = entries_of s in
      let has = search.has in
      let marks = s.needed.items in
      let more = mark_all marks gs in
      let same : entries_of t ≡ es = ap (λ (fs : List Entry). reverse fs) entries in
      let now : HasEntries clauses frame t es search.counted = record {
        chosen = chosen ∙ has.chosen;
        marks = ap length needed ∙ (marks_length marks gs ∙ has.marks);
        entries = subst (λ (ms : List Bool). AreEntries clauses frame search.counted ms es) (sym needed) (entries_more clauses frame search.counted marks more es (λ k here. marks_keep marks gs k here) has.entries);
        as_many = has.as_many ∙ sym tried;
        ascending = has.ascending;
        all_counted = has.all_counted;
      } in
      let among : are_among (needed_of more es) gs ≡ true =
      needed_all clauses frame marks es gs has.marks (ap (λ (xs : Choices). list_all (is_chosen xs) gs) (sym has.chosen) ∙ all) in (
        record { counted = search.counted; has = subst (λ (fs : List Entry). HasEntries clauses frame t fs search.counted) (sym same) now },
        subst (λ (fs : List Entry). are_among (needed_of t.needed.items fs) gs ≡ true) (sym same)
            (subst (λ (ms : List Bool). are_among (needed_of ms es) gs ≡ true) (sym needed) among),
      )

  -- nothing is left
  pub all_closed : (s : State) (tree : CaseTree) → s.entries.items ≡ [] → IsRefuted clauses frame s tree → Closes clauses frame tree
  all_closed s tree none refuted =
      let refutes : Refutes clauses frame [] tree =
      subst (λ (es : List Entry). Refutes clauses frame (needed_of s.needed.items es) tree) (ap (λ (es : List Entry). reverse es) none) refuted.1 in
      record { closed = refutes.closed; none = λ full is. refutes.excludes full is refl }

  -- a clause without ways
  pub dead_refutes : (s t : State) (number : ℕ) (c : Clause) → IsSearch clauses frame s (entries_of s) → slice_get clauses number ≡ Some c → length c.ways ≡ 0 →
      is_reached (take number s.chosen.items) c ≡ true →
      t.tried ≡ s.tried → t.chosen.items ≡ s.chosen.items → t.needed.items ≡ mark_all s.needed.items c.guards → t.entries.items ≡ s.entries.items →
      IsRefuted clauses frame t (roll-CaseTree (CaseTree-F.Split number []))
  dead_refutes s t number c search at none reached tried chosen needed entries =
      let es = entries_of s in
      let has = search.has in
      let marked = more_needed s t c.guards search tried chosen needed entries
      (all_then (is_chosen (take number s.chosen.items)) (is_chosen s.chosen.items) (λ g here. (chosen_whole s.chosen.items number g here).0) c.guards reached) in (
        marked.0,
        split_refutes clauses frame (needed_of t.needed.items (entries_of t)) number c [] at marked.1
            (all_then (is_chosen (take number s.chosen.items)) (λ (g : Guard). nat_lt g.clause number) (λ g here. lt-ltb g.clause number (chosen_whole s.chosen.items number g here).1) c.guards reached)
            (sym none) (λ v u place. cc),
      )

  -- the numbers of an entry fit
  pub entry_fits : (counted : List Choices) (marks : List Bool) (es : List Entry) (e : Entry) → IsEntry clauses frame counted marks es e → have_few_ways clauses ≡ true →
      (e.clause < n) × (e.way + 1 < 2 ^ 32)
  entry_fits counted marks es e is few =
      let low : e.clause < n = slice_get_within clauses e.clause is.clause is.stands in
      let few' : length is.clause.ways < 2 ^ 32 = ltb-true (length is.clause.ways) (2 ^ 32) (all_at (λ (c : Clause). nat_lt (length c.ways) (2 ^ 32)) clauses e.clause is.clause few is.stands) in
      let way : e.way < length is.clause.ways = is.way in
      (low, omega arith)
