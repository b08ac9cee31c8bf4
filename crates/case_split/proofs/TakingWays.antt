-- What a search takes: how its state goes on.
use Rattle.std.proofs.Common.{◌≡◌, ◌∙◌, ◌⊎◌, sym, ap, subst, ℕ, suc, ◌+◌, ◌<◌, ◌≤◌, inl, inr, Bool, true, false, ◌||◌, List, [], ◌∷◌, ◌++◌, length, take, reverse, arith, length-set}
use Rattle.std.proofs.lemmas.Bool.{and_from, or_left, eq-eqb, lt-ltb}
use Rattle.std.proofs.lemmas.List.{length-take-le, take-set-le, reverse-append}
use Rattle.std.proofs.lemmas.Option.{same_Some, slice_get_within}
use Rattle.std.specs.Prelude.{Option, Some, None, slice_get, slice_set, nat_lt, nat_eq, if◌then◌else◌}
use Rattle.std.specs.Option.{option_map_or, option_or}
use Rattle.ground_theory.specs.declared.literal.Clause.{Clause}
use Rattle.ground_theory.specs.declared.literal.Frame.{Frame}
use Rattle.ground_theory.specs.declared.literal.Guard.{Guard}
use Rattle.case_split.specs.declared.state.Entry.{Entry}
use Rattle.case_split.specs.declared.state.State.{State}
use Rattle.case_split.specs.declared.tree.CaseTree.{CaseTree}
use Rattle.case_split.specs.Choices.{Choices, is_chosen, is_reached, is_way, is_pass, is_choice, are_choices}
use Rattle.case_split.specs.Trees.{is_among}
use Rattle.case_split.specs.inner.Entries.{guards_of, choices_of, has_one_way, splits_before, AllBefore, IsSplit, IsEntry, AreEntries, HasEntries, entries_of, IsSearch, IsReady, IsDead, IsSpreading}
use Rattle.case_split.proofs.Closed.{reached_earlier, all_among_pass}
use Rattle.case_split.proofs.Entries.{choices_length, among_chosen, splits_more, entries_fresh, guards_chosen, entry_at}
use Rattle.case_split.proofs.Ordering.{set_same, set_other, take_next, chosen_whole, before_more, all_before, choices_more}
use Rattle.case_split.proofs.Refuting.{all_then}

pub entries_snoc : (s t : State) (e : Entry) → t.entries.items ≡ s.entries.items ++ e ∷ [] → entries_of t ≡ e ∷ entries_of s
entries_snoc s t e same = ap (λ (es : List Entry). reverse es) same ∙ reverse-append s.entries.items (e ∷ [])

module _ (clauses : List Clause) (frame : Frame) where
  abbrev n : ℕ
  n = length clauses

  -- a new entry of a reached clause
  pub new_entry : (counted : List Choices) (marks : List Bool) (es : List Entry) (e : Entry) (c : Clause) → slice_get clauses e.clause ≡ Some c → e.way < length c.ways →
      is_reached (take e.clause (choices_of n es)) c ≡ true → slice_get (choices_of n es) e.clause ≡ Some None → splits_before clauses e.clause es ≡ true → e.way ≡ 0 → e.cases ≡ [] →
      (length c.ways ≡ 1) ⊎ IsSplit clauses frame counted es e → IsEntry clauses frame counted marks es e
  new_entry counted marks es e c stands way reached fresh above first empty split =
      let xs = choices_of n es in
      record {
        clause = c;
        stands = stands;
        way = way;
        reached = all_then (is_chosen (take e.clause xs)) (is_among (guards_of es)) (λ g chosen. among_chosen n es g (chosen_whole xs e.clause g chosen).0) c.guards reached;
        before =
            all_then (is_chosen (take e.clause xs)) (λ (g : Guard). nat_lt g.clause e.clause)
            (λ g chosen. lt-ltb g.clause e.clause (chosen_whole xs e.clause g chosen).1) c.guards reached;
        fresh = fresh;
        above = above;
        as_many = ap length empty ∙ sym first;
        closed = λ v t at. (let none : List CaseTree = [] in let no : slice_get none v ≡ Some t = ap (λ (ts : List CaseTree). slice_get ts v) (sym empty) ∙ at in cc);
        split = split;
      }

  -- the state with one entry more
  pub has_more : (s t : State) (es : List Entry) (e : Entry) (counted : List Choices) → HasEntries clauses frame s es counted → slice_get (choices_of n es) e.clause ≡ Some None →
      IsEntry clauses frame counted (slice_set s.needed.items e.clause false) es e → t.tried ≡ s.tried →
      t.chosen.items ≡ slice_set s.chosen.items e.clause (Some e.way) → t.needed.items ≡ slice_set s.needed.items e.clause false → HasEntries clauses frame t (e ∷ es) counted
  has_more s t es e counted has fresh is tried chosen needed = record {
    chosen = chosen ∙ ap (λ (xs : Choices). slice_set xs e.clause (Some e.way)) has.chosen;
    marks = ap length needed ∙ (length-set s.needed.items e.clause false ∙ has.marks);
    entries = subst (λ (ms : List Bool). AreEntries clauses frame counted ms (e ∷ es)) (sym needed) (is, entries_fresh clauses frame counted s.needed.items es e.clause false fresh has.entries);
    as_many = has.as_many ∙ sym tried;
    ascending = has.ascending;
    all_counted = has.all_counted;
  }

  -- what stands below a place that is set
  legal_below : (xs ys : Choices) (b j : ℕ) (x : Option ℕ) → ys ≡ slice_set xs j x → b ≤ j → take b ys ≡ take b xs
  legal_below xs ys b j x same low = ap (λ (zs : Choices). take b zs) same ∙ take-set-le b xs j x low

  -- one clause more has its choice
  pub ready_next : (s : State) (j : ℕ) (c : Clause) (x : Option ℕ) → IsReady clauses frame s j → slice_get clauses j ≡ Some c → slice_get s.chosen.items j ≡ Some x →
      is_choice (take j s.chosen.items) c x ≡ true → IsReady clauses frame s (j + 1)
  ready_next s j c x ready at chosen is =
      let xs = s.chosen.items in
      let low : j < n = slice_get_within clauses j c at in
      let low' : j < length xs = slice_get_within xs j x chosen in
      let long : length (take j xs) ≡ j = length-take-le j xs (omega arith) in
      let one : j + 1 ≡ suc j = omega arith in
      let next : take (j + 1) xs ≡ take j xs ++ x ∷ [] = ap (λ i. take i xs) one ∙ take_next xs j x chosen in
      record {
        counted = ready.counted;
        has = ready.has;
        within = omega arith;
        legal = ap (are_choices clauses) next ∙ choices_more [] clauses (take j xs) c x ready.legal (ap (slice_get clauses) long ∙ at) is;
        splits = splits_more clauses j (j + 1) (entries_of s) (omega arith) ready.splits;
        later = subst (AllBefore ready.counted) (sym next) (all_before ready.counted (take j xs) (take j xs ++ x ∷ []) (λ d before. before_more d (take j xs) (x ∷ []) before) ready.later);
      }

  pub choice_of_way : (earlier : Choices) (c : Clause) (w : ℕ) → is_reached earlier c ≡ true → w < length c.ways → is_choice earlier c (Some w) ≡ true
  choice_of_way earlier c w reached low = ap (λ b. if b then is_way c (Some w) else is_pass (Some w)) reached ∙ lt-ltb w (length c.ways) low

  choice_of_none : (earlier : Choices) (c : Clause) → is_reached earlier c ≡ false → is_choice earlier c None ≡ true
  choice_of_none earlier c passed = ap (λ b. if b then is_way c None else is_pass None) passed

  -- a clause of the entries is reached by the choices before it
  pub entry_reached : (counted : List Choices) (marks : List Bool) (es rest : List Entry) (e : Entry) → AreEntries clauses frame counted marks es → IsEntry clauses frame counted marks rest e →
      ((g : Guard) → is_among (guards_of rest) g ≡ true → is_among (guards_of es) g ≡ true) → (is : IsEntry clauses frame counted marks rest e) → is_reached (take e.clause (choices_of n es)) is.clause ≡ true
  entry_reached counted marks es rest e are _ within is =
      reached_earlier (choices_of n es) e.clause is.clause.guards
      (all_among_pass (is_chosen (choices_of n es)) (guards_of es) is.clause.guards (guards_chosen clauses frame counted marks es are)
      (all_then (is_among (guards_of rest)) (is_among (guards_of es)) within is.clause.guards is.reached))
      is.before

  -- a clause that has its choice, or is passed
  pub passes_on : (s : State) (j : ℕ) (c : Clause) → IsReady clauses frame s j → slice_get clauses j ≡ Some c →
      ((w : ℕ) × (slice_get s.chosen.items j ≡ Some (Some w))) ⊎ ((slice_get s.chosen.items j ≡ Some None) × (is_reached (take j s.chosen.items) c ≡ false)) → IsReady clauses frame s (j + 1)
  passes_on s j c ready at (inr passed) = ready_next s j c None ready at passed.0 (choice_of_none (take j s.chosen.items) c passed.1)
  passes_on s j c ready at (inl taken) =
      let es = entries_of s in
      let has = ready.has in
      let xs = choices_of n es in
      let found = entry_at clauses frame ready.counted s.needed.items es j taken.0 has.entries (ap (λ (ys : Choices). slice_get ys j) (sym has.chosen) ∙ taken.1) in
      let e = found.entry in
      let reached : is_reached (take e.clause xs) found.is.clause ≡ true = entry_reached ready.counted s.needed.items es found.earlier e has.entries found.is found.within found.is in
      let same_clause : found.is.clause ≡ c = same_Some found.is.clause c (sym found.is.stands ∙ (ap (slice_get clauses) found.clause_is ∙ at)) in
      let low : e.way < length found.is.clause.ways = found.is.way in
      let low' : taken.0 < length c.ways = subst (λ (d : Clause). taken.0 < length d.ways) same_clause (subst (λ w. w < length found.is.clause.ways) found.way_is low) in
      let reached' : is_reached (take j xs) c ≡ true =
      subst (λ (d : Clause). is_reached (take j xs) d ≡ true) same_clause (subst (λ i. is_reached (take i xs) found.is.clause ≡ true) found.clause_is reached) in
      ready_next s j c (Some taken.0) ready at taken.1
      (choice_of_way (take j s.chosen.items) c taken.0 (ap (λ (ys : Choices). is_reached (take j ys) c) has.chosen ∙ reached') low')

  -- what is ready before the place of a new entry of a clause with one way
  ready_taken : (s t : State) (b : ℕ) (e : Entry) (c : Clause) → IsReady clauses frame s b → b ≤ e.clause → slice_get clauses e.clause ≡ Some c → length c.ways ≡ 1 → e.way ≡ 0 → e.cases ≡ [] →
      slice_get s.chosen.items e.clause ≡ Some None → is_reached (take e.clause s.chosen.items) c ≡ true → t.tried ≡ s.tried →
      t.chosen.items ≡ slice_set s.chosen.items e.clause (Some e.way) → t.needed.items ≡ slice_set s.needed.items e.clause false → t.entries.items ≡ s.entries.items ++ e ∷ [] →
      IsReady clauses frame t b
  ready_taken s t b e c ready low at one first empty free reached tried chosen needed entries =
      let es = entries_of s in
      let has = ready.has in
      let fresh : slice_get (choices_of n es) e.clause ≡ Some None = ap (λ (ys : Choices). slice_get ys e.clause) (sym has.chosen) ∙ free in
      let is = new_entry ready.counted (slice_set s.needed.items e.clause false) es e c at (omega arith)
      (ap (λ (ys : Choices). is_reached (take e.clause ys) c) (sym has.chosen) ∙ reached) fresh (splits_more clauses b e.clause es low ready.splits) first empty (inl one) in
      let more : entries_of t ≡ e ∷ es = entries_snoc s t e entries in
      let below : take b t.chosen.items ≡ take b s.chosen.items = legal_below s.chosen.items t.chosen.items b e.clause (Some e.way) chosen low in
      let has_one : has_one_way clauses e.clause ≡ true = ap (λ o. option_map_or (λ (c : Clause). nat_eq (length c.ways) 1) o false) at ∙ eq-eqb (length c.ways) 1 one in
      record {
        counted = ready.counted;
        has = subst (λ (fs : List Entry). HasEntries clauses frame t fs ready.counted) (sym more) (has_more s t es e ready.counted has fresh is tried chosen needed);
        within = ready.within;
        legal = ap (are_choices clauses) below ∙ ready.legal;
        splits = ap (splits_before clauses b) more ∙ and_from (has_one_way clauses e.clause || nat_lt e.clause b) (splits_before clauses b es) (or_left (has_one_way clauses e.clause) (nat_lt e.clause b) has_one) ready.splits;
        later = subst (AllBefore ready.counted) (sym below) ready.later;
      }

  -- ---- looking at a clause

  pub look_passed : (s : State) (number : ℕ) (fork : Option ℕ) (c : Clause) → IsSpreading clauses frame s number fork → slice_get clauses number ≡ Some c →
      ((w : ℕ) × (slice_get s.chosen.items number ≡ Some (Some w))) ⊎ ((slice_get s.chosen.items number ≡ Some None) × (is_reached (take number s.chosen.items) c ≡ false)) →
      IsSpreading clauses frame s (number + 1) fork
  look_passed s number None c is at passed = passes_on s number c is at passed
  look_passed s number (Some f) c is at passed = (let low = is.0 in omega arith, is.1, is.2)

  pub look_forced : (s t : State) (number : ℕ) (fork : Option ℕ) (e : Entry) (c : Clause) → IsSpreading clauses frame s number fork → e.clause ≡ number → e.way ≡ 0 → e.cases ≡ [] →
      slice_get clauses number ≡ Some c → length c.ways ≡ 1 → slice_get s.chosen.items number ≡ Some None → is_reached (take number s.chosen.items) c ≡ true → t.tried ≡ s.tried →
      t.chosen.items ≡ slice_set s.chosen.items e.clause (Some e.way) → t.needed.items ≡ slice_set s.needed.items e.clause false → t.entries.items ≡ s.entries.items ++ e ∷ [] →
      IsSpreading clauses frame t (number + 1) fork
  look_forced s t number None e c is same first empty at one free reached tried chosen needed entries =
      let at' : slice_get clauses e.clause ≡ Some c = ap (slice_get clauses) same ∙ at in
      let free' : slice_get s.chosen.items e.clause ≡ Some None = ap (slice_get s.chosen.items) same ∙ free in
      let reached' : is_reached (take e.clause s.chosen.items) c ≡ true = ap (λ i. is_reached (take i s.chosen.items) c) same ∙ reached in
      let ready : IsReady clauses frame t number = ready_taken s t number e c is (omega arith) at' one first empty free' reached' tried chosen needed entries in
      let low : e.clause < length s.chosen.items = slice_get_within s.chosen.items e.clause None free' in
      let now : slice_get t.chosen.items e.clause ≡ Some (Some e.way) = ap (λ (ys : Choices). slice_get ys e.clause) chosen ∙ set_same s.chosen.items e.clause (Some e.way) low in
      let below : take number t.chosen.items ≡ take number s.chosen.items = legal_below s.chosen.items t.chosen.items number e.clause (Some e.way) chosen (omega arith) in
      ready_next t number c (Some e.way) ready at (ap (slice_get t.chosen.items) (sym same) ∙ now)
      (choice_of_way (take number t.chosen.items) c e.way (ap (λ (ys : Choices). is_reached ys c) below ∙ reached) (omega arith))
  look_forced s t number (Some f) e c is same first empty at one free reached tried chosen needed entries =
      let at' : slice_get clauses e.clause ≡ Some c = ap (slice_get clauses) same ∙ at in
      let free' : slice_get s.chosen.items e.clause ≡ Some None = ap (slice_get s.chosen.items) same ∙ free in
      let reached' : is_reached (take e.clause s.chosen.items) c ≡ true = ap (λ i. is_reached (take i s.chosen.items) c) same ∙ reached in
      let before : f < number = is.0 in
      let ready : IsReady clauses frame t f = ready_taken s t f e c is.1 (omega arith) at' one first empty free' reached' tried chosen needed entries in
      let below : take f t.chosen.items ≡ take f s.chosen.items = legal_below s.chosen.items t.chosen.items f e.clause (Some e.way) chosen (omega arith) in
      let other : f ≡ e.clause → ⊥ = λ here. omega arith in
      let fork = is.2 in (
        omega arith,
        ready,
        record {
          clause = fork.clause;
          stands = fork.stands;
          several = fork.several;
          free = ap (λ (ys : Choices). slice_get ys f) chosen ∙ (set_other s.chosen.items e.clause f (Some e.way) other ∙ fork.free);
          reached = ap (λ (ys : Choices). is_reached ys fork.clause) below ∙ fork.reached;
        },
      )

  pub look_fork : (s : State) (number : ℕ) (fork : Option ℕ) (c : Clause) → IsSpreading clauses frame s number fork → slice_get clauses number ≡ Some c → 2 ≤ length c.ways →
      slice_get s.chosen.items number ≡ Some None → is_reached (take number s.chosen.items) c ≡ true → (later : Option ℕ) → later ≡ option_or fork (Some number) → IsSpreading clauses frame s (number + 1) later
  look_fork s number None c is at several free reached later same =
      subst (IsSpreading clauses frame s (number + 1)) (sym same)
      (omega arith, is, record { clause = c; stands = at; several = several; free = free; reached = reached })
  look_fork s number (Some f) c is at several free reached later same =
      let low = is.0 in
      subst (IsSpreading clauses frame s (number + 1)) (sym same) (omega arith, is.1, is.2)

  spreading_search : (s : State) (number : ℕ) (fork : Option ℕ) → IsSpreading clauses frame s number fork → IsSearch clauses frame s (entries_of s)
  spreading_search s number None is = record { counted = is.counted; has = is.has }
  spreading_search s number (Some f) is = let ready = is.1 in record { counted = ready.counted; has = ready.has }

  pub look_dead : (s : State) (number : ℕ) (fork : Option ℕ) (c : Clause) → IsSpreading clauses frame s number fork → slice_get clauses number ≡ Some c → length c.ways ≡ 0 →
      is_reached (take number s.chosen.items) c ≡ true → IsSearch clauses frame s (entries_of s) × IsDead clauses frame s number
  look_dead s number fork c is at none reached = (spreading_search s number fork is, record { clause = c; stands = at; none = none; reached = reached })

  pub search_lengths : (s : State) (es : List Entry) (counted : List Choices) → HasEntries clauses frame s es counted → (length s.chosen.items ≡ n) × (length s.needed.items ≡ n)
  search_lengths s es counted has = (ap length has.chosen ∙ choices_length n es, has.marks)

  pub spreading_length : (s : State) (number : ℕ) (fork : Option ℕ) → IsSpreading clauses frame s number fork → (length s.chosen.items ≡ n) × (length s.needed.items ≡ n)
  spreading_length s number fork is = let search = spreading_search s number fork is in search_lengths s (entries_of s) search.counted search.has
