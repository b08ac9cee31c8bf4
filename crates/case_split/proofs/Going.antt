-- How the answers of the parts of a search become those of a step.
use Rattle.std.proofs.Common.{◌≡◌, ◌∙◌, sym, ap, subst, ℕ, ◌<◌, Bool, List, [], ◌∷◌, ◌++◌, length}
use Rattle.std.proofs.lemmas.Option.{slice_get_within}
use Rattle.std.specs.Prelude.{Option, Some, None}
use Rattle.ground_theory.specs.declared.literal.Assignment.{Assignment}
use Rattle.ground_theory.specs.declared.literal.Clause.{Clause}
use Rattle.ground_theory.specs.declared.literal.Frame.{Frame}
use Rattle.ground_theory.specs.Judging.{Settles}
use Rattle.case_split.specs.declared.state.Entry.{Entry}
use Rattle.case_split.specs.declared.state.State.{State}
use Rattle.case_split.specs.declared.searching.Advance.TheVariants as advance
use Rattle.case_split.specs.declared.taking.Settled.TheVariants as settled
use Rattle.case_split.specs.declared.tree.CaseTree.{CaseTree}
use Rattle.case_split.specs.Choices.{literals_of}
use Rattle.case_split.specs.inner.Entries.{needed_of, choices_of, Refutes, AreEntries, IsSearch, IsReady, IsFork, IsDead, IsSpreading, IsRefuted, entries_of}
use Rattle.case_split.specs.inner.Steps.{IsSettled, IsAdvance}
use Rattle.case_split.proofs.TakingWays.{entries_snoc}

module _ (clauses : List Clause) (frame : Frame) where
  pub ready_search : (s : State) (from : ℕ) → IsReady clauses frame s from → IsSearch clauses frame s (entries_of s)
  ready_search s from ready = record { counted = ready.counted; has = ready.has }

  pub spread_search : (s : State) (fork : Option ℕ) → IsSpreading clauses frame s (length clauses) fork → IsSearch clauses frame s (entries_of s)
  spread_search s None is = ready_search s (length clauses) is
  spread_search s (Some number) is = ready_search s number is.1

  pub go_full : (s t : State) (a : Assignment) → IsReady clauses frame s (length clauses) → IsSettled clauses frame s t (settled.Holds a) → IsAdvance clauses frame t (advance.Full a)
  go_full s t a is settles =
      subst (λ (u : State). IsReady clauses frame u (length clauses) × Settles frame (literals_of clauses u.chosen.items) a) (sym settles.0) (is, settles.1)

  pub fork_low : (s : State) (number : ℕ) → IsFork clauses frame s number → number < length clauses
  fork_low s number fork = slice_get_within clauses number fork.clause fork.stands

  pub dead_low : (s : State) (number : ℕ) → IsDead clauses frame s number → number < length clauses
  dead_low s number dead = slice_get_within clauses number dead.clause dead.stands

  -- the newest entry is taken off
  pub popped_search : (s t : State) (e : Entry) (tree : CaseTree) → s.entries.items ≡ t.entries.items ++ e ∷ [] → t.tried ≡ s.tried → t.chosen.items ≡ s.chosen.items →
      t.needed.items ≡ s.needed.items → IsRefuted clauses frame s tree →
      IsSearch clauses frame t (e ∷ entries_of t) × Refutes clauses frame (needed_of t.needed.items (e ∷ entries_of t)) tree
  popped_search s t e tree entries tried chosen needed refuted =
      let same : entries_of s ≡ e ∷ entries_of t = entries_snoc t s e entries in
      let has = refuted.0.has in
      let counted = refuted.0.counted in
      let was : AreEntries clauses frame counted s.needed.items (e ∷ entries_of t) = subst (λ (es : List Entry). AreEntries clauses frame counted s.needed.items es) same has.entries in (
        record {
          counted = counted;
          has = record {
            chosen = chosen ∙ (has.chosen ∙ ap (λ (es : List Entry). choices_of (length clauses) es) same);
            marks = ap length needed ∙ has.marks;
            entries = subst (λ (ms : List Bool). AreEntries clauses frame counted ms (e ∷ entries_of t)) (sym needed) was;
            as_many = has.as_many ∙ sym tried;
            ascending = has.ascending;
            all_counted = has.all_counted;
          };
        },
        subst (λ (ms : List Bool). Refutes clauses frame (needed_of ms (e ∷ entries_of t)) tree) (sym needed)
            (subst (λ (es : List Entry). Refutes clauses frame (needed_of s.needed.items es) tree) same refuted.1),
      )
