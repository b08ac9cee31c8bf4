use Rattle.std.proofs.Common.{◌≡◌, ◌∙◌, ◌<◌, ◌≤◌, ◌+◌, sym, ap, refl, subst, List, [], ◌∷◌, ◌++◌, length, arith, length-set}
use Rattle.std.specs.Prelude.{None}
use Rattle.std.specs.Vec.{with_item}
use Rattle.ground_theory.specs.declared.literal.Clause.{Clause}
use Rattle.ground_theory.specs.declared.literal.Guard.{Guard}
use Rattle.std.proofs.lemmas.Option.{same_Some}
use Rattle.case_split.specs.declared.state.Entry.{Entry}
use Rattle.case_split.specs.declared.state.State.{State}
use Rattle.case_split.specs.declared.tree.CaseTree.{CaseTree}
use Rattle.case_split.specs.declared.tree.CaseTree.TheVariants as tree
use Rattle.case_split.specs.inner.Entries.{mark_all, entries_of, IsRefuted}
use Rattle.case_split.proofs.Places.{read_at, mark_read}
use Rattle.case_split.proofs.Leaving.{entry_fits, left_out, wrapped, next_way}
use Rattle.case_split.proofs.Refuting.{split_rolls}
use Rattle.case_split.proofs.TakingWays.{search_lengths}
use Rattle.case_split.proofs.state.State.leave.Goals as goal

pub returns-then-not-index-clause-left : goal.returns-then-not-index-clause-left
returns-then-not-index-clause-left c =
    let s : State = c.args.self.now in
    let e : Entry = c.args.entry in
    let t : State = record { tried = s.tried; chosen = with_item s.chosen e.clause None; needed = s.needed; entries = s.entries } in
    let has = c.requires.state.has in
    let low = (entry_fits c.args.clauses.now c.args.frame.now c.requires.state.counted s.needed.items (entries_of s) e has.entries.0 c.requires.ways).0 in
    let low' : e.clause < length s.needed.items = let size = has.marks in omega arith in (
      refl,
      left_out c.args.clauses.now c.args.frame.now s t e c.args.tree c.requires.state c.requires.refuted
          (mark_read s.needed.items e.clause c.index.result.now low' c.index.ensures ∙ c.if-not-index.true) refl refl refl refl,
    )

pub overflow_add-next : goal.overflow_add-next
overflow_add-next c =
    let s : State = c.args.self.now in
    let fits = entry_fits c.args.clauses.now c.args.frame.now c.requires.state.counted s.needed.items (entries_of s) c.args.entry c.requires.state.has.entries.0 c.requires.ways in
    omega (arith, fits.1)

pub offset_bounds-clauses-clause : goal.offset_bounds-clauses-clause
offset_bounds-clauses-clause c =
    let s : State = c.args.self.now in
    let fits = entry_fits c.args.clauses.now c.args.frame.now c.requires.state.counted s.needed.items (entries_of s) c.args.entry c.requires.state.has.entries.0 c.requires.ways in
    let few : length c.args.clauses.now ≤ 400000 = c.requires.count in
    omega (arith, fits.0)

pub bounds-clauses-clause : goal.bounds-clauses-clause
bounds-clauses-clause c =
    let s : State = c.args.self.now in
    (entry_fits c.args.clauses.now c.args.frame.now c.requires.state.counted s.needed.items (entries_of s) c.args.entry c.requires.state.has.entries.0 c.requires.ways).0

pub take-requires-clause-number : goal.take-requires-clause-number
take-requires-clause-number c =
    let s : State = c.args.self.now in
    let has = c.requires.state.has in
    let fits = entry_fits c.args.clauses.now c.args.frame.now c.requires.state.counted s.needed.items (entries_of s) c.args.entry has.entries.0 c.requires.ways in
    let size = search_lengths c.args.clauses.now c.args.frame.now s (c.args.entry ∷ entries_of s) c.requires.state.counted has in
    let same = length-set s.chosen.items c.args.entry.clause None in
    omega (arith, fits.0, size.0)

pub take-requires-clause-mark : goal.take-requires-clause-mark
take-requires-clause-mark c =
    let s : State = c.args.self.now in
    let has = c.requires.state.has in
    let fits = entry_fits c.args.clauses.now c.args.frame.now c.requires.state.counted s.needed.items (entries_of s) c.args.entry has.entries.0 c.requires.ways in
    let size : length s.needed.items ≡ length c.args.clauses.now = has.marks in
    omega (arith, fits.0)

pub returns-then-next-as_slice-clause-left : goal.returns-then-next-as_slice-clause-left
returns-then-next-as_slice-clause-left c =
    let s : State = c.args.self.now in
    let e : Entry = c.args.entry in
    let f : Entry = record { clause = e.clause; way = e.way + 1; cases = c.in_ok-cases.cases } in
    let has = c.requires.state.has in
    let low = (entry_fits c.args.clauses.now c.args.frame.now c.requires.state.counted s.needed.items (entries_of s) e has.entries.0 c.requires.ways).0 in
    let low' : e.clause < length s.needed.items = let size = has.marks in omega arith in
    let at = read_at c.args.clauses.now e.clause c.index-clauses-clause.result low c.index-clauses-clause.is in
    let less : e.way + 1 < length c.as_slice.result.now = c.if-next-as_slice.true in
    let less' : e.way + 1 < length c.index-clauses-clause.result.ways = subst (λ n. e.way + 1 < n) (ap length c.as_slice.ensures ∙ ap (λ (d : Clause). length d.ways) (sym c.index-clauses-clause.is)) less in
    next_way c.args.clauses.now c.args.frame.now s c.take.new.self e f c.args.tree c.index-clauses-clause.result c.requires.state c.requires.refuted
    (mark_read s.needed.items e.clause c.index.result.now low' c.index.ensures ∙ c.if-not-index.false) at less' refl refl c.in_ok-cases.ensures
    c.take.ensures.tried c.take.ensures.chosen c.take.ensures.needed c.in_ok-take.ensures.entries

pub offset_bounds-clauses-clause-2 : goal.offset_bounds-clauses-clause-2
offset_bounds-clauses-clause-2 c =
    let s : State = c.args.self.now in
    let fits = entry_fits c.args.clauses.now c.args.frame.now c.requires.state.counted s.needed.items (entries_of s) c.args.entry c.requires.state.has.entries.0 c.requires.ways in
    let few : length c.args.clauses.now ≤ 400000 = c.requires.count in
    omega (arith, fits.0)

pub bounds-clauses-clause-2 : goal.bounds-clauses-clause-2
bounds-clauses-clause-2 c =
    let s : State = c.args.self.now in
    (entry_fits c.args.clauses.now c.args.frame.now c.requires.state.counted s.needed.items (entries_of s) c.args.entry c.requires.state.has.entries.0 c.requires.ways).0

pub overflow_cast-result : goal.overflow_cast-result
overflow_cast-result c =
    let s : State = c.args.self.now in
    let fits = entry_fits c.args.clauses.now c.args.frame.now c.requires.state.counted s.needed.items (entries_of s) c.args.entry c.requires.state.has.entries.0 c.requires.ways in
    let few : length c.args.clauses.now ≤ 400000 = c.requires.count in
    omega (arith, fits.0)

pub returns-clause-left : goal.returns-clause-left
returns-clause-left c =
    let s : State = c.args.self.now in
    let e : Entry = c.args.entry in
    let t : State = c.need.new.self in
    let has = c.requires.state.has in
    let low = (entry_fits c.args.clauses.now c.args.frame.now c.requires.state.counted s.needed.items (entries_of s) e has.entries.0 c.requires.ways).0 in
    let low' : e.clause < length s.needed.items = let size = has.marks in omega arith in
    let at = read_at c.args.clauses.now e.clause c.index-clauses-clause-2.result low c.index-clauses-clause-2.is in
    let at' = read_at c.args.clauses.now e.clause c.index-clauses-clause.result low c.index-clauses-clause.is in
    let same : c.index-clauses-clause.result ≡ c.index-clauses-clause-2.result = same_Some c.index-clauses-clause.result c.index-clauses-clause-2.result (sym at' ∙ at) in
    let more : length c.as_slice.result.now ≤ e.way + 1 = c.if-next-as_slice.false in
    let last : length c.index-clauses-clause-2.result.ways ≤ e.way + 1 =
    subst (λ n. n ≤ e.way + 1) (ap length c.as_slice.ensures ∙ (ap (λ (d : Clause). length d.ways) (sym c.index-clauses-clause.is) ∙ ap (λ (d : Clause). length d.ways) same)) more in
    let below : CaseTree = c.args.tree in
    let done = wrapped c.args.clauses.now c.args.frame.now s t e below c.index-clauses-clause-2.result c.requires.state c.requires.refuted
    (mark_read s.needed.items e.clause c.index.result.now low' c.index.ensures ∙ c.if-not-index.false) at last
    c.need.ensures.tried c.need.ensures.chosen (c.need.ensures.needed ∙ ap (λ (gs : List Guard). mark_all s.needed.items gs) (c.as_slice-2.ensures ∙ ap (λ (d : Clause). d.guards) (sym c.index-clauses-clause-2.is))) c.need.ensures.entries in
    let cases : c.in_ok-cases.cases ≡ e.cases ++ below ∷ [] = c.in_ok-cases.ensures in
    (c.need.ensures.entries, subst (λ (ts : List CaseTree). IsRefuted c.args.clauses.now c.args.frame.now t (tree.Split e.clause ts)) (sym cases) (subst (λ u. IsRefuted c.args.clauses.now c.args.frame.now t u) (split_rolls e.clause (e.cases ++ below ∷ [])) done))
