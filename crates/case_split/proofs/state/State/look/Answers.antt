use Rattle.std.proofs.Common.{◌≡◌, ◌∙◌, ◌<◌, sym, ap, ap₂, refl, List, length, take, inl, inr, arith, true, false}
use Rattle.std.proofs.lemmas.List.{length-take-le}
use Rattle.std.specs.List.{list_all}
use Rattle.ground_theory.specs.declared.literal.Guard.{Guard}
use Rattle.case_split.specs.declared.state.Entry.{Entry}
use Rattle.case_split.specs.Choices.{Choices, is_chosen, is_reached}
use Rattle.case_split.proofs.Places.{read_at, some_read, none_read}
use Rattle.case_split.proofs.TakingWays.{look_passed, look_forced, look_fork, look_dead, spreading_length}
use Rattle.case_split.proofs.state.State.look.Goals as goal
use Rattle.case_split.proofs.state.State.look.Goals.{then-taken-via-then-taken, then-taken-via-else-taken+then-not-are_met}

pub index-requires : goal.index-requires
index-requires c =
    let size = spreading_length c.args.clauses.now c.args.frame.now c.args.self.now c.args.number c.args.fork c.requires.spreading in
    let low : c.args.number < length c.args.clauses.now = c.requires.number in
    omega (arith, size.0)

pub slice_bounds-are_met-end : goal.slice_bounds-are_met-end
slice_bounds-are_met-end c =
    let size = spreading_length c.args.clauses.now c.args.frame.now c.args.self.now c.args.number c.args.fork c.requires.spreading in
    let long : length c.deref.result.now ≡ length c.args.self.now.chosen.items = ap length c.deref.ensures.value in
    let low : c.args.number < length c.args.clauses.now = c.requires.number in
    sym (length-take-le c.args.number c.deref.result.now (omega (arith, size.0)))

pub returns-then-taken : goal.returns-then-taken
returns-then-taken c =
    let size = spreading_length c.args.clauses.now c.args.frame.now c.args.self.now c.args.number c.args.fork c.requires.spreading in
    let low : c.args.number < length c.args.clauses.now = c.requires.number in
    let low' : c.args.number < length c.args.self.now.chosen.items = omega (arith, size.0) in
    let at = read_at c.args.clauses.now c.args.number c.index-clauses-number.result low c.index-clauses-number.is in
    elim c.then-taken.branch [
      | then-taken-via-then-taken w ↦
          look_passed c.args.clauses.now c.args.frame.now c.args.self.now c.args.number c.args.fork c.index-clauses-number.result c.requires.spreading at
          (inl (some_read c.args.self.now.chosen.items c.args.number c.index.result.now low' c.index.ensures (sym c.is_some-taken.ensures ∙ w.if-taken.true)))
      | then-taken-via-else-taken+then-not-are_met w ↦
          let met : is_reached (take c.args.number c.args.self.now.chosen.items) c.index-clauses-number.result ≡ false =
          ap₂ (λ (ys : Choices) (gs : List Guard). list_all (is_chosen (take c.args.number ys)) gs) (sym w.deref.ensures.value) (sym w.as_slice.ensures) ∙ (sym w.are_met.ensures ∙ w.if-not-are_met.true) in
          look_passed c.args.clauses.now c.args.frame.now c.args.self.now c.args.number c.args.fork c.index-clauses-number.result c.requires.spreading at
          (inr (none_read c.args.self.now.chosen.items c.args.number c.index.result.now low' c.index.ensures (sym c.is_some-taken.ensures ∙ w.if-taken.false), met))
    ]

pub take-requires-clause-number : goal.take-requires-clause-number
take-requires-clause-number c =
    let size = spreading_length c.args.clauses.now c.args.frame.now c.args.self.now c.args.number c.args.fork c.requires.spreading in
    let low : c.args.number < length c.args.clauses.now = c.requires.number in
    omega (arith, size.0)

pub take-requires-clause-mark : goal.take-requires-clause-mark
take-requires-clause-mark c =
    let size = spreading_length c.args.clauses.now c.args.frame.now c.args.self.now c.args.number c.args.fork c.requires.spreading in
    let low : c.args.number < length c.args.clauses.now = c.requires.number in
    omega (arith, size.1)

pub returns-in-0 : goal.returns-in-0
returns-in-0 c =
    let low : c.args.number < length c.args.clauses.now = c.requires.number in
    let at = read_at c.args.clauses.now c.args.number c.index-clauses-number.result low c.index-clauses-number.is in
    let met : is_reached (take c.args.number c.args.self.now.chosen.items) c.index-clauses-number.result ≡ true =
    ap₂ (λ (ys : Choices) (gs : List Guard). list_all (is_chosen (take c.args.number ys)) gs) (sym c.deref.ensures.value) (sym c.as_slice.ensures) ∙ (sym c.are_met.ensures ∙ c.if-not-are_met.false) in
    look_dead c.args.clauses.now c.args.frame.now c.args.self.now c.args.number c.args.fork c.index-clauses-number.result c.requires.spreading at
    (sym (ap length c.as_slice-2.ensures) ∙ c.in-0.is) met

pub returns-in_ok-take-in-1 : goal.returns-in_ok-take-in-1
returns-in_ok-take-in-1 c =
    let size = spreading_length c.args.clauses.now c.args.frame.now c.args.self.now c.args.number c.args.fork c.requires.spreading in
    let low : c.args.number < length c.args.clauses.now = c.requires.number in
    let low' : c.args.number < length c.args.self.now.chosen.items = omega (arith, size.0) in
    let at = read_at c.args.clauses.now c.args.number c.index-clauses-number.result low c.index-clauses-number.is in
    let met : is_reached (take c.args.number c.args.self.now.chosen.items) c.index-clauses-number.result ≡ true =
    ap₂ (λ (ys : Choices) (gs : List Guard). list_all (is_chosen (take c.args.number ys)) gs) (sym c.deref.ensures.value) (sym c.as_slice.ensures) ∙ (sym c.are_met.ensures ∙ c.if-not-are_met.false) in
    let e : Entry = record { clause = c.args.number; way = 0; cases = c.new.result } in
    look_forced c.args.clauses.now c.args.frame.now c.args.self.now c.take.new.self c.args.number c.args.fork e c.index-clauses-number.result c.requires.spreading refl refl c.new.ensures at
    (sym (ap length c.as_slice-2.ensures) ∙ c.in-1.is)
    (none_read c.args.self.now.chosen.items c.args.number c.index.result.now low' c.index.ensures (sym c.is_some-taken.ensures ∙ c.if-taken.false)) met
    c.take.ensures.tried c.take.ensures.chosen c.take.ensures.needed c.in_ok-take-in-1.ensures.entries

pub returns-in_default : goal.returns-in_default
returns-in_default c =
    let size = spreading_length c.args.clauses.now c.args.frame.now c.args.self.now c.args.number c.args.fork c.requires.spreading in
    let low : c.args.number < length c.args.clauses.now = c.requires.number in
    let low' : c.args.number < length c.args.self.now.chosen.items = omega (arith, size.0) in
    let at = read_at c.args.clauses.now c.args.number c.index-clauses-number.result low c.index-clauses-number.is in
    let met : is_reached (take c.args.number c.args.self.now.chosen.items) c.index-clauses-number.result ≡ true =
    ap₂ (λ (ys : Choices) (gs : List Guard). list_all (is_chosen (take c.args.number ys)) gs) (sym c.deref.ensures.value) (sym c.as_slice.ensures) ∙ (sym c.are_met.ensures ∙ c.if-not-are_met.false) in
    let long : length c.as_slice-2.result.now ≡ length c.index-clauses-number.result.ways = ap length c.as_slice-2.ensures in
    look_fork c.args.clauses.now c.args.frame.now c.args.self.now c.args.number c.args.fork c.index-clauses-number.result c.requires.spreading at (omega (arith, long))
    (none_read c.args.self.now.chosen.items c.args.number c.index.result.now low' c.index.ensures (sym c.is_some-taken.ensures ∙ c.if-taken.false)) met c.or.result c.or.ensures
