use Rattle.std.proofs.Common.{◌≡◌, ◌∙◌, ◌<◌, ◌≤◌, ◌++◌, ◌∷◌, [], sym, ap, subst, List, length}
use Rattle.std.specs.Prelude.{Option, Some, None, slice_get}
use Rattle.ground_theory.specs.declared.literal.Clause.{Clause}
use Rattle.ground_theory.specs.declared.literal.Literal.{Literal}
use Rattle.sort_formula.specs.declared.formula.Atom.{Atom}
use Rattle.case_split.specs.declared.taking.Taken.{Taken}
use Rattle.case_split.proofs.Literals.{adds_past, adds_empty, adds_one}
use Rattle.case_split.proofs.Places.{read_at}
use Rattle.case_split.proofs.taking.Taken.take.Goals as goal

abbrev of_atom : Atom → Literal
of_atom a = record { atom = a }

pub returns-then-place-ways : goal.returns-then-place-ways
returns-then-place-ways c =
    let at = read_at c.args.clauses.now c.args.number c.index-clauses-number.result c.requires.number c.index-clauses-number.is in
    let ways : c.as_slice-ways.result.now ≡ c.index-clauses-number.result.ways = c.as_slice-ways.ensures ∙ ap (λ (d : Clause). d.ways) (sym c.index-clauses-number.is) in
    let past : length c.as_slice-ways.result.now ≤ c.args.way = c.if-place-ways.true in
    adds_past c.args.clauses.now c.args.frame.now c.args.self.now c.args.number c.args.way c.index-clauses-number.result at (subst (λ (os : List (Option Literal)). length os ≤ c.args.way) ways past)

pub returns-in-None : goal.returns-in-None
returns-in-None c =
    let at = read_at c.args.clauses.now c.args.number c.index-clauses-number.result c.requires.number c.index-clauses-number.is in
    let ways : c.as_slice-ways.result.now ≡ c.index-clauses-number.result.ways = c.as_slice-ways.ensures ∙ ap (λ (d : Clause). d.ways) (sym c.index-clauses-number.is) in
    let low : c.args.way < length c.as_slice-ways.result.now = c.if-place-ways.false in
    let here : slice_get c.as_slice-ways.result.now c.args.way ≡ Some None = read_at c.as_slice-ways.result.now c.args.way c.index-ways-place.result low c.index-ways-place.is ∙ ap Some c.in-None.is in
    adds_empty c.args.clauses.now c.args.frame.now c.args.self.now c.args.number c.args.way c.index-clauses-number.result at
    (ap (λ (os : List (Option Literal)). slice_get os c.args.way) (sym ways) ∙ here)

pub returns-in_ok-push-in-Some-2 : goal.returns-in_ok-push-in-Some-2
returns-in_ok-push-in-Some-2 c =
    let at = read_at c.args.clauses.now c.args.number c.index-clauses-number.result c.requires.number c.index-clauses-number.is in
    let ways : c.as_slice-ways.result.now ≡ c.index-clauses-number.result.ways = c.as_slice-ways.ensures ∙ ap (λ (d : Clause). d.ways) (sym c.index-clauses-number.is) in
    let low : c.args.way < length c.as_slice-ways.result.now = c.if-place-ways.false in
    let l : Literal = c.in-Some.literal in
    let here : slice_get c.as_slice-ways.result.now c.args.way ≡ Some (Some l) = read_at c.as_slice-ways.result.now c.args.way c.index-ways-place.result low c.index-ways-place.is ∙ ap Some c.in-Some.is in
    let later : Taken = record { literals = c.push.new.self; guards = c.push-in-Some.new.self } in
    let m : Literal = record { atom = c.in_ok-atom-in-Some.atom } in
    let copied : m ≡ l = ap (λ (a : Atom). of_atom a) c.in_ok-atom-in-Some.ensures in
    adds_one c.args.clauses.now c.args.frame.now c.args.self.now later c.args.number c.args.way c.index-clauses-number.result l at
    (ap (λ (os : List (Option Literal)). slice_get os c.args.way) (sym ways) ∙ here)
    (c.in_ok-push-in-Some.ensures.items ∙ ap (λ (m : Literal). c.args.self.now.literals.items ++ m ∷ []) copied) c.in_ok-push-in-Some-2.ensures.ok
