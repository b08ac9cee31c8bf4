use Rattle.std.proofs.Common.{◌∙◌, ◌++◌, ◌∷◌, [], ap, sym, refl, subst, length, append-nil, List, ℕ}
use Rattle.std.proofs.lemmas.Option.{slice_get_read, slice_get_past}
use Rattle.ground_theory.specs.declared.literal.Guard.{Guard}
use Rattle.instantiate.specs.Keys.{number_of}
use Rattle.instantiate.specs.inner.Listings.{HasKey, keys_for}
use Rattle.instantiate.proofs.Guards.{present_is, present_none}
use Rattle.instantiate.proofs.Listed.{maker_key}
use Rattle.instantiate.proofs.Numbering.{key_of}
use Rattle.instantiate.proofs.clauses.add_presence.Goals as goal

pub number_of-maker-requires-clause-listed : goal.number_of-maker-requires-clause-listed
number_of-maker-requires-clause-listed c =
    let l = c.args.listing.now in
    let t = c.in-Some.term.now in
    let terms = l.terms.now in
    let there = slice_get_read terms (length terms) c.args.row t refl c.in-Some.ensures.lookup.3.0 c.in-Some.ensures.lookup.1 in
    subst (λ (rows : List ℕ). HasKey l (key_of t.sentence t.node rows)) (sym c.as_slice.ensures) (maker_key l c.requires c.args.row t there)

pub returns-in_ok-push : goal.returns-in_ok-push
returns-in_ok-push c =
    let l = c.args.listing.now in
    let t = c.in-Some.term.now in
    let terms = l.terms.now in
    let guards = c.args.guards.now in
    let there = slice_get_read terms (length terms) c.args.row t refl c.in-Some.ensures.lookup.3.0 c.in-Some.ensures.lookup.1 in
    c.in_ok-push.ensures.ok
    ∙ (ap (λ (n : ℕ). guards ++ record { clause = n; way = 0 } ∷ []) (c.number_of-maker.ensures ∙ ap (λ (rows : List ℕ). number_of (keys_for l) (key_of t.sentence t.node rows)) c.as_slice.ensures)
    ∙ ap (λ (gs : List Guard). guards ++ gs) (sym (present_is l c.args.row t there)))

pub returns-in_default : goal.returns-in_default
returns-in_default c =
    let l = c.args.listing.now in
    let guards = c.args.guards.now in
    sym (append-nil guards) ∙ ap (λ (gs : List Guard). guards ++ gs) (sym (present_none l c.args.row (slice_get_past l.terms.now c.args.row c.in_default.ensures.lookup.3)))
