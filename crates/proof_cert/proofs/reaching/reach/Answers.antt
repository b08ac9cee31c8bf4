use Rattle.std.proofs.Common.{◌≡◌, ◌∙◌, sym, ap, refl, length, arith, List, [], ◌∷◌, get_or}
use Rattle.std.proofs.lemmas.List.{nil_from_length}
use Rattle.std.proofs.lemmas.Option.{slice_get_read, IfSome_then}
use Rattle.std.specs.Prelude.{Some, IfSome, slice_get}
use Rattle.sort_formula.specs.declared.formula.Formula.{out-Formula}
use Rattle.ground_theory.specs.declared.literal.Guard.{Guard}
use Rattle.instantiate.specs.Hanging.{guards_at}
use Rattle.proof_cert.specs.declared.path.Opened.{Opened}
use Rattle.proof_cert.specs.inner.Paths.{opened_at}
use Rattle.proof_cert.specs.inner.Reaching.{IsPartOf, IsAtRow}
use Rattle.proof_cert.proofs.Standing.{guards_there}
use Rattle.proof_cert.proofs.Leading.{one_guard, two_guards, took_way, root_reached, part_reached, row_reached}
use Rattle.proof_cert.proofs.reaching.reach.Goals as goal

pub returns-in-empty : goal.returns-in-empty
returns-in-empty c =
    let source = c.args.source.now in
    let problem = source.problem.now in
    let is = c.requires.source in
    let clause = c.args.clause in
    let x = c.in_ok-get.field-0.now in
    let rank : slice_get source.ranks.items clause ≡ Some c.in_ok-rank.field-0.now =
    sym (ap (λ xs. slice_get xs clause) c.deref.ensures.value)
    ∙ slice_get_read c.deref.result.now (length c.deref.result.now) clause c.in_ok-rank.field-0.now refl c.in_ok-rank.ensures.lookup.3.0 c.in_ok-rank.ensures.lookup.1 in
    let at : slice_get problem.clauses clause ≡ Some x =
    sym (ap (λ xs. slice_get xs clause) c.as_slice-clauses.ensures)
    ∙ slice_get_read c.as_slice-clauses.result.now (length c.as_slice-clauses.result.now) clause x refl c.in_ok-get.ensures.lookup.3.0 c.in_ok-get.ensures.lookup.1 in
    let none : x.guards ≡ [] = sym c.as_slice.ensures ∙ nil_from_length c.as_slice.result.now (let e = c.in-empty.len_below in omega arith) in
    IfSome_then c.of_root.result c.of_root.ensures
    (λ r root. root_reached problem source.makers is.hanging source.ranks.items is.ranks is.makers c.args.path.now.splits.items c.args.facts clause x c.in_ok-rank.field-0.now r at none rank root)

pub returns-in_ok-find-in-len1 : goal.returns-in_ok-find-in-len1
returns-in_ok-find-in-len1 c =
    let source = c.args.source.now in
    let problem = source.problem.now in
    let is = c.requires.source in
    let way = c.args.path.now.splits.items in
    let clause = c.args.clause in
    let x = c.in_ok-get.field-0.now in
    let gs : List Guard = c.as_slice.result.now in
    let none : Guard = record { clause = 0; way = 0 } in
    let g : Guard = get_or gs 0 none in
    let rank : slice_get source.ranks.items clause ≡ Some c.in_ok-rank.field-0.now =
    sym (ap (λ xs. slice_get xs clause) c.deref.ensures.value)
    ∙ slice_get_read c.deref.result.now (length c.deref.result.now) clause c.in_ok-rank.field-0.now refl c.in_ok-rank.ensures.lookup.3.0 c.in_ok-rank.ensures.lookup.1 in
    let at : slice_get problem.clauses clause ≡ Some x =
    sym (ap (λ xs. slice_get xs clause) c.as_slice-clauses.ensures)
    ∙ slice_get_read c.as_slice-clauses.result.now (length c.as_slice-clauses.result.now) clause x refl c.in_ok-get.ensures.lookup.3.0 c.in_ok-get.ensures.lookup.1 in
    let o : Opened = c.in_ok-find-in-len1.field-0 in
    let guards : x.guards ≡ g ∷ [] = sym c.as_slice.ensures ∙ one_guard gs none c.in-len1.len_at_least c.in-len1.len_below in
    let opened : opened_at way g.clause ≡ Some o = sym c.in_ok-find-in-len1.ensures in
    let took : o.way ≡ g.way = took_way way (guards_at problem clause) [] g o c.requires.covers (guards_there problem clause x at ∙ guards) opened in
    let told : IfSome c.of_part.result (λ r. IsPartOf o c.in_ok-rank.field-0.now r (out-Formula o.formula.now)) = c.of_part.ensures in
    IfSome_then c.of_part.result told
    (λ r part. part_reached problem source.makers is.hanging source.ranks.items is.ranks is.makers way c.args.facts clause x c.in_ok-rank.field-0.now r g o at guards rank c.requires.standing opened took part)

pub returns-in_ok-find-in-len2-2 : goal.returns-in_ok-find-in-len2-2
returns-in_ok-find-in-len2-2 c =
    let source = c.args.source.now in
    let problem = source.problem.now in
    let is = c.requires.source in
    let way = c.args.path.now.splits.items in
    let clause = c.args.clause in
    let x = c.in_ok-get.field-0.now in
    let gs : List Guard = c.as_slice.result.now in
    let none : Guard = record { clause = 0; way = 0 } in
    let g : Guard = get_or gs 0 none in
    let at : slice_get problem.clauses clause ≡ Some x =
    sym (ap (λ xs. slice_get xs clause) c.as_slice-clauses.ensures)
    ∙ slice_get_read c.as_slice-clauses.result.now (length c.as_slice-clauses.result.now) clause x refl c.in_ok-get.ensures.lookup.3.0 c.in_ok-get.ensures.lookup.1 in
    let h : Guard = get_or gs 1 none in
    let o : Opened = c.in_ok-find-in-len2.field-0 in
    let m : Opened = c.in_ok-find-in-len2-2.field-0 in
    let guards : x.guards ≡ g ∷ h ∷ [] = sym c.as_slice.ensures ∙ two_guards gs none c.in-len2.len_at_least c.in-len2.len_below in
    let opened : opened_at way g.clause ≡ Some o = sym c.find-in-len2.ensures ∙ c.in_ok-find-in-len2.was in
    let made : opened_at way h.clause ≡ Some m = sym c.find-in-len2-2.ensures ∙ c.in_ok-find-in-len2-2.was in
    let told : IfSome c.at_row.result (λ r. IsAtRow o m c.args.facts r (out-Formula o.formula.now)) = c.at_row.ensures in
    IfSome_then c.at_row.result told
    (λ r says. row_reached problem source.makers is.hanging source.ranks.items is.ranks is.makers way c.args.facts clause x r g h o m at guards c.requires.standing opened made says)
