use Rattle.std.proofs.Common.{◌≡◌, ◌∙◌, sym, ap, subst, length, take, set, List, [], ◌∷◌, ◌++◌}
use Rattle.std.specs.Prelude.{Some, slice_get}
use Rattle.proof_cert.specs.declared.path.Opened.{Opened}
use Rattle.proof_cert.specs.inner.Paths.{IsNew}
use Rattle.proof_cert.proofs.Paths.{index_take, index_more, long}
use Rattle.proof_cert.proofs.path.Path.go_to.Goals as goal

pub returns-in_ok-push-clause-indexed : goal.returns-in_ok-push-clause-indexed
returns-in_ok-push-clause-indexed c = λ place o at.
    let splits = c.args.self.now.splits.items in
    let places = c.args.self.now.places.items in
    let front : List Opened = take c.args.above splits in
    let items = c.in_ok-push.ensures.items ∙ ap (λ (os : List Opened). os ++ c.in-Some.opened ∷ []) c.truncate.ensures.items in
    let own : IsNew (length places) front (Some c.in-Some.opened) = subst (IsNew (length places) front) c.in-Some.is c.requires.other in
    let there : slice_get (front ++ c.in-Some.opened ∷ []) place ≡ Some o = sym (ap (λ (os : List Opened). slice_get os place) items) ∙ at in
    let made = index_more front places c.in-Some.opened (index_take c.args.above splits places c.requires.indexed) own.0 own.1 place o there in
    let size : c.len.result ≡ length front = c.len.ensures ∙ (long c.truncate.new.self ∙ ap (λ (os : List Opened). length os) c.truncate.ensures.items) in
    ap (λ n. slice_get (set places c.in-Some.opened.clause n) o.clause) size ∙ made

pub returns-in_default-clause-indexed : goal.returns-in_default-clause-indexed
returns-in_default-clause-indexed c = λ place o at.
    let splits = c.args.self.now.splits.items in
    index_take c.args.above splits c.args.self.now.places.items c.requires.indexed place o
    (sym (ap (λ (os : List Opened). slice_get os place) c.truncate.ensures.items) ∙ at)
