use Rattle.std.proofs.Common.{◌∙◌, ap, refl, length, List}
use Rattle.std.proofs.lemmas.List.{map-append}
use Rattle.std.proofs.lemmas.Option.{slice_get_read}
use Rattle.proof_cert.specs.declared.writing.Waiting.{Waiting}
use Rattle.proof_cert.specs.inner.Writing.{wait_of, waits_of}
use Rattle.proof_cert.proofs.writing.go_on.Goals as goal

pub returns : goal.returns
returns c =
    let cases = c.args.cases.now in
    let tree = c.in-Some.tree.now in
    record {
      tree = tree;
      is_tree = slice_get_read cases (length cases) c.args.way tree refl c.in-Some.ensures.lookup.3.0 c.in-Some.ensures.lookup.1;
      next = ap (λ (ws : List Waiting). waits_of ws) c.in_ok-push.ensures.items ∙ map-append wait_of c.args.waiting.now.items _;
    }
