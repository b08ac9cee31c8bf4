use Rattle.std.proofs.Common.{◌≡◌, ◌-◌, ◌≤◌, ◌++◌, vec_len}
use Rattle.std.specs.Option.{option_map}
use Rattle.lint_base.proofs.read.read_rest.Given as goal

abbrev pub invariant-loop-count : goal.invariant-loop-count
invariant-loop-count g l = record {
  files : g.H.Shelf.files l.shelf ≡ g.H.Shelf.files l.initial.shelf;
  open_faults : g.H.Shelf.open_faults l.shelf ≡ g.H.Shelf.open_faults l.initial.shelf;
  read_faults : g.H.Shelf.read_faults l.shelf ≡ g.H.Shelf.read_faults l.initial.shelf;
  opened_path : g.H.Shelf.opened_path l.shelf ≡ g.H.Shelf.opened_path l.initial.shelf;
  failed_path : g.H.Shelf.failed_path l.shelf ≡ g.H.Shelf.failed_path l.initial.shelf;
  given : g.H.Shelf.given l.shelf ≡ vec_len l.bytes;
  within : vec_len l.bytes ≤ l.limit;
  left : option_map (λ rest. l.bytes.items ++ rest) (g.H.Shelf.left l.shelf) ≡ g.H.Shelf.left l.initial.shelf;
}

abbrev pub decreases-loop-count : goal.decreases-loop-count
decreases-loop-count g l = l.limit - vec_len l.bytes
