use Rattle.std.proofs.Common.{◌≡◌, ◌++◌, drop}
use Rattle.std.specs.List.{flat_map}
use Rattle.sorted_skolem.specs.inner.Listing.{terms_where}
use Rattle.sorted_skolem.proofs.rows.terms_over.Given as goal

abbrev pub invariant-loop-ask : goal.invariant-loop-ask
invariant-loop-ask l = l.more.items ++ flat_map (terms_where l.terms l.table) (drop l.ask-index l.asks) ≡ flat_map (terms_where l.terms l.table) l.asks
