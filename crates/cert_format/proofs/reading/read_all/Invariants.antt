use Rattle.std.proofs.Common.{◌≡◌, ◌++◌, drop, option_map}
use Rattle.serde_json.specs.View.{items_view}
use Rattle.cert_format.specs.inner.Found.{all_found}
use Rattle.cert_format.proofs.reading.read_all.Given as goal

-- what is to come, behind what was found, is all
abbrev pub invariant-loop-part : goal.invariant-loop-part
invariant-loop-part g l = option_map (λ xs. l.found ++ xs) (all_found g.T.FromJson.found (items_view (drop l.part-index l.parts))) ≡ all_found g.T.FromJson.found (items_view l.parts)
