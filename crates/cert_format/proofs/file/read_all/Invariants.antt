use Rattle.cert_format.proofs.Listing.{SoFar}
use Rattle.cert_format.proofs.file.read_all.Given as goal

abbrev pub invariant-loop-value : goal.invariant-loop-value
invariant-loop-value l = SoFar l.values l.value-index l.certs.items l.at
