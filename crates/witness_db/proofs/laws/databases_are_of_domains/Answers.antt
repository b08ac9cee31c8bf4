use Rattle.witness_db.proofs.Domains.{of_domains}
use Rattle.witness_db.proofs.laws.databases_are_of_domains.Goals as goal

pub returns : goal.returns
returns c = λ schema problem is choices a assigned db places made. of_domains schema problem is choices a assigned db places made
