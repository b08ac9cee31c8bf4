use Rattle.cert_format.proofs.OneReading.{same_certs, not_both, same_fault}
use Rattle.cert_format.proofs.laws.files_have_one_reading.Goals as goal

pub returns-clause-certs : goal.returns-clause-certs
returns-clause-certs c = same_certs

pub returns-clause-refused : goal.returns-clause-refused
returns-clause-refused c = not_both

pub returns-clause-faults : goal.returns-clause-faults
returns-clause-faults c = same_fault
