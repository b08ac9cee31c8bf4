use Rattle.reading_laws.proofs.LexSteps.{one_list, spelled_or_faulty, one_fault}
use Rattle.reading_laws.proofs.lexing.one_lexing.Goals as goal

pub returns-clause-tokens : goal.returns-clause-tokens
returns-clause-tokens c = one_list

pub returns-clause-apart : goal.returns-clause-apart
returns-clause-apart c = spelled_or_faulty

pub returns-clause-refusal : goal.returns-clause-refusal
returns-clause-refusal c = one_fault
