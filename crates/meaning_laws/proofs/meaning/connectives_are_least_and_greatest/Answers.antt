use Rattle.lint_core.specs.Truth.{and_of, or_of}
use Rattle.meaning_laws.proofs.MeaningLaws.{and_is_least, or_is_greatest, and_of_truths, or_of_truths, and_known, or_known, not_not, not_and, not_or}
use Rattle.meaning_laws.proofs.meaning.connectives_are_least_and_greatest.Goals as goal

pub returns-clause-and : goal.returns-clause-and
returns-clause-and c = λ db parts tables binding truths have. (and_of truths, and_of_truths db tables binding parts truths have, and_is_least truths)

pub returns-clause-and_only : goal.returns-clause-and_only
returns-clause-and_only c = λ db parts tables binding t known. and_known db tables binding parts t known

pub returns-clause-or : goal.returns-clause-or
returns-clause-or c = λ db parts tables binding truths have. (or_of truths, or_of_truths db tables binding parts truths have, or_is_greatest truths)

pub returns-clause-or_only : goal.returns-clause-or_only
returns-clause-or_only c = λ db parts tables binding t known. or_known db tables binding parts t known

pub returns-clause-not_not : goal.returns-clause-not_not
returns-clause-not_not c = λ db part tables binding. not_not db tables binding part

pub returns-clause-not_and : goal.returns-clause-not_and
returns-clause-not_and c = λ db parts tables binding. not_and db tables binding parts

pub returns-clause-not_or : goal.returns-clause-not_or
returns-clause-not_or c = λ db parts tables binding. not_or db tables binding parts
