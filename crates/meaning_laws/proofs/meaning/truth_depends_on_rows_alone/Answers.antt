use Rattle.meaning_laws.specs.SameRows.{tables_named}
use Rattle.meaning_laws.proofs.MeaningLawsRows.{truth_same, all_same}
use Rattle.meaning_laws.proofs.meaning.truth_depends_on_rows_alone.Goals as goal

pub returns-clause-at_other_places : goal.returns-clause-at_other_places
returns-clause-at_other_places c = λ db cond tables binding others rows. truth_same db db cond tables binding others (all_same db (tables_named cond)) rows

pub returns-clause-in_another_database : goal.returns-clause-in_another_database
returns-clause-in_another_database c = λ db other cond tables binding others same rows. truth_same db other cond tables binding others same rows
