-- each text computes
use Rattle.std.proofs.Common.{refl}
use Rattle.std.specs.Fmt.{digits}
use Rattle.insert_lines.specs.InsertText.{doubled, quoted, name_text, value_text, target_text, row_text}
use Rattle.lint_report.specs.StepText.{steps_text}
use Rattle.lint_report.specs.Text.{level_text, places_text, points_text, at_line, counter_text, table_text, tables_text, key_text, constant_text, verdict_text, proof_line, shown_text, answer_text}
use Rattle.lint_report.proofs.laws.worked_verdicts.Goals as goal

pub returns-clause-constant : goal.returns-clause-constant
unfolding digits value_text constant_text verdict_text steps_text proof_line shown_text answer_text
returns-clause-constant c = refl

pub returns-clause-one_row : goal.returns-clause-one_row
unfolding constant_text verdict_text steps_text proof_line shown_text answer_text
returns-clause-one_row c = refl

pub returns-clause-two_rows : goal.returns-clause-two_rows
unfolding digits doubled quoted name_text value_text target_text row_text level_text places_text points_text at_line counter_text verdict_text shown_text answer_text lib.Utf8.encode
returns-clause-two_rows c = refl

pub returns-clause-no_row : goal.returns-clause-no_row
unfolding level_text places_text points_text at_line counter_text verdict_text shown_text answer_text
returns-clause-no_row c = refl

pub returns-clause-moot : goal.returns-clause-moot
unfolding verdict_text shown_text answer_text
returns-clause-moot c = refl

pub returns-clause-blocked : goal.returns-clause-blocked
unfolding digits verdict_text shown_text answer_text
returns-clause-blocked c = refl

pub returns-clause-nesting : goal.returns-clause-nesting
unfolding doubled quoted name_text table_text tables_text verdict_text shown_text answer_text lib.Utf8.encode
returns-clause-nesting c = refl

pub returns-clause-keys : goal.returns-clause-keys
unfolding digits doubled quoted name_text value_text target_text row_text level_text places_text points_text at_line counter_text table_text tables_text key_text verdict_text shown_text answer_text lib.Utf8.encode
returns-clause-keys c = refl

pub returns-clause-large : goal.returns-clause-large
unfolding digits verdict_text shown_text answer_text
returns-clause-large c = refl

pub returns-clause-spent : goal.returns-clause-spent
unfolding digits verdict_text shown_text answer_text
returns-clause-spent c = refl
