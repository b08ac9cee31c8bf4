-- the text computes
use Rattle.std.proofs.Common.{refl}
use Rattle.std.specs.Fmt.{digits}
use Rattle.insert_lines.specs.InsertText.{doubled, quoted, name_text, value_text, target_text, row_text}
use Rattle.insert_lines.proofs.worked.worked_inserts.Goals as goal

pub returns-clause-text : goal.returns-clause-text
unfolding digits doubled quoted name_text value_text target_text row_text lib.Utf8.encode
returns-clause-text c = refl
