-- each text computes, once the query's place and the table's name are put in
use Rattle.std.proofs.Common.{◌≡◌, ◌∙◌, sym, ap, refl, cond, true, false, nat_eq, ℕ, List, [], ◌∷◌, ◌++◌, length, if◌then◌else◌, codes, encode_utf8_all}
use Rattle.std.specs.Fmt.{digits}
use Rattle.insert_lines.proofs.PlainWords.{plain_bytes}
use Rattle.lint_core.specs.Database.{below}
use Rattle.lint_core.specs.PlainWord.{is_plain_word}
use Rattle.lint_core.specs.declared.schema.Table.{Table}
use Rattle.insert_lines.specs.InsertOrder.{has_targets, with_first, insert_order}
use Rattle.insert_lines.specs.InsertText.{texts, name_text, value_text, target_text, row_text, table_lines}
use Rattle.lint_report.specs.RefusalText.{span_text, refusal_text, fault_text}
use Rattle.lint_report.specs.StepText.{edge_text, link_text, part_text, chain_text, path_text, last_text, step_text, steps_text}
use Rattle.lint_report.specs.Text.{level_text, places_text, points_text, at_line, counter_text, constant_text, verdict_text, proof_line, shown_text, answer_text, code_text, asked_text, query_line, query_text, result_text}
use Rattle.lint_report.specs.Worked.{six}
use Rattle.lint_report.proofs.laws.worked_texts.Goals as goal

pub returns-clause-always : goal.returns-clause-always
unfolding digits span_text edge_text step_text steps_text constant_text verdict_text proof_line shown_text answer_text code_text asked_text query_line query_text result_text
returns-clause-always c schema query e = rw e refl

pub returns-clause-refused : goal.returns-clause-refused
unfolding digits span_text refusal_text fault_text query_line query_text result_text
returns-clause-refused c schema query = refl

pub returns-clause-long : goal.returns-clause-long
unfolding digits span_text refusal_text fault_text query_line query_text result_text
returns-clause-long c schema = refl

pub returns-clause-steps : goal.returns-clause-steps
unfolding digits edge_text link_text part_text chain_text path_text last_text step_text steps_text
returns-clause-steps c = refl

-- ---- a table that is named by one letter

named : (name : List ℕ) → encode_utf8_all name ≡ codes "T" → name_text name ≡ codes "T"
unfolding name_text
named name is =
    let plain : is_plain_word name ≡ true = sym (plain_bytes name) ∙ ap is_plain_word is in
    rw plain is

-- one table is all there is to order, whatever it refers to
alone : (table : Table) → insert_order (table ∷ []) ≡ 0 ∷ []
alone table =
    elim (has_targets [] table) as (λ ready. (let order : List ℕ = with_first [] (cond ready (0 ∷ []) []) in if nat_eq (length order) 1 then order else below 1) ≡ 0 ∷ []) [
      | true ↦ refl
      | false ↦ refl
    ]

six_lines : (table : Table) → encode_utf8_all table.name ≡ codes "T" → texts (table_lines (codes "    ") (table ∷ []) six.database) (0 ∷ []) ≡ codes "    INSERT INTO T VALUES (6, NULL);\n"
unfolding digits value_text target_text row_text
six_lines table is = rw (named table.name is) refl

six_shown : (table : Table) → encode_utf8_all table.name ≡ codes "T" → counter_text (table ∷ []) six ≡ codes "    database\n    INSERT INTO T VALUES (6, NULL);\n    at 1\n"
unfolding digits level_text places_text points_text at_line counter_text
six_shown table is =
    ap (λ (lines : List ℕ). codes "    database\n" ++ lines ++ at_line six.points) (ap (texts (table_lines (codes "    ") (table ∷ []) six.database)) (alone table) ∙ six_lines table is)

pub returns-clause-not_always : goal.returns-clause-not_always
unfolding digits span_text verdict_text shown_text answer_text code_text asked_text query_line query_text result_text
returns-clause-not_always c table query name e = rw (six_shown table name, e) refl
