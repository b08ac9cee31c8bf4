-- The rules of a table are read whole.
use Rattle.std.proofs.Common.{ℕ, ◌+◌, ◌≤◌, ◌≡◌, refl, sym, ◌∙◌, true, false, List, [], ◌∷◌, ◌++◌, length, codes, lit≤, arith, inl, inr}
use Rattle.std.proofs.lemmas.List.{append_assoc, length-append}
use Rattle.lint_base.specs.declared.place.Span.{Span}
use Rattle.sql_lex.specs.declared.token.Sign.TheVariants.{Open, Close}
use Rattle.sql_lex.specs.declared.token.Token.{Token}
use Rattle.sql_tree.specs.declared.term.NameTree.{NameTree}
use Rattle.sql_tree.specs.declared.select.CondTree.{CondTree}
use Rattle.sql_tree.specs.declared.schema.RuleTree.{RuleTree}
use Rattle.sql_tree.specs.declared.schema.RuleTree.TheVariants.{Check}
use Rattle.sql_parse.specs.grammar.Words.{word, called, sign, CHECK, CONSTRAINT, NOT, NULL, ON, PRIMARY, REFERENCES, UNIQUE}
use Rattle.sql_parse.specs.grammar.Names.{SpellsNames}
use Rattle.sql_parse.specs.grammar.Tables as table
use Rattle.sql_parse.specs.grammar.Tables.{SpellsConstraint, SpellsReference, SpellsCheck, SpellsColumnRule, SpellsColumnRules, SpellsTableRule}
use Rattle.sql_parse.specs.inner.readers.Tokens.{found, and_then, is_word, is_open, is_close, is_name, is_called, at_head, expect, read_after}
use Rattle.sql_parse.specs.inner.readers.Terms.{read_names}
use Rattle.sql_parse.specs.inner.readers.Tables.{read_reference, foreign_tree, begins_rule, read_check, word_rule, column_rule_from, read_column_rule, read_named_rule, read_rules, read_key_names, table_rule_from, read_table_rule}
use Rattle.sql_parse.proofs.CompleteTokens.{place_rank, rank, no_name, no_open, no_word, not_called}
use Rattle.sql_parse.proofs.CompleteLists.{after_read, Looped, loop_end, loop_more, loop_whole}
use Rattle.sql_parse.proofs.CompleteSelects.{cond_read, close_rank}
use Rattle.sql_parse.proofs.CompleteTables.{names_read, constraint_read, reference_read}

-- CHECK
check_read : (depth : ℕ) (tree : CondTree) (tokens : List Token) → SpellsCheck tree tokens → length tokens ≤ depth → (rest : List Token) → read_check depth (tokens ++ rest) ≡ found tree rest
unfolding read_check read_after expect and_then is_word is_open is_close
check_read depth tree tokens s l rest =
    let fits : length (word CHECK s.check_at ∷ sign Open s.open_at ∷ s.own ++ sign Close s.close_at ∷ []) ≤ depth = rw s.whole at l in
    let size = length-append s.own (sign Close s.close_at ∷ []) in
    rw (
      s.whole,
      append_assoc s.own (sign Close s.close_at ∷ []) rest,
      cond_read tree s.own s.condition true depth (inr s.flat) (omega arith) (sign Close s.close_at ∷ rest) (close_rank 4 (lit≤ tt) s.close_at rest),
    ) refl

check_begins : (depth : ℕ) (column : NameTree) (tree : CondTree) (tokens : List Token) → SpellsCheck tree tokens → (rest : List Token) →
    read_column_rule depth column (tokens ++ rest) ≡ and_then (read_check depth (tokens ++ rest)) (λ tree left. found (Check tree ∷ []) left)
unfolding read_column_rule column_rule_from is_word
check_begins depth column tree tokens s rest = rw s.whole refl

reference_begins : (depth : ℕ) (column name : NameTree) (target : List NameTree) (at : Span) (tokens : List Token) → SpellsReference name target at tokens → (rest : List Token) →
    read_column_rule depth column (tokens ++ rest) ≡ and_then (read_reference true (tokens ++ rest)) (λ r left. found (foreign_tree (column ∷ []) at r ∷ []) left)
unfolding read_column_rule column_rule_from is_word
reference_begins depth column name target at tokens s rest = rw s.whole refl

column_rule_read : (depth : ℕ) (column : NameTree) (rules : List RuleTree) (tokens : List Token) → SpellsColumnRule column rules tokens → length tokens ≤ depth →
    (rest : List Token) → at_head is_open rest ≡ false → at_head (is_word ON) rest ≡ false → read_column_rule depth column (tokens ++ rest) ≡ found rules rest
unfolding read_column_rule column_rule_from word_rule is_word is_called expect and_then
column_rule_read depth column rules tokens (table.not_null not_at null_at e whole) l rest f g = rw (e, whole) refl
column_rule_read depth column rules tokens (table.null null_at e whole) l rest f g = rw (e, whole) refl
column_rule_read depth column rules tokens (table.unique at e whole) l rest f g = rw (e, whole) refl
column_rule_read depth column rules tokens (table.primary at key_at e whole) l rest f g = rw (e, whole) refl
column_rule_read depth column rules tokens (table.check tree e s) l rest f g = check_begins depth column tree tokens s rest ∙ rw (check_read depth tree tokens s l rest, e) refl
column_rule_read depth column rules tokens (table.references name target at e small s) l rest f g =
    reference_begins depth column name target at tokens s rest ∙ rw (reference_read true name target at tokens s (inr small) rest f g, e) refl

-- what rules begin with
abbrev pub Plain : List Token → Type 0
Plain tokens =
    (at_head is_open tokens ≡ false) × (at_head (is_word ON) tokens ≡ false) × (at_head (is_called (codes "DEFAULT")) tokens ≡ false) × (at_head (is_called (codes "VARYING")) tokens ≡ false)

abbrev Begun : List Token → Type 0
Begun tokens = Plain tokens × (at_head (is_word CONSTRAINT) tokens ≡ false) × (at_head begins_rule tokens ≡ true)

column_rule_begun : (column : NameTree) (rules : List RuleTree) (tokens : List Token) → SpellsColumnRule column rules tokens → (rest : List Token) → Begun (tokens ++ rest)
unfolding at_head is_open is_word is_called begins_rule
column_rule_begun column rules tokens (table.not_null not_at null_at e whole) rest = rw whole ((refl, refl, refl, refl), refl, refl)
column_rule_begun column rules tokens (table.null null_at e whole) rest = rw whole ((refl, refl, refl, refl), refl, refl)
column_rule_begun column rules tokens (table.unique at e whole) rest = rw whole ((refl, refl, refl, refl), refl, refl)
column_rule_begun column rules tokens (table.primary at key_at e whole) rest = rw whole ((refl, refl, refl, refl), refl, refl)
column_rule_begun column rules tokens (table.check tree e s) rest = rw s.whole ((refl, refl, refl, refl), refl, refl)
column_rule_begun column rules tokens (table.references name target at e small s) rest = rw s.whole ((refl, refl, refl, refl), refl, refl)

column_rule_some : (column : NameTree) (rules : List RuleTree) (tokens : List Token) → SpellsColumnRule column rules tokens → 1 ≤ length tokens
column_rule_some column rules tokens (table.not_null not_at null_at e whole) = rw whole (omega arith)
column_rule_some column rules tokens (table.null null_at e whole) = rw whole (omega arith)
column_rule_some column rules tokens (table.unique at e whole) = rw whole (omega arith)
column_rule_some column rules tokens (table.primary at key_at e whole) = rw whole (omega arith)
column_rule_some column rules tokens (table.check tree e s) = rw s.whole (omega arith)
column_rule_some column rules tokens (table.references name target at e small s) = rw s.whole (omega arith)

named_begun : (constraint : List Token) → SpellsConstraint constraint → (rest : List Token) → Begun rest → Plain (constraint ++ rest) × (at_head begins_rule (constraint ++ rest) ≡ true)
unfolding at_head is_open is_word is_called begins_rule
named_begun constraint (table.unnamed e) rest b = rw e (b.0, b.2)
named_begun constraint (table.named name quoted at e) rest b = rw e ((refl, refl, refl, refl), refl)

-- what stands after a column
no_called : (text : List ℕ) (rest : List Token) → at_head is_name rest ≡ false → at_head (is_called text) rest ≡ false
unfolding at_head
no_called text [] h = refl
no_called text (t ∷ rest) h = not_called text t.kind h

unbegun : (t : Token) (rest : List Token) → at_head (is_word CONSTRAINT) (t ∷ rest) ≡ false → at_head (is_word NOT) (t ∷ rest) ≡ false → at_head (is_word NULL) (t ∷ rest) ≡ false → at_head (is_word UNIQUE) (t ∷ rest) ≡ false →
    at_head (is_word PRIMARY) (t ∷ rest) ≡ false → at_head (is_word CHECK) (t ∷ rest) ≡ false → at_head (is_word REFERENCES) (t ∷ rest) ≡ false → at_head begins_rule (t ∷ rest) ≡ false
unfolding at_head begins_rule
unbegun t rest a b d e f g h = rw (a, b, d, e, f, g, h) refl

no_rule : (rest : List Token) → 6 ≤ rank rest → at_head begins_rule rest ≡ false
unfolding at_head place_rank
no_rule [] h = refl
no_rule (t ∷ rest) h =
    unbegun t rest (no_word CONSTRAINT (t ∷ rest) h) (no_word NOT (t ∷ rest) h) (no_word NULL (t ∷ rest) h) (no_word UNIQUE (t ∷ rest) h) (no_word PRIMARY (t ∷ rest) h) (no_word CHECK (t ∷ rest) h)
    (no_word REFERENCES (t ∷ rest) h)

no_on : (rest : List Token) → 6 ≤ rank rest → at_head (is_word ON) rest ≡ false
unfolding place_rank
no_on rest h = no_word ON rest h

pub ended : (rest : List Token) → 6 ≤ rank rest → Plain rest
ended rest h =
    let unnamed : at_head is_name rest ≡ false = no_name rest (omega arith) in
    (no_open rest h, no_on rest h, no_called (codes "DEFAULT") rest unnamed, no_called (codes "VARYING") rest unnamed)

pub rules_plain : (column : NameTree) (rules : List RuleTree) (tokens : List Token) → SpellsColumnRules column rules tokens → (rest : List Token) → 6 ≤ rank rest → Plain (tokens ++ rest)
rules_plain column rules tokens (table.no_rules e whole) rest h = rw whole (ended rest h)
rules_plain column rules tokens (table.more_rules left others constraint own more e whole c s t) rest h =
    rw (whole, append_assoc constraint (own ++ more) rest, append_assoc own more rest) (named_begun constraint c (own ++ (more ++ rest)) (column_rule_begun column left own s (more ++ rest))).0

-- the rules of a column
named_rule_read : (depth : ℕ) (column : NameTree) (count : ℕ) (left : List RuleTree) (constraint own : List Token) → SpellsConstraint constraint → SpellsColumnRule column left own → length own ≤ depth →
    (rest : List Token) → at_head is_open rest ≡ false → at_head (is_word ON) rest ≡ false → read_named_rule depth column count (constraint ++ (own ++ rest)) ≡ found left rest
unfolding read_named_rule and_then
named_rule_read depth column count left constraint own c s l rest f g =
    rw (constraint_read constraint c (own ++ rest) (column_rule_begun column left own s rest).1, column_rule_read depth column left own s l rest f g) refl

rules_loop : (depth : ℕ) (column : NameTree) (rules : List RuleTree) (tokens : List Token) → SpellsColumnRules column rules tokens → length tokens ≤ depth → (rest : List Token) → 6 ≤ rank rest →
    (count : ℕ) → Looped (at_head begins_rule) (read_named_rule depth column) count rules tokens rest
rules_loop depth column rules tokens (table.no_rules e whole) l rest r count = rw (e, whole) (loop_end (at_head begins_rule) (read_named_rule depth column) count rest (no_rule rest r))
rules_loop depth column rules tokens (table.more_rules left others constraint own more e whole c s t) l rest r count =
    let fits : length (constraint ++ (own ++ more)) ≤ depth = rw whole at l in
    let size = length-append constraint (own ++ more) in
    let inner_size = length-append own more in
    let front_size = length-append constraint own in
    let some : 1 ≤ length own = column_rule_some column left own s in
    let plain : Plain (more ++ rest) = rules_plain column others more t rest r in
    let begun = named_begun constraint c (own ++ (more ++ rest)) (column_rule_begun column left own s (more ++ rest)) in
    let apart : (constraint ++ own) ++ (more ++ rest) ≡ constraint ++ (own ++ (more ++ rest)) = append_assoc constraint own (more ++ rest) in
    rw (e, whole ∙ sym (append_assoc constraint own more))
    (loop_more (at_head begins_rule) (read_named_rule depth column) count left others (constraint ++ own) more rest (omega arith)
    (rw apart begun.1)
    (rw apart (named_rule_read depth column count left constraint own c s (omega arith) (more ++ rest) plain.0 plain.1))
    (rules_loop depth column others more t (omega arith) rest r (count + length left)))

pub rules_read : (depth : ℕ) (column : NameTree) (rules : List RuleTree) (tokens : List Token) → SpellsColumnRules column rules tokens → length tokens ≤ depth → (rest : List Token) → 6 ≤ rank rest →
    read_rules depth column (tokens ++ rest) ≡ found rules rest
unfolding read_rules
rules_read depth column rules tokens s l rest r = loop_whole (at_head begins_rule) (read_named_rule depth column) 0 rules tokens rest (rules_loop depth column rules tokens s l rest r 0)

-- a rule beside the columns
key_names_read : (depth : ℕ) (names : List NameTree) (key_at : Span) (listed : List Token) → SpellsNames names listed → (rest : List Token) →
    read_key_names depth (called (codes "KEY") key_at ∷ listed ++ rest) ≡ found names rest
unfolding read_key_names is_called
key_names_read depth names key_at listed s rest = after_read (is_called (codes "KEY")) read_names (called (codes "KEY") key_at) (listed ++ rest) names rest refl (names_read names listed s rest)

table_check_begins : (depth : ℕ) (tree : CondTree) (tokens : List Token) → SpellsCheck tree tokens → (rest : List Token) →
    read_table_rule depth (tokens ++ rest) ≡ and_then (read_check depth (tokens ++ rest)) (λ tree left. found (Check tree) left)
unfolding read_table_rule table_rule_from is_word
table_check_begins depth tree tokens s rest = rw s.whole refl

pub table_rule_read : (depth : ℕ) (rule : RuleTree) (tokens : List Token) → SpellsTableRule rule tokens → length tokens ≤ depth →
    (rest : List Token) → at_head is_open rest ≡ false → at_head (is_word ON) rest ≡ false → read_table_rule depth (tokens ++ rest) ≡ found rule rest
unfolding read_table_rule table_rule_from is_word and_then
table_rule_read depth rule tokens (table.unique_names columns at listed e whole s) l rest f g = rw (e, whole, names_read columns listed s rest) refl
table_rule_read depth rule tokens (table.primary_names columns at key_at listed e whole s) l rest f g = rw (e, whole, key_names_read depth columns key_at listed s rest) refl
table_rule_read depth rule tokens (table.table_check tree e s) l rest f g = table_check_begins depth tree tokens s rest ∙ rw (check_read depth tree tokens s l rest, e) refl
table_rule_read depth rule tokens (table.foreign_names columns name target at key_at references_at listed more e whole s t) l rest f g =
    rw (
      e,
      whole,
      append_assoc listed more rest,
      key_names_read depth columns key_at listed s (more ++ rest),
      reference_read false name target references_at more t (inl refl) rest f g,
    ) refl

pub table_rule_begun : (rule : RuleTree) (tokens : List Token) → SpellsTableRule rule tokens → (rest : List Token) → (at_head is_name (tokens ++ rest) ≡ false) × (at_head (is_word CONSTRAINT) (tokens ++ rest) ≡ false)
unfolding at_head is_name is_word
table_rule_begun rule tokens (table.unique_names columns at listed e whole s) rest = rw whole (refl, refl)
table_rule_begun rule tokens (table.primary_names columns at key_at listed e whole s) rest = rw whole (refl, refl)
table_rule_begun rule tokens (table.table_check tree e s) rest = rw s.whole (refl, refl)
table_rule_begun rule tokens (table.foreign_names columns name target at key_at references_at listed more e whole s t) rest = rw whole (refl, refl)
