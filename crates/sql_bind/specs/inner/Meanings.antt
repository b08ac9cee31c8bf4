-- What the code answers of a part that need not be there, and what an entry's tree means.
use Rattle.std.specs.Prelude.{◌≡◌, List, [], ◌∷◌, Option, Some, None, option_map, Result, Ok, Err}
use Rattle.lint_base.specs.declared.place.TextStop.{TextStop}
use Rattle.lint_base.specs.declared.place.TextStop.TheVariants as stop
use Rattle.lint_core.specs.declared.schema.Table.{Table}
use Rattle.sql_tree.specs.declared.select.CondTree.{CondTree, fold-CondTree}
use Rattle.sql_tree.specs.declared.select.SelectTree.{SelectTree, fold-SelectTree}
use Rattle.sql_tree.specs.declared.select.EntryTree.{EntryTree, fold-EntryTree}
use Rattle.sql_bind.specs.Bound.{Bound}
use Rattle.sql_bind.specs.Conditions.{CondMeaning, EntryMeaning, SelectMeaning, cond_step}
use Rattle.sql_bind.specs.Selects.{entry_step, select_step}

-- a list of one or none
abbrev pub option_list : {A : Type 0} → Option A → List A
option_list None = []
option_list (Some a) = a ∷ []

-- a list of one or none is bound, or refused, unless memory ran out
abbrev pub GivesOption : {A : Type 0} → Bound (List A) → Result (Option A) TextStop → Type 0
GivesOption bound (Ok a) = bound ≡ Ok (option_list a)
GivesOption bound (Err stop.NoMemory) = Unit {0}
GivesOption bound (Err (stop.Refused refusal)) = bound ≡ Err refusal

abbrev pub entry_meaning : List Table → EntryTree → EntryMeaning
entry_meaning schema = fold-EntryTree CondMeaning EntryMeaning SelectMeaning (cond_step schema) (entry_step schema) (select_step schema)

abbrev pub select_meaning : List Table → SelectTree → SelectMeaning
select_meaning schema = fold-SelectTree CondMeaning EntryMeaning SelectMeaning (cond_step schema) (entry_step schema) (select_step schema)

abbrev pub cond_meaning : List Table → CondTree → CondMeaning
cond_meaning schema = fold-CondTree CondMeaning EntryMeaning SelectMeaning (cond_step schema) (entry_step schema) (select_step schema)

abbrev pub filter_meaning : List Table → Option CondTree → Option CondMeaning
filter_meaning schema filter = option_map (cond_meaning schema) filter
