-- What the parts so far gave, and what comes of it with the parts that are still to be read.
use Rattle.std.specs.Prelude.{ℕ, ◌≡◌, List, [], ◌∷◌, ◌++◌, Option, Some, None, option_to_list, option_map}
use Rattle.std.specs.Borrow.{Bor}
use Rattle.command_words.specs.declared.given.Files as files_type
use Rattle.command_words.specs.declared.given.Files.TheVariants as files
use Rattle.command_words.specs.declared.given.Given as given_type
use Rattle.command_words.specs.declared.wanted.Form.{Form}
use Rattle.command_words.specs.Wanted.{Wanted}
use Rattle.command_words.specs.CommandLine.{Part, files_in, budgets_in, checks_in, forms_in}
use Rattle.command_words.specs.WantedOf.{paths_of, asked_of, both_of, with_part}
use Rattle.command_words.specs.inner.Views.{text_view}

pub record Held : Type 0 where
  pub files : List (List ℕ)
  pub budgets : List (List ℕ)
  pub forms : List Form
  pub checks : List (List ℕ)

abbrev pub named : files_type.Files → List (List ℕ)
named files.Neither = []
named (files.Schema schema) = schema.now ∷ []
named (files.Both schema queries) = schema.now ∷ queries.now ∷ []

abbrev pub texts : Option (Bor (List ℕ)) → List (List ℕ)
texts text = option_to_list (option_map text_view text)

abbrev pub held : given_type.Given → Held
held given = record {
  files = named given.files;
  budgets = texts given.budget;
  forms = option_to_list given.form;
  checks = texts given.check;
}

abbrev pub finished : Held → Option (List Part) → Option Wanted
finished so_far None = None
finished so_far (Some parts) =
    both_of (paths_of (so_far.files ++ files_in parts)) (asked_of (so_far.budgets ++ budgets_in parts) (so_far.forms ++ forms_in parts) (so_far.checks ++ checks_in parts))

-- with a part more these are held, or it is one too many
abbrev pub Takes : Held → Part → Option Held → Type 0
Takes before part None = (rest : Option (List Part)) → finished before (with_part (Some part) rest) ≡ None
Takes before part (Some after) = (rest : Option (List Part)) → finished before (with_part (Some part) rest) ≡ finished after rest

-- the same with what a word says, which may end no part
abbrev pub Reads : Held → Option Part → Option Held → Type 0
Reads before part None = (rest : Option (List Part)) → finished before (with_part part rest) ≡ None
Reads before part (Some after) = (rest : Option (List Part)) → finished before (with_part part rest) ≡ finished after rest
