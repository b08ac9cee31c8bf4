-- Command lines that are known by hand.
use Rattle.std.specs.Prelude.{ℕ, ◌≡◌, true, List, [], ◌∷◌, ◌++◌, map, codes, Some, is_none}
use Rattle.std.specs.List.{list_all}
use Rattle.command_words.specs.declared.wanted.Form.TheVariants.{Text, Certs}
use Rattle.command_words.specs.Wanted.{Asked, judges, checks, Wanted}
use Rattle.command_words.specs.WantedOf.{wanted_of}

abbrev pub of_files : List ℕ → List ℕ → Asked → Wanted
of_files schema queries asked = record { paths = record { schema = schema; queries = queries }; asked = asked }

-- of the files s and q
abbrev pub of_two : Asked → Wanted
of_two asked = of_files (codes "s") (codes "q") asked

abbrev pub two : List (List ℕ)
two = codes "s" ∷ codes "q" ∷ []

abbrev pub accepted : List (List (List ℕ) × Wanted)
accepted =
    (two, of_two (judges 200000 Text))
    ∷ (codes "--certs" ∷ two, of_two (judges 200000 Certs))
    ∷ (two ++ codes "--certs" ∷ [], of_two (judges 200000 Certs))
    ∷ (codes "--budget" ∷ codes "5" ∷ two, of_two (judges 5 Text))
    ∷ (codes "s" ∷ codes "--budget" ∷ codes "5" ∷ codes "q" ∷ [], of_two (judges 5 Text))
    ∷ (codes "--budget=5" ∷ codes "--" ∷ two, of_two (judges 5 Text))
    ∷ (codes "--certs" ∷ codes "--budget=1000000" ∷ two, of_two (judges 1000000 Certs))
    ∷ (codes "--budget" ∷ codes "0000000001" ∷ two, of_two (judges 1 Text))
    ∷ (codes "--check" ∷ codes "c" ∷ two, of_two (checks (codes "c")))
    ∷ (codes "s" ∷ codes "--check=c=--d" ∷ codes "q" ∷ [], of_two (checks (codes "c=--d")))
    ∷ (codes "s" ∷ codes "--" ∷ codes "q" ∷ [], of_two (judges 200000 Text))
    ∷ (codes "-" ∷ codes "q" ∷ [], of_files (codes "-") (codes "q") (judges 200000 Text))
    ∷ (codes "--" ∷ codes "--x" ∷ codes "q" ∷ [], of_files (codes "--x") (codes "q") (judges 200000 Text))
    ∷ (codes "--" ∷ codes "--" ∷ codes "--certs" ∷ [], of_files (codes "--") (codes "--certs") (judges 200000 Text))
    ∷ []

abbrev pub refused : List (List (List ℕ))
refused =
    -- other than two files
    []
    ∷ (codes "s" ∷ [])
    ∷ (codes "s" ∷ codes "q" ∷ codes "r" ∷ [])
    ∷ (codes "s" ∷ codes "--" ∷ [])
    -- no budget
    ∷ (codes "--budget" ∷ codes "0" ∷ two)
    ∷ (codes "--budget=1000001" ∷ two)
    ∷ (codes "--budget" ∷ codes "00000000001" ∷ two)
    ∷ (codes "--budget=" ∷ two)
    ∷ (codes "--budget" ∷ codes "+5" ∷ two)
    ∷ (codes "--budget" ∷ codes "5a" ∷ two)
    -- no value
    ∷ (two ++ codes "--budget" ∷ [])
    ∷ (codes "--budget" ∷ codes "--" ∷ two)
    ∷ (codes "--check" ∷ codes "-" ∷ two)
    ∷ (codes "--check=-" ∷ two)
    ∷ (codes "--check=-c" ∷ two)
    ∷ (codes "--check=" ∷ two)
    ∷ (codes "--check" ∷ [] ∷ two)
    -- given twice
    ∷ (codes "--budget" ∷ codes "5" ∷ codes "--budget=5" ∷ two)
    ∷ (codes "--check" ∷ codes "c" ∷ codes "--check" ∷ codes "c" ∷ two)
    ∷ (codes "--certs" ∷ codes "--certs" ∷ two)
    -- a check with another option
    ∷ (codes "--budget" ∷ codes "5" ∷ codes "--check" ∷ codes "c" ∷ two)
    ∷ (codes "--check=c" ∷ codes "--certs" ∷ two)
    -- no known option
    ∷ (codes "--json" ∷ codes "--certs" ∷ two)
    ∷ (codes "--json" ∷ codes "--json" ∷ two)
    ∷ (codes "--make" ∷ codes "5" ∷ two)
    ∷ (codes "--help" ∷ [])
    ∷ (codes "-x" ∷ two)
    ∷ (codes "--certs=x" ∷ two)
    ∷ []

-- each asks for what stands beside it
abbrev pub AcceptedLines : Type 0
AcceptedLines = map (λ (line : List (List ℕ) × Wanted). wanted_of line.0) accepted ≡ map (λ (line : List (List ℕ) × Wanted). Some line.1) accepted

abbrev pub RefusedLines : Type 0
RefusedLines = list_all (λ (line : List (List ℕ)). is_none (wanted_of line)) refused ≡ true
