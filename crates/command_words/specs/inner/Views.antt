-- Parts and readings as the definitions see them, their texts as bytes.
use Rattle.std.specs.Prelude.{ℕ, List, option_map}
use Rattle.std.specs.Borrow.{Bor}
use Rattle.command_words.specs.declared.parts.Part as part_type
use Rattle.command_words.specs.declared.parts.Part.TheVariants as part
use Rattle.command_words.specs.declared.parts.Reading as reading_type
use Rattle.command_words.specs.CommandLine.{Part, file, budget, check, certs}
use Rattle.command_words.specs.WantedOf.{Reading}

abbrev pub part_view : part_type.Part → Part
part_view (part.File path) = file path.now
part_view (part.Budget value) = budget value.now
part_view (part.Check value) = check value.now
part_view part.Certs = certs

abbrev pub read_view : reading_type.Reading → Reading
read_view reading = record { part = option_map part_view reading.part; then_comes = reading.then }

abbrev pub text_view : Bor (List ℕ) → List ℕ
text_view text = text.now
