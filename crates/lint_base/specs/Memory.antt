-- Files in memory, and a sink in memory, as contracts see them.
use Rattle.std.specs.Prelude.{◌≡◌, ℕ, List, [], Option, find, option_map, slice_get, encode_utf8_all}
use Rattle.std.specs.Str.{bytes_eq}
use Rattle.std.specs.Option.{option_map_or}
use Rattle.lint_base.specs.declared.memory.MemFile.{MemFile}
use Rattle.lint_base.specs.Counts.{one_more}
use Rattle.lint_base.specs.Trace.{Moment}

-- A shelf in memory: its files, the most bytes that a read gives, the numbers of the calls that fail, how many calls
-- there were, the counts of faults, what is left of the open file, and what was asked and given.
pub record MemoryShelf : Type 0 where
  pub files : List MemFile
  pub piece : ℕ
  pub fails : List ℕ
  pub calls : ℕ
  pub open_faults : ℕ
  pub read_faults : ℕ
  pub left : Option (List ℕ)
  pub moments : List Moment

-- what a path holds: the bytes of the first file whose path in UTF-8 it is
abbrev pub held_at : List MemFile → List ℕ → Option (List ℕ)
held_at files path = option_map (λ file. file.bytes) (find (λ file. bytes_eq (encode_utf8_all file.path) path) files)

-- the bytes of the file at an index
abbrev pub bytes_at : List MemFile → ℕ → List ℕ
bytes_at files index = option_map_or (λ file. file.bytes) (slice_get files index) []

-- one call later: the files, the piece and the list of calls that fail stand
pub record IsCallLater (old new : MemoryShelf) : Type 0 where
  pub files : new.files ≡ old.files
  pub piece : new.piece ≡ old.piece
  pub fails : new.fails ≡ old.fails
  pub calls : new.calls ≡ one_more old.calls

-- the bytes that a sink in memory has room for: 16 MiB
abbrev pub room : ℕ
room = 16777216

-- A sink in memory: what was written, the most bytes that a write takes, the numbers of the writes that fail, how many
-- writes there were, and the count of faults.
pub record MemorySink : Type 0 where
  pub contents : List ℕ
  pub piece : ℕ
  pub fails : List ℕ
  pub writes : ℕ
  pub faults : ℕ

-- one write later: the piece and the list of writes that fail stand
pub record IsWriteLater (old new : MemorySink) : Type 0 where
  pub piece : new.piece ≡ old.piece
  pub fails : new.fails ≡ old.fails
  pub writes : new.writes ≡ one_more old.writes
