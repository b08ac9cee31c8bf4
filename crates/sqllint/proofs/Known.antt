-- Known bytes that stay as they were, again and again.
use Rattle.std.proofs.Common.{ℕ, List, refl, sym}
use Rattle.std.specs.Prelude.{Option, Some, None, ◌≡◌, ⊤}
use Rattle.std.specs.Io.KnownBytes.{Keeps, Consumes, Appends}

pub keeps_same : (old : Option (List ℕ)) → Keeps old old
keeps_same None = tt
keeps_same (Some xs) = refl

pub keeps_keeps : (old now later : Option (List ℕ)) → Keeps old now → Keeps now later → Keeps old later
keeps_keeps None now later e f = tt
keeps_keeps (Some xs) None later e f = elim e [ ]
keeps_keeps (Some xs) (Some ys) None e f = elim f [ ]
keeps_keeps (Some xs) (Some ys) (Some zs) e f = rw (f, e) refl

pub keeps_consumes : (old now later : Option (List ℕ)) (bytes : List ℕ) → Keeps old now → Consumes now later bytes → Consumes old later bytes
keeps_consumes None now later bytes e f = tt
keeps_consumes (Some xs) None later bytes e f = elim e [ ]
keeps_consumes (Some xs) (Some ys) None bytes e f = elim f [ ]
keeps_consumes (Some xs) (Some ys) (Some zs) bytes e f = rw (sym e) f

pub keeps_appends : (old now later : Option (List ℕ)) (bytes : List ℕ) → Keeps old now → Appends now later bytes → Appends old later bytes
keeps_appends None now later bytes e f = tt
keeps_appends (Some xs) None later bytes e f = elim e [ ]
keeps_appends (Some xs) (Some ys) None bytes e f = elim f [ ]
keeps_appends (Some xs) (Some ys) (Some zs) bytes e f = rw (f, e) refl
