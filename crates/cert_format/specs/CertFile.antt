-- The text of a file of certificates, which certificates a file has, and why it has none.
use Rattle.std.specs.Prelude.{◌≡◌, ℕ, zero, suc, ◌+◌, ◌-◌, ◌^◌, min, List, [], ◌∷◌, ◌++◌, map, length, true, Some, ⊤, IsUtf8}
use Rattle.std.specs.List.{list_all}
use Rattle.lint_core.specs.declared.certificate.Cert.{Cert}
use Rattle.serde_json.specs.Data.{Data}
use Rattle.serde_json.specs.Read.{read}
use Rattle.serde_json.specs.Written.{compact_text}
use Rattle.cert_format.specs.declared.fault.CertFault.{CertFault}
use Rattle.cert_format.specs.declared.fault.CertFault.TheVariants as fault
use Rattle.cert_format.specs.Forms.{cert_form, file_form}
use Rattle.cert_format.specs.Fitting.{cert_fits, is_numbered}

-- what is written: the JSON value without spaces, and the end of the line
abbrev pub file_text : List Cert → List ℕ
file_text certs = compact_text (file_form (map cert_form certs)) ++ 10 ∷ []

-- the bytes are JSON of this value
pub record HasReading (bytes : List ℕ) (json : Data) : Type 0 where
  pub utf8 : IsUtf8 bytes
  pub value : read bytes ≡ Some json

-- the JSON value is that of this certificate
pub record IsCert (json : Data) (cert : Cert) : Type 0 where
  pub form : json ≡ cert_form cert
  pub fits : cert_fits cert ≡ true
  pub numbered : is_numbered cert ≡ true

-- the bytes are a file of these certificates
pub record ReadsAs (bytes : List ℕ) (certs : List Cert) : Type 0 where
  pub reading : HasReading bytes (file_form (map cert_form certs))
  pub fits : list_all cert_fits certs ≡ true
  pub numbered : list_all is_numbered certs ≡ true

-- The value is a file's but for a part that is no certificate, the first such one. The number is its place from 1,
-- and 4,294,967,295 where it stands further behind.
pub record IsWrongAt (json : Data) (at : ℕ) : Type 0 where
  pub before : List Cert
  pub wrong : Data
  pub behind : List Data
  pub form : json ≡ file_form (map cert_form before ++ wrong ∷ behind)
  pub fits : list_all cert_fits before ≡ true
  pub numbered : list_all is_numbered before ≡ true
  pub none : (cert : Cert) → IsCert wrong cert → ⊥
  pub place : at ≡ min (length before + 1) (2 ^ 32 - 1)

-- the number of what is wrong in a JSON value: 0 where it has not the outer form, whatever its certificates are
abbrev pub IsBadShape : Data → ℕ → Type 0
IsBadShape json zero = (certs : List Data) → json ≡ file_form certs → ⊥
IsBadShape json (suc n) = IsWrongAt json (suc n)

-- why the bytes are no file of certificates
abbrev pub Refuses : List ℕ → CertFault → Type 0
Refuses bytes fault.NotJson = (json : Data) → HasReading bytes json → ⊥
Refuses bytes (fault.BadShape at) = (json : Data) × HasReading bytes json × IsBadShape json at
Refuses bytes fault.NoMemory = ⊤
