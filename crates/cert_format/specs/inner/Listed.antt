-- What the values of a file's certificates are.
use Rattle.std.specs.Prelude.{◌≡◌, List, map, true, ⊤}
use Rattle.std.specs.List.{list_all}
use Rattle.lint_core.specs.declared.certificate.Cert.{Cert}
use Rattle.serde_json.specs.Data.{Data}
use Rattle.cert_format.specs.declared.fault.CertFault.{CertFault}
use Rattle.cert_format.specs.declared.fault.CertFault.TheVariants as fault
use Rattle.cert_format.specs.Forms.{cert_form, file_form}
use Rattle.cert_format.specs.Fitting.{cert_fits, is_numbered}
use Rattle.cert_format.specs.CertFile.{IsWrongAt}

-- the values are those of the certificates
pub record IsListOf (values : List Data) (certs : List Cert) : Type 0 where
  pub forms : values ≡ map cert_form certs
  pub fits : list_all cert_fits certs ≡ true
  pub numbered : list_all is_numbered certs ≡ true

-- why some value is that of no certificate
abbrev pub RefusesList : List Data → CertFault → Type 0
RefusesList values fault.NotJson = ⊥
RefusesList values (fault.BadShape at) = IsWrongAt (file_form values) at
RefusesList values fault.NoMemory = ⊤
