use Rattle.std.proofs.Common.{◌≡◌, ◌∙◌, ap, map, subst, sym, IsUtf8, rules, append_assoc, true, List}
use Rattle.std.proofs.lemmas.List.Folds.{list_all-map}
use Rattle.std.proofs.lemmas.Simd.{map-map}
use Rattle.std.proofs.lemmas.Str.{IsUtf8-string_bytes}
use Rattle.std.specs.Fmt.{digits}
use Rattle.std.specs.List.{list_all}
use Rattle.json.specs.Print.{escape_byte}
use Rattle.lint_core.specs.declared.certificate.Cert.{Cert}
use Rattle.cert_format.specs.Fitting.{cert_fits}
use Rattle.cert_format.specs.Forms.{cert_form}
use Rattle.cert_format.proofs.Files.{written_reads}
use Rattle.cert_format.proofs.file.certs_json.Goals as goal

pub returns-clause-text : goal.returns-clause-text
unfolding escape_byte digits
returns-clause-text c = let forms = map-map cert_form (λ c. c.now) c.args.certs.now in search (rules, append_assoc, forms)

pub returns-clause-reads_back : goal.returns-clause-reads_back
returns-clause-reads_back c numbered =
    let certs : List Cert = map (λ c. c.now) c.args.certs.now in
    let fits : list_all cert_fits certs ≡ true = list_all-map cert_fits (λ c. c.now) c.args.certs.now ∙ c.in_ok-push_list.ensures.in_range in
    written_reads certs c.into_bytes.result.items fits numbered
    (subst IsUtf8 (sym (ap (λ v. v.items) c.into_bytes.ensures.value)) (IsUtf8-string_bytes c.push_str-2.new.self)) (returns-clause-text c)
