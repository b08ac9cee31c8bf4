use Rattle.std.proofs.Common.{ap, subst, sym, IsUtf8, rules, append_assoc}
use Rattle.std.proofs.lemmas.Str.{IsUtf8-string_bytes}
use Rattle.std.specs.Fmt.{digits}
use Rattle.json.specs.Print.{escape_byte}
use Rattle.cert_format.proofs.Files.{written_reads}
use Rattle.cert_format.proofs.file.cert_json.Goals as goal

pub returns-clause-text : goal.returns-clause-text
unfolding escape_byte digits
returns-clause-text c = search (rules, append_assoc)

pub returns-clause-reads_back : goal.returns-clause-reads_back
returns-clause-reads_back c numbered =
    written_reads c.args.certs.now c.into_bytes.result.items c.in_ok-push_list.ensures.in_range numbered
    (subst IsUtf8 (sym (ap (λ v. v.items) c.into_bytes.ensures.value)) (IsUtf8-string_bytes c.push_str-2.new.self)) (returns-clause-text c)
