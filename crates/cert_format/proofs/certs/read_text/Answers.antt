use Rattle.std.proofs.lemmas.Str.{is_utf8-from_IsUtf8}
use Rattle.cert_format.proofs.certs.read_text.Goals as goal

pub returns-clause-utf8 : goal.returns-clause-utf8
returns-clause-utf8 c = is_utf8-from_IsUtf8 c.args.text.now c.utf8.text

pub returns-in_err-from_str-clause-utf8 : goal.returns-in_err-from_str-clause-utf8
returns-in_err-from_str-clause-utf8 c = is_utf8-from_IsUtf8 c.args.text.now c.utf8.text
