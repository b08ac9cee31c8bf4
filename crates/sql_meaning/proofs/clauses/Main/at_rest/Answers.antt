use Rattle.std.proofs.Common.{◌≡◌, ◌&&◌, true, arith}
use Rattle.std.proofs.lemmas.Grind.{common_steps}
use Rattle.std.proofs.lemmas.Result.{err_from_is_err_and}
use Rattle.lint_core.specs.Asked.{conjuncts_with, conjuncts_without}
use Rattle.lint_core.specs.Forms.{is_binding_without}
use Rattle.sql_meaning.proofs.ClauseParts.{rest_gives, rest_stops}
use Rattle.sql_meaning.proofs.clauses.Main.at_rest.Goals as goal
use Rattle.sql_meaning.proofs.clauses.Main.at_rest.Goals.{then-others_fit, else-others_fit}
use Rattle.sql_meaning.specs.Behind.{behind}

pub returns-in_err-none_fits : goal.returns-in_err-none_fits
returns-in_err-none_fits c =
    let db = c.args.self.now.database.now in
    let query = c.args.self.now.query.now in
    let form : is_binding_without db query c.args.entry c.args.one.now ≡ true = grind (arith, common_steps) in
    let naming_is : behind c.as_slice-6.result.now ≡ conjuncts_with c.args.entry query = grind (arith, common_steps) in
    let not_naming_is : behind c.as_slice-5.result.now ≡ conjuncts_without c.args.entry query = grind (arith, common_steps) in
    let p = err_from_is_err_and c.from_residual-in_err-none_fits.result c.from_residual-in_err-none_fits.ensures.1 in
    rw (p.1, p.2)
    (rest_stops db query c.args.entry c.args.one.now (behind c.as_slice-6.result.now) (behind c.as_slice-5.result.now) form naming_is not_naming_is
    c.in_ok-others_fit.others_fit c.in_err-none_fits.field-0.0 c.in_ok-others_fit.ensures c.in_err-none_fits.ensures)

pub returns : goal.returns
returns c =
    let db = c.args.self.now.database.now in
    let query = c.args.self.now.query.now in
    let form : is_binding_without db query c.args.entry c.args.one.now ≡ true = grind (arith, common_steps) in
    let naming_is : behind c.as_slice-6.result.now ≡ conjuncts_with c.args.entry query = grind (arith, common_steps) in
    let not_naming_is : behind c.as_slice-5.result.now ≡ conjuncts_without c.args.entry query = grind (arith, common_steps) in
    let both : c.if-others_fit.result ≡ c.in_ok-others_fit.others_fit && c.in_ok-none_fits.none_fits = elim c.if-others_fit.branch [ then-others_fit w ↦ grind (arith, common_steps) | else-others_fit w ↦ grind (arith, common_steps) ] in
    rest_gives db query c.args.entry c.args.one.now (behind c.as_slice-6.result.now) (behind c.as_slice-5.result.now) form naming_is not_naming_is
    c.in_ok-others_fit.others_fit c.in_ok-none_fits.none_fits c.if-others_fit.result c.in_ok-others_fit.ensures c.in_ok-none_fits.ensures both
