use mathlib.Core.Path.{ap, ◌∙◌}
use Rattle.std.proofs.lemmas.Result.{err_from_is_err_and}
use Rattle.names_rules.specs.Names.{files_told}
use Rattle.names.proofs.Files.{own_refused, own_lawful}
use Rattle.names.proofs.check_both.Goals as goal

pub returns-in_err-in_file : goal.returns-in_err-in_file
returns-in_err-in_file c =
    let r = err_from_is_err_and c.from_residual.result c.from_residual.ensures.1 in
    rw (r.1, r.2) (own_refused _ _ c.check.result c.check.ensures c.in_err-in_file.ensures)

pub returns : goal.returns
returns c =
    ap files_told c.in_file-2.ensures ∙ own_lawful _ _ c.check.result c.check-2.result c.check.ensures c.in_ok-in_file.ensures c.check-2.ensures
