-- Signatures are judged before bodies.
use Rattle.std.proofs.lemmas.Result.{err_from_is_err_and}
use Rattle.coverage.proofs.Signatures.{bodies_next, signatures_first}
use Rattle.verdicts.proofs.check.check_in.Goals as goal

pub returns-in_err-broken_signature : goal.returns-in_err-broken_signature
returns-in_err-broken_signature c =
    let p = err_from_is_err_and c.from_residual.result c.from_residual.ensures.1 in
    rw (p.1, p.2) (signatures_first _ c.in_err-broken_signature.ensures)

pub returns : goal.returns
returns c = bodies_next _ c.in_ok-broken_signature.ensures c.type_bodies.ensures
