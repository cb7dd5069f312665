-- An absent signature is 18.
use Rattle.verdicts.proofs.Answered.{witness_absent}
use Rattle.verdicts.proofs.witness.witness_in.Goals as goal

pub returns-then-bundle-signature : goal.returns-then-bundle-signature
returns-then-bundle-signature c = witness_absent c.args.prepared.now.bundle.opened _ _ c.if-bundle-signature.true
