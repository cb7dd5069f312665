-- A number that is no class is refused, and what the matrix answers is the answer of the call.
use native.Mathlib.Omega.{arith}
use mathlib.Core.Logic.{inl, inr}
use Rattle.questions.proofs.Answered.{ancestry_absent, ancestry_answered}
use Rattle.questions.proofs.ancestry.ancestry_in.Goals as goal
use Rattle.questions.proofs.ancestry.ancestry_in.Goals.{then-classes-a-via-then-classes-a, then-classes-a-via-else-classes-a+then-classes-c}

pub returns-then-classes-a : goal.returns-then-classes-a
returns-then-classes-a c =
    let o = c.args.prepared.now.bundle.opened in
    elim c.then-classes-a.branch [
      | then-classes-a-via-then-classes-a w ↦ ancestry_absent o _ _ (inl (omega arith))
      | then-classes-a-via-else-classes-a+then-classes-c w ↦ ancestry_absent o _ _ (inr (omega arith))
    ]

pub returns : goal.returns
returns c = ancestry_answered c.args.prepared.now.bundle.opened _ _ (omega arith) (omega arith) c.ancestry.ensures
