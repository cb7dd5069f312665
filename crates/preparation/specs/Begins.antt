-- What a call begins with: 1 to 9 and 19, or the opened bundle with its matrix.
-- Assumes nothing.
use Rattle.std.specs.Prelude.{ℕ, ◌≡◌, List, length, Result, Ok, Err, IfOk, IfErr}
use Rattle.rules.specs.Layout.{Answer, gives}
use Rattle.rules.specs.Calls.{with_scratch, scratch_after}
use Rattle.layout.specs.declared.open.OpenBundle.{OpenBundle}
use Rattle.answers.specs.declared.refusal.Refusal.{Refusal}
use Rattle.answers.specs.declared.refusal.Refusal.TheVariants.{Layout, Scratch, Row, Absent}
use Rattle.answers.specs.Refusals.{refusal_said}
use Rattle.subclasses.specs.Prepared.{Prepared}

abbrev pub beginning_said : Result OpenBundle Refusal → Answer (Unit {0})
beginning_said (Ok o) = gives tt
beginning_said (Err r) = refusal_said r

-- a refusal with which a call can begin: of the bundle, or of the scratch
abbrev pub Early : Refusal → Type 0
Early (Layout f) = Unit {0}
Early Scratch = Unit {0}
Early Row = ⊥
Early Absent = ⊥

-- the answer of a call that has no rules of its own
unfoldable pub begun : List ℕ → ℕ → Answer (Unit {0})
begun b n = with_scratch b n (λ M. gives tt)

-- The promise: the answer is that of every call, the scratch is left as every call leaves it, a call that is ready has this bundle prepared, and one that is
-- not is refused for its bundle or its scratch.
pub record Begins (b scratch left : List ℕ) (r : Result OpenBundle Refusal) : Type 0 where
  pub said : beginning_said r ≡ begun b (length scratch)
  pub filled : left ≡ scratch_after b scratch
  pub bytes : IfOk r (λ o. o.bytes.now ≡ b)
  pub prepared : IfOk r (λ o. Prepared o.bytes.now o.tables left)
  pub early : IfErr r Early
