-- What an answer about two classes says of their entry, in the arms of a `match`.
-- Assumes nothing.
use Prim.Native.Nat.{ℕ}
use mathlib.Core.Path.{◌≡◌, sym, ap, ◌∙◌}
use mathlib.Core.List.{List}
use lib.Dec.{eqb}
use Rattle.rules.specs.Subclass.{is_under}
use Rattle.rules.specs.Scratch.{entry_at}
use Rattle.rules.proofs.Subclass.{by_under}
use Rattle.subclasses.specs.declared.matrix.Ancestry.{Ancestry}
use Rattle.subclasses.specs.Matrix.{ancestry_at}
use Rattle.subclasses.specs.Ancestry.{ancestry_of}

module _ (s : List ℕ) (a c : ℕ) (r : Ancestry) (e : ancestry_of r ≡ ancestry_at s a c) where
  entry_told : is_under (ancestry_of r) ≡ entry_at s a c
  unfolding ancestry_at
  entry_told = ap is_under e ∙ by_under (entry_at s a c) (eqb a c)

  -- in an arm of one answer the entry is as that answer says
  pub entry_by : (x : Ancestry) → r ≡ x → entry_at s a c ≡ is_under (ancestry_of x)
  entry_by x q = sym entry_told ∙ ap (λ (y : Ancestry). is_under (ancestry_of y)) q
