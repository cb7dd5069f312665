-- The bit asked is that of class c.
use native.Mathlib.Nat.{zero-add}
use Rattle.rules.specs.Bits.{bit_at, in_set}
use Rattle.inheritance.proofs.class_set.ClassSet.has.Goals as goal

pub returns : goal.returns
unfolding in_set bit_at
returns c = simp zero-add
