-- Whether the arguments of a method suit another, place by place.
-- Assumes nothing.
use Prim.Native.Nat.{ℕ, ◌<◌}
use native.Mathlib.Omega.{arith}
use mathlib.Core.Path.{◌≡◌, refl, sym, ◌∙◌}
use mathlib.Core.Bool.{Bool, true, false, or-false}
use lib.ListN.{length, get_or}
use Rattle.rules.specs.Model.{Model}
use Rattle.rules.specs.Subclass.{subclass}
use Rattle.rules.specs.Types.{in_type, arg_type, arg_types, suits}
use Rattle.rules.specs.Bounded.{any}
use Rattle.rules.proofs.Lists.{matching_from, matching_broken}
use Rattle.rules.proofs.Types.{arg_types_length, arg_type_at}

-- a class is in an argument's type when the specialiser is under it, or else when the declared class is
module _ (M : Model) (m i c : ℕ) where
  pub by_specialiser : subclass M (get_or (M.specialisers m) i 0) c ≡ true → in_type M (arg_type M m i) c ≡ true
  unfolding in_type any arg_type
  by_specialiser e = rw e refl

  pub by_declared_lem : subclass M (get_or (M.specialisers m) i 0) c ≡ false → in_type M (arg_type M m i) c ≡ subclass M (get_or (M.declared m) i 0) c
  unfolding in_type any arg_type
  by_declared_lem e = rw e (or-false (subclass M (get_or (M.declared m) i 0) c))

-- the class that the target declares at a place is in the type of the argument there
unfoldable pub suits_at : Model → ℕ → ℕ → ℕ → Bool
suits_at M m target i = in_type M (arg_type M m i) (get_or (M.declared target) i 0)

module _ (M : Model) (n m target : ℕ) (e : n ≡ M.arity (M.function m)) where
  many : length (arg_types M m) ≡ n
  many = arg_types_length M m ∙ sym e

  same_at : (i : ℕ) → i < n → in_type M (get_or (arg_types M m) i (arg_type M m 0)) (get_or (M.declared target) i 0) ≡ suits_at M m target i
  unfolding suits_at
  same_at i h = rw (arg_type_at M m i (omega arith))

  pub suits_broken : (i : ℕ) → i < n → suits_at M m target i ≡ false → suits M m target ≡ false
  unfolding suits
  suits_broken i h q = matching_broken (in_type M) (arg_types M m) (M.declared target) (arg_type M m 0) 0 i (omega (arith, many)) (same_at i h ∙ q)

  pub suits_all : length (M.declared target) ≡ n → ((i : ℕ) → i < n → suits_at M m target i ≡ true) → suits M m target ≡ true
  unfolding suits
  suits_all l p =
      matching_from (in_type M) (arg_types M m) (M.declared target) (arg_type M m 0) 0 (many ∙ sym l)
      (λ i h. let below : i < n = omega (arith, many) in same_at i below ∙ p i below)
