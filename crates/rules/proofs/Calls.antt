-- What a call that takes scratch comes to: it is refused by 1 to 9 or 19, or it answers over the model.
-- Assumes nothing.
use Prim.Native.Nat.{ℕ, ◌≤◌, ◌<◌}
use native.Mathlib.Omega.{arith}
use mathlib.Core.Path.{◌≡◌, refl, sym, ◌∙◌}
use mathlib.Core.Bool.{Bool, true, false, false≢true}
use mathlib.Core.Logic.{◌⊎◌, inl, inr}
use mathlib.Core.List.{List, []}
use lib.Dec.{leb}
use Rattle.rules.specs.Layout.{Answer, gives, refuses, require, opening}
use Rattle.rules.specs.Model.{Model, model_of, Wellformed}
use Rattle.rules.specs.Calls.{on_opening, when_open, with_scratch}
use Rattle.rules.specs.Scratch.{scratch_bytes}
use Rattle.rules.proofs.Opening.{opening_number}
use Rattle.rules.proofs.Wellformed.{opened_wellformed}

-- equal answers give the same, and equal refusals have one number
pub gives_same : {A : Type 0} {x y : A} → ◌≡◌ {A = Answer A} (gives x) (gives y) → x ≡ y
gives_same e = cc

pub refuses_number : {A : Type 0} {a b : ℕ} {xs ys : List ℕ} → ◌≡◌ {A = Answer A} (refuses a xs) (refuses b ys) → a ≡ b
refuses_number e = cc

module _ {A : Type 0} (b : List ℕ) (scratch : ℕ) (answer : Model → Answer A) where
  -- the two ways
  abbrev Called : Answer A → Type 0
  Called r =
      ((number : ℕ) × (vs : List ℕ) × ((number ≤ 9) ⊎ (number ≡ 19)) × (r ≡ refuses number vs))
      ⊎ (Wellformed (model_of b) × (answer (model_of b) ≡ r))

  called : Called (with_scratch b scratch answer)
  unfolding with_scratch when_open on_opening require
  called = go (opening b) refl
    where
      lent : (t : Bool) → Wellformed (model_of b) → Called (require t 19 (answer (model_of b)))
      lent true w = inr (w, refl)
      lent false w = inl (19, [], inr refl, refl)

      go : (r : Answer (List ℕ)) → opening b ≡ r → Called (on_opening r (model_of b) (λ M. require (leb scratch_bytes scratch) 19 (answer M)))
      go (refuses number vs) e = inl (number, vs, inl (opening_number b number vs e), refl)
      go (gives counts) e = lent (leb scratch_bytes scratch) (opened_wellformed b counts e)

  pub called_gives : (x : A) → with_scratch b scratch answer ≡ gives x → Wellformed (model_of b) × (answer (model_of b) ≡ gives x)
  called_gives x e = go called
    where
      go : Called (with_scratch b scratch answer) → Wellformed (model_of b) × (answer (model_of b) ≡ gives x)
      go (inl (number, vs, h, q)) = absurd (false≢true (cc))
      go (inr (w, q)) = (w, q ∙ e)

  -- a number between those comes from the model
  pub called_refuses : (number : ℕ) (vs : List ℕ) → 9 < number → number < 19 → with_scratch b scratch answer ≡ refuses number vs
      → Wellformed (model_of b) × (answer (model_of b) ≡ refuses number vs)
  called_refuses number vs low high e = go called
    where
      go : Called (with_scratch b scratch answer) → Wellformed (model_of b) × (answer (model_of b) ≡ refuses number vs)
      go (inl (early, us, inl h, q)) = absurd (omega (arith, h, low, refuses_number (sym q ∙ e)))
      go (inl (early, us, inr h, q)) = absurd (omega (arith, h, high, refuses_number (sym q ∙ e)))
      go (inr (w, q)) = (w, q ∙ e)

-- what is behind a test for 18 gives any lower number
pub required_refuses : {A : Type 0} (t : Bool) (rest : Answer A) (number : ℕ) (vs : List ℕ) → number < 18 → require t 18 rest ≡ refuses number vs
    → rest ≡ refuses number vs
unfolding require
required_refuses true rest number vs low e = e
required_refuses false rest number vs low e = absurd (omega (arith, low, refuses_number e))
