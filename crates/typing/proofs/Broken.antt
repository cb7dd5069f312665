-- The search for the lowest broken method, as its loop finds it.
-- Assumes nothing.
use Prim.Native.Nat.{ℕ, ◌<◌}
use mathlib.Core.Path.{◌≡◌, ap}
use mathlib.Core.List.{[], ◌∷◌}
use mathlib.Core.Option.{some}
use Rattle.rules.specs.Layout.{gives, refuses}
use Rattle.rules.specs.Model.{Model}
use Rattle.rules.specs.Types.{typed, breaks, type_body}
use Rattle.rules.specs.Coverage.{breaking, broken_method, body_refusal, body_verdict}
use Rattle.rules.proofs.Lists.{some_lowest}
use Rattle.rules.proofs.Coverage.{all_typed}

module _ (M : Model) where
  pub method_broken : (m number at : ℕ) → m < M.methods → ((k : ℕ) → k < m → type_body M k ≡ typed) → type_body M m ≡ breaks number at
      → refuses number (m ∷ at ∷ []) ≡ body_verdict M (broken_method M)
  unfolding broken_method body_verdict body_refusal breaking
  method_broken m number at h low e =
      let found : broken_method M ≡ some m = some_lowest (λ m. breaking (type_body M m)) M.methods m h (ap breaking e) (λ k r. ap breaking (low k r)) in
      rw (found, e)

  pub methods_typed : ((m : ℕ) → m < M.methods → type_body M m ≡ typed) → gives tt ≡ body_verdict M (broken_method M)
  unfolding body_verdict
  methods_typed h = rw (all_typed M h)
