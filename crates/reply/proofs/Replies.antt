-- The values of a finding that names a record, and of a failure that names methods, in their places.
-- Assumes nothing.
use Prim.Native.Nat.{ℕ}
use mathlib.Core.Path.{◌≡◌, refl}
use mathlib.Core.List.{[], ◌∷◌}
use lib.ListN.{get_or}
use Rattle.answers.specs.declared.opening.LayoutFinding.{LayoutFinding}
use Rattle.answers.specs.declared.opening.LayoutFinding.TheVariants as finding
use Rattle.answers.specs.declared.refusal.Refusal.{Refusal}
use Rattle.answers.specs.declared.refusal.Refusal.TheVariants as refusal
use Rattle.answers.specs.declared.failure.NotFound.TheVariants.{Missing, Ambiguous}
use Rattle.answers.specs.declared.failure.Failure.{Failure}
use Rattle.answers.specs.declared.failure.Failure.TheVariants.{Lookup, Declared, Result}
use Rattle.answers.specs.Opening.{layout_values}
use Rattle.answers.specs.Refusals.{refusal_values}
use Rattle.answers.specs.Failures.{failure_methods}
use Rattle.reply.specs.Replies.{eight}

-- a layout finding has the one value that is its record, or none
pub layout_values_lem : (f : LayoutFinding) → eight (get_or (layout_values f) 0 0 ∷ 0 ∷ []) ≡ eight (layout_values f)
layout_values_lem finding.Length = refl
layout_values_lem finding.Directory = refl
layout_values_lem finding.Counts = refl
layout_values_lem (finding.Record rule k) = refl

-- so has a refusal
pub refusal_values_lem : (r : Refusal) → eight (get_or (refusal_values r) 0 0 ∷ 0 ∷ []) ≡ eight (refusal_values r)
refusal_values_lem (refusal.Layout f) = layout_values_lem f
refusal_values_lem refusal.Scratch = refl
refusal_values_lem refusal.Row = refl
refusal_values_lem refusal.Absent = refl

-- the two methods of a failure, or zeros, behind the values of a send, and behind those of a signature and its send
pub send_values_lem : (a b c d : ℕ) (f : Failure)
    → eight (a ∷ b ∷ c ∷ d ∷ get_or (failure_methods f) 0 0 ∷ get_or (failure_methods f) 1 0 ∷ []) ≡ eight (a ∷ b ∷ c ∷ d ∷ failure_methods f)
send_values_lem a b c d (Lookup Missing) = refl
send_values_lem a b c d (Lookup (Ambiguous m n)) = refl
send_values_lem a b c d (Declared m) = refl
send_values_lem a b c d (Result m) = refl

pub tuple_values : (s a b c d : ℕ) (f : Failure)
    → eight (s ∷ a ∷ b ∷ c ∷ d ∷ get_or (failure_methods f) 0 0 ∷ get_or (failure_methods f) 1 0 ∷ []) ≡ eight (s ∷ a ∷ b ∷ c ∷ d ∷ failure_methods f)
tuple_values s a b c d (Lookup Missing) = refl
tuple_values s a b c d (Lookup (Ambiguous m n)) = refl
tuple_values s a b c d (Declared m) = refl
tuple_values s a b c d (Result m) = refl
