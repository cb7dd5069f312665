-- Numbers in decimal: the cases of `digits`.
-- Assumes nothing.
use Prim.Native.Nat.{ℕ, zero, suc, ◌+◌, ◌-◌, ◌/◌, ◌%◌, ◌≤◌, ◌<◌}
use native.Mathlib.Omega.{arith}
use mathlib.Core.Path.{◌≡◌, refl}
use mathlib.Core.List.{[], ◌∷◌, ◌++◌}
use borrow.Author.Tests.{lt-ltb, le-ltb}
use Rattle.rules.specs.Decimal.{digits}

-- one digit
pub digits_one : (most n : ℕ) → 0 < most → n < 10 → digits most n ≡ (48 + n) ∷ []
unfolding digits
digits_one zero n h l = absurd (omega arith)
digits_one (suc most) n h l = rw (lt-ltb n 10 l) refl

-- more than one
pub digits_more : (most n : ℕ) → 0 < most → 10 ≤ n → digits most n ≡ digits (most - 1) (n / 10) ++ ((48 + n % 10) ∷ [])
unfolding digits
digits_more zero n h l = absurd (omega arith)
digits_more (suc most) n h l =
    let e : suc most - 1 ≡ most = omega arith in
    rw (le-ltb n 10 l, e) refl
