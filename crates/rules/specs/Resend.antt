-- Resends (M 15): which methods a method overrides, and to which of them a resend in its body goes.
-- Assumes nothing.
use Rattle.std.specs.Prelude.{ℕ, Bool, not, ◌&&◌, List, eqb}
use Rattle.rules.specs.Bounded.{upto, keep}
use Rattle.rules.specs.Model.{Model}
use Rattle.rules.specs.Lookup.{Found, as_specific, select}

-- method m overrides n: another method of the same function, and m is at least as specific (M 15.1)
unfoldable pub overrides : Model → ℕ → ℕ → Bool
overrides M m n = eqb (M.function n) (M.function m) && not (eqb n m) && as_specific M m n

-- the methods that m overrides, rising
unfoldable pub overridden : Model → ℕ → List ℕ
overridden M m = keep (overrides M m) (upto M.methods)

-- The target of a resend in m, chosen by m alone: the method that leads those which m overrides; there is none to choose from (25); or none of them
-- leads (26) (M 15.2).
unfoldable pub resend_target : Model → ℕ → Found
resend_target M m = select M (overridden M m)
