-- The answers of a run, case by case.
-- Assumes nothing.
use Prim.Native.Nat.{ℕ}
use mathlib.Core.Path.{◌≡◌}
use mathlib.Core.Bool.{true, false}
use mathlib.Core.List.{List, []}
use lib.ListN.{take}
use Rattle.rules.specs.Numbers as numbers
use Rattle.rules.specs.Layout.{gives, refuses, require}
use Rattle.rules.specs.Model.{Model}
use Rattle.rules.specs.Machine.{Outcome, run}
use Rattle.rules.specs.Calls.{run_rule, run_in}
use Rattle.sends.specs.Send.{Passes}

module _ (M : Model) (f : ℕ) (tuple : List ℕ) (count : ℕ) where
  pub run_absent : run_rule M f tuple ≡ false → refuses numbers.absent [] ≡ run_in f tuple count M
  unfolding run_in require
  run_absent e = rw e

  pub run_ended : {n : ℕ} {classes : List ℕ} {r : Outcome} → run_rule M f tuple ≡ true → Passes M f tuple n classes
      → r ≡ (run M f (take n classes) count).outcome → gives r ≡ run_in f tuple count M
  unfolding run_in require
  run_ended e p g = rw (e, ← p.same, g)
