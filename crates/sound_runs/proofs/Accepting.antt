-- A run of an accepted bundle, case by case.
-- Assumes nothing.
use Prim.Native.Nat.{ℕ}
use mathlib.Core.Path.{◌≡◌}
use mathlib.Core.Bool.{true, false}
use mathlib.Core.List.{List, []}
use Rattle.rules.specs.Numbers as numbers
use Rattle.rules.specs.Bounded.{every}
use Rattle.rules.specs.Layout.{gives, refuses, require}
use Rattle.rules.specs.Model.{Model, model_of}
use Rattle.rules.specs.Coverage.{concrete_class, verdict, is_covered}
use Rattle.rules.specs.Machine.{run}
use Rattle.rules.specs.Calls.{send_rule, used, run_rule}
use Rattle.rules.specs.Sound.{SoundEnding}
use Rattle.rules.specs.Accepted.{ended, not_accepted, not_covered, accepted_by, accepted_in}
use Rattle.rules.proofs.Lists.{and_right}
use Rattle.rules.proofs.Sound.{demand_3}
use Rattle.rules.proofs.Accepted.{covered_by}
use Rattle.layout.specs.Opened.{Opened}
use Rattle.layout.specs.declared.bundle.Bundle.{Bundle}
use Rattle.layout.proofs.Opened.{counts_given}
use Rattle.machine.specs.declared.ending.Ending.{Ending}
use Rattle.machine.specs.declared.ending.Ending.TheVariants as ending
use Rattle.machine.specs.Endings.{ending_of}
use Rattle.sound_runs.specs.Accepted.{Unstopped}

-- the answers of the call
module _ (M : Model) (f : ℕ) (tuple : List ℕ) (count : ℕ) where
  pub absent : run_rule M f tuple ≡ false → refuses numbers.absent [] ≡ accepted_in f tuple count M
  unfolding accepted_in require
  absent e = rw e

  module _ (kept : run_rule M f tuple ≡ true) where
    pub refused : {number : ℕ} {values : List ℕ} → refuses number values ≡ verdict M → gives (not_accepted number values) ≡ accepted_in f tuple count M
    unfolding accepted_in accepted_by require
    refused v = rw (kept, ← v)

    module _ (v : gives tt ≡ verdict M) where
      pub uncovered : {args : List ℕ} → args ≡ used M f tuple → is_covered M f args ≡ false → gives not_covered ≡ accepted_in f tuple count M
      unfolding accepted_in accepted_by require
      uncovered p c = rw (kept, ← v, ← p, c)

      pub covered : {args : List ℕ} → args ≡ used M f tuple → is_covered M f args ≡ true → gives (ended (run M f args count).outcome) ≡ accepted_in f tuple count M
      unfolding accepted_in accepted_by require
      covered p c = rw (kept, ← v, ← p, c)

pub run_concrete : (M : Model) (f : ℕ) (tuple : List ℕ) {args : List ℕ} → run_rule M f tuple ≡ true → args ≡ used M f tuple → every (concrete_class M) args ≡ true
unfolding run_rule
run_concrete M f tuple e p = rw p (and_right (send_rule M f tuple) (every (concrete_class M) (used M f tuple)) e)

-- no number stops a sound run
pub unstopped : (M : Model) (f : ℕ) (args : List ℕ) (x : Ending) → SoundEnding M f args (ending_of x) → Unstopped x
unstopped M f args (ending.Value c) s = tt
unstopped M f args ending.Spent s = tt
unstopped M f args ending.Deep s = tt
unstopped M f args (ending.Fails x y) s = s
unstopped M f args (ending.Stopped number m at) s = s

pub sound_ending : {b : List ℕ} {t : Bundle} → Opened b t → verdict (model_of b) ≡ gives tt → (f : ℕ) (args : List ℕ) (count : ℕ)
    → every (concrete_class (model_of b)) args ≡ true → is_covered (model_of b) f args ≡ true
    → SoundEnding (model_of b) f args (run (model_of b) f args count).outcome.ending
sound_ending {b} o v f args count e c =
    let (s, covering) = covered_by (model_of b) f args c in
    let (counts, opens) = counts_given o in
    (demand_3 b counts opens v f args s covering e count).ending
