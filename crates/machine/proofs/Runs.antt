-- A run in the words of the code: its start, one pace, and what is left of it after a pace.
-- Assumes nothing.
use Prim.Native.Nat.{ℕ, suc, ◌+◌, ◌*◌, ◌-◌, ◌≤◌, ◌<◌}
use Rattle.std.specs.Prelude.{Result, Ok, Err, MatchResult, IsErrAnd}
use native.Mathlib.Omega.{arith}
use mathlib.Core.Path.{◌≡◌, sym, ap, ◌∙◌}
use mathlib.Core.List.{List}
use lib.ListN.{length}
use Rattle.rules.specs.Model.{Model}
use Rattle.rules.specs.Machine.{Ending, spent, Resumption, ends, Turn, call, Progress, progress, landed, counted, start, pace_from, pace, Run, ending_now, finished, meets, run_from, run, max_frames}
use Rattle.rules.proofs.Runs.{ended_stays}
use Rattle.frames.specs.Arrays.{frame_numbers, frame_bytes}
use Rattle.machine.specs.Held.{callers_of, resumed, next_of, turn_at, Going, Waiting, waiting}
use Rattle.machine.specs.Progress.{ResumesTo, ProgressTo}
use Rattle.machine.specs.declared.run.Outcome.{Outcome}
use Rattle.machine.specs.declared.ending.Ending as ending-type
use Rattle.machine.proofs.Ended.{resumed_goes}

pub resumes_as : {M : Model} {fs vs : List ℕ} {r : Result ℕ ending-type.Ending} {l m : Resumption} → ResumesTo M fs vs r l → l ≡ m → ResumesTo M fs vs r m
resumes_as s e = record { resumes = s.resumes ∙ e; onward = s.onward }

-- a run that ended in the pace made its step
pub progress_after : (M : Model) (fs vs : List ℕ) (n : ℕ) (r : Result ℕ ending-type.Ending) (m : Result ℕ Outcome) (l : Resumption) → ResumesTo M fs vs r l
    → MatchResult r (λ k. m ≡ Ok k) (λ e. IsErrAnd m (λ o. o ≡ record { ending = e; steps = n })) → ProgressTo M fs vs n m (progress l n)
progress_after M fs vs n (Ok k) m l s e = rw e (record { progressed = ap (λ (x : Resumption). progress x n) s.resumes; onward = s.onward })
progress_after M fs vs n (Err d) (Ok k) l s e = absurd e
progress_after M fs vs n (Err d) (Err o) l s e = rw e (record { progressed = ap (λ (x : Resumption). progress x n) s.resumes; onward = tt })

-- a run begins above no frames
pub none_wait : (M : Model) (fs vs : List ℕ) → frame_numbers * max_frames ≤ length fs → frame_bytes * max_frames ≤ length vs → Waiting M fs vs 0
unfolding callers_of
none_wait M fs vs p q = waiting p q (omega arith) tt

-- what the opening send comes to
pub start_turn : (M : Model) (f : ℕ) (args fs vs : List ℕ) (t : Turn) → t ≡ call M f args (callers_of M fs vs 0) → landed t ≡ (start M f args).next
unfolding start callers_of
start_turn M f args fs vs t e = ap landed e

-- the run of a send from what its start comes to, which is no step (M 8.5)
module _ (M : Model) (f : ℕ) (args : List ℕ) (count : ℕ) where
  pub opening_goes : (l : Resumption) → l ≡ (start M f args).next → (run_from M count (progress l 0)).outcome ≡ (run M f args count).outcome
  unfolding run meets start
  opening_goes l e = ap (λ (x : Resumption). (run_from M count (progress x 0)).outcome) e

  pub opening_ended : (e : Ending) → ends e ≡ (start M f args).next → record { ending = e; steps = 0 } ≡ (run M f args count).outcome
  unfolding run meets start finished ending_now
  opening_ended e q = sym (ap (λ (r : Run). r.outcome) (ended_stays M count e 0)) ∙ ap (λ (x : Resumption). (run_from M count (progress x 0)).outcome) q

module _ (M : Model) (fs vs : List ℕ) (k : ℕ) (g : Going M fs vs k) (steps : ℕ) where
  -- a pace is the turn of the next instruction and what follows it
  pub pace_turn : (t : Turn) → t ≡ turn_at M fs vs k (next_of M fs k) → progress (landed t) (counted t steps) ≡ pace_from M (resumed M fs vs k) steps
  unfolding pace_from turn_at
  pace_turn t e = rw (resumed_goes M fs vs k g, e)

  module _ (count : ℕ) where
    -- no steps are left (M 8.5)
    pub run_spent : steps ≡ count → (run_from M (count - steps) (progress (resumed M fs vs k) steps)).outcome ≡ record { ending = spent; steps = steps }
    unfolding run_from finished ending_now
    run_spent e =
        let z : count - steps ≡ 0 = omega arith in
        rw (z, resumed_goes M fs vs k g)

    module _ (h : steps < count) where
      pub run_paced : (p : Progress) → p ≡ pace_from M (resumed M fs vs k) steps
          → (run_from M (count - steps) (progress (resumed M fs vs k) steps)).outcome ≡ (run_from M (count - (steps + 1)) p).outcome
      unfolding run_from meets pace
      run_paced p e =
          let n : count - steps ≡ suc (count - (steps + 1)) = omega arith in
          rw (n, e)

      pub run_ended : (e : Ending) (n : ℕ) → progress (ends e) n ≡ pace_from M (resumed M fs vs k) steps
          → (run_from M (count - steps) (progress (resumed M fs vs k) steps)).outcome ≡ record { ending = e; steps = n }
      unfolding finished ending_now
      run_ended e n q = run_paced (progress (ends e) n) q ∙ ap (λ (r : Run). r.outcome) (ended_stays M (count - (steps + 1)) e n)
