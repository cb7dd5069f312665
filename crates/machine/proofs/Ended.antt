-- Where a body goes on, ends in a value for its caller or for the run, or stops: `resumed` by what the arrays say of the frame on top.
-- Assumes nothing.
use Prim.Native.Nat.{ℕ, suc, ◌+◌, ◌≤◌, ◌<◌}
use native.Mathlib.Omega.{arith}
use mathlib.Core.Path.{◌≡◌, refl, sym, ap, ap₂, ◌∙◌}
use mathlib.Core.Bool.{true, false≢true}
use mathlib.Core.List.{List, [], ◌∷◌}
use lib.Dec.{ltb}
use lib.ListN.{length, get_or, drop, drop_of_length-le}
use lib.Seq.{drop-cons}
use borrow.Author.Tests.{ltb-true, lt-ltb}
use Rattle.rules.specs.Numbers as numbers
use Rattle.rules.specs.Bounded.{every}
use Rattle.rules.specs.Model.{Model, Instr, arg, present}
use Rattle.rules.specs.Machine.{Frame, goes, ends, value, stopped, stopped_at, settled, settle, push, proceed, return_to, resume, max_frames}
use Rattle.rules.proofs.Lists.{and_left, and_both}
use Rattle.frames.specs.Arrays.{method_at, next_at, height_at, stack_at, raised, laid}
use Rattle.machine.specs.Held.{stack_from, frame_of, callers_of, resumed, next_of, split, FrameFits, Waits, Waiting, waiting, Held, held, Going, going}
use Rattle.machine.proofs.Stores.{length_stack, numbers_of, waits_of, fits_of, waiting_of, has_frame, has_stack, StackRoom, pushed_frame, pushed_callers}

resume_goes : (g : Frame) (gs : List Frame) (i : Instr) (more : List Instr) → g.rest ≡ i ∷ more
    → resume g gs ≡ goes i (record { method = g.method; args = g.args; at = g.at; rest = more; stack = g.stack }) gs
unfolding resume proceed settle settled
resume_goes g gs i more e = rw e

resume_stops : (g : Frame) (gs : List Frame) → g.rest ≡ [] → (length g.stack ≡ 1 → ⊥) → resume g gs ≡ ends (stopped_at numbers.bad_stack g)
unfolding resume proceed settle settled
resume_stops g gs e d = go g.rest g.stack e d
  where
    go : (rest : List Instr) (s : List ℕ) → rest ≡ [] → (length s ≡ 1 → ⊥) → proceed (settled rest s g) gs (λ v. return_to gs v) ≡ ends (stopped_at numbers.bad_stack g)
    go (i ∷ rest) s q h = absurd (false≢true (cc))
    go [] [] q h = refl
    go [] (v ∷ []) q h = absurd (h refl)
    go [] (v ∷ w ∷ vs) q h = refl

-- a body that ended with one value returns it
resume_returns : (g : Frame) (gs : List Frame) (v : ℕ) → g.rest ≡ [] → g.stack ≡ v ∷ [] → resume g gs ≡ return_to gs v
unfolding resume proceed settle settled
resume_returns g gs v e f = rw (e, f)

-- a caller that waited has room for the value
fits_push : (M : Model) (v : ℕ) (g : Frame) → FrameFits M 1 g → v < M.classes → FrameFits M 0 (push v g)
unfolding push present every
fits_push M v g s h =
    record {
      method_present = s.method_present;
      arity_few = s.arity_few;
      inside = s.inside;
      short = s.short;
      room = omega (arith, s.room);
      args_present = s.args_present;
      values_present = and_both (ltb v M.classes) (every (λ c. ltb c M.classes) g.stack) (lt-ltb v M.classes h) s.values_present;
    }

module _ (M : Model) (fs vs : List ℕ) where
  -- a frame with an instruction left goes on with it
  pub resumed_goes : (k : ℕ) → Going M fs vs k → resumed M fs vs k ≡ goes (next_of M fs k) (split M (frame_of M fs vs k)) (callers_of M fs vs k)
  unfolding resumed frame_of split
  resumed_goes k (going l h) =
      resume_goes _ (callers_of M fs vs k) (next_of M fs k) (drop (suc (next_at fs k)) (M.body (method_at fs k)))
      (drop-cons (M.body (method_at fs k)) (next_at fs k) (arg 0) l)

  -- one value is left on the stack, or the run stops by 14 (M 8.4)
  pub resumed_stops : (k : ℕ) → length (M.body (method_at fs k)) ≤ next_at fs k → (height_at fs k ≡ 1 → ⊥)
      → resumed M fs vs k ≡ ends (stopped numbers.bad_stack (method_at fs k ∷ next_at fs k ∷ []))
  unfolding resumed frame_of stopped_at
  resumed_stops k e d =
      resume_stops _ (callers_of M fs vs k) (drop_of_length-le (M.body (method_at fs k)) e)
      (λ q. d (omega (arith, q, length_stack vs (stack_at k) (height_at fs k))))

  one_value : (k : ℕ) → height_at fs k ≡ 1 → stack_from vs (stack_at k) (height_at fs k) ≡ get_or vs (stack_at k) 0 ∷ []
  one_value k e = let z : stack_at k + 0 ≡ stack_at k = omega arith in rw (e, z)

  -- the value of the opening body is the run's
  pub resumed_value : (k : ℕ) → k ≡ 0 → length (M.body (method_at fs k)) ≤ next_at fs k → height_at fs k ≡ 1
      → resumed M fs vs k ≡ ends (value (get_or vs (stack_at k) 0))
  unfolding resumed frame_of callers_of return_to
  resumed_value k z e f =
      resume_returns _ (callers_of M fs vs k) (get_or vs (stack_at k) 0) (drop_of_length-le (M.body (method_at fs k)) e) (one_value k f)
      ∙ ap (λ (j : ℕ). return_to (callers_of M fs vs j) (get_or vs (stack_at k) 0)) z

  -- the lowest value of a frame is a class
  value_present : (k : ℕ) → Held M fs vs k → height_at fs k ≡ 1 → get_or vs (stack_at k) 0 < M.classes
  unfolding frame_of present every
  value_present k h f =
      let v = get_or vs (stack_at k) 0 in
      let s : every (λ c. ltb c M.classes) (v ∷ []) ≡ true = rw (one_value k f) at (fits_of h).values_present in
      ltb-true v M.classes (and_left (ltb v M.classes) true s)

  -- a caller of frame k waits below it, and has room for a value
  module _ (k j : ℕ) (z : k ≡ suc j) (h : Held M fs vs k) where
    callers_more : callers_of M fs vs k ≡ frame_of M fs vs j ∷ callers_of M fs vs j
    unfolding callers_of
    callers_more = ap (callers_of M fs vs) z

    caller_waits : Waits M (frame_of M fs vs j ∷ callers_of M fs vs j)
    caller_waits = rw callers_more at (waits_of (waiting_of h))

    pub caller_room : StackRoom fs vs j
    unfolding frame_of
    caller_room =
        let s = caller_waits.0 in
        let few : j < max_frames = omega (arith, (numbers_of h).frame) in
        record {
          frame = has_frame (waiting_of h) j few;
          stack = has_stack (waiting_of h) j few;
          height = omega (arith, s.room, s.short, length_stack vs (stack_at j) (height_at fs j));
        }

    -- the value of its body is put there
    module _ (e : length (M.body (method_at fs k)) ≤ next_at fs k) (f : height_at fs k ≡ 1) where
      hands : (resumed M (raised fs j) (laid fs vs j (get_or vs (stack_at k) 0)) j ≡ resumed M fs vs k)
          × Held M (raised fs j) (laid fs vs j (get_or vs (stack_at k) 0)) j
      unfolding resumed resume return_to frame_of
      hands =
          let v = get_or vs (stack_at k) 0 in
          let room = caller_room in
          let fits = caller_waits.0 in
          let rest : Waiting M fs vs j = waiting room.frame.long room.stack.long (omega (arith, room.frame)) caller_waits.1 in
          let same = pushed_frame M fs vs j v room fits.arity_few in
          let below = pushed_callers M fs vs j v room rest in (
            ap₂ resume same below.0
                ∙ sym (resume_returns (frame_of M fs vs k) (callers_of M fs vs k) v (drop_of_length-le (M.body (method_at fs k)) e) (one_value k f) ∙ ap (λ (gs : List Frame). return_to gs v) callers_more),
            held room.frame.few (rw same (fits_push M v (frame_of M fs vs j) fits (value_present k h f))) below.1,
          )

      pub resumed_hands : (fs' vs' : List ℕ) (v : ℕ) → fs' ≡ raised fs j → vs' ≡ laid fs vs j v → v ≡ get_or vs (stack_at k) 0
          → Held M fs' vs' j × (resumed M fs' vs' j ≡ resumed M fs vs k)
      resumed_hands fs' vs' v p q r = rw (p, q, r) (hands.1, hands.0)
