-- What a send comes to: the frame that is opened, or the number that stops it.
-- Assumes nothing.
use Prim.Native.Nat.{ℕ, zero, suc, ◌+◌, ◌*◌, ◌≤◌, ◌<◌}
use Rattle.std.specs.Prelude.{Result, Ok, Err}
use native.Mathlib.Omega.{arith}
use mathlib.Core.Path.{◌≡◌, refl, sym, ap, ap₂, ◌∙◌}
use mathlib.Core.Bool.{true, false}
use mathlib.Core.List.{List, [], ◌∷◌, ◌++◌}
use lib.ListN.{length, take, drop, set, length-set}
use lib.Seq.{get_or-set_same, take-set-le, take-length, take-take, take_at, drop_at, take-paste, length-paste, length-take-le}
use borrow.Author.Tests.{lt-ltb, le-ltb}
use Rattle.rules.specs.Numbers as numbers
use Rattle.rules.specs.Bounded.{every}
use Rattle.rules.specs.Bytes.{part}
use Rattle.rules.specs.Layout.{places, padded}
use Rattle.rules.specs.Model.{Model, Wellformed, present}
use Rattle.rules.specs.Lookup.{found, lookup}
use Rattle.rules.specs.Coverage.{declared_hold}
use Rattle.rules.specs.Machine.{Frame, made, failed, stopped, target_found, target, opened, enter, call_target, call, max_frames}
use Rattle.answers.specs.declared.failure.NotFound.{NotFound}
use Rattle.answers.specs.declared.failure.NotFound.TheVariants.{Missing, Ambiguous}
use Rattle.answers.specs.Failures.{not_found, not_found_number, not_found_methods}
use Rattle.subclasses.specs.Places.{Arguments}
use Rattle.frames.specs.Arrays.{frame_numbers, frame_bytes, HasFrame, HasStack, begun, given}
use Rattle.machine.specs.Held.{frame_with, frame_of, callers_of, FrameFits, Waiting, Held, held}
use Rattle.machine.specs.Endings.{Enters, StepsTo}
use Rattle.machine.specs.declared.ending.Ending.{Ending}
use Rattle.machine.proofs.Stores.{part_prefix, kept, frame_of_lem, callers_same, waiting_same, waits_of, has_frame, has_stack}

-- frame k opened for method m
begun_frame : (M : Model) (fs vs : List ℕ) (k m : ℕ) → HasFrame fs k → frame_of M (begun fs k m) vs k ≡ frame_with M vs k m 0 0
begun_frame M fs vs k m f =
    let at = frame_numbers * k in
    let one = set fs at m in
    let two = set one (at + 1) 0 in
    let p = length-set fs at m in
    let q = length-set one (at + 1) 0 in
    frame_of_lem M (begun fs k m) vs k
    (kept two (at + 2) 0 at (λ e. omega arith) ∙ kept one (at + 1) 0 at (λ e. omega arith) ∙ get_or-set_same fs at m 0 (omega arith))
    (kept two (at + 2) 0 (at + 1) (λ e. omega arith) ∙ get_or-set_same one (at + 1) 0 0 (omega arith))
    (get_or-set_same two (at + 2) 0 0 (omega arith))

begun_below : (fs : List ℕ) (k m : ℕ) → take (frame_numbers * k) (begun fs k m) ≡ take (frame_numbers * k) fs
begun_below fs k m =
    let at = frame_numbers * k in
    let one = set fs at m in
    take-set-le at (set one (at + 1) 0) (at + 2) 0 (omega arith) ∙ take-set-le at one (at + 1) 0 (omega arith) ∙ take-set-le at fs at m (omega arith)

begun_length : (fs : List ℕ) (k m : ℕ) → length (begun fs k m) ≡ length fs
begun_length fs k m = simp length-set

-- its argument classes are read back, and nothing below them is changed
module _ (vs : List ℕ) (k : ℕ) (args : List ℕ) (s : HasStack vs k) (few : length args ≤ places) where
  given_head : take (frame_bytes * k + length args) (given vs k args) ≡ take (frame_bytes * k) vs ++ args
  given_head =
      take-paste vs (frame_bytes * k) args (length args) (omega arith) (omega arith)
      ∙ ap (λ (l : List ℕ). take (frame_bytes * k) vs ++ l) (take-length args)

  start_length : length (take (frame_bytes * k) vs) ≡ frame_bytes * k
  start_length = length-take-le (frame_bytes * k) vs (omega arith)

  given_part : part (given vs k args) (frame_bytes * k) (length args) ≡ args
  given_part =
      part_prefix (given vs k args) (frame_bytes * k) (length args) ∙ ap (drop (frame_bytes * k)) given_head
      ∙ drop_at (take (frame_bytes * k) vs) args (frame_bytes * k) start_length

  given_below : take (frame_bytes * k) (given vs k args) ≡ take (frame_bytes * k) vs
  given_below =
      sym (take-take (frame_bytes * k) (frame_bytes * k + length args) (given vs k args) (omega arith)) ∙ ap (take (frame_bytes * k)) given_head
      ∙ take_at (take (frame_bytes * k) vs) args (frame_bytes * k) start_length

  given_length : length (given vs k args) ≡ length vs
  given_length = length-paste vs (frame_bytes * k) args (length args) (omega arith) (omega arith)

-- a send has no more arguments than there are places
pub arguments_few : {M : Model} {f : ℕ} {args : List ℕ} → Wellformed M → Arguments M f args → length args ≤ places
arguments_few {f = f} w a = omega (arith, a.arity, w.arity_limit f a.function)

module _ (M : Model) (w : Wellformed M) (fs vs : List ℕ) (k m f : ℕ) (args fs' vs' : List ℕ) where
  pub entered : k < max_frames → fs' ≡ begun fs k m → vs' ≡ given vs k args → Waiting M fs vs k → m < M.methods → M.function m ≡ f → Arguments M f args
      → Held M fs' vs' k × (made (frame_of M fs' vs' k) (callers_of M fs' vs' k) ≡ made (opened M m args) (callers_of M fs vs k))
  unfolding opened present every
  entered below e g all h q a =
      let fr = has_frame all k below in
      let st = has_stack all k below in
      let few = arguments_few w a in
      let arity : M.arity (M.function m) ≡ length args = ap M.arity q ∙ sym a.arity in
      let now : frame_of M (begun fs k m) (given vs k args) k ≡ opened M m args =
      begun_frame M fs (given vs k args) k m fr ∙ rw (arity, given_part vs k args st few) in
      let fits : FrameFits M 0 (opened M m args) =
      record {
        method_present = h;
        arity_few = omega arith;
        inside = omega arith;
        short = omega arith;
        room = omega arith;
        args_present = a.classes;
        values_present = refl;
      } in
      let p = begun_below fs k m in
      let r = given_below vs k args st few in
      rw (e, g)
      (held below (rw now fits) (waiting_same M fs (begun fs k m) vs (given vs k args) k p r (begun_length fs k m) (given_length vs k args st few) all), ap₂ made now (callers_same M fs (begun fs k m) vs (given vs k args) k p r (waits_of all)))

length_callers : (M : Model) (fs vs : List ℕ) (n : ℕ) → length (callers_of M fs vs n) ≡ n
unfolding callers_of
length_callers M fs vs zero = refl
length_callers M fs vs (suc n) = ap suc (length_callers M fs vs n)

-- what the arrays hold after a frame was opened in them is what the rules say
pub enters_as : {M : Model} → Wellformed M → {fs vs args fs' vs' : List ℕ} {k m f : ℕ} (r : Result ℕ Ending) → Enters fs vs args m k fs' vs' r → Waiting M fs vs k
    → m < M.methods → M.function m ≡ f → Arguments M f args → StepsTo M fs' vs' r (enter M m args (callers_of M fs vs k))
unfolding enter
enters_as {M} w {fs} {vs} {args} {fs'} {vs'} {k} {m} {f} (Ok top) (same, below, e, g) all h q a =
    let (on-top, now) = entered M w fs vs k m f args fs' vs' below e g all h q a in
    let room = lt-ltb (length (callers_of M fs vs k)) max_frames (omega (arith, length_callers M fs vs k, below)) in
    rw same (record { turned = rw room now; holding = on-top })
enters_as {M} w {fs} {vs} {k = k} (Err e) (deep, full) all h q a =
    let none = le-ltb (length (callers_of M fs vs k)) max_frames (omega (arith, length_callers M fs vs k, full)) in
    record { turned = rw none (ap failed deep); holding = tt }

-- a send tries 10, 11, 12, then Deep
module _ (M : Model) (f m : ℕ) (args : List ℕ) (callers : List Frame) where
  pub stops_declared : {values : List ℕ} → values ≡ f ∷ padded args → declared_hold M m args ≡ false
      → failed (stopped numbers.narrow_declared (values ++ m ∷ [])) ≡ call_target M f args callers (target_found M args (found m))
  unfolding call_target target_found
  stops_declared q e = rw (e, q)

  pub enters_found : declared_hold M m args ≡ true → enter M m args callers ≡ call_target M f args callers (target_found M args (found m))
  unfolding call_target target_found
  enters_found e = rw e

module _ (M : Model) (f : ℕ) (args : List ℕ) (callers : List Frame) where
  pub call_not_found : {values : List ℕ} (x : NotFound) → values ≡ f ∷ padded args → not_found x ≡ lookup M f args
      → failed (stopped (not_found_number x) (values ++ not_found_methods x)) ≡ call M f args callers
  unfolding call target target_found call_target
  call_not_found Missing q e = rw (← e, q)
  call_not_found (Ambiguous m n) q e = rw (← e, q)

  pub call_found : (m : ℕ) → found m ≡ lookup M f args → call_target M f args callers (target_found M args (found m)) ≡ call M f args callers
  unfolding call target
  call_found m e = rw (← e)
