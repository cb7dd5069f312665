-- An instruction of the frame on top: the frame that has passed it, the value that it puts, the arguments that it takes off, and those that it hands on.
-- Assumes nothing.
use Prim.Native.Nat.{ℕ, zero, suc, ◌+◌, ◌*◌, ◌≤◌, ◌<◌}
use Rattle.std.specs.Prelude.{Ok}
use native.Mathlib.Nat.{le_of_suc-le-suc, eq-or-lt_of_le}
use native.Mathlib.Numerals.{add-one}
use native.Mathlib.Omega.{arith}
use mathlib.Core.Path.{◌≡◌, refl, sym, ap, ap₂, ◌∙◌}
use mathlib.Core.Bool.{true, false}
use mathlib.Core.Logic.{◌⊎◌, inl, inr}
use mathlib.Core.List.{List, [], ◌∷◌, ◌++◌, reverse, reverse-cons}
use lib.Dec.{ltb}
use lib.ListN.{length, get_or, take, drop, set, length-set, length-drop}
use lib.Seq.{get_or-set_same, get_or-drop, take-suc, take-set-le}
use borrow.Author.Tests.{ltb-true, lt-ltb, le-leb, lt-leb}
use Rattle.rules.specs.Numbers as numbers
use Rattle.rules.specs.Bounded.{every}
use Rattle.rules.specs.Bytes.{byte, part}
use Rattle.rules.specs.Layout.{places, padded}
use Rattle.rules.specs.Model.{Model, Wellformed, present, arg, new, send, resend}
use Rattle.rules.specs.Lookup.{found}
use Rattle.rules.specs.Resend.{resend_target}
use Rattle.rules.specs.Types.{arguments}
use Rattle.rules.specs.Coverage.{declared_hold}
use Rattle.rules.specs.Machine.{Frame, push, after, call, enter, resend_to, turn, made, failed, stopped, stopped_at, max_frames}
use Rattle.rules.proofs.Lists.{and_left, and_right, and_both, every_places}
use Rattle.rules.proofs.Places.{part_at, part_length}
use Rattle.rules.proofs.Tuples.{padded_read}
use Rattle.answers.specs.declared.failure.NotFound.{NotFound}
use Rattle.answers.specs.declared.failure.NotFound.TheVariants.{Missing, Ambiguous}
use Rattle.answers.specs.Failures.{not_found, resend_number}
use Rattle.subclasses.specs.Places.{Arguments}
use Rattle.subclasses.proofs.Asked.{class_below}
use Rattle.frames.specs.Arrays.{frame_numbers, frame_bytes, stack_room, method_at, next_at, height_at, stack_at, HasFrame, raised, laid, lowered, passed}
use Rattle.machine.specs.Held.{stack_from, frame_of, callers_of, split, turn_at, FrameFits, Waiting, waiting, Held, held, Going, going}
use Rattle.machine.specs.Endings.{StepsTo}
use Rattle.machine.proofs.Stores.{length_stack, drop_stack, take_stack, kept, frame_of_lem, callers_same, waiting_same, numbers_of, fits_of, waiting_of, waits_of, StackRoom, pushed_frame, pushed_callers, lowered_frame}

pub held_of : {M : Model} {fs vs : List ℕ} {k : ℕ} → Going M fs vs k → Held M fs vs k
held_of (going l h) = h

pub left_of : {M : Model} {fs vs : List ℕ} {k : ℕ} → Going M fs vs k → next_at fs k < length (M.body (method_at fs k))
left_of (going l h) = l

-- a store to the numbers of frame k leaves the frames below
stored : (M : Model) (fs vs : List ℕ) (k at v : ℕ) → frame_numbers * k ≤ at → Waiting M fs vs k
    → (callers_of M (set fs at v) vs k ≡ callers_of M fs vs k) × Waiting M (set fs at v) vs k
stored M fs vs k at v h w =
    let same = take-set-le (frame_numbers * k) fs at v h in
    (callers_same M fs (set fs at v) vs vs k same refl (waits_of w), waiting_same M fs (set fs at v) vs vs k same refl (length-set fs at v) refl w)

-- one more frame waits
waiting_more : (M : Model) (fs vs : List ℕ) (k : ℕ) → k < max_frames → FrameFits M 1 (frame_of M fs vs k) → Waiting M fs vs k → Waiting M fs vs (suc k)
unfolding callers_of
waiting_more M fs vs k h s (waiting p q l w) = waiting p q h (s, w)

passed_frame : (M : Model) (fs vs : List ℕ) (k : ℕ) → HasFrame fs k
    → frame_of M (passed fs k) vs k ≡ after (split M (frame_of M fs vs k)) (frame_of M fs vs k).stack
unfolding frame_of split after
passed_frame M fs vs k f =
    let at = frame_numbers * k in
    frame_of_lem M (passed fs k) vs k (kept fs (at + 1) (next_at fs k + 1) at (λ e. omega arith))
    (get_or-set_same fs (at + 1) (next_at fs k + 1) 0 (omega arith) ∙ add-one (next_at fs k))
    (kept fs (at + 1) (next_at fs k + 1) (at + 2) (λ e. omega arith))

-- a frame that has passed an instruction, with a stack that has room
fits_after : (M : Model) (waits : ℕ) (g : Frame) (stack : List ℕ) → Wellformed M → FrameFits M 0 g → g.at < length (M.body g.method)
    → waits + length stack ≤ suc g.at → present M stack ≡ true → FrameFits M waits (after (split M g) stack)
unfolding after split
fits_after M waits g stack w s l h e =
    record {
      method_present = s.method_present;
      arity_few = s.arity_few;
      inside = omega arith;
      short = omega (arith, w.body_limit g.method s.method_present);
      room = h;
      args_present = s.args_present;
      values_present = e;
    }

present_more : (M : Model) (v : ℕ) (stack : List ℕ) → v < M.classes → present M stack ≡ true → present M (v ∷ stack) ≡ true
unfolding present every
present_more M v stack h e = and_both (ltb v M.classes) (every (λ c. ltb c M.classes) stack) (lt-ltb v M.classes h) e

present_drop : (M : Model) (n : ℕ) (stack : List ℕ) → present M stack ≡ true → present M (drop n stack) ≡ true
unfolding present every
present_drop M zero stack e = e
present_drop M (suc n) [] e = e
present_drop M (suc n) (v ∷ vs) e = present_drop M n vs (and_right (ltb v M.classes) (every (λ c. ltb c M.classes) vs) e)

-- each value of a stack is a class
stack_below : (M : Model) (vs : List ℕ) (base h : ℕ) → present M (stack_from vs base h) ≡ true → (i : ℕ) → i < h → get_or vs (base + i) 0 < M.classes
unfolding present every
stack_below M vs base zero e i l = absurd (omega arith)
stack_below M vs base (suc h) e i l = go (eq-or-lt_of_le (le_of_suc-le-suc l)) (λ r. stack_below M vs base h rest i r)
  where
    rest : every (λ c. ltb c M.classes) (stack_from vs base h) ≡ true
    rest = and_right (ltb (get_or vs (base + h) 0) M.classes) (every (λ c. ltb c M.classes) (stack_from vs base h)) e

    go : (i ≡ h) ⊎ (i < h) → (i < h → get_or vs (base + i) 0 < M.classes) → get_or vs (base + i) 0 < M.classes
    go (inl q) r =
        rw q (ltb-true (get_or vs (base + h) 0) M.classes (and_left (ltb (get_or vs (base + h) 0) M.classes) (every (λ c. ltb c M.classes) (stack_from vs base h)) e))
    go (inr q) r = r q

-- the values from a place on, as a part of the array and as a stack
part_stack : (vs : List ℕ) (at n : ℕ) → at + n ≤ length vs → part vs at n ≡ reverse (stack_from vs at n)
unfolding part
part_stack vs at zero h = refl
part_stack vs at (suc n) h =
    let long : n < length (drop at vs) = simp length-drop (omega arith) in
    rw (take-suc (drop at vs) n 0 long, get_or-drop at vs n 0, reverse-cons (get_or vs (at + n) 0) (stack_from vs at n))
    (ap (λ (l : List ℕ). l ++ (get_or vs (at + n) 0 ∷ [])) (part_stack vs at n (omega arith)))

-- the arguments of a send are the top values, the last argument on top
top_arguments : (vs : List ℕ) (base n j : ℕ) → base + j + n ≤ length vs → part vs (base + j) n ≡ arguments n (stack_from vs base (n + j))
unfolding arguments
top_arguments vs base n j h = part_stack vs (base + j) n h ∙ ap reverse (sym (take_stack vs base n j))

top_present : (M : Model) (vs : List ℕ) (base n j : ℕ) → base + j + n ≤ length vs → present M (stack_from vs base (n + j)) ≡ true
    → present M (part vs (base + j) n) ≡ true
unfolding present byte
top_present M vs base n j h e =
    let long = part_length vs (base + j) n h in
    every_places (λ c. ltb c M.classes) (part vs (base + j) n) 0 (λ i l.
    let same : base + (j + i) ≡ base + j + i = omega arith in
    rw (part_at vs (base + j) n i (omega arith)) (lt-ltb (get_or vs (base + j + i) 0) M.classes (rw same at (stack_below M vs base (n + j) e (j + i) (omega arith)))))

module _ (M : Model) (w : Wellformed M) (fs vs : List ℕ) (k : ℕ) (g : Going M fs vs k) where
  abbrev top : Frame
  top = frame_of M fs vs k

  top_left : top.at < length (M.body top.method)
  unfolding frame_of
  top_left = left_of g

  pub next_short : next_at fs k < stack_room
  next_short = omega (arith, w.body_limit (method_at fs k) (numbers_of (held_of g)).method_present, left_of g)

  pub arity_few : M.arity (M.function (method_at fs k)) ≤ places
  unfolding frame_of
  arity_few = (fits_of (held_of g)).arity_few

  -- a place of the frame's method, read as its argument there
  pub argument_read : (i : ℕ) → i < M.arity (M.function (method_at fs k))
      → (get_or vs (frame_bytes * k + i) 0 ≡ get_or top.args i 0) × (get_or vs (frame_bytes * k + i) 0 < M.classes)
  unfolding frame_of byte
  argument_read i h =
      let n = M.arity (M.function (method_at fs k)) in
      let few = arity_few in
      let room = (numbers_of (held_of g)).stack in
      let same = part_at vs (frame_bytes * k) n i h in
      let below = class_below M top.args (fits_of (held_of g)).args_present i (omega (arith, part_length vs (frame_bytes * k) n (omega arith))) in
      (sym same, omega (arith, same, below))

  -- what passing its instruction leaves
  passed_height : height_at (passed fs k) k ≡ height_at fs k
  passed_height = kept fs (frame_numbers * k + 1) (next_at fs k + 1) (frame_numbers * k + 2) (λ e. omega arith)

  pub put_room : (fs' : List ℕ) → fs' ≡ passed fs k → StackRoom fs' vs k
  put_room fs' e =
      let n = numbers_of (held_of g) in
      let f = n.frame in
      rw e (record {
        frame = record { few = f.few; long = omega (arith, length-set fs (frame_numbers * k + 1) (next_at fs k + 1)) };
        stack = n.stack;
        height = omega (arith, passed_height, next_short);
      })

  -- a value is put
  module _ (v : ℕ) (below : v < M.classes) where
    puts : Held M (raised (passed fs k) k) (laid (passed fs k) vs k v) k
        × (made (frame_of M (raised (passed fs k) k) (laid (passed fs k) vs k v) k) (callers_of M (raised (passed fs k) k) (laid (passed fs k) vs k v) k)
        ≡ made (after (split M top) (v ∷ top.stack)) (callers_of M fs vs k))
    unfolding push after
    puts =
        let n = numbers_of (held_of g) in
        let s = fits_of (held_of g) in
        let room = put_room (passed fs k) refl in
        let method = kept fs (frame_numbers * k + 1) (next_at fs k + 1) (frame_numbers * k) (λ e. omega arith) in
        let rest = stored M fs vs k (frame_numbers * k + 1) (next_at fs k + 1) (omega arith) (waiting_of (held_of g)) in
        let same : frame_of M (raised (passed fs k) k) (laid (passed fs k) vs k v) k ≡ after (split M top) (v ∷ top.stack) =
        pushed_frame M (passed fs k) vs k v room (rw method arity_few) ∙ ap (push v) (passed_frame M fs vs k n.frame) in
        let fits = fits_after M 0 top (v ∷ top.stack) w s top_left (omega (arith, s.room)) (present_more M v top.stack below s.values_present) in
        let callers = pushed_callers M (passed fs k) vs k v room rest.1 in
        (held n.frame.few (rw same fits) callers.1, ap₂ made same (callers.0 ∙ rest.0))

    pub put_made : (fs' fs'' vs' vs'' : List ℕ) → fs' ≡ passed fs k → vs' ≡ vs → fs'' ≡ raised fs' k → vs'' ≡ laid fs' vs' k v
        → StepsTo M fs'' vs'' (Ok k) (made (after (split M top) (v ∷ top.stack)) (callers_of M fs vs k))
    put_made fs' fs'' vs' vs'' e r p q = rw (p, q, e, r) (record { turned = puts.1; holding = puts.0 })

  pub lowered_next : (j : ℕ) (fs' : List ℕ) → fs' ≡ lowered fs k j → HasFrame fs' k × (next_at fs' k < stack_room)
  lowered_next j fs' e =
      let f = (numbers_of (held_of g)).frame in
      let next = kept fs (frame_numbers * k + 2) j (frame_numbers * k + 1) (λ q. omega arith) in
      rw e (record { few = f.few; long = omega (arith, length-set fs (frame_numbers * k + 2) j) }, omega (arith, next, next_short))

  -- a send takes its arguments off
  module _ (f n j : ℕ) (h : height_at fs k ≡ n + j) where
    sent_frame : frame_of M (passed (lowered fs k j) k) vs k ≡ after (split M top) (drop n top.stack)
    unfolding frame_of split after
    sent_frame =
        let low : stack_from vs (stack_at k) j ≡ drop n (stack_from vs (stack_at k) (height_at fs k)) = rw h (sym (drop_stack vs (stack_at k) n j)) in
        passed_frame M (lowered fs k j) vs k (lowered_next j (lowered fs k j) refl).0
        ∙ ap (λ (y : Frame). after (split M y) y.stack) (lowered_frame M fs vs k j (numbers_of (held_of g)).frame)
        ∙ ap (λ (y : List ℕ). after (split M top) y) low

    sent_callers : (callers_of M (passed (lowered fs k j) k) vs k ≡ callers_of M fs vs k) × Waiting M (passed (lowered fs k j) k) vs k
    sent_callers =
        let one = stored M fs vs k (frame_numbers * k + 2) j (omega arith) (waiting_of (held_of g)) in
        let two = stored M (lowered fs k j) vs k (frame_numbers * k + 1) (next_at (lowered fs k j) k + 1) (omega arith) one.1 in
        (two.0 ∙ one.0, two.1)

    sent_waiting : Waiting M (passed (lowered fs k j) k) vs (suc k)
    sent_waiting =
        let s = fits_of (held_of g) in
        let fits : FrameFits M 1 (after (split M top) (drop n top.stack)) =
        fits_after M 1 top (drop n top.stack) w s top_left (omega (arith, s.room, length-drop n top.stack)) (present_drop M n top.stack s.values_present) in
        waiting_more M (passed (lowered fs k j) k) vs k (numbers_of (held_of g)).frame.few (rw sent_frame fits) sent_callers.1

    sent_room : n ≤ places → stack_at k + j + n ≤ length vs
    sent_room few = let x = numbers_of (held_of g) in omega (arith, x.stack, x.short)

    sends : M.arity f ≡ n → n ≤ places
        → call M f (part vs (stack_at k + j) n) (callers_of M (passed (lowered fs k j) k) vs (suc k)) ≡ turn_at M fs vs k (send f)
    unfolding callers_of turn_at turn frame_of split
    sends e few =
        let stack = stack_from vs (stack_at k) (height_at fs k) in
        let enough : n ≤ length stack = omega (arith, length_stack vs (stack_at k) (height_at fs k)) in
        let args : part vs (stack_at k + j) n ≡ arguments n stack =
        top_arguments vs (stack_at k) n j (sent_room few) ∙ ap (λ (x : ℕ). arguments n (stack_from vs (stack_at k) x)) (sym h) in
        rw (e, le-leb n (length stack) enough)
        (ap₂ (call M f) args (ap₂ (λ (x : Frame) (xs : List Frame). x ∷ xs) sent_frame sent_callers.0))

    sent_arguments : M.arity f ≡ n → n ≤ places → f < M.functions → Arguments M f (part vs (stack_at k + j) n)
    unfolding frame_of
    sent_arguments e few below =
        record {
          function = below;
          arity = part_length vs (stack_at k + j) n (sent_room few) ∙ sym e;
          classes = top_present M vs (stack_at k) n j (sent_room few) (rw h at (fits_of (held_of g)).values_present);
        }

    pub send_called : M.arity f ≡ n → n ≤ places → f < M.functions → (fs' fs'' vs' tuple : List ℕ) → fs' ≡ lowered fs k j → fs'' ≡ passed fs' k → vs' ≡ vs
        → tuple ≡ padded (part vs (stack_at k + j) n)
        → Arguments M f (take n tuple) × Waiting M fs'' vs' (k + 1) × (call M f (take n tuple) (callers_of M fs'' vs' (k + 1)) ≡ turn_at M fs vs k (send f))
    send_called e few below fs' fs'' vs' tuple p q s r =
        let args = part vs (stack_at k + j) n in
        let long : length args ≡ n = part_length vs (stack_at k + j) n (sent_room few) in
        let read : take n (padded args) ≡ args = rw long at (padded_read args (omega arith)) in
        rw (r, read, q, p, s, add-one k) (sent_arguments e few below, sent_waiting, sends e few)

  -- 14 where there are fewer values than arguments
  pub send_stops : (f : ℕ) → height_at fs k < M.arity f → turn_at M fs vs k (send f) ≡ failed (stopped numbers.bad_stack (method_at fs k ∷ next_at fs k ∷ []))
  unfolding turn_at turn frame_of split stopped_at
  send_stops f h =
      let few : length (stack_from vs (stack_at k) (height_at fs k)) < M.arity f = omega (arith, length_stack vs (stack_at k) (height_at fs k)) in
      rw (lt-leb (M.arity f) (length (stack_from vs (stack_at k) (height_at fs k))) few)

  -- a resend hands on the frame's own arguments
  own_arguments : Arguments M (M.function (method_at fs k)) top.args
  unfolding frame_of
  own_arguments =
      let n = numbers_of (held_of g) in
      record {
        function = w.function_present (method_at fs k) n.method_present;
        arity = part_length vs (frame_bytes * k) (M.arity (M.function (method_at fs k))) (omega (arith, n.stack, arity_few));
        classes = (fits_of (held_of g)).args_present;
      }

  pub handed_on : (n : ℕ) → n ≡ M.arity (M.function (method_at fs k)) → (tuple : List ℕ) → tuple ≡ padded (part vs (frame_bytes * k) n)
      → (take n tuple ≡ top.args) × Arguments M (M.function (method_at fs k)) top.args
  unfolding frame_of
  handed_on n e tuple r =
      let a = own_arguments in
      let args = part vs (frame_bytes * k) (M.arity (M.function (method_at fs k))) in
      (rw (r, e) (rw a.arity at (padded_read args (omega (arith, a.arity, arity_few)))), a)

  resent_waiting : (callers_of M (passed fs k) vs (suc k) ≡ after (split M top) top.stack ∷ callers_of M fs vs k) × Waiting M (passed fs k) vs (suc k)
  unfolding callers_of
  resent_waiting =
      let n = numbers_of (held_of g) in
      let s = fits_of (held_of g) in
      let rest = stored M fs vs k (frame_numbers * k + 1) (next_at fs k + 1) (omega arith) (waiting_of (held_of g)) in
      let frame = passed_frame M fs vs k n.frame in
      let fits = fits_after M 1 top top.stack w s top_left (omega (arith, s.room)) s.values_present in (
        ap₂ (λ (x : Frame) (xs : List Frame). x ∷ xs) frame rest.0,
        waiting_more M (passed fs k) vs k n.frame.few (rw frame fits) rest.1,
      )

  -- it waits for the target's value, with its stack as it was
  pub resend_enters : (t : ℕ) → declared_hold M t top.args ≡ true → (fs' vs' : List ℕ) → fs' ≡ passed fs k → vs' ≡ vs
      → Waiting M fs' vs' (k + 1) × (enter M t top.args (callers_of M fs' vs' (k + 1)) ≡ resend_to M (split M top) (callers_of M fs vs k) (found t))
  unfolding resend_to split
  resend_enters t e fs' vs' q s =
      let (callers, waits) = resent_waiting in
      rw (q, s, add-one k, e) (waits, ap (enter M t top.args) callers)

  -- 27 where the target's declared classes do not hold the arguments
  pub narrow_stops : (t : ℕ) → declared_hold M t top.args ≡ false
      → resend_to M (split M top) (callers_of M fs vs k) (found t) ≡ failed (stopped numbers.narrow_target (method_at fs k ∷ next_at fs k ∷ []))
  unfolding resend_to frame_of split stopped_at
  narrow_stops t e = rw e

  -- 25 and 26 where there is no target
  pub resend_stops : (x : NotFound) → not_found x ≡ resend_target M (method_at fs k)
      → turn_at M fs vs k resend ≡ failed (stopped (resend_number x) (method_at fs k ∷ next_at fs k ∷ []))
  unfolding turn_at turn resend_to frame_of split stopped_at
  resend_stops Missing e = rw (← e)
  resend_stops (Ambiguous a b) e = rw (← e)

  pub resend_goes : (t : ℕ) → found t ≡ resend_target M (method_at fs k) → resend_to M (split M top) (callers_of M fs vs k) (found t) ≡ turn_at M fs vs k resend
  unfolding turn_at turn frame_of split
  resend_goes t e = rw (← e)

  -- ARG and NEW put a value; NEW of an abstract class is 15
  pub arg_puts : (i : ℕ) → turn_at M fs vs k (arg i)
      ≡ made (after (split M (frame_of M fs vs k)) (get_or (frame_of M fs vs k).args i 0 ∷ (frame_of M fs vs k).stack)) (callers_of M fs vs k)
  unfolding turn_at turn split
  arg_puts i = refl

  pub new_puts : (c : ℕ) → M.concrete c ≡ true → turn_at M fs vs k (new c)
      ≡ made (after (split M (frame_of M fs vs k)) (c ∷ (frame_of M fs vs k).stack)) (callers_of M fs vs k)
  unfolding turn_at turn split
  new_puts c e = rw e

  pub new_stops : (c : ℕ) → M.concrete c ≡ false → turn_at M fs vs k (new c) ≡ failed (stopped numbers.abstract_new (method_at fs k ∷ next_at fs k ∷ []))
  unfolding turn_at turn frame_of split stopped_at
  new_stops c e = rw e
