-- What a store to the arrays changes: the frame that it is for, as the rules say, and no frame below.
-- Assumes nothing.
use Prim.Native.Nat.{ℕ, zero, suc, ◌+◌, ◌*◌, ◌≤◌, ◌<◌}
use native.Mathlib.Numerals.{add-one}
use native.Mathlib.Omega.{arith}
use mathlib.Core.Path.{◌≡◌, refl, sym, ap, ap₂, ◌∙◌}
use mathlib.Core.List.{List, [], ◌∷◌}
use lib.ListN.{length, get_or, take, drop, set, length-set}
use lib.Seq.{get_or-set_same, get_or-set_other, get_or-take, take-take, take-nil, take-set-le}
use Rattle.rules.specs.Bytes.{part}
use Rattle.rules.specs.Layout.{places}
use Rattle.rules.specs.Model.{Model}
use Rattle.rules.specs.Machine.{Frame, push, max_frames}
use Rattle.frames.specs.Arrays.{frame_numbers, frame_bytes, stack_room, method_at, next_at, height_at, stack_at, HasFrame, HasStack, raised, laid, lowered}
use Rattle.machine.specs.Held.{stack_from, frame_with, frame_of, callers_of, FrameFits, Waits, Waiting, waiting, Held, held}

pub length_stack : (vs : List ℕ) (base h : ℕ) → length (stack_from vs base h) ≡ h
length_stack vs base zero = refl
length_stack vs base (suc h) = ap suc (length_stack vs base h)

suc_plus : (a b : ℕ) → suc a + b ≡ suc (a + b)
suc_plus a b = omega arith

-- the top values, and those below them
pub drop_stack : (vs : List ℕ) (base n h : ℕ) → drop n (stack_from vs base (n + h)) ≡ stack_from vs base h
drop_stack vs base zero h = let e : 0 + h ≡ h = omega arith in ap (stack_from vs base) e
drop_stack vs base (suc n) h = rw (suc_plus n h) (drop_stack vs base n h)

pub take_stack : (vs : List ℕ) (base n h : ℕ) → take n (stack_from vs base (n + h)) ≡ stack_from vs (base + h) n
take_stack vs base zero h = refl
take_stack vs base (suc n) h =
    let at : base + (n + h) ≡ base + h + n = omega arith in
    rw (suc_plus n h, at, take_stack vs base n h)

pub part_prefix : (l : List ℕ) (at n : ℕ) → part l at n ≡ drop at (take (at + n) l)
unfolding part
part_prefix l zero n = let e : n ≡ 0 + n = omega arith in ap (λ (k : ℕ). take k l) e
part_prefix [] (suc at) n = rw (take-nil n, take-nil (suc at + n))
part_prefix (x ∷ xs) (suc at) n = rw (suc_plus at n) (part_prefix xs at n)

-- two lists that begin alike
module _ (l l' : List ℕ) (n : ℕ) (same : take n l' ≡ take n l) where
  same_less : (m : ℕ) → m ≤ n → take m l' ≡ take m l
  same_less m h = sym (take-take m n l' h) ∙ ap (take m) same ∙ take-take m n l h

  same_at : (i : ℕ) → i < n → get_or l' i 0 ≡ get_or l i 0
  same_at i h = sym (get_or-take n l' i 0 h) ∙ ap (λ (x : List ℕ). get_or x i 0) same ∙ get_or-take n l i 0 h

  same_part : (at size : ℕ) → at + size ≤ n → part l' at size ≡ part l at size
  same_part at size h = part_prefix l' at size ∙ ap (drop at) (same_less (at + size) h) ∙ sym (part_prefix l at size)

  same_stack : (base h : ℕ) → base + h ≤ n → stack_from l' base h ≡ stack_from l base h
  same_stack base zero e = refl
  same_stack base (suc h) e = ap₂ (λ (x : ℕ) (xs : List ℕ). x ∷ xs) (same_at (base + h) (omega arith)) (same_stack base h (omega arith))

-- frames below n are as the arrays begin
module _ (M : Model) (fs fs' vs vs' : List ℕ) where
  pub callers_same : (n : ℕ) → take (frame_numbers * n) fs' ≡ take (frame_numbers * n) fs → take (frame_bytes * n) vs' ≡ take (frame_bytes * n) vs
      → Waits M (callers_of M fs vs n) → callers_of M fs' vs' n ≡ callers_of M fs vs n
  unfolding callers_of frame_of
  callers_same zero p q w = refl
  callers_same (suc k) p q w =
      let s = w.0 in
      let size = length_stack vs (stack_at k) (height_at fs k) in
      let m = same_at fs fs' (frame_numbers * suc k) p (frame_numbers * k) (omega arith) in
      let a = same_at fs fs' (frame_numbers * suc k) p (frame_numbers * k + 1) (omega arith) in
      let h = same_at fs fs' (frame_numbers * suc k) p (frame_numbers * k + 2) (omega arith) in
      let args = same_part vs vs' (frame_bytes * suc k) q (frame_bytes * k) (M.arity (M.function (method_at fs k))) (omega (arith, s.arity_few)) in
      let stack = same_stack vs vs' (frame_bytes * suc k) q (stack_at k) (height_at fs k) (omega (arith, s.room, s.short, size)) in
      rw (m, a, h, args, stack)
      (ap (λ (gs : List Frame). frame_of M fs vs k ∷ gs)
      (callers_same k (same_less fs fs' (frame_numbers * suc k) p (frame_numbers * k) (omega arith)) (same_less vs vs' (frame_bytes * suc k) q (frame_bytes * k) (omega arith)) w.1))

-- what is known of the arrays, in numbers
pub record Numbers (M : Model) (fs vs : List ℕ) (k : ℕ) : Type 0 where
  pub frame : HasFrame fs k
  pub stack : HasStack vs k
  pub method_present : method_at fs k < M.methods
  pub inside : next_at fs k ≤ length (M.body (method_at fs k))
  pub short : next_at fs k ≤ stack_room
  pub room : height_at fs k ≤ next_at fs k

pub fits_of : {M : Model} {fs vs : List ℕ} {k : ℕ} → Held M fs vs k → FrameFits M 0 (frame_of M fs vs k)
fits_of (held l s w) = s

pub waiting_of : {M : Model} {fs vs : List ℕ} {k : ℕ} → Held M fs vs k → Waiting M fs vs k
waiting_of (held l s w) = w

pub waits_of : {M : Model} {fs vs : List ℕ} {n : ℕ} → Waiting M fs vs n → Waits M (callers_of M fs vs n)
waits_of (waiting p q l w) = w

-- the arrays have room for frame k
pub has_frame : {M : Model} {fs vs : List ℕ} {n : ℕ} → Waiting M fs vs n → (k : ℕ) → k < max_frames → HasFrame fs k
has_frame (waiting p q l w) k h = record { few = h; long = p }

pub has_stack : {M : Model} {fs vs : List ℕ} {n : ℕ} → Waiting M fs vs n → (k : ℕ) → k < max_frames → HasStack vs k
has_stack (waiting p q l w) k h = record { few = h; long = q }

pub numbers_of : {M : Model} {fs vs : List ℕ} {k : ℕ} → Held M fs vs k → Numbers M fs vs k
unfolding frame_of
numbers_of {M} {fs} {vs} {k} (held l s w) =
    let size = length_stack vs (stack_at k) (height_at fs k) in
    record {
      frame = has_frame w k l;
      stack = has_stack w k l;
      method_present = s.method_present;
      inside = s.inside;
      short = s.short;
      room = omega (arith, s.room, size);
    }

-- stores at and above frame k leave the frames below as they were
module _ (M : Model) (fs fs' vs vs' : List ℕ) (k : ℕ) where
  pub waiting_same : take (frame_numbers * k) fs' ≡ take (frame_numbers * k) fs → take (frame_bytes * k) vs' ≡ take (frame_bytes * k) vs
      → length fs' ≡ length fs → length vs' ≡ length vs → Waiting M fs vs k → Waiting M fs' vs' k
  waiting_same p q e f (waiting a b n w) =
      waiting (omega (arith, e, a)) (omega (arith, f, b)) n (rw (callers_same M fs fs' vs vs' k p q w) w)

-- a store elsewhere changes no number
pub kept : (l : List ℕ) (at v i : ℕ) → (i ≡ at → ⊥) → get_or (set l at v) i 0 ≡ get_or l i 0
kept l at v i d = get_or-set_other l at i v 0 d

-- frame k by its numbers
pub frame_of_lem : (M : Model) (fs vs : List ℕ) (k : ℕ) {m at h : ℕ} → method_at fs k ≡ m → next_at fs k ≡ at → height_at fs k ≡ h
    → frame_of M fs vs k ≡ frame_with M vs k m at h
unfolding frame_of
frame_of_lem M fs vs k p q r = rw (p, q, r)

-- another height for frame k
pub lowered_frame : (M : Model) (fs vs : List ℕ) (k h : ℕ) → HasFrame fs k → frame_of M (lowered fs k h) vs k ≡ frame_with M vs k (method_at fs k) (next_at fs k) h
lowered_frame M fs vs k h f =
    frame_of_lem M (lowered fs k h) vs k (kept fs (frame_numbers * k + 2) h (frame_numbers * k) (λ e. omega arith))
    (kept fs (frame_numbers * k + 2) h (frame_numbers * k + 1) (λ e. omega arith)) (get_or-set_same fs (frame_numbers * k + 2) h 0 (omega arith))

-- there is room for a value on the stack of frame k
pub record StackRoom (fs vs : List ℕ) (k : ℕ) : Type 0 where
  pub frame : HasFrame fs k
  pub stack : HasStack vs k
  pub height : height_at fs k < stack_room

-- a value is put there
module _ (M : Model) (fs vs : List ℕ) (k v : ℕ) (r : StackRoom fs vs k) where
  laid_same : take (stack_at k + height_at fs k) (laid fs vs k v) ≡ take (stack_at k + height_at fs k) vs
  laid_same = take-set-le (stack_at k + height_at fs k) vs (stack_at k + height_at fs k) v (omega arith)

  pub pushed_frame : M.arity (M.function (method_at fs k)) ≤ places → frame_of M (raised fs k) (laid fs vs k v) k ≡ push v (frame_of M fs vs k)
  unfolding frame_of push
  pushed_frame a =
      let vs' = laid fs vs k v in
      let n = stack_at k + height_at fs k in
      let top : get_or vs' n 0 ≡ v = get_or-set_same vs n v 0 (omega (arith, r.stack, r.height)) in
      let rest = same_stack vs vs' n laid_same (stack_at k) (height_at fs k) (omega arith) in
      let args = same_part vs vs' n laid_same (frame_bytes * k) (M.arity (M.function (method_at fs k))) (omega arith) in
      lowered_frame M fs vs' k (height_at fs k + 1) r.frame ∙ rw (add-one (height_at fs k), top, rest, args)

  pub pushed_callers : Waiting M fs vs k → (callers_of M (raised fs k) (laid fs vs k v) k ≡ callers_of M fs vs k) × Waiting M (raised fs k) (laid fs vs k v) k
  pushed_callers w =
      let p = take-set-le (frame_numbers * k) fs (frame_numbers * k + 2) (height_at fs k + 1) (omega arith) in
      let q = take-set-le (frame_bytes * k) vs (stack_at k + height_at fs k) v (omega arith) in (
        callers_same M fs (raised fs k) vs (laid fs vs k v) k p q (waits_of w),
        waiting_same M fs (raised fs k) vs (laid fs vs k v) k p q (length-set fs (frame_numbers * k + 2) (height_at fs k + 1)) (length-set vs (stack_at k + height_at fs k) v) w,
      )
