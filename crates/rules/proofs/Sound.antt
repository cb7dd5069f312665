-- Demand 3 over the definitions. A value conforms to a static type; a frame is well typed where its method applies to its arguments and its stack conforms to the
-- types that the body check had there; each caller waits for a value under the result class of its callee's method. A turn keeps this, and only Spent and Deep end
-- a run early. So it is an invariant of the run.
-- Assumes nothing.
use Prim.Native.Nat.{ℕ, suc, ◌<◌}
use native.Mathlib.Omega.{arith}
use mathlib.Core.Path.{◌≡◌, refl, sym, ap, ◌∙◌}
use mathlib.Core.Bool.{Bool, true, false, cond, ◌&&◌, false≢true}
use mathlib.Core.List.Memᴰ
use mathlib.Core.List.{List, [], ◌∷◌, Memᴰ}
use lib.Dec.{leb, ltb}
use lib.ListN.{length, get_or, take, drop}
use borrow.Author.Tests.{ltb-true}
use Rattle.rules.specs.Bounded.{every, matching}
use Rattle.rules.specs.Model.{Model, Instr, arg, new, send, resend, Wellformed, operand_rule, model_of}
use Rattle.rules.specs.Subclass.{subclass, under}
use Rattle.rules.specs.Lookup.{Found, found, missing, ambiguous, applies, lookup}
use Rattle.rules.specs.Resend.{resend_target}
use Rattle.rules.specs.Types.{Static, in_type, licenses, send_type, arg_type, arg_types, arguments, suits, Typing, typed, breaks, Effect, leaves, breaks_by, send_effect, resend_effect, effect, ending, after_effect, type_from, type_body}
use Rattle.rules.specs.Coverage.{covers, declared_hold, holds, judge, concrete_class}
use Rattle.rules.specs.Machine.{Frame, Turn, settled, settle, push, enters, target_found, target, opened, enter, call_target, call, after, turn, meeting, sent, resent, run, max_frames}
use Rattle.rules.specs.Sound.{Covering, SoundSend, SoundResend, SoundEnding, SoundRun, Demand3}
use Rattle.rules.proofs.Lists.{and_left, and_right, and_both, every_mem, every_from, any_mem, get_d_mem, matching_length, matching_at, matching_from, matching_trans, matching_take, matching_drop, matching_reverse}
use Rattle.rules.proofs.Subclass.{subclass_itself, subclass_trans}
use Rattle.rules.proofs.Lookup.{lookup_leader}
use Rattle.rules.proofs.Resend.{found_target, overridden_applies}
use Rattle.rules.proofs.Types.{Licence, result_licence, arg_types_length, arg_type_at}
use Rattle.rules.proofs.Coverage.{concrete_present, concretes_present, Holding, judge_holds, Acceptable, accepted_acceptable}
use Rattle.rules.proofs.Wellformed.{opened_wellformed}
use Rattle.rules.proofs.Machine.{resend_enters}
use Rattle.rules.proofs.Runs.{before, Settles, Turns, Each, Invariant, each_none, each_one, cond_turns, run_keeps, ends_so}

-- A value conforms to a type when it is a concrete class under each class that generates the type.
unfoldable pub conforms : Model → ℕ → Static → Bool
conforms M v t = concrete_class M v && every (λ g. subclass M v g) t

conforms_concrete : (M : Model) (v : ℕ) (t : Static) → conforms M v t ≡ true → concrete_class M v ≡ true
unfolding conforms
conforms_concrete M v t e = and_left (concrete_class M v) (every (λ g. subclass M v g) t) e

conforms_from : (M : Model) (v : ℕ) (t : Static) → concrete_class M v ≡ true → ((g : ℕ) → Memᴰ g t → subclass M v g ≡ true) → conforms M v t ≡ true
unfolding conforms
conforms_from M v t c h = and_both (concrete_class M v) (every (λ g. subclass M v g) t) c (every_from (λ g. subclass M v g) t h)

-- values that conform are concrete
all_concrete : (M : Model) (vs : List ℕ) (ts : List Static) → matching (conforms M) vs ts ≡ true → every (concrete_class M) vs ≡ true
unfolding matching every
all_concrete M [] [] e = refl
all_concrete M [] (t ∷ ts) e = absurd (false≢true e)
all_concrete M (v ∷ vs) [] e = absurd (false≢true e)
all_concrete M (v ∷ vs) (t ∷ ts) e =
    and_both (concrete_class M v) (every (concrete_class M) vs)
    (conforms_concrete M v t (and_left (conforms M v t) (matching (conforms M) vs ts) e))
    (all_concrete M vs ts (and_right (conforms M v t) (matching (conforms M) vs ts) e))

-- What a typed instruction and a typed end say.
typed_step : (e : Effect) (at : ℕ) (k : List Static → Typing) → after_effect e at k ≡ typed → (next : List Static) × (e ≡ leaves next) × (k next ≡ typed)
unfolding after_effect
typed_step (leaves next) at k e = (next, refl, e)
typed_step (breaks_by number) at k e = absurd (false≢true (cc))

typed_new : (t : Bool) (next stack : List Static) → cond t (leaves next) (breaks_by 15) ≡ leaves stack → (t ≡ true) × (stack ≡ next)
typed_new true next stack e = (refl, cc)
typed_new false next stack e = absurd (false≢true (cc))

typed_enough : (t : Bool) (r : Effect) (stack : List Static) → cond t r (breaks_by 14) ≡ leaves stack → (t ≡ true) × (r ≡ leaves stack)
typed_enough true r stack e = (refl, e)
typed_enough false r stack e = absurd (false≢true (cc))

typed_send : (t : Static) (below stack : List Static) → send_effect t below ≡ leaves stack → (stack ≡ t ∷ below) × (0 < length t)
unfolding send_effect
typed_send [] below stack e = absurd (false≢true (cc))
typed_send (c ∷ cs) below stack e = (cc, omega arith)

typed_resend : (M : Model) (m : ℕ) (stack : List Static) (r : Found) (next : List Static) → resend_effect M m stack r ≡ leaves next
    → (n : ℕ) × (r ≡ found n) × (suits M m n ≡ true) × (next ≡ (M.result n ∷ []) ∷ stack)
unfolding resend_effect
typed_resend M m stack missing next e = absurd (false≢true (cc))
typed_resend M m stack (ambiguous a b) next e = absurd (false≢true (cc))
typed_resend M m stack (found n) next e = let (s, q) = go (suits M m n) e in (n, refl, s, q)
  where
    go : (t : Bool) → cond t (leaves ((M.result n ∷ []) ∷ stack)) (breaks_by 27) ≡ leaves next → (t ≡ true) × (next ≡ (M.result n ∷ []) ∷ stack)
    go true q = (refl, cc)
    go false q = absurd (false≢true (cc))

typed_result : (t : Bool) (at : ℕ) → cond t typed (breaks 17 at) ≡ typed → t ≡ true
typed_result true at e = refl
typed_result false at e = absurd (false≢true (cc))

some_member : (xs : List ℕ) → 0 < length xs → (x : ℕ) × Memᴰ x xs
some_member [] h = absurd (omega arith)
some_member (x ∷ xs) h = (x, Memᴰ.head refl)

-- A frame of method m at an instruction of its body: the method applies to the arguments, its declared classes hold them, and the body check typed what is left.
pub record WellTyped (M : Model) (m : ℕ) (args : List ℕ) (at : ℕ) (rest : List Instr) (stack : List ℕ) : Type 0 where
  pub bound : m < M.methods
  pub applying : applies M args m ≡ true
  pub concrete : every (concrete_class M) args ≡ true
  pub declared_holds : declared_hold M m args ≡ true
  pub types : List Static
  pub conforming : matching (conforms M) stack types ≡ true
  pub typing : type_from M m at types rest ≡ typed
  pub operands : every (operand_rule M (M.arity (M.function m))) rest ≡ true

module _ (M : Model) (w : Wellformed M) where
  conforms_in : (v : ℕ) (t : Static) (b : ℕ) → conforms M v t ≡ true → in_type M t b ≡ true → subclass M v b ≡ true
  unfolding conforms in_type
  conforms_in v t b e i =
      let (g, m, u) = any_mem (λ g. subclass M g b) t i in
      subclass_trans M w v g b (concrete_present M v (conforms_concrete M v t e))
      (every_mem (λ g. subclass M v g) t (and_right (concrete_class M v) (every (λ g. subclass M v g) t) e) m) u

  -- arguments that conform to the types of a send are covered by each signature that licenses it
  licence_covers : (f : ℕ) (vs : List ℕ) (ts : List Static) → matching (conforms M) vs ts ≡ true → (s : ℕ) → Licence M f ts s → Covering M f vs s
  unfolding licenses covers under
  licence_covers f vs ts e s l =
      record {
        present = l.present;
        of_function = l.of_function;
        covered = matching_trans (conforms M) (in_type M) (subclass M) vs ts (M.sig_args s) (λ v t b m. conforms_in v t b) e l.licensed;
      }

  -- an argument conforms to the type of its ARG
  argument_conforms : (m : ℕ) (args : List ℕ) (i : ℕ) → every (concrete_class M) args ≡ true → applies M args m ≡ true → declared_hold M m args ≡ true
      → i < length args → conforms M (get_or args i 0) (arg_type M m i) ≡ true
  unfolding applies declared_hold under arg_type conforms every
  argument_conforms m args i c a d h =
      and_both (concrete_class M (get_or args i 0)) _
      (every_mem (concrete_class M) args c (get_d_mem args i 0 h))
      (and_both (subclass M (get_or args i 0) (get_or (M.specialisers m) i 0)) _ (matching_at (subclass M) args (M.specialisers m) 0 0 a i h)
      (and_both (subclass M (get_or args i 0) (get_or (M.declared m) i 0)) true (matching_at (subclass M) args (M.declared m) 0 0 d i h) refl))

  -- so the declared classes of a method that they suit hold them
  suited_held : (m : ℕ) → m < M.methods → (args : List ℕ) → every (concrete_class M) args ≡ true → applies M args m ≡ true → declared_hold M m args ≡ true
      → (n : ℕ) → suits M m n ≡ true → declared_hold M n args ≡ true
  unfolding applies declared_hold under suits
  suited_held m bound args c a d n s =
      let many = matching_length (subclass M) args (M.specialisers m) a in
      let long = w.specialiser_places m bound in
      let known =
      matching_from (conforms M) args (arg_types M m) 0 (arg_type M m 0) (many ∙ long ∙ sym (arg_types_length M m))
      (λ i h. rw (arg_type_at M m i (omega (arith, h, many, long))) (argument_conforms m args i c a d h)) in
      matching_trans (conforms M) (in_type M) (subclass M) args (arg_types M m) (M.declared n) (λ v t b k. conforms_in v t b) known s

target_enters : (M : Model) (f : ℕ) (args : List ℕ) (m : ℕ) → lookup M f args ≡ found m → declared_hold M m args ≡ true → target M f args ≡ enters m
unfolding target target_found
target_enters M f args m l d = rw (l, d)

-- The invariant of a run that opened with a send of f₀.
module _ (M : Model) (f₀ : ℕ) (args₀ : List ℕ) where
  -- a caller waits for the value of method m: with any concrete class under the method's result class, it is well typed
  abbrev Waits : ℕ → Frame → Type 0
  Waits m h = (v : ℕ) → concrete_class M v ≡ true → subclass M v (M.result m) ≡ true → WellTyped M h.method h.args h.at h.rest (v ∷ h.stack)

  -- the callers below a frame of method m; with none, its result class is under those of all signatures that cover the opening send
  abbrev Callers : ℕ → List Frame → Type 0
  Callers m [] = (s : ℕ) → Covering M f₀ args₀ s → subclass M (M.result m) (M.sig_result s) ≡ true
  Callers m (h ∷ hs) = Waits m h × Callers h.method hs

  abbrev SoundFrame : Frame → List Frame → Type 0
  SoundFrame g gs = WellTyped M g.method g.args g.at g.rest g.stack × Callers g.method gs

module _ (M : Model) (w : Wellformed M) (ok : Acceptable M) where
  -- every signature that covers concrete arguments judges by the method that lookup finds for them
  judged_by : (f : ℕ) (args : List ℕ) (m s : ℕ) → every (concrete_class M) args ≡ true → lookup M f args ≡ found m → Covering M f args s
      → (judge M s args ≡ holds m) × Holding M s args m
  judged_by f args m s c l v =
      let (n, j) = ok.signatures s v.present args c v.covered in
      let d = judge_holds M s args n j in
      let same : n ≡ m = cc (d.by_lookup, ap (λ (k : ℕ). lookup M k args) v.of_function) in
      (rw same at j, rw same at d)

  -- a typed body ends with one value, and it is under the result class
  one_left : (m at : ℕ) (vs : List ℕ) (ts : List Static) → matching (conforms M) vs ts ≡ true → type_from M m at ts [] ≡ typed
      → (v : ℕ) × (vs ≡ v ∷ []) × (concrete_class M v ≡ true) × (subclass M v (M.result m) ≡ true)
  unfolding matching type_from ending
  one_left m at vs [] c e = absurd (false≢true (cc))
  one_left m at [] (u ∷ []) c e = absurd (false≢true c)
  one_left m at (v ∷ []) (u ∷ []) c e =
      let one = and_left (conforms M v u) true c in
      (v, refl, conforms_concrete M v u one, conforms_in M w v u (M.result m) one (typed_result (in_type M u (M.result m)) at e))
  one_left m at (v ∷ x ∷ vs) (u ∷ []) c e = absurd (false≢true (and_right (conforms M v u) false c))
  one_left m at vs (u ∷ x ∷ rest) c e = absurd (false≢true (cc))

  module _ (f₀ : ℕ) (args₀ : List ℕ) where
    abbrev SoundTurn : Turn → Type 0
    SoundTurn = Turns (SoundFrame M f₀ args₀) (SoundEnding M f₀ args₀)

    settled_sound : (rest : List Instr) (stack : List ℕ) (g : Frame) (gs : List Frame) → WellTyped M g.method g.args g.at rest stack
        → Callers M f₀ args₀ g.method gs → Settles (SoundFrame M f₀ args₀) (SoundEnding M f₀ args₀) (settled rest stack g) gs
    unfolding settled push
    settled_sound (i ∷ rest) stack g gs t b = (t, b)
    settled_sound [] [] g gs t b = let (v, q, c, u) = one_left g.method g.at [] t.types t.conforming t.typing in absurd (false≢true (cc))
    settled_sound [] (v ∷ []) g [] t b =
        let (x, q, c, u) = one_left g.method g.at (v ∷ []) t.types t.conforming t.typing in
        let same : x ≡ v = cc in
        let concrete : concrete_class M v ≡ true = rw same at c in
        (concrete, λ s k. subclass_trans M w v (M.result g.method) (M.sig_result s) (concrete_present M v concrete) (rw same at u) (b s k))
    settled_sound [] (v ∷ []) g (h ∷ hs) t b =
        let (x, q, c, u) = one_left g.method g.at (v ∷ []) t.types t.conforming t.typing in
        let same : x ≡ v = cc in
        (b.0 v (rw same at c) (rw same at u), b.1)
    settled_sound [] (v ∷ x ∷ vs) g gs t b =
        let (y, q, c, u) = one_left g.method g.at (v ∷ x ∷ vs) t.types t.conforming t.typing in absurd (false≢true (cc))

    -- a method that applies, with declared classes that hold the arguments, opens a well-typed frame or is Deep
    enter_sound : (m : ℕ) (args : List ℕ) (gs : List Frame) → m < M.methods → applies M args m ≡ true → every (concrete_class M) args ≡ true
        → declared_hold M m args ≡ true → Callers M f₀ args₀ m gs → SoundTurn (enter M m args gs)
    unfolding enter opened type_body matching
    enter_sound m args gs bound a c d b =
        cond_turns (SoundFrame M f₀ args₀) (SoundEnding M f₀ args₀) (ltb (length gs) max_frames) _ _ (
          record {
            bound = bound;
            applying = a;
            concrete = c;
            declared_holds = d;
            types = [];
            conforming = refl;
            typing = ok.bodies m bound;
            operands = w.body_operands m bound;
          },
          b,
        ) tt

    -- a covered send of concrete classes finds its method, and enters it
    call_sound : (f : ℕ) (args : List ℕ) (gs : List Frame) (s : ℕ) → Covering M f args s → every (concrete_class M) args ≡ true
        → ((m : ℕ) → lookup M f args ≡ found m → Callers M f₀ args₀ m gs) → SoundSend M (meeting M f args) × SoundTurn (call M f args gs)
    unfolding meeting call call_target
    call_sound f args gs s v c b =
        let (m, j) = ok.signatures s v.present args c v.covered in
        let d = judge_holds M s args m j in
        let l : lookup M f args ≡ found m = rw v.of_function at d.by_lookup in
        let t = target_enters M f args m l d.declared_holds in
        let n = (lookup_leader M f args m l).candidate in (
          record {
            signature = s;
            covering = v;
            concrete = c;
            method = m;
            by_lookup = l;
            by_run = t;
            by_check = λ r k. (judged_by f args m r c l k).0;
            declared_holds = d.declared_holds;
          },
          rw t (enter_sound m args gs n.bound n.applying c d.declared_holds (b m l)),
        )

    -- the frame after an instruction, with these types on its stack
    passed : (i : Instr) (g : Frame) (a : WellTyped M g.method g.args g.at (i ∷ g.rest) g.stack) (stack : List ℕ) (types : List Static)
        → matching (conforms M) stack types ≡ true → type_from M g.method (suc g.at) types g.rest ≡ typed
        → WellTyped M g.method g.args (suc g.at) g.rest stack
    unfolding every
    passed i g a stack types c e =
        record {
          bound = a.bound;
          applying = a.applying;
          concrete = a.concrete;
          declared_holds = a.declared_holds;
          types = types;
          conforming = c;
          typing = e;
          operands = and_right (operand_rule M (M.arity (M.function g.method)) i) (every (operand_rule M (M.arity (M.function g.method))) g.rest) a.operands;
        }

    -- the arguments of a send conform to the types at their places
    arguments_conform : (n : ℕ) (stack : List ℕ) (types : List Static) → matching (conforms M) stack types ≡ true
        → matching (conforms M) (arguments n stack) (arguments n types) ≡ true
    unfolding arguments
    arguments_conform n stack types e = matching_reverse (conforms M) (take n stack) (take n types) (matching_take (conforms M) n stack types e)

    -- an instruction of a well-typed frame: what it comes to is sound, and so are the sends that it meets and the resends that it comes to
    turn_sound : (i : Instr) (g : Frame) (gs : List Frame) → SoundFrame M f₀ args₀ (before i g) gs
        → SoundTurn (turn M i g gs) × Each (SoundSend M) (sent M i g) × Each (SoundResend M) (resent M i g)
    unfolding sent resent turn after type_from after_effect effect every operand_rule concrete_class applies under matching
    turn_sound (arg k) g gs (a, b) =
        let m = g.method in
        let inside : k < M.arity (M.function m) = ltb-true k (M.arity (M.function m)) (and_left (ltb k (M.arity (M.function m))) _ a.operands) in
        let many = matching_length (subclass M) g.args (M.specialisers m) a.applying in
        let c = argument_conforms M w m g.args k a.concrete a.applying a.declared_holds (omega (arith, inside, many, w.specialiser_places m a.bound)) in (
          (
            passed (arg k) g a (get_or g.args k 0 ∷ g.stack) (arg_type M m k ∷ a.types)
                (and_both (conforms M (get_or g.args k 0) (arg_type M m k)) (matching (conforms M) g.stack a.types) c a.conforming) a.typing,
            b,
          ),
          each_none (SoundSend M),
          each_none (SoundResend M),
        )
    turn_sound (new c) g gs (a, b) =
        let (next, q, e) = typed_step (effect M g.method a.types (new c)) g.at (λ next. type_from M g.method (suc g.at) next g.rest) a.typing in
        let (concrete, same) = typed_new (M.concrete c) ((c ∷ []) ∷ a.types) next q in
        let inside = and_left (ltb c M.classes) (every (operand_rule M (M.arity (M.function g.method))) g.rest) a.operands in
        let k =
        conforms_from M c (c ∷ []) (and_both (ltb c M.classes) (M.concrete c) inside concrete)
        (λ h m. rw (Memᴰ.eq_of_singleton m) (subclass_itself M c)) in (
          rw concrete (
            passed (new c) g a (c ∷ g.stack) ((c ∷ []) ∷ a.types)
                (and_both (conforms M c (c ∷ [])) (matching (conforms M) g.stack a.types) k a.conforming) (rw same at e),
            b,
          ),
          each_none (SoundSend M),
          each_none (SoundResend M),
        )
    turn_sound (send f) g gs (a, b) =
        let n = M.arity f in
        let values = arguments n g.stack in
        let types = arguments n a.types in
        let (next, q, e) = typed_step (effect M g.method a.types (send f)) g.at (λ next. type_from M g.method (suc g.at) next g.rest) a.typing in
        let (enough, r) = typed_enough (leb n (length a.types)) (send_effect (send_type M f types) (drop n a.types)) next q in
        let (same, some_result) = typed_send (send_type M f types) (drop n a.types) next r in
        let (c, i) = some_member (send_type M f types) some_result in
        let (s, l, p) = result_licence M f types i in
        let conforming = arguments_conform n g.stack a.types a.conforming in
        let concrete = all_concrete M values types conforming in
        let (x, t) =
        call_sound f values (after g (drop n g.stack) ∷ gs) s (licence_covers M w f values types conforming s l) concrete
        -- the sender waits for a value under the result of the method found, which is under those of all licensing signatures
        (λ m k. (
          λ v d u. passed (send f) g a (v ∷ drop n g.stack) (send_type M f types ∷ drop n a.types)
              (and_both (conforms M v (send_type M f types)) (matching (conforms M) (drop n g.stack) (drop n a.types))
              (conforms_from M v (send_type M f types) d
              (λ h z. let (o, j, y) = result_licence M f types z in
              rw (← y) (subclass_trans M w v (M.result m) (M.sig_result o) (concrete_present M v d) u
              (judged_by f values m o concrete k (licence_covers M w f values types conforming o j)).1.result_under)))
              (matching_drop (conforms M) n g.stack a.types a.conforming))
              (rw same at e),
          b,
        )) in
        let long : leb n (length g.stack) ≡ true = rw (matching_length (conforms M) g.stack a.types a.conforming) enough in
        rw long (t, each_one (SoundSend M) x, each_none (SoundResend M))
    turn_sound resend g gs (a, b) =
        let m = g.method in
        let (next, q, e) = typed_step (effect M m a.types resend) g.at (λ next. type_from M m (suc g.at) next g.rest) a.typing in
        let (n, r, s, same) = typed_resend M m a.types (resend_target M m) next q in
        let o = (found_target M m n r).chosen in
        let held = suited_held M w m a.bound g.args a.concrete a.applying a.declared_holds n s in
        let applying = overridden_applies M w m a.bound n o g.args (concretes_present M g.args a.concrete) a.applying in
        let entered =
        enter_sound n g.args (after g g.stack ∷ gs) o.bound applying a.concrete held (
          λ v d u. passed resend g a (v ∷ g.stack) ((M.result n ∷ []) ∷ a.types)
              (and_both (conforms M v (M.result n ∷ [])) (matching (conforms M) g.stack a.types)
              (conforms_from M v (M.result n ∷ []) d (λ h z. rw (Memᴰ.eq_of_singleton z) u))
              a.conforming)
              (rw same at e),
          b,
        ) in
        rw (resend_enters M g gs n r held) (
          entered,
          each_none (SoundSend M),
          each_one (SoundResend M) (record { target = n; by_run = r; by_rule = r; concrete = a.concrete; specialisers_hold = applying; declared_holds = held }),
        )

    sound_kept : Invariant M (SoundFrame M f₀ args₀) (SoundEnding M f₀ args₀) (SoundSend M) (SoundResend M)
    unfolding settle
    sound_kept = record { settling = λ g gs r. settled_sound g.rest g.stack g gs r.0 r.1; turning = turn_sound }

  run_sound : (f : ℕ) (args : List ℕ) (s : ℕ) → Covering M f args s → every (concrete_class M) args ≡ true → (count : ℕ)
      → SoundRun M f args (run M f args count)
  run_sound f args s v c count =
      let (x, t) = call_sound f args f args [] s v c (λ m l r k. (judged_by f args m r c l k).1.result_under) in
      let (p, r, q, n) = run_keeps (SoundFrame M f args) (SoundEnding M f args) (sound_kept f args) f args t x count in
      record { sends = p; resends = r; ending = ends_so (SoundEnding M f args) _ tt q }

-- soundness of the whole run (M 9.1)
pub demand_3 : Demand3
demand_3 b counts o a f args s v c count =
    run_sound (model_of b) (opened_wellformed b counts o) (accepted_acceptable (model_of b) a) f args s v c count
