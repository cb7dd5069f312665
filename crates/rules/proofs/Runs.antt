-- One law over runs. Let a relation hold between a frame above its callers and another, perhaps of another bundle. Where both settle alike and each turn keeps it,
-- two runs that open alike make equal steps, end alike, meet corresponding sends and come to corresponding resends. An invariant of one run is such a relation
-- between the run and itself.
-- Assumes nothing.
use Prim.Native.Nat.{ℕ, zero, suc, ◌+◌, ◌≤◌}
use native.Mathlib.Omega.{arith}
use mathlib.Core.Path.{◌≡◌, refl, ap}
use mathlib.Core.Bool.{Bool, true, false, cond}
use mathlib.Core.Logic.{◌⊎◌, inl, inr, ⊎_elim}
use mathlib.Core.List.Memᴰ
use mathlib.Core.List.{List, [], ◌∷◌, ◌++◌, Memᴰ}
use lib.ListN.{drop}
use Rattle.rules.specs.Model.{Model, Instr}
use Rattle.rules.specs.Machine.{Frame, Ending, value, spent, Resumption, goes, ends, Turn, made, failed, Settled, unfinished, returned, unbalanced, settle, push, proceed, return_to, resume, call, turn, Send, meeting, sent, Resend, resent, progress, landed, counted, start, pace_from, pace, sent_next, resent_next, Run, ending_now, finished, meets, run_from, run}

-- a frame with its next instruction back at the head of what is left
abbrev pub before : Instr → Frame → Frame
before i g = record { method = g.method; args = g.args; at = g.at; rest = i ∷ g.rest; stack = g.stack }

abbrev pub OnFrames : Type 1
OnFrames = Frame → List Frame → Frame → List Frame → Type 0

-- two frames that settle, two turns, and where two runs go on, alike under a relation of frames above their callers and one of endings
pub data SettleAlike (R : OnFrames) (E : Ending → Ending → Type 0) : Settled → List Frame → Settled → List Frame → Type 0 where
  both_unfinished : {i : Instr} {g h : Frame} {gs hs : List Frame} → R (before i g) gs (before i h) hs → SettleAlike R E (unfinished i g) gs (unfinished i h) hs
  both_valued : {v w : ℕ} → E (value v) (value w) → SettleAlike R E (returned v) [] (returned w) []
  both_returned : {v w : ℕ} {g h : Frame} {gs hs : List Frame} → R (push v g) gs (push w h) hs → SettleAlike R E (returned v) (g ∷ gs) (returned w) (h ∷ hs)
  both_unbalanced : {e d : Ending} {gs hs : List Frame} → E e d → SettleAlike R E (unbalanced e) gs (unbalanced d) hs

pub data TurnAlike (R : OnFrames) (E : Ending → Ending → Type 0) : Turn → Turn → Type 0 where
  both_made : {g h : Frame} {gs hs : List Frame} → R g gs h hs → TurnAlike R E (made g gs) (made h hs)
  both_failed : {e d : Ending} → E e d → TurnAlike R E (failed e) (failed d)

pub data ResumeAlike (R : OnFrames) (E : Ending → Ending → Type 0) : Resumption → Resumption → Type 0 where
  both_go : {i : Instr} {g h : Frame} {gs hs : List Frame} → R (before i g) gs (before i h) hs → ResumeAlike R E (goes i g gs) (goes i h hs)
  both_end : {e d : Ending} → E e d → ResumeAlike R E (ends e) (ends d)

abbrev pub OnLists : Type 0 → Type 1
OnLists A = List A → List A → Type 0

-- a relation of lists that holds of empty ones, and of lists joined end to end
pub record Joins {A : Type 0} (S : OnLists A) : Type 0 where
  pub of_none : S [] []
  pub of_both : (xs ys us vs : List A) → S xs ys → S us vs → S (xs ++ us) (ys ++ vs)

-- the relation is kept; S says which sends correspond, and T which resends
pub record Kept (M N : Model) (R : OnFrames) (E : Ending → Ending → Type 0) (S : OnLists Send) (T : OnLists Resend) : Type 0 where
  pub settling : (g : Frame) (gs : List Frame) (h : Frame) (hs : List Frame) → R g gs h hs → SettleAlike R E (settle g) gs (settle h) hs
  pub turning : (i : Instr) (g : Frame) (gs : List Frame) (h : Frame) (hs : List Frame) → R (before i g) gs (before i h) hs
      → TurnAlike R E (turn M i g gs) (turn N i h hs) × S (sent M i g) (sent N i h) × T (resent M i g) (resent N i h)
  pub of_sends : Joins S
  pub of_resends : Joins T

-- two runs with so many paces: both Spent with all of them made, or ended alike with no more
pub record RunAlike (E : Ending → Ending → Type 0) (S : OnLists Send) (T : OnLists Resend) (most : ℕ) (r s : Run) : Type 0 where
  pub steps : r.outcome.steps ≡ s.outcome.steps
  pub few : r.outcome.steps ≤ most
  pub ending : ((r.outcome.ending ≡ spent) × (s.outcome.ending ≡ spent) × (r.outcome.steps ≡ most)) ⊎ E r.outcome.ending s.outcome.ending
  pub met : S r.met s.met
  pub resends : T r.resends s.resends

-- a run that has ended stays as it is
pub ended_stays : (M : Model) (left : ℕ) (e : Ending) (n : ℕ) → run_from M left (progress (ends e) n) ≡ finished M (progress (ends e) n)
unfolding run_from meets pace pace_from sent_next resent_next
ended_stays M zero e n = refl
ended_stays M (suc left) e n = ended_stays M left e n

module _ {M N : Model} {R : OnFrames} {E : Ending → Ending → Type 0} {S : OnLists Send} {T : OnLists Resend} (k : Kept M N R E S T) where
  proceed_alike : {gs hs : List Frame} {a b : Settled} → SettleAlike R E a gs b hs
      → ((v w : ℕ) → SettleAlike R E (returned v) gs (returned w) hs → ResumeAlike R E (return_to gs v) (return_to hs w))
      → ResumeAlike R E (proceed a gs (λ v. return_to gs v)) (proceed b hs (λ v. return_to hs v))
  unfolding proceed
  proceed_alike (both_unfinished r) rest = both_go r
  proceed_alike (both_unbalanced e) rest = both_end e
  proceed_alike (both_valued {v} {w} e) rest = rest v w (both_valued e)
  proceed_alike (both_returned {v} {w} r) rest = rest v w (both_returned r)

  return_alike : (gs hs : List Frame) (v w : ℕ) → SettleAlike R E (returned v) gs (returned w) hs → ResumeAlike R E (return_to gs v) (return_to hs w)
  unfolding return_to
  return_alike [] [] v w (both_valued e) = both_end e
  return_alike [] (h ∷ hs) v w a = elim a [ ]
  return_alike (g ∷ gs) [] v w a = elim a [ ]
  return_alike (g ∷ gs) (h ∷ hs) v w (both_returned r) = proceed_alike (k.settling (push v g) gs (push w h) hs r) (λ x y a. return_alike gs hs x y a)

  landed_alike : {t u : Turn} → TurnAlike R E t u → ResumeAlike R E (landed t) (landed u)
  unfolding landed resume
  landed_alike (both_made {g} {h} {gs} {hs} r) = proceed_alike (k.settling g gs h hs r) (λ v w a. return_alike gs hs v w a)
  landed_alike (both_failed d) = both_end d

  ended_alike : (left n most : ℕ) (e d : Ending) → n ≤ most → E e d → RunAlike E S T most (run_from M left (progress (ends e) n)) (run_from N left (progress (ends d) n))
  unfolding finished ending_now resent_next
  ended_alike left n most e d h a =
      rw (ended_stays M left e n, ended_stays N left d n) (record { steps = refl; few = h; ending = inr a; met = k.of_sends.of_none; resends = k.of_resends.of_none })

  -- a turn that is made counts as a step, one that fails ends the run
  turned_alike : (left n : ℕ) {t u : Turn} → TurnAlike R E t u
      → ((l o : Resumption) → ResumeAlike R E l o → RunAlike E S T (n + 1 + left) (run_from M left (progress l (n + 1))) (run_from N left (progress o (n + 1))))
      → RunAlike E S T (n + suc left) (run_from M left (progress (landed t) (counted t n))) (run_from N left (progress (landed u) (counted u n)))
  unfolding landed resume counted
  turned_alike left n (both_made {g} {h} {gs} {hs} r) rest =
      let same : n + 1 + left ≡ n + suc left = omega arith in rw same at (rest (resume g gs) (resume h hs) (landed_alike (both_made r)))
  turned_alike left n (both_failed {e} {d} a) rest = ended_alike left n (n + suc left) e d (omega arith) a

  rest_alike : (left : ℕ) {l o : Resumption} → ResumeAlike R E l o → (n : ℕ) → RunAlike E S T (n + left) (run_from M left (progress l n)) (run_from N left (progress o n))
  unfolding run_from finished ending_now meets pace pace_from sent_next resent_next
  rest_alike zero (both_go {i} {g} {h} {gs} {hs} r) n =
      let (t, s, c) = k.turning i g gs h hs r in
      record { steps = refl; few = omega arith; ending = inl (refl, refl, omega arith); met = k.of_sends.of_none; resends = c }
  rest_alike zero (both_end {e} {d} a) n = ended_alike zero n (n + zero) e d (omega arith) a
  rest_alike (suc left) (both_end {e} {d} a) n = ended_alike (suc left) n (n + suc left) e d (omega arith) a
  rest_alike (suc left) (both_go {i} {g} {h} {gs} {hs} r) n =
      let (t, s, c) = k.turning i g gs h hs r in
      let a = turned_alike left n t (λ l o m. rest_alike left m (n + 1)) in
      record {
        steps = a.steps;
        few = a.few;
        ending = a.ending;
        met = k.of_sends.of_both (sent M i g) (sent N i h) _ _ s a.met;
        resends = k.of_resends.of_both (resent M i g) (resent N i h) _ _ c a.resends;
      }

  pub run_alike : (f e : ℕ) (xs ys : List ℕ) → TurnAlike R E (call M f xs []) (call N e ys []) → S (meeting M f xs ∷ []) (meeting N e ys ∷ [])
      → (count : ℕ) → RunAlike E S T count (run M f xs count) (run N e ys count)
  unfolding run start meets
  run_alike f e xs ys t s count =
      let same : 0 + count ≡ count = omega arith in
      let a = rw same at (rest_alike count (landed_alike t) 0) in
      record {
        steps = a.steps;
        few = a.few;
        ending = a.ending;
        met = k.of_sends.of_both (meeting M f xs ∷ []) (meeting N e ys ∷ []) _ _ s a.met;
        resends = a.resends;
      }

-- where it holds of Spent it holds of every ending
pub ends_so : (E : Ending → Type 0) {A : Type 0} (e : Ending) → E spent → ((e ≡ spent) × A) ⊎ E e → E e
ends_so E e s (inl q) = rw q.0 s
ends_so E e s (inr h) = h

-- An invariant of one run: of each frame above its callers, of each ending but Spent, of each send and of each resend.
abbrev pub Settles : (Frame → List Frame → Type 0) → (Ending → Type 0) → Settled → List Frame → Type 0
Settles R E (unfinished i g) gs = R (before i g) gs
Settles R E (returned v) [] = E (value v)
Settles R E (returned v) (h ∷ hs) = R (push v h) hs
Settles R E (unbalanced e) gs = E e

abbrev pub Turns : (Frame → List Frame → Type 0) → (Ending → Type 0) → Turn → Type 0
Turns R E (made g gs) = R g gs
Turns R E (failed e) = E e

abbrev pub Each : {A : Type 0} → (A → Type 0) → List A → Type 0
Each {A} P xs = (x : A) → Memᴰ x xs → P x

pub record Invariant (M : Model) (R : Frame → List Frame → Type 0) (E : Ending → Type 0) (S : Send → Type 0) (T : Resend → Type 0) : Type 0 where
  pub settling : (g : Frame) (gs : List Frame) → R g gs → Settles R E (settle g) gs
  pub turning : (i : Instr) (g : Frame) (gs : List Frame) → R (before i g) gs
      → Turns R E (turn M i g gs) × Each S (sent M i g) × Each T (resent M i g)

-- of none, and of a list joined to another
module _ {A : Type 0} (P : A → Type 0) where
  pub each_none : Each P []
  each_none x m = absurd (Memᴰ.not-nil m)

  pub each_one : {y : A} → P y → Each P (y ∷ [])
  each_one h x m = rw (Memᴰ.eq_of_singleton m) h

  each_joins : Joins (λ xs ys. Each P xs)
  each_joins = record { of_none = each_none; of_both = λ xs ys us vs p q x m. ⊎_elim (λ n. p x n) (λ n. q x n) (Memᴰ.append_cases xs m) }

module _ (R : Frame → List Frame → Type 0) (E : Ending → Type 0) where
  -- a turn that is made or fails by a test
  pub cond_turns : (t : Bool) (p q : Turn) → Turns R E p → Turns R E q → Turns R E (cond t p q)
  cond_turns true p q h n = h
  cond_turns false p q h n = n

  abbrev SameFrames : OnFrames
  SameFrames g gs h hs = (g ≡ h) × (gs ≡ hs) × R g gs

  same_settled : (a : Settled) (gs : List Frame) → Settles R E a gs → SettleAlike SameFrames (λ e d. E e) a gs a gs
  same_settled (unfinished i g) gs r = both_unfinished (refl, refl, r)
  same_settled (returned v) [] e = both_valued e
  same_settled (returned v) (h ∷ hs) r = both_returned (refl, refl, r)
  same_settled (unbalanced e) gs d = both_unbalanced d

  same_turn : (t : Turn) → Turns R E t → TurnAlike SameFrames (λ e d. E e) t t
  same_turn (made g gs) r = both_made (refl, refl, r)
  same_turn (failed e) d = both_failed d

  -- a run that keeps it is Spent with all its steps made, or it holds of the ending
  module _ {S : Send → Type 0} {T : Resend → Type 0} {M : Model} (k : Invariant M R E S T) where
    diagonal : Kept M M SameFrames (λ e d. E e) (λ xs ys. Each S xs) (λ xs ys. Each T xs)
    diagonal =
        record {
          settling = λ g gs h hs r. rw (← r.0, ← r.1) (same_settled (settle g) gs (k.settling g gs r.2));
          turning = λ i g gs h hs r.
              let same : g ≡ h = ap (λ (f : Frame). record { method = f.method; args = f.args; at = f.at; rest = drop 1 f.rest; stack = f.stack }) r.0 in
              let (t, s, c) = k.turning i g gs r.2 in
              rw (← same, ← r.1) (same_turn (turn M i g gs) t, s, c);
          of_sends = each_joins S;
          of_resends = each_joins T;
        }

    pub run_keeps : (f : ℕ) (args : List ℕ) → Turns R E (call M f args []) → S (meeting M f args) → (count : ℕ)
        → let r = run M f args count in
        Each S r.met
        × Each T r.resends
        × (((r.outcome.ending ≡ spent) × (r.outcome.steps ≡ count)) ⊎ E r.outcome.ending)
        × (r.outcome.steps ≤ count)
    run_keeps f args t s count =
        let a = run_alike diagonal f f args args (same_turn (call M f args []) t) (each_one S s) count in
        (a.met, a.resends, ⊎_elim (λ q. inl (q.0, q.2)) (λ h. inr h) a.ending, a.few)
