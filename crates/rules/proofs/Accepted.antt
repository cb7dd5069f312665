-- What an accepted check and a covered opening send give: a run of the same bytes is sound.
-- Assumes nothing.
use Prim.Native.Nat.{ℕ, ◌≤◌}
use mathlib.Core.Path.{◌≡◌, refl, sym, ap, ◌∙◌}
use mathlib.Core.Bool.{Bool, true, false, ◌&&◌, false≢true}
use mathlib.Core.List.{List}
use lib.Dec.{leb, eqb}
use borrow.Author.Tests.{leb-true, le-leb, eqb-true, eq-eqb}
use Rattle.rules.specs.Numbers as numbers
use Rattle.rules.specs.Bounded.{upto, every}
use Rattle.rules.specs.Layout.{Answer, gives, refuses, opening, require}
use Rattle.rules.specs.Model.{Model, model_of}
use Rattle.rules.specs.Coverage.{covers, covers_send, is_covered, concrete_class, verdict}
use Rattle.rules.specs.Machine.{Outcome, run}
use Rattle.rules.specs.Calls.{on_opening, when_open, with_scratch, send_rule, used, run_rule, run_in, check_call, run_call}
use Rattle.rules.specs.Scratch.{scratch_bytes}
use Rattle.rules.specs.Sound.{Covering, SoundEnding}
use Rattle.rules.specs.Accepted.{ended, accepted_by, accepted_in, accepted_call, CoveredOpening, SoundAnswer, SoundEnd}
use Rattle.rules.proofs.Lists.{and_left, and_right, and_both, any_mem, any_from, upto_below, below_upto}
use Rattle.rules.proofs.Opening.{require_passed}
use Rattle.rules.proofs.Calls.{gives_same}
use Rattle.rules.proofs.Sound.{demand_3}

-- a call over scratch that gives something had an opened bundle and scratch enough
pub record Given {A : Type 0} (b : List ℕ) (scratch : ℕ) (call : Model → Answer A) (x : A) : Type 0 where
  pub counts : List ℕ
  pub opens : opening b ≡ gives counts
  pub enough : leb scratch_bytes scratch ≡ true
  pub gave : call (model_of b) ≡ gives x

pub given : {A : Type 0} (b : List ℕ) (scratch : ℕ) (call : Model → Answer A) (x : A) → with_scratch b scratch call ≡ gives x → Given b scratch call x
unfolding with_scratch when_open on_opening require
given {A} b scratch call x e = go (opening b) refl e
  where
    tested : (counts : List ℕ) → opening b ≡ gives counts → (t : Bool) → leb scratch_bytes scratch ≡ t → require t numbers.short_scratch (call (model_of b)) ≡ gives x
        → Given b scratch call x
    tested counts o true q r = record { counts = counts; opens = o; enough = q; gave = r }
    tested counts o false q r = absurd (false≢true (cc))

    go : (r : Answer (List ℕ)) → opening b ≡ r → on_opening r (model_of b) (λ M. require (leb scratch_bytes scratch) numbers.short_scratch (call M)) ≡ gives x
        → Given b scratch call x
    go (gives counts) o r = tested counts o (leb scratch_bytes scratch) refl r
    go (refuses number values) o r = absurd (false≢true (cc))

-- a call over scratch that is enough, on a bundle that opens
pub answered : {A : Type 0} (b : List ℕ) (scratch : ℕ) (call : Model → Answer A) {counts : List ℕ} → opening b ≡ gives counts → leb scratch_bytes scratch ≡ true
    → with_scratch b scratch call ≡ call (model_of b)
unfolding with_scratch when_open on_opening require
answered b scratch call o l = rw (o, l)

-- what covers a send, as a test and as a claim
module _ (M : Model) (f : ℕ) (args : List ℕ) where
  pub covered_by : is_covered M f args ≡ true → (s : ℕ) × Covering M f args s
  unfolding is_covered covers_send
  covered_by c =
      let (s, m, q) = any_mem (λ s. eqb (M.sig_function s) f && covers M s args) (upto M.signatures) c in (
        s,
        record {
          present = upto_below M.signatures m;
          of_function = eqb-true (M.sig_function s) f (and_left (eqb (M.sig_function s) f) (covers M s args) q);
          covered = and_right (eqb (M.sig_function s) f) (covers M s args) q;
        },
      )

  pub not_covered : is_covered M f args ≡ false → (s : ℕ) → Covering M f args s → ⊥
  unfolding is_covered covers_send
  not_covered e s c =
      false≢true
      (sym e
      ∙ any_from (λ s. eqb (M.sig_function s) f && covers M s args) (upto M.signatures) (below_upto M.signatures s c.present)
      (and_both (eqb (M.sig_function s) f) (covers M s args) (eq-eqb (M.sig_function s) f c.of_function) c.covered))

pub covered_opening : (M : Model) (f : ℕ) (tuple : List ℕ) → run_rule M f tuple ≡ true → is_covered M f (used M f tuple) ≡ true → CoveredOpening M f tuple
unfolding run_rule
covered_opening M f tuple e c =
    let (s, covering) = covered_by M f (used M f tuple) c in
    record {
      kept = and_left (send_rule M f tuple) (every (concrete_class M) (used M f tuple)) e;
      concrete = and_right (send_rule M f tuple) (every (concrete_class M) (used M f tuple)) e;
      signature = s;
      covering = covering;
    }

-- The run of a covered opening of a bundle that some check accepted is sound, and answers so with any scratch that is enough.
pub judged_alike : (b : List ℕ) (n : ℕ) → check_call b n ≡ gives tt → (k f : ℕ) (tuple : List ℕ) (count : ℕ) → scratch_bytes ≤ k → CoveredOpening (model_of b) f tuple
    → SoundAnswer (model_of b) f tuple count (run_call b k f tuple count)
unfolding check_call run_call run_in run_rule require
judged_alike b n c k f tuple count long w =
    let g = given b n verdict tt c in
    record {
      whole =
          demand_3 b g.counts g.opens g.gave f (used (model_of b) f tuple) w.signature w.covering w.concrete count;
      answer = answered b k (run_in f tuple count) g.opens (le-leb scratch_bytes k long) ∙ rw (w.kept, w.concrete);
    }

-- an outcome that is given is that of a sound run
pub answer_ending : (M : Model) (f : ℕ) (tuple : List ℕ) (count : ℕ) (o : Outcome) → SoundAnswer M f tuple count (gives o)
    → SoundEnding M f (used M f tuple) o.ending
answer_ending M f tuple count o s =
    let whole : o ≡ (run M f (used M f tuple) count).outcome = gives_same s.answer in
    let same : o.ending ≡ (run M f (used M f tuple) count).outcome.ending = ap (λ (x : Outcome). x.ending) whole in
    rw same s.whole.ending

ended_by : (v : Answer (Unit {0})) (c : Bool) (x o : Outcome) → accepted_by v c x ≡ ended o → (v ≡ gives tt) × (c ≡ true) × (x ≡ o)
unfolding accepted_by
ended_by (refuses number values) c x o e = absurd (false≢true (cc))
ended_by (gives accepted) false x o e = absurd (false≢true (cc))
ended_by (gives accepted) true x o e = (refl, refl, cc)

-- What the run of an accepted bundle ends with is sound.
pub accepted_sound : (b : List ℕ) (n f : ℕ) (tuple : List ℕ) (count : ℕ) (o : Outcome) → accepted_call b n f tuple count ≡ gives (ended o)
    → SoundEnd b n f tuple count o
unfolding accepted_call accepted_in check_call run_call run_in require
accepted_sound b n f tuple count o e =
    let M = model_of b in
    let g = given b n (accepted_in f tuple count) (ended o) e in
    let (kept, same) = require_passed (run_rule M f tuple) numbers.absent _ g.gave in
    let (accepted, covered, outcome) = ended_by (verdict M) (is_covered M f (used M f tuple)) (run M f (used M f tuple) count).outcome o (gives_same same) in
    let opening = covered_opening M f tuple kept covered in
    let check = answered b n verdict g.opens g.enough ∙ accepted in
    let ran : run_call b n f tuple count ≡ gives o = answered b n (run_in f tuple count) g.opens g.enough ∙ rw (kept, outcome) in
    let sound = rw ran at (judged_alike b n check n f tuple count (leb-true scratch_bytes n g.enough) opening) in
    record { accepted = check; covered = opening; ended = ran; sound = sound; ending = answer_ending M f tuple count o sound }
