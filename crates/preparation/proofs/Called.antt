-- What a call comes to: refused before its own rules, or ready for them.
-- Assumes nothing.
use Prim.Native.Nat.{ℕ, ◌≤◌, ◌<◌}
use Rattle.std.specs.Prelude.{Ok, Err}
use mathlib.Core.Path.{◌≡◌, refl, sym, ap, ◌∙◌}
use mathlib.Core.Bool.{Bool, true, false}
use mathlib.Core.List.{List, []}
use lib.Dec.{leb}
use lib.ListN.{length}
use borrow.Author.Tests.{le-leb, lt-leb}
use Rattle.rules.specs.Numbers as numbers
use Rattle.rules.specs.Layout.{Answer, gives, refuses, opening, require}
use Rattle.rules.specs.Model.{Model, model_of}
use Rattle.rules.specs.Calls.{on_opening, when_open, with_scratch, overwrite, scratch_on, scratch_after}
use Rattle.rules.specs.Scratch.{matrix_byte, scratch_bytes}
use Rattle.layout.specs.declared.bundle.Bundle.{Bundle}
use Rattle.layout.specs.Bundles.{model}
use Rattle.layout.specs.declared.open.OpenBundle.{OpenBundle}
use Rattle.answers.specs.declared.opening.LayoutFinding.{LayoutFinding}
use Rattle.answers.specs.declared.refusal.Refusal.{Refusal}
use Rattle.answers.specs.Opening.{layout_number, layout_values, Opens}
use Rattle.answers.specs.Refusals.{refusal_said}
use Rattle.preparation.specs.Begins.{begun, Begins}

-- A call that takes no scratch, on a bundle that opens and on one that does not.
module _ {A : Type 0} (b : List ℕ) (call : Model → Answer A) where
  pub not_opened : (f : LayoutFinding) → Opens b (Err f) → when_open b call ≡ refuses (layout_number f) (layout_values f)
  unfolding when_open on_opening
  not_opened f o = rw (sym o.answer)

  pub when_opened : {t : Bundle} → Opens b (Ok t) → when_open b call ≡ call (model_of b)
  unfolding when_open on_opening
  when_opened o = rw (sym o.answer)

-- The beginning of a call that takes scratch, and the scratch: as it was where the bundle does not open or the scratch is short, else the matrix.
module _ (b scratch : List ℕ) where
  pub unopened : {number : ℕ} {values : List ℕ} → refuses number values ≡ opening b
      → (refuses number values ≡ begun b (length scratch)) × (scratch ≡ scratch_after b scratch)
  unfolding begun with_scratch when_open on_opening scratch_after scratch_on
  unopened e = (rw (← e), rw (← e))

  pub short : {counts : List ℕ} → gives counts ≡ opening b → length scratch < scratch_bytes
      → (refuses numbers.short_scratch [] ≡ begun b (length scratch)) × (scratch ≡ scratch_after b scratch)
  unfolding begun with_scratch when_open on_opening require scratch_after scratch_on
  short e h = (rw (← e, lt-leb scratch_bytes (length scratch) h), rw (← e, lt-leb scratch_bytes (length scratch) h))

  pub enough : {counts : List ℕ} → gives counts ≡ opening b → scratch_bytes ≤ length scratch
      → (gives tt ≡ begun b (length scratch)) × (overwrite scratch_bytes (matrix_byte (model_of b)) scratch ≡ scratch_after b scratch)
  unfolding begun with_scratch when_open on_opening require scratch_after scratch_on
  enough e h = (rw (← e, le-leb scratch_bytes (length scratch) h), rw (← e, le-leb scratch_bytes (length scratch) h))

-- a call after what it begins with
abbrev after : {A : Type 0} → Answer (Unit {0}) → Answer A → Answer A
after (gives t) x = x
after (refuses number values) x = refuses number values

begun_after : {A : Type 0} (b : List ℕ) (n : ℕ) (call : Model → Answer A) → with_scratch b n call ≡ after (begun b n) (call (model_of b))
unfolding begun with_scratch when_open on_opening require
begun_after {A} b n call = go (opening b)
  where
    lent : (t : Bool) → require t numbers.short_scratch (call (model_of b)) ≡ after (require t numbers.short_scratch (gives tt)) (call (model_of b))
    lent true = refl
    lent false = refl

    go : (o : Answer (List ℕ)) → on_opening o (model_of b) (λ M. require (leb scratch_bytes n) numbers.short_scratch (call M))
        ≡ after (on_opening o (model_of b) (λ M. require (leb scratch_bytes n) numbers.short_scratch (gives tt))) (call (model_of b))
    go (gives counts) = lent (leb scratch_bytes n)
    go (refuses number values) = refl

-- The two laws of an entry point.
module _ {b scratch left : List ℕ} where
  -- refused before its own rules
  pub is_refused : {r : Refusal} → Begins b scratch left (Err r) → {A : Type 0} (call : Model → Answer A) → with_scratch b (length scratch) call ≡ refusal_said r
  is_refused h call = begun_after b (length scratch) call ∙ rw (sym h.said)

  pub refused_early : {r : Refusal} → Begins b scratch left (Err r) → {A : Type 0} (call : Model → Answer A)
      → (refusal_said r ≡ with_scratch b (length scratch) call) × (left ≡ scratch_after b scratch)
  refused_early h call = (sym (is_refused h call), h.filled)

  -- ready for them
  pub is_ready : {o : OpenBundle} → Begins b scratch left (Ok o) → {A : Type 0} (call : Model → Answer A) → with_scratch b (length scratch) call ≡ call (model o)
  is_ready h call = begun_after b (length scratch) call ∙ rw (sym h.said) (ap (λ x. call (model_of x)) (sym h.bytes))

  pub ready : {o : OpenBundle} → Begins b scratch left (Ok o) → {A : Type 0} (call : Model → Answer A) {answer : Answer A} → answer ≡ call (model o)
      → (answer ≡ with_scratch b (length scratch) call) × (left ≡ scratch_after b scratch)
  ready h call q = (q ∙ sym (is_ready h call), h.filled)
