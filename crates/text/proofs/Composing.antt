-- The lines put together: the text for a bundle that opens, and for one that does not.
-- Assumes nothing.
use Prim.Native.Nat.{ℕ, ◌≤◌, ◌<◌}
use native.Mathlib.Omega.{arith}
use mathlib.Core.Path.{◌≡◌, refl, sym, ap, subst, ◌∙◌}
use mathlib.Core.List.{List, [], ◌∷◌, ◌++◌}
use mathlib.Core.Option.{Option, none, some}
use lib.ListN.{length, get_or, take, drop, length-append}
use lib.Seq.{length-take-le}
use Rattle.rules.specs.Layout.{Answer, gives, refuses, opening}
use Rattle.rules.specs.Model.{Model, Wellformed, model_of}
use Rattle.rules.specs.Types.{Typing, typed, breaks, type_body}
use Rattle.rules.specs.Coverage.{Judgement, holds, fails, judge, broken_method, broken_signature, coverage_refusal, body_refusal, body_verdict, tuple_verdict, coverage_verdict}
use Rattle.rules.specs.Coverage as coverage-rules
use Rattle.rules.proofs.Coverage.{broken_signature_lem}
use Rattle.answers.specs.Opening.{layout_number, layout_values}
use Rattle.layout.specs.declared.bundle.Bundle.{Bundle}
use Rattle.answers.specs.declared.opening.LayoutFinding as layout-type
use Rattle.layout.proofs.Opened.{wellformed_of, counts_of}
use Rattle.bundle_rules.proofs.Opened.{opened_of}
use Rattle.answers.specs.declared.finding.Finding.TheVariants as finding
use Rattle.std.specs.Prelude.{Result, Ok, Err}
use Rattle.answers.specs.declared.finding.Finding as finding-type
use Rattle.answers.specs.Findings.{coverage_said, verdict_said}
use Rattle.text.specs.declared.listing.ShortBuffer.{ShortBuffer}
use Rattle.lines.specs.Text.{counts_line, verdict_line, listing_on}
use Rattle.lines.specs.Text as text
use Rattle.lines.specs.Appended.{finding_room, Appended}
use Rattle.lines.specs.Findings.{Named, layout_line}
use Rattle.text.specs.Listed.{OpenedAs, Composed, Lists, Written}
use Rattle.lines.proofs.Growing.{grown_both}

-- how many values come with a number, and the second of them
abbrev many : Answer (Unit {0}) → ℕ
many (gives x) = 0
many (refuses number values) = length values

abbrev second : Answer (Unit {0}) → ℕ
second (gives x) = 0
second (refuses number values) = get_or values 1 0

module _ (M : Model) where
  body_few : (m : ℕ) (t : Typing) → many (body_refusal m t) ≤ 2
  unfolding body_refusal
  body_few m typed = omega arith
  body_few m (breaks number at) = omega arith

  bodies_few : (m : Option ℕ) → many (body_verdict M m) ≤ 2
  unfolding body_verdict
  bodies_few none = omega arith
  bodies_few (some m) = body_few m (type_body M m)

  refusal_second : (s : ℕ) (args : List ℕ) (j : Judgement) → 5 ≤ many (coverage_refusal M s args j) → second (coverage_refusal M s args j) ≡ M.sig_function s
  unfolding coverage_refusal
  refusal_second s args (holds m) h = absurd (omega (arith, h))
  refusal_second s args (fails number ms) h = refl

  -- the second of five values of a verdict is a function that is there
  verdict_second : Wellformed M → (o : Option ℕ) → broken_signature M ≡ o → 5 ≤ many (coverage_verdict M o) → second (coverage_verdict M o) < M.functions
  unfolding coverage_verdict tuple_verdict
  verdict_second w none e h = absurd (omega (arith, h, bodies_few (broken_method M)))
  verdict_second w (some s) e h =
      let (bound, (t, q), _) = broken_signature_lem M s e in
      rw (q, refusal_second s t (judge M s t) (rw q at h)) (w.sig_function_lem s bound)

module _ {b : List ℕ} {t : Bundle} (o : OpenedAs b t) where
  pub verdict_named : (r : Result (Unit {0}) finding-type.Finding) → verdict_said r ≡ coverage-rules.verdict (model_of b) → Named t.functions r
  unfolding coverage-rules.verdict
  verdict_named (Ok x) c = tt
  verdict_named (Err (finding.Layout f)) c = tt
  verdict_named (Err finding.Scratch) c = tt
  verdict_named (Err (finding.Coverage x)) c =
      let M = model_of b in
      let e : coverage_said x ≡ coverage_verdict M (broken_signature M) = c in
      let there = verdict_second M (wellformed_of (opened_of o)) (broken_signature M) refl (subst (λ (a : Answer (Unit {0})). 5 ≤ many a) e (omega arith)) in
      omega (arith, there, ap second e, (counts_of (opened_of o)).functions)
  verdict_named (Err (finding.Body x)) c = tt

  pub composed_opened : (v : Result (Unit {0}) finding-type.Finding) (old mid new : List ℕ) (q r : ℕ) → verdict_said v ≡ coverage-rules.verdict (model_of b) → 512 ≤ length old
      → Appended 140 old 0 (counts_line (t.classes ∷ t.functions ∷ t.signatures ∷ t.methods ∷ [])) mid q
      → Appended finding_room mid q (verdict_line (model_of b) (verdict_said v)) new r → Composed b new r
  unfolding text.listing listing_on
  composed_opened v old mid new q r c room counts line =
      let M = model_of b in
      let both = grown_both counts line in
      let head = counts_line (t.classes ∷ t.functions ∷ t.signatures ∷ t.methods ∷ []) in
      record {
        fits = omega (arith, both.bound, both.same, room);
        written =
            both.text ∙ ap (λ (a : Answer (Unit {0})). head ++ verdict_line M a) c ∙ ap (λ (a : Answer (List ℕ)). listing_on a M) o.answer;
      }

pub composed_refused : (b : List ℕ) (f : layout-type.LayoutFinding) (old new : List ℕ) (r : ℕ) → refuses (layout_number f) (layout_values f) ≡ opening b → 512 ≤ length old
    → Appended 76 old 0 (layout_line (model_of b) f) new r → Composed b new r
unfolding text.listing listing_on
composed_refused b f old new r e room a =
    record { fits = omega (arith, a.bound, a.same, room); written = a.text ∙ ap (λ (x : Answer (List ℕ)). listing_on x (model_of b)) e }

-- A text at the start of an array of its own, and what a lent buffer holds by it: as before where it is too short, else the text with what was behind it.
module _ (piece own : List ℕ) (r : ℕ) (fits : r ≤ length own) (written : take r own ≡ piece) where
  piece_length : length piece ≡ r
  piece_length = ap length (sym written) ∙ length-take-le r own fits

  pub copied_short : (old : List ℕ) → {e : ShortBuffer} → length old < r → Written piece old old (Err e)
  copied_short old h = (omega (arith, h, piece_length), refl)

  pub copied_written : (old new : List ℕ) → r ≤ length old → new ≡ take r own ++ drop r old → Written piece old new (Ok r)
  copied_written old new h e = (
    sym piece_length,
    omega (arith, h, piece_length),
    e ∙ ap (λ (t : List ℕ). t ++ drop r old) written ∙ ap (λ (n : ℕ). piece ++ drop n old) (sym piece_length),
  )

-- the same of the listing
pub listed_short : (b own old : List ℕ) (r : ℕ) → Composed b own r → {e : ShortBuffer} → length old < r → Lists b old old (Err e)
listed_short b own old r c h = record { written = copied_short (text.listing b) own r c.fits c.written old h }

pub listed_written : (b own old new : List ℕ) (r : ℕ) → Composed b own r → r ≤ length old
    → new ≡ take r own ++ drop r old → Lists b old new (Ok r)
listed_written b own old new r c h e = record { written = copied_written (text.listing b) own r c.fits c.written old new h e }

-- what is written is within the buffer
pub piece_within : (piece old new : List ℕ) {n : ℕ} {r : Result ℕ ShortBuffer} → r ≡ Ok n → Written piece old new r → n ≤ length new
piece_within piece old new e l =
    let w = subst (Written piece old new) e l in
    omega (arith, w.0, ap length w.2, length-append piece (drop (length piece) old))
