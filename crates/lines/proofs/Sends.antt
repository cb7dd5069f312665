-- The line of a coverage finding, from its parts.
-- Assumes nothing.
use Prim.Native.Nat.{ℕ, ◌≤◌}
use mathlib.Core.Path.{◌≡◌, sym, ap, ◌∙◌}
use mathlib.Core.List.{List, ◌∷◌, ◌++◌, append_assoc}
use lib.ListN.{take}
use lib.Seq.{take-append-le}
use Rattle.rules.specs.Model.{Model}
use Rattle.rules.specs.Layout.{places}
use Rattle.answers.specs.declared.send.Send as send-type
use Rattle.answers.specs.Send.{tuple_of, send_values}
use Rattle.answers.specs.declared.finding.CoverageFinding as coverage-type
use Rattle.answers.specs.Failures.{failure_number, failure_methods}
use Rattle.answers.specs.Findings.{coverage_said}
use Rattle.rules.specs.Ascii.{ascii}
use Rattle.lines.specs.Text.{field, classes, methods, finding, refused_line, verdict_line}
use Rattle.lines.specs.Appended.{send_room, methods_room, finding_room, Appended}
use Rattle.lines.proofs.Growing.{grown_both, grown_as}

-- six texts in a row
regrouped : (r s f c m end : List ℕ) → r ++ s ++ f ++ c ++ (m ++ end) ≡ r ++ (s ++ f ++ c ++ m) ++ end
regrouped r s f c m end =
    sym (append_assoc (r ++ s ++ f ++ c) m end)
    ∙ ap (λ (x : List ℕ). x ++ end)
    (ap (λ (x : List ℕ). x ++ c ++ m) (append_assoc r s f)
    ∙ ap (λ (x : List ℕ). x ++ m) (append_assoc r (s ++ f) c)
    ∙ append_assoc r (s ++ f ++ c) m)

-- the line of 10 to 13: number, signature, send, methods
coverage_text : (M : Model) (number s n : ℕ) (x : send-type.Send) (ms : List ℕ) → M.arity x.function ≡ n → n ≤ places
    → field "refused " number ++ field " signature " s ++ field " send " x.function ++ classes (take n (tuple_of x)) ++ (methods ms ++ ascii "\n")
    ≡ refused_line M number (s ∷ send_values x ++ ms)
unfolding finding refused_line
coverage_text M number s n x ms e h =
    regrouped (field "refused " number) (field " signature " s) (field " send " x.function) (classes (take n (tuple_of x))) (methods ms) (ascii "\n")
    ∙ ap
    (λ (l : List ℕ). field "refused " number ++ (field " signature " s ++ field " send " x.function ++ classes l ++ methods ms) ++ ascii "\n")
    (sym (take-append-le n (tuple_of x) ms h) ∙ ap (λ (k : ℕ). take k (tuple_of x ++ ms)) (sym e))

-- the start of the line is written, then its end
pub coverage_written : (M : Model) (found : coverage-type.CoverageFinding) {n at q r : ℕ} {old mid new : List ℕ} → M.arity found.send.function ≡ n → n ≤ places
    → Appended send_room old at
    (field "refused " (failure_number found.failure) ++ field " signature " found.signature ++ field " send " found.send.function ++ classes (take n (tuple_of found.send)))
    mid q
    → Appended methods_room mid q (methods (failure_methods found.failure) ++ ascii "\n") new r → Appended finding_room old at (verdict_line M (coverage_said found)) new r
unfolding verdict_line
coverage_written M found {n} arity few start end =
    grown_as (coverage_text M (failure_number found.failure) found.signature n found.send (failure_methods found.failure) arity few) (grown_both start end)
