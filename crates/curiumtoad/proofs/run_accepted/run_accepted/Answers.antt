-- `curiumtoad::run_accepted::run_accepted`: refused before its own rules, or the answer over the opened bundle; what ends is sound.
-- Assumes nothing.
use Prim.Native.Nat.{ℕ}
use mathlib.Core.Path.{◌≡◌, sym, ◌∙◌}
use mathlib.Core.List.{List}
use Rattle.std.proofs.lemmas.Result.{err_from_is_err_and}
use Rattle.rules.specs.Layout.{Answer}
use Rattle.rules.specs.Accepted.{Accepted, accepted_call}
use Rattle.rules.proofs.Accepted.{accepted_sound}
use Rattle.preparation.proofs.Called.{refused_early, ready}
use Rattle.sound_runs.specs.Accepted.{EndsSoundly}
use Rattle.curiumtoad.proofs.run_accepted.run_accepted.Goals as goal

-- an answer that is the call's ends soundly
soundly : {b : List ℕ} {n f : ℕ} {tuple : List ℕ} {count : ℕ} {r : Answer Accepted} → r ≡ accepted_call b n f tuple count → EndsSoundly b n f tuple count r
soundly {b} {n} {f} {tuple} {count} e o q = accepted_sound b n f tuple count o (sym e ∙ q)

pub returns-in_err-bundle : goal.returns-in_err-bundle
unfolding accepted_call
returns-in_err-bundle c =
    let p = err_from_is_err_and c.from_residual.result c.from_residual.ensures.1 in
    let r = refused_early c.in_err-bundle.ensures.begins _ in
    rw (p.1, p.2) (record { result_value = r.0; ends_soundly = soundly r.0; scratch_after = r.1 })

pub returns : goal.returns
unfolding accepted_call
returns c = let r = ready c.in_ok-bundle.ensures.begins _ c.accepted_in.ensures in record { result_value = r.0; ends_soundly = soundly r.0; scratch_after = r.1 }
