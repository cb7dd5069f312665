-- Soundness, demand 3: in a run of an accepted bundle each send finds the one method that the check found for it, and each resend has a target that suits its
-- arguments, from the opening send to the run's end.
-- Assumes nothing.
use Rattle.std.specs.Prelude.{ℕ, ◌<◌, ◌≡◌, true}
use mathlib.Core.List.{List, Memᴰ}
use Rattle.rules.specs.Bounded.{every}
use Rattle.rules.specs.Layout.{gives, opening}
use Rattle.rules.specs.Model.{Model, model_of}
use Rattle.rules.specs.Subclass.{subclass}
use Rattle.rules.specs.Lookup.{found, applies, lookup}
use Rattle.rules.specs.Resend.{resend_target}
use Rattle.rules.specs.Coverage.{holds, judge, covers, declared_hold, concrete_class, verdict}
use Rattle.rules.specs.Machine.{Ending, value, spent, deep, stopped, enters, Send, Resend, Run, run}

-- signature s of function f covers these argument classes
pub record Covering (M : Model) (f : ℕ) (args : List ℕ) (s : ℕ) : Type 0 where
  pub present : s < M.signatures
  pub of_function : M.sig_function s ≡ f
  pub covered : covers M s args ≡ true

-- A send of a run: some signature covers it; one method is found by lookup, by the run and, at every covering signature, by the coverage rule; and that
-- method's declared classes hold the arguments.
pub record SoundSend (M : Model) (x : Send) : Type 0 where
  pub signature : ℕ
  pub covering : Covering M x.function x.args signature
  pub concrete : every (concrete_class M) x.args ≡ true
  pub method : ℕ
  pub by_lookup : lookup M x.function x.args ≡ found method
  pub by_run : x.target ≡ enters method
  pub by_check : (s : ℕ) → Covering M x.function x.args s → judge M s x.args ≡ holds method
  pub declared_holds : declared_hold M method x.args ≡ true

-- A resend of a run: the target of its method, by the run and by the rule that the check goes by; its specialisers and its declared classes hold the arguments.
pub record SoundResend (M : Model) (x : Resend) : Type 0 where
  pub target : ℕ
  pub by_run : x.target ≡ found target
  pub by_rule : resend_target M x.method ≡ found target
  pub concrete : every (concrete_class M) x.args ≡ true
  pub specialisers_hold : applies M x.args target ≡ true
  pub declared_holds : declared_hold M target x.args ≡ true

-- The end of a run of f: Spent, Deep, or a concrete class under the result class of every signature that covers the opening send; nothing else.
abbrev pub SoundEnding : Model → ℕ → List ℕ → Ending → Type 0
SoundEnding M f args (value c) =
    (concrete_class M c ≡ true) × ((s : ℕ) → Covering M f args s → subclass M c (M.sig_result s) ≡ true)
SoundEnding M f args spent = Unit {0}
SoundEnding M f args deep = Unit {0}
SoundEnding M f args (stopped number values) = ⊥

pub record SoundRun (M : Model) (f : ℕ) (args : List ℕ) (r : Run) : Type 0 where
  pub sends : (x : Send) → Memᴰ x r.met → SoundSend M x
  pub resends : (x : Resend) → Memᴰ x r.resends → SoundResend M x
  pub ending : SoundEnding M f args r.outcome.ending

-- For every bundle that opens and is accepted, every function, every list of concrete classes that some signature of it covers, and every count.
abbrev pub Demand3 : Type 0
Demand3 =
    (b counts : List ℕ)
    → opening b ≡ gives counts
    → verdict (model_of b) ≡ gives tt
    → (f : ℕ) (args : List ℕ) (s : ℕ)
    → Covering (model_of b) f args s
    → every (concrete_class (model_of b)) args ≡ true
    → (count : ℕ)
    → SoundRun (model_of b) f args (run (model_of b) f args count)
