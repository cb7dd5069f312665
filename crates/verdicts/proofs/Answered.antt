-- The answers of a witness check, case by case.
-- Assumes nothing.
use Prim.Native.Nat.{ℕ, ◌≤◌, ◌<◌}
use mathlib.Core.Path.{◌≡◌, sym}
use mathlib.Core.Bool.{true, false, ◌&&◌}
use mathlib.Core.List.{List, [], ◌∷◌}
use lib.ListN.{length, take}
use borrow.Author.Tests.{lt-ltb, le-ltb}
use Rattle.rules.specs.Numbers as numbers
use Rattle.rules.specs.Bounded.{every}
use Rattle.rules.specs.Layout.{Answer, refuses, require, places, padded}
use Rattle.rules.specs.Model.{model_of}
use Rattle.rules.specs.Coverage.{judge, covers, concrete_class, coverage_refusal}
use Rattle.rules.specs.Calls.{send_rule, witness_rule, witness_answer, witness_in}
use Rattle.layout.specs.Opened.{Opened}
use Rattle.layout.specs.declared.bundle.Bundle.{Bundle}
use Rattle.layout.proofs.Opened.{counts_of}
use Rattle.sends.specs.Send.{Passes}
use Rattle.sends.proofs.Sent.{used_padded}

-- The answers of a witness check. With the signature there and a send of its function, the rule is what is left of it.
pub witness_absent : {b : List ℕ} {t : Bundle} → Opened b t → (s : ℕ) (tuple : List ℕ) → t.signatures ≤ s → refuses numbers.absent [] ≡ witness_in s tuple (model_of b)
unfolding witness_in witness_rule require
witness_absent {b} o s tuple h = rw (le-ltb s (model_of b).signatures (rw (sym (counts_of o).signatures) h))

module _ {b : List ℕ} {t : Bundle} (o : Opened b t) (s f : ℕ) (tuple : List ℕ) (h : s < t.signatures) (g : f ≡ (model_of b).sig_function s) where
  pub witness_unsent : send_rule (model_of b) f tuple ≡ false → refuses numbers.absent [] ≡ witness_in s tuple (model_of b)
  unfolding witness_in witness_rule require
  witness_unsent e = rw (lt-ltb s (model_of b).signatures (rw (sym (counts_of o).signatures) h), ← g, e)

  module _ {n : ℕ} {classes : List ℕ} (e : send_rule (model_of b) f tuple ≡ true) (p : Passes (model_of b) f tuple n classes) where
    pub witness_apart : (every (concrete_class (model_of b)) (take n classes) && covers (model_of b) s (take n classes)) ≡ false
        → refuses numbers.absent [] ≡ witness_in s tuple (model_of b)
    unfolding witness_in witness_rule require
    witness_apart q =
        rw (lt-ltb s (model_of b).signatures (rw (sym (counts_of o).signatures) h), ← g, e, ← p.same, q)

    pub witness_judged : {x : Answer (Unit {0})} → (every (concrete_class (model_of b)) (take n classes) && covers (model_of b) s (take n classes)) ≡ true
        → x ≡ coverage_refusal (model_of b) s (take n classes) (judge (model_of b) s (take n classes)) → x ≡ witness_in s tuple (model_of b)
    unfolding witness_in witness_rule witness_answer require
    witness_judged q i = rw (lt-ltb s (model_of b).signatures (rw (sym (counts_of o).signatures) h), ← g, e, ← p.same, q) i

    -- the send that is named
    pub witness_send : length tuple ≡ places → f ∷ tuple ≡ (model_of b).sig_function s ∷ padded (take n classes)
    witness_send l = rw (← g, p.same, used_padded (model_of b) f tuple l e)
