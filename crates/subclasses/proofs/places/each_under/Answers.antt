-- A class that is not under the one above tells, and else each place has been asked.
use Rattle.std.proofs.Common.{ℕ, Bool, List, ◌≡◌, ◌∙◌, sym, ap₂, get_or, arith}
use borrow.Author.Count.{below_more}
use Rattle.rules.specs.Bytes.{byte}
use Rattle.rules.specs.Scratch.{entry_at}
use Rattle.rules.proofs.Lists.{matching_from, matching_broken}
use Rattle.subclasses.specs.Matrix.{entries_at}
use Rattle.subclasses.proofs.places.each_under.Goals as goal

pub under-requires-clause-a_lt_max_classes : goal.under-requires-clause-a_lt_max_classes
unfolding byte
under-requires-clause-a_lt_max_classes c = rw c.byte_at.ensures.0 (c.requires.lower _ (omega arith))

pub under-requires-clause-c_lt_max_classes : goal.under-requires-clause-c_lt_max_classes
unfolding byte
under-requires-clause-c_lt_max_classes c = rw c.byte_at-in-loop-i.ensures.0 (c.requires.upper _ (omega (arith, c.requires.even)))

-- the entry that was asked is that of place i
met : (s xs ys : List ℕ) (i x y : ℕ) (r : Bool) → r ≡ entry_at s x y → x ≡ byte xs i → y ≡ byte ys i → r ≡ entry_at s (get_or xs i 0) (get_or ys i 0)
unfolding byte
met s xs ys i x y r e p q = e ∙ ap₂ (entry_at s) p q

pub returns-then-not-under : goal.returns-then-not-under
unfolding entries_at
returns-then-not-under c =
    sym
    (matching_broken (entry_at _) _ _ 0 0 c.loop-i.i (omega arith)
    (sym (met _ _ _ _ _ _ _ c.under.ensures c.byte_at.ensures.0 c.byte_at-in-loop-i.ensures.0) ∙ c.if-not-under.true))

pub loop-i-preserved : goal.loop-i-preserved
loop-i-preserved c =
    below_more _ _ c.loop-i.invariant (sym (met _ _ _ _ _ _ _ c.under.ensures c.byte_at.ensures.0 c.byte_at-in-loop-i.ensures.0) ∙ c.if-not-under.false)

pub returns : goal.returns
unfolding entries_at
returns c = sym (matching_from (entry_at _) _ _ 0 0 c.requires.even (λ i l. c.loop-i.invariant i (omega arith)))
