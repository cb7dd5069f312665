-- Twins, place by place: a twin among the methods before, and the bucket that twins share.
-- Assumes nothing.
use Prim.Native.Nat.{ℕ, zero, suc, ◌+◌, ◌<◌}
use native.Mathlib.Omega.{arith}
use mathlib.Core.Path.{◌≡◌, sym, ap, ◌∙◌}
use mathlib.Core.Bool.{true, not}
use mathlib.Core.List.{List}
use lib.Dec.{eqb}
use lib.ListN.{length, get_or}
use borrow.Author.Tests.{not-true, not-false, eqb-true}
use Rattle.rules.specs.Bounded.{upto}
use Rattle.rules.specs.Bytes.{byte, word, part}
use Rattle.rules.specs.Layout.{places, method_at, function_of, specialiser_tuple_of, twins, twin_rule}
use Rattle.rules.proofs.Lists.{and_left, and_right, any_none, any_from, matching_at, upto_below, below_upto}
use Rattle.rules.proofs.Places.{part_at, part_length}
use Rattle.rules.proofs.Decides.{Decides}
use Rattle.layout.specs.declared.bundle.Bundle.{Bundle}
use Rattle.layout.specs.Tables.{Placed}
use Rattle.twin_rule.specs.Chain.{bucket_of}

-- a twin among the methods before
pub twin_decides : (b : List ℕ) (m : ℕ) → Decides (twin_rule b m) (λ n. not (twins b m n)) m
unfolding twin_rule
twin_decides b m =
    record {
      holds = λ h. ap not (any_none (twins b m) (upto m) (λ n r. not-true (twins b m n) (h n (upto_below m r))));
      breaks = λ n l e. ap not (any_from (twins b m) (upto m) (below_upto m n l) (not-false (twins b m n) e));
    }

module _ {b : List ℕ} {t : Bundle} (placed : Placed b t) (m n : ℕ) (low : m < t.methods) (lower : n < t.methods) (same : twins b m n ≡ true) where
  -- twins have the same specialiser at each place, so the first bytes of their records are the same
  place_same : (i : ℕ) → i < places → byte b (method_at b m + 1 + i) ≡ byte b (method_at b n + 1 + i)
  unfolding twins specialiser_tuple_of method_at
  place_same i l =
      let xs = part b (method_at b m + 1) places in
      let ys = part b (method_at b n + 1) places in
      let long : length xs ≡ places = part_length b (method_at b m + 1) places (omega (arith, placed.method_end, placed.tables.method_at_lem)) in
      let alike = eqb-true (get_or xs i 0) (get_or ys i 0) (matching_at eqb xs ys 0 0 (search and_right) i (omega arith)) in
      sym (part_at b (method_at b m + 1) places i l) ∙ alike ∙ part_at b (method_at b n + 1) places i l

  byte_same : (i : ℕ) → i < 1 + places → byte b (method_at b m + i) ≡ byte b (method_at b n + i)
  unfolding twins function_of
  byte_same zero l =
      let first : method_at b m + 0 ≡ method_at b m = omega arith in
      let second : method_at b n + 0 ≡ method_at b n = omega arith in
      rw (first, second) (eqb-true (function_of b m) (function_of b n) (search and_left))
  byte_same (suc i) l =
      let first : method_at b m + suc i ≡ method_at b m + 1 + i = omega arith in
      let second : method_at b n + suc i ≡ method_at b n + 1 + i = omega arith in
      rw (first, second) (place_same i (omega arith))

  pub twins_share : bucket_of b m ≡ bucket_of b n
  unfolding bucket_of word
  twins_share =
      let first : method_at b m + 0 ≡ method_at b m = omega arith in
      let second : method_at b n + 0 ≡ method_at b n = omega arith in
      let third : method_at b m + 2 + 1 ≡ method_at b m + 3 = omega arith in
      let fourth : method_at b n + 2 + 1 ≡ method_at b n + 3 = omega arith in
      cc (byte_same 0 (omega arith), byte_same 1 (omega arith), byte_same 2 (omega arith), byte_same 3 (omega arith))
