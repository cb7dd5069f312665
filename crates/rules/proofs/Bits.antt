-- Laws of the bits of a number.
-- Assumes nothing.
use Prim.Native.Nat.{ℕ, zero, suc, ◌+◌, ◌-◌, ◌*◌, ◌/◌, ◌%◌, ◌^◌, ◌<◌}
use native.Mathlib.Nat.{zero-add, add-zero, add_comm, one-mul, pow-suc, zero-div, eq-or-lt_of_le}
use native.Mathlib.Numerals.{add-one}
use native.Mathlib.Omega.{arith}
use mathlib.Core.Path.{◌≡◌, refl, sym, ap, ap₂, ◌∙◌}
use mathlib.Core.Bool.{Bool, true, false, ◌&&◌, ◌||◌}
use mathlib.Core.Logic.{◌⊎◌, inl, inr}
use mathlib.Core.List.{List}
use lib.Bits.{bit_and, bit_or, and_shr, and_mod, or_shr, or_mod}
use lib.Pow.{shl_exact, shr-shr, high, low, field, mod-mod-pow, mod-pow-add}
use lib.Dec.{eqb}
use lib.ListN.{get_or, set, replicate, get_or-replicate}
use lib.Seq.{get_or-set_same, get_or-set_other}
use borrow.Author.Tests.{eqb-true, eqb-false, eq-eqb, ne_eqb}
use Rattle.rules.specs.Bounded.{sum}
use Rattle.rules.specs.Layout.{max_classes}
use Rattle.rules.specs.Bits.{bit, bit_at, byte_of, in_set}
use Rattle.rules.proofs.Lists.{test, agree}

-- a bit is 1 exactly where the test passes
pub bit_test : (t : Bool) → eqb (bit t) 1 ≡ t
unfolding bit
bit_test true = refl
bit_test false = refl

-- A bit of both words is a bit of each.
digit_and : (x y : ℕ) → x < 2 → y < 2 → eqb (bit_and x y) 1 ≡ (eqb x 1 && eqb y 1)
digit_and zero y h k = refl
digit_and (suc zero) zero h k = refl
digit_and (suc zero) (suc zero) h k = refl
digit_and (suc zero) (suc (suc y)) h k = absurd (omega arith)
digit_and (suc (suc x)) y h k = absurd (omega arith)

pub bit_and_lem : (x y j : ℕ) → bit_at (bit_and x y) j ≡ (bit_at x j && bit_at y j)
unfolding bit_at
bit_and_lem x y j = rw (and_shr x y j, and_mod (x / 2 ^ j) (y / 2 ^ j) 1) (digit_and (x / 2 ^ j % 2) (y / 2 ^ j % 2) (omega arith) (omega arith))

-- A word with one bit more below its own has that bit at 0, and the others one further up.
pub bit_below : (t : Bool) → bit t < 2
unfolding bit
bit_below true = omega arith
bit_below false = omega arith

pub bit_low : (x : ℕ) (t : Bool) → bit_at (x * 2 + bit t) 0 ≡ t
unfolding bit_at
bit_low x t =
    let e : (x * 2 + bit t) / 1 % 2 ≡ bit t = omega (arith, bit_below t) in
    ap (λ (n : ℕ). eqb n 1) e ∙ bit_test t

pub bit_next : (x : ℕ) (t : Bool) (j : ℕ) → bit_at (x * 2 + bit t) (j + 1) ≡ bit_at x j
unfolding bit_at
bit_next x t j =
    let e : (x * 2 + bit t) / 2 ≡ x = omega (arith, bit_below t) in
    let f : j + 1 ≡ 1 + j = omega arith in
    rw (f, ← shr-shr (x * 2 + bit t) 1 j, e)

-- A bit of one of two words is a bit of either.
digit_or : (x y : ℕ) → x < 2 → y < 2 → eqb (bit_or x y) 1 ≡ (eqb x 1 || eqb y 1)
digit_or zero y h k = refl
digit_or (suc zero) zero h k = refl
digit_or (suc zero) (suc zero) h k = refl
digit_or (suc zero) (suc (suc y)) h k = absurd (omega arith)
digit_or (suc (suc x)) y h k = absurd (omega arith)

pub bit_or_lem : (x y j : ℕ) → bit_at (bit_or x y) j ≡ (bit_at x j || bit_at y j)
unfolding bit_at
bit_or_lem x y j = rw (or_shr x y j, or_mod (x / 2 ^ j) (y / 2 ^ j) 1) (digit_or (x / 2 ^ j % 2) (y / 2 ^ j % 2) (omega arith) (omega arith))

-- 0 has no bit, and a power of two has one.
pub bit_zero : (j : ℕ) → bit_at 0 j ≡ false
unfolding bit_at
bit_zero j =
    let e : 0 / 2 ^ j ≡ 0 = zero-div (2 ^ j) in
    rw e

-- equations that say the same are tested alike
pub same_test : (x y a c : ℕ) → (x ≡ y → a ≡ c) → (a ≡ c → x ≡ y) → eqb x y ≡ eqb a c
same_test x y a c f g = agree (eqb x y) (eqb a c) (λ e. eq-eqb a c (f (eqb-true x y e))) (λ e. eq-eqb x y (g (eqb-true a c e)))

twice : (a : ℕ) → 2 ^ suc a ≡ 2 ^ a * 2 + bit false
unfolding bit
twice a = pow-suc 2 a ∙ sym (add-zero (2 ^ a * 2))

pub bit_power : (a j : ℕ) → bit_at (2 ^ a) j ≡ eqb a j
unfolding bit_at bit
bit_power zero zero = refl
bit_power zero (suc j) = rw (← add-one j) (bit_next 0 true j) ∙ bit_zero j ∙ sym (ne_eqb 0 (suc j) (λ e. omega (arith, e)))
bit_power (suc a) zero = ap (λ (x : ℕ). bit_at x 0) (twice a) ∙ bit_low (2 ^ a) false ∙ sym (ne_eqb (suc a) 0 (λ e. omega (arith, e)))
bit_power (suc a) (suc j) =
    ap (λ (x : ℕ). bit_at x (suc j)) (twice a)
    ∙ rw (← add-one j) (bit_next (2 ^ a) false j)
    ∙ bit_power a j
    ∙ same_test a j (suc a) (suc j) (λ e. omega (arith, e)) (λ e. omega (arith, e))

-- A word shifted down has its bits that much lower.
pub bit_shift : (x k j : ℕ) → bit_at (x / 2 ^ k) j ≡ bit_at x (k + j)
unfolding bit_at
bit_shift x k j = rw (shr-shr x k j)

-- A bit below n is one of what is left by 2 ^ n.
bit_rest : (x n j : ℕ) → j < n → bit_at (x % 2 ^ n) j ≡ bit_at x j
unfolding bit_at
bit_rest x n j h =
    let e : n - suc j + 1 + j ≡ n = omega arith in
    rw e at (below (n - suc j))
  where
    below : (d : ℕ) → bit_at (x % 2 ^ (d + 1 + j)) j ≡ bit_at x j
    below d = rw (field x (d + 1) j, mod-mod-pow (x / 2 ^ j) d 1)

bit_digit : (t : Bool) → bit t % 2 ≡ bit t
bit_digit t = omega (arith, bit_below t)

-- The bits of a sum of powers of two are those that it is the sum of,
sum_below : (t : ℕ → Bool) (n : ℕ) → sum (λ i. bit (t i) * 2 ^ i) n < 2 ^ n
unfolding sum bit
sum_below t zero = omega arith
sum_below t (suc n) = rw pow-suc (digit (t n) (sum_below t n))
  where
    digit : (u : Bool) → sum (λ i. bit (t i) * 2 ^ i) n < 2 ^ n → sum (λ i. bit (t i) * 2 ^ i) n + bit u * 2 ^ n < 2 ^ n * 2
    digit true h = omega (arith, h)
    digit false h = omega (arith, h)

sum_bits : (t : ℕ → Bool) (n j : ℕ) → j < n → bit_at (sum (λ i. bit (t i) * 2 ^ i) n) j ≡ t j
unfolding sum bit_at
sum_bits t zero j h = absurd (omega arith)
sum_bits t (suc n) j h =
    ap (λ (x : ℕ). bit_at x j) (add_comm (sum (λ i. bit (t i) * 2 ^ i) n) (bit (t n) * 2 ^ n)) ∙ go (eq-or-lt_of_le (omega arith)) (sum_bits t n j)
  where
    go : (j ≡ n) ⊎ (j < n) → (j < n → bit_at (sum (λ i. bit (t i) * 2 ^ i) n) j ≡ t j)
        → bit_at (bit (t n) * 2 ^ n + sum (λ i. bit (t i) * 2 ^ i) n) j ≡ t j
    go (inl e) rest = rw (e, high (bit (t n)) n (sum_below t n), bit_digit (t n)) (bit_test (t n))
    go (inr l) rest =
        sym (bit_rest (bit (t n) * 2 ^ n + sum (λ i. bit (t i) * 2 ^ i) n) n j l)
        ∙ rw (low (bit (t n)) n (sum_below t n)) (rest l)

-- and a number is the sum of its bits.
digit_bit : (d : ℕ) → d < 2 → bit (eqb d 1) ≡ d
unfolding bit
digit_bit zero h = refl
digit_bit (suc zero) h = refl
digit_bit (suc (suc d)) h = absurd (omega arith)

bits_sum : (x n : ℕ) → x % 2 ^ n ≡ sum (λ i. bit (bit_at x i) * 2 ^ i) n
unfolding sum bit_at
bits_sum x zero = omega arith
bits_sum x (suc n) =
    rw (← add-one n, add_comm n 1, mod-pow-add x 1 n, digit_bit (x / 2 ^ n % 2) (omega arith), bits_sum x n)
    (add_comm (x / 2 ^ n % 2 * 2 ^ n) (sum (λ i. bit (bit_at x i) * 2 ^ i) n))

pub byte_bit : (t : ℕ → Bool) (j : ℕ) → j < 8 → bit_at (byte_of t) j ≡ t j
unfolding byte_of
byte_bit t j h = sum_bits t 8 j h

pub byte_of_bits : (x : ℕ) → x % 256 ≡ byte_of (bit_at x)
unfolding byte_of
byte_of_bits x = bits_sum x 8

-- a byte is known by its bits
sum_agree : (f g : ℕ → ℕ) (n : ℕ) → ((i : ℕ) → i < n → f i ≡ g i) → sum f n ≡ sum g n
unfolding sum
sum_agree f g zero h = refl
sum_agree f g (suc n) h = ap₂ ◌+◌ (sum_agree f g n (λ i l. h i (omega arith))) (h n (omega arith))

pub byte_agree : (t u : ℕ → Bool) → ((i : ℕ) → i < 8 → t i ≡ u i) → byte_of t ≡ byte_of u
unfolding byte_of
byte_agree t u h = sum_agree (λ i. bit (t i) * 2 ^ i) (λ i. bit (u i) * 2 ^ i) 8 (λ i l. ap (λ (b : Bool). bit b * 2 ^ i) (h i l))

-- A number of one of two sets is in their union.
pub either_set : (set other new : List ℕ) (at n : ℕ) → ((w : ℕ) → w < n → get_or new w 0 ≡ bit_or (get_or set w 0) (get_or other (at + w) 0))
    → (i : ℕ) → i < 64 * n → in_set new 0 i ≡ (in_set set 0 i || in_set other at i)
unfolding in_set
either_set set other new at n f i h = simp zero-add (rw (f (i / 64) (omega arith)) (bit_or_lem (get_or set (i / 64) 0) (get_or other (at + i / 64) 0) (i % 64)))

-- the set that has one number alone
pub own_set : (a c : ℕ) → a < max_classes → c < max_classes → in_set (set (replicate 2 0) (a / 64) (1 * 2 ^ (a % 64) % 2 ^ 64)) 0 c ≡ eqb a c
unfolding in_set
own_set a c h k =
    let shifted : 1 * 2 ^ (a % 64) % 2 ^ 64 ≡ 2 ^ (a % 64) = shl_exact 1 (a % 64) 64 (omega arith) (omega arith) ∙ one-mul (2 ^ (a % 64)) in
    simp zero-add (rw shifted (go (test (eqb (a / 64) (c / 64)))))
  where
    go : (eqb (a / 64) (c / 64) ≡ true) ⊎ (eqb (a / 64) (c / 64) ≡ false) → bit_at (get_or (set (replicate 2 0) (a / 64) (2 ^ (a % 64))) (c / 64) 0) (c % 64) ≡ eqb a c
    go (inl e) =
        let q = eqb-true (a / 64) (c / 64) e in
        rw (← q, get_or-set_same (replicate 2 0) (a / 64) (2 ^ (a % 64)) 0 (omega arith), bit_power (a % 64) (c % 64))
        (same_test (a % 64) (c % 64) a c (λ r. omega arith) (λ r. omega arith))
    go (inr e) =
        let q = eqb-false (a / 64) (c / 64) e in
        rw (get_or-set_other (replicate 2 0) (a / 64) (c / 64) (2 ^ (a % 64)) 0 (λ r. q (sym r)), get_or-replicate {A = ℕ} 2 (c / 64) 0 0 (omega arith), bit_zero (c % 64))
        (sym (ne_eqb a c (λ r. q (ap (λ (x : ℕ). x / 64) r))))
