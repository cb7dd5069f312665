-- Laws of the bits of a word, and of sets of positions as words of bits.
-- Assumes nothing.
use Prim.Native.Nat.{ℕ, zero, suc, ◌+◌, ◌*◌, ◌-◌, ◌/◌, ◌%◌, ◌^◌, ◌<◌, ◌≤◌}
use native.Mathlib.Nat.{add-zero, zero-add, pow-suc}
use native.Mathlib.Decide.{ℕ_discrete, dec_lt}
use native.Mathlib.Numerals.{add-one}
use native.Mathlib.Omega.{arith}
use mathlib.Core.Path.{◌≡◌, refl, sym, ap, ◌∙◌}
use mathlib.Core.Bool.{Bool, true, false, ◌&&◌}
use mathlib.Core.List.{List}
use lib.Bits.{bit_and, and_le_l}
use lib.Count.{under, count_trailing_zeros, trailing_le}
use lib.Pow.{pow_pos}
use lib.Dec.{eqb}
use lib.ListN.{get_or}
use borrow.Author.Tests.{eqb-true, eq-eqb}
use Rattle.rules.specs.Bits.{bit, bit_at, in_set}
use Rattle.rules.proofs.Bits.{bit_and_lem, bit_below, bit_low, bit_next, bit_shift, bit_zero}
use Rattle.method_sets.specs.Sets.{set_words, SetAt, WordOf, SamePositions}

-- The bits of a word are those positions from i on that pass a test, of n that may: so for none at the word's end, and for one more in front, to the whole word.
pub record PackedFrom (test : ℕ → Bool) (n start i bits : ℕ) : Type 0 where
  pub low : start ≤ i
  pub high : i ≤ start + 64
  pub within : start < i → i ≤ n
  pub below : bits < 2 ^ (start + 64 - i)
  pub told : (j : ℕ) → i + j < start + 64 → bit_at bits j ≡ test (i + j)

module _ {test : ℕ → Bool} {n start i : ℕ} where
  pub packed_none : (start ≤ i) × (i ≤ start + 64) × (start < i → i ≤ n) × (i < start + 64 → n ≤ i) → ((j : ℕ) → n ≤ j → test j ≡ false)
      → PackedFrom test n start i 0
  packed_none (low, high, within, rest) none =
      record {
        low = low;
        high = high;
        within = within;
        below = pow_pos (start + 64 - i);
        told = λ j l. bit_zero j ∙ sym (none (i + j) (omega (arith, rest (omega arith))));
      }

  module _ {bits : ℕ} (p : PackedFrom test n start i bits) where
    pub packed_next : start < i → (t : Bool) → t ≡ test (i - 1) → PackedFrom test n start (i - 1) (bits * 2 + bit t)
    packed_next h t e =
        let d : start + 64 - (i - 1) ≡ suc (start + 64 - i) = omega (arith, p.high) in
        record {
          low = omega arith;
          high = omega (arith, p.high);
          within = λ k. omega (arith, p.within h);
          below = rw (d, pow-suc) (omega (arith, bit_below t, p.below));
          told = told;
        }
      where
        told : (j : ℕ) → i - 1 + j < start + 64 → bit_at (bits * 2 + bit t) j ≡ test (i - 1 + j)
        told zero l = rw add-zero (bit_low bits t ∙ e)
        told (suc j) l =
            let k : i + j ≡ i - 1 + suc j = omega arith in
            rw (← add-one j) (bit_next bits t j) ∙ p.told j (omega arith) ∙ ap test k

-- A word is known by its lowest bit and those above it,
half_bit : (x j : ℕ) → bit_at x (suc j) ≡ bit_at (x / 2) j
half_bit x j =
    let e : suc j ≡ 1 + j = omega arith in
    rw e (sym (bit_shift x 1 j))

low_bit : (x d : ℕ) → x % 2 ≡ d → bit_at x 0 ≡ eqb d 1
unfolding bit_at
low_bit x d e =
    let n : x / 1 % 2 ≡ d = omega arith in
    ap (λ (y : ℕ). eqb y 1) n

low_digit : (x y : ℕ) → bit_at x 0 ≡ bit_at y 0 → x % 2 ≡ y % 2
unfolding bit_at
low_digit x y e = go (ℕ_discrete (x / 1 % 2) 1) (ℕ_discrete (y / 1 % 2) 1)
  where
    go : Dec (x / 1 % 2 ≡ 1) → Dec (y / 1 % 2 ≡ 1) → x % 2 ≡ y % 2
    go (yes p) q = omega (arith, p, eqb-true (y / 1 % 2) 1 (sym e ∙ eq-eqb (x / 1 % 2) 1 p))
    go (no p) (yes q) = absurd (p (eqb-true (x / 1 % 2) 1 (e ∙ eq-eqb (y / 1 % 2) 1 q)))
    go (no p) (no q) = omega arith

bits_agree : (n x y : ℕ) → x < 2 ^ n → y < 2 ^ n → ((j : ℕ) → j < n → bit_at x j ≡ bit_at y j) → x ≡ y
bits_agree zero x y h k f = omega arith
bits_agree (suc n) x y h k f =
    let a : x < 2 ^ n * 2 = rw pow-suc at h in
    let b : y < 2 ^ n * 2 = rw pow-suc at k in
    let half = bits_agree n (x / 2) (y / 2) (omega arith) (omega arith) (λ j l. sym (half_bit x j) ∙ f (suc j) (omega arith) ∙ half_bit y j) in
    omega (arith, half, low_digit x y (f 0 (omega arith)))

-- The bit above the zeros at a word's low end is one of the word, and those below it are not.
abbrev LowestAt : ℕ → ℕ → ℕ → Type 0
LowestAt k x t = (t < k → bit_at x t ≡ true) × ((j : ℕ) → j < t → bit_at x j ≡ false)

lowest_bit : (k x : ℕ) → LowestAt k x (count_trailing_zeros k x)
unfolding count_trailing_zeros
lowest_bit zero x = (λ h. absurd (omega arith), λ j h. absurd (omega arith))
lowest_bit (suc k) x = digit (x % 2) refl (omega arith) (count_trailing_zeros k (x / 2)) (lowest_bit k (x / 2))
  where
    digit : (d : ℕ) → x % 2 ≡ d → d < 2 → (t : ℕ) → LowestAt k (x / 2) t → LowestAt (suc k) x (under d t)
    digit zero e l t (one, none) = (λ h. half_bit x t ∙ one (omega arith), lower)
      where
        lower : (j : ℕ) → j < suc t → bit_at x j ≡ false
        lower zero h = low_bit x 0 e
        lower (suc j) h = half_bit x j ∙ none j (omega arith)
    digit (suc zero) e l t f = (λ h. low_bit x 1 e, λ j h. absurd (omega arith))
    digit (suc (suc d)) e l t f = absurd (omega arith)

-- A position of a set is a bit of one of its words.
in_word : (words : List ℕ) (at w j : ℕ) → j < 64 → in_set words at (64 * w + j) ≡ bit_at (get_or words (at + w) 0) j
unfolding in_set
in_word words at w j h =
    let a : (64 * w + j) / 64 ≡ w = omega arith in
    let b : (64 * w + j) % 64 ≡ j = omega arith in
    rw (a, b)

-- what its words are known to have, the set has
pub set_words_lem : (words : List ℕ) (at : ℕ) (test : ℕ → Bool) → ((w : ℕ) → w < set_words → WordOf test (64 * w) (get_or words (at + w) 0)) → SetAt words at test
unfolding in_set
set_words_lem words at test f i h =
    let e : 64 * (i / 64) + i % 64 ≡ i = omega arith in
    f (i / 64) (omega arith) (i % 64) (omega arith) ∙ ap test e

-- a test that is asked only where another passes
pub masked : (a b c : Bool) → (a ≡ true → b ≡ c) → (a && b) ≡ (a && c)
masked true b c e = e refl
masked false b c e = refl

module _ (set : List ℕ) where
  own_word : (w j : ℕ) → j < 64 → in_set set 0 (64 * w + j) ≡ bit_at (get_or set w 0) j
  own_word w j h = in_word set 0 w j h ∙ ap (λ (v : ℕ). bit_at (get_or set v 0) j) (zero-add w)

  pub both_words : (table new : List ℕ) (at : ℕ) → ((w : ℕ) → w < set_words → get_or new w 0 ≡ bit_and (get_or set w 0) (get_or table (at + w) 0))
      → SetAt new 0 (λ i. in_set set 0 i && in_set table at i)
  unfolding in_set
  both_words table new at f i h = simp zero-add (rw (f (i / 64) (omega arith)) (bit_and_lem (get_or set (i / 64) 0) (get_or table (at + i / 64) 0) (i % 64)))

  -- Two sets have the same positions of a third exactly where their words have the same bits in common with its words.
  module _ (xs ys : List ℕ) (a b : ℕ) where
    pub positions_same : ((w : ℕ) → w < set_words → bit_and (get_or set w 0) (get_or xs (a + w) 0) ≡ bit_and (get_or set w 0) (get_or ys (b + w) 0))
        → SamePositions set xs a ys b
    unfolding in_set
    positions_same f i h e =
        let x = get_or set (i / 64) 0 in
        let y = get_or xs (a + i / 64) 0 in
        let z = get_or ys (b + i / 64) 0 in
        let q : bit_at x (i % 64) ≡ true = simp zero-add at e in
        let g : (bit_at x (i % 64) && bit_at y (i % 64)) ≡ (bit_at x (i % 64) && bit_at z (i % 64)) =
        sym (bit_and_lem x y (i % 64)) ∙ ap (λ (v : ℕ). bit_at v (i % 64)) (f (i / 64) (omega arith)) ∙ bit_and_lem x z (i % 64) in
        rw q at g

    pub words_same : SamePositions set xs a ys b → (w : ℕ) → w < set_words → get_or set w 0 < 2 ^ 64
        → bit_and (get_or set w 0) (get_or xs (a + w) 0) ≡ bit_and (get_or set w 0) (get_or ys (b + w) 0)
    words_same f w h l =
        let x = get_or set w 0 in
        let y = get_or xs (a + w) 0 in
        let z = get_or ys (b + w) 0 in
        bits_agree 64 (bit_and x y) (bit_and x z) (omega (arith, and_le_l x y)) (omega (arith, and_le_l x z))
        (λ j k.
        let same : bit_at x j ≡ true → bit_at y j ≡ bit_at z j = λ e. sym (in_word xs a w j k) ∙ f (64 * w + j) (omega arith) (own_word w j k ∙ e) ∙ in_word ys b w j k in
        bit_and_lem x y j ∙ masked (bit_at x j) (bit_at y j) (bit_at z j) same ∙ sym (bit_and_lem x z j))

  -- The lowest bit of a word is a position of the set, and where the words before have none, the positions before it are not.
  pub lowest_position : (w : ℕ) → count_trailing_zeros 64 (get_or set w 0) < 64 → in_set set 0 (64 * w + count_trailing_zeros 64 (get_or set w 0)) ≡ true
  lowest_position w h = own_word w (count_trailing_zeros 64 (get_or set w 0)) h ∙ (lowest_bit 64 (get_or set w 0)).0 h

  pub before_lowest : (w : ℕ) → ((i : ℕ) → i < 64 * w → in_set set 0 i ≡ false)
      → (i : ℕ) → i < 64 * w + count_trailing_zeros 64 (get_or set w 0) → in_set set 0 i ≡ false
  before_lowest w low i h = go (dec_lt i (64 * w))
    where
      go : Dec (i < 64 * w) → in_set set 0 i ≡ false
      go (yes l) = low i l
      go (no l) =
          let e : 64 * w + (i - 64 * w) ≡ i = omega arith in
          rw e at (own_word w (i - 64 * w) (omega (arith, trailing_le 64 (get_or set w 0))) ∙ (lowest_bit 64 (get_or set w 0)).1 (i - 64 * w) (omega arith))
