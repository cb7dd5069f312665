-- A finite list under a partial order: below each element stands one that no other is below.
-- Assumes nothing.
use Prim.Native.Nat.{ℕ}
use mathlib.Core.Path.{◌≡◌, refl, sym, ◌∙◌}
use mathlib.Core.Bool.{Bool, true, false, false≢true}
use mathlib.Core.Logic.{◌⊎◌, inl, inr}
use mathlib.Core.List.Memᴰ
use mathlib.Core.List.{List, [], ◌∷◌, Memᴰ}
use Rattle.rules.proofs.Lists.{test}

-- of the list ms, m is below c and no element of ns but itself is below m
pub record Minimal (below : ℕ → ℕ → Bool) (ms : List ℕ) (c : ℕ) (ns : List ℕ) : Type 0 where
  pub least : ℕ
  pub member : Memᴰ least ms
  pub under : below least c ≡ true
  pub alone : (n : ℕ) → Memᴰ n ns → (n ≡ least) ⊎ (below n least ≡ false)

module _ (below : ℕ → ℕ → Bool) (ms : List ℕ)
    (itself : (a : ℕ) → below a a ≡ true)
    (compose : (a b c : ℕ) → Memᴰ a ms → below a b ≡ true → below b c ≡ true → below a c ≡ true)
    (antisym : (a b : ℕ) → Memᴰ a ms → Memᴰ b ms → below a b ≡ true → below b a ≡ true → a ≡ b)
  where
    pub minimal : (ns : List ℕ) → ((n : ℕ) → Memᴰ n ns → Memᴰ n ms) → (c : ℕ) → Memᴰ c ms → Minimal below ms c ns
    minimal [] sub c h = record { least = c; member = h; under = itself c; alone = λ n m. absurd (Memᴰ.not-nil m) }
    minimal (n ∷ ns) sub c h =
        go (test (below n c)) (minimal ns (λ k m. sub k (Memᴰ.tail m)) n inside) (minimal ns (λ k m. sub k (Memᴰ.tail m)) c h)
      where
        inside : Memᴰ n ms
        inside = sub n (Memᴰ.head refl)

        -- n against a least that is below it
        apart : (m : ℕ) → Memᴰ m ms → below m n ≡ true → (below n m ≡ true) ⊎ (below n m ≡ false) → (n ≡ m) ⊎ (below n m ≡ false)
        apart m k u (inl e) = inl (antisym n m inside k e u)
        apart m k u (inr e) = inr e

        -- n against a least below c, where n is not below c
        outside : below n c ≡ false → (m : ℕ) → below m c ≡ true → (below n m ≡ true) ⊎ (below n m ≡ false) → (n ≡ m) ⊎ (below n m ≡ false)
        outside f m u (inl e) = absurd (false≢true (sym f ∙ compose n m c inside e u))
        outside f m u (inr e) = inr e

        one : (m k : ℕ) → (n ≡ m) ⊎ (below n m ≡ false) → (Memᴰ k ns → (k ≡ m) ⊎ (below k m ≡ false)) → (k ≡ n) ⊎ Memᴰ k ns → (k ≡ m) ⊎ (below k m ≡ false)
        one m k (inl q) rest (inl e) = inl (e ∙ q)
        one m k (inr q) rest (inl e) = inr (rw e q)
        one m k q rest (inr t) = rest t

        go : (below n c ≡ true) ⊎ (below n c ≡ false) → Minimal below ms n ns → Minimal below ms c ns → Minimal below ms c (n ∷ ns)
        go (inl e) r s =
            record {
              least = r.least;
              member = r.member;
              under = compose r.least n c r.member r.under e;
              alone = λ k t. one r.least k (apart r.least r.member r.under (test (below n r.least))) (r.alone k) (Memᴰ.cases_cons t);
            }
        go (inr e) r s =
            record {
              least = s.least;
              member = s.member;
              under = s.under;
              alone = λ k t. one s.least k (outside e s.least s.under (test (below n s.least))) (s.alone k) (Memᴰ.cases_cons t);
            }
