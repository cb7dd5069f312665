-- Bytes written one after the other from the first on: what they hold, and that the later ones stay.
-- Assumes nothing.
use Prim.Native.Nat.{ℕ, zero, suc, ◌+◌, ◌-◌, ◌≤◌, ◌<◌}
use native.Mathlib.Omega.{arith}
use native.Mathlib.Nat.{add-zero}
use native.Mathlib.Numerals.{add-one}
use mathlib.Core.Path.{◌≡◌, refl, sym, ap, ◌∙◌}
use mathlib.Core.List.{List, [], ◌∷◌, ◌++◌, map, append_assoc, append-nil, Memᴰ}
use lib.ListN.{length, get_or, take, drop, set, length-append, length-drop, length-map, drop_of_length-le, get_or-append}
use lib.Seq.{take_all, take_at, drop_at, drop-drop, drop-cons, set_at, get_or-append-add, get_or-drop, append_snoc}
use borrow.Rule.Slice.PartMut.{mid_of, put_mid}
use Rattle.rules.specs.Bounded.{upto}
use Rattle.rules.specs.Calls.{overwrite}
use Rattle.rules.proofs.Lists.{length_upto, get_d_upto, upto_below}

map_upto : (f : ℕ → ℕ) (n : ℕ) → length (map f (upto n)) ≡ n
map_upto f n = length-map (upto n) f ∙ length_upto n

-- a map over a list with one element more, and two maps that agree on the elements
pub map_snoc : {A B : Type 0} (f : A → B) (xs : List A) (x : A) → map f (xs ++ (x ∷ [])) ≡ map f xs ++ (f x ∷ [])
map_snoc f [] x = refl
map_snoc f (y ∷ ys) x = rw (map_snoc f ys x)

map_agree : (f g : ℕ → ℕ) (xs : List ℕ) → ((k : ℕ) → Memᴰ k xs → f k ≡ g k) → map f xs ≡ map g xs
map_agree f g [] h = refl
map_agree f g (x ∷ xs) h = rw (h x (Memᴰ.head refl), map_agree f g xs (λ k m. h k (Memᴰ.tail m)))

pub overwrite_none : (f : ℕ → ℕ) (old : List ℕ) → overwrite 0 f old ≡ old
unfolding overwrite upto
overwrite_none f old = refl

pub overwrite_more : (f : ℕ → ℕ) (old : List ℕ) (k : ℕ) → k < length old → set (overwrite k f old) k (f k) ≡ overwrite (k + 1) f old
unfolding overwrite upto
overwrite_more f old k h =
    rw (add-one k, drop-cons old k 0 h, map_snoc f (upto k) k)
    (set_at (map f (upto k)) (get_or old k 0) (drop (suc k) old) (f k) k (map_upto f k)
    ∙ sym (append_snoc (map f (upto k)) (f k) (drop (suc k) old)))

pub overwrite_length : (n : ℕ) (f : ℕ → ℕ) (old : List ℕ) → n ≤ length old → length (overwrite n f old) ≡ length old
unfolding overwrite
overwrite_length n f old h = rw (length-append, map_upto, length-drop) (omega arith)

pub overwrite_at : (n : ℕ) (f : ℕ → ℕ) (old : List ℕ) (i : ℕ) → i < n → get_or (overwrite n f old) i 0 ≡ f i
unfolding overwrite
overwrite_at n f old i h =
    get_or-append (map f (upto n)) (drop n old) 0 i (rw map_upto h) ∙ get_d_map_in (upto n) i (rw length_upto h) ∙ ap f (get_d_upto n i 0 h)
  where
    get_d_map_in : (xs : List ℕ) (i : ℕ) → i < length xs → get_or (map f xs) i 0 ≡ f (get_or xs i 0)
    get_d_map_in [] i r = absurd (omega (arith, r))
    get_d_map_in (x ∷ xs) zero r = refl
    get_d_map_in (x ∷ xs) (suc i) r = get_d_map_in xs i (omega (arith, r))

pub overwrite_later : (n : ℕ) (f : ℕ → ℕ) (old : List ℕ) (i : ℕ) → get_or (overwrite n f old) (n + i) 0 ≡ get_or old (n + i) 0
unfolding overwrite
overwrite_later n f old i =
    ap (λ (k : ℕ). get_or (map f (upto n) ++ drop n old) (k + i) 0) (sym (map_upto f n))
    ∙ get_or-append-add (map f (upto n)) (drop n old) i 0
    ∙ get_or-drop n old i 0

-- what is written is known by its bytes
pub overwrite_agree : (n : ℕ) (f g : ℕ → ℕ) (old : List ℕ) → ((k : ℕ) → k < n → f k ≡ g k) → overwrite n f old ≡ overwrite n g old
unfolding overwrite
overwrite_agree n f g old h = rw (map_agree f g (upto n) (λ k m. h k (upto_below n m)))

-- what is written at a place after what is written before it
overwrite_append : (at n : ℕ) (f : ℕ → ℕ) (old : List ℕ)
    → take at (overwrite at f old) ++ overwrite n (λ j. f (at + j)) (drop at (overwrite at f old)) ≡ overwrite (at + n) f old
unfolding overwrite upto
overwrite_append at n f old =
    rw (take_at (map f (upto at)) (drop at old) at (map_upto f at), drop_at (map f (upto at)) (drop at old) at (map_upto f at), drop-drop)
    (sym (append_assoc (map f (upto at)) (map (λ j. f (at + j)) (upto n)) (drop (at + n) old)) ∙ ap (λ (xs : List ℕ). xs ++ drop (at + n) old) (split n))
  where
    split : (n : ℕ) → map f (upto at) ++ map (λ j. f (at + j)) (upto n) ≡ map f (upto (at + n))
    split zero = append-nil (map f (upto at)) ∙ ap (λ (k : ℕ). map f (upto k)) (sym (add-zero at))
    split (suc n) =
        let e : at + suc n ≡ suc (at + n) = omega arith in
        rw (e, map_snoc (λ j. f (at + j)) (upto n) n, map_snoc f (upto (at + n)) (at + n))
        (sym (append_assoc (map f (upto at)) (map (λ j. f (at + j)) (upto n)) (f (at + n) ∷ [])) ∙ ap (λ (xs : List ℕ). xs ++ (f (at + n) ∷ [])) (split n))

-- A part from a place on, lent, written over from its first byte on, and given back.
module _ (at : ℕ) (old : List ℕ) where
  pub lent_part : mid_of at (length old - at) old ≡ drop at old
  lent_part = take_all (length old - at) (drop at old) (rw length-drop (omega arith))

  pub lent_long : (n : ℕ) → at + n ≤ length old → n ≤ length (mid_of at (length old - at) old)
  lent_long n l = rw (lent_part, length-drop) (omega arith)

  pub lent_back : (n : ℕ) (f : ℕ → ℕ) (part : List ℕ) → part ≡ overwrite n f (mid_of at (length old - at) old)
      → put_mid at (length old - at) old part ≡ take at old ++ overwrite n f (drop at old)
  lent_back n f part e = rw (e, lent_part, drop_of_length-le (drop at old) {i = length old - at} (rw length-drop (omega arith)), append-nil)

-- What is written up to a place, and the part from there on given back with more of it.
pub overwrite_lent : (at n : ℕ) (f g : ℕ → ℕ) (old new part : List ℕ) → new ≡ overwrite at f old → ((j : ℕ) → j < n → g j ≡ f (at + j))
    → part ≡ overwrite n g (mid_of at (length new - at) new) → put_mid at (length new - at) new part ≡ overwrite (at + n) f old
overwrite_lent at n f g old new part e h q =
    lent_back at new n g part q
    ∙ ap (λ (xs : List ℕ). take at new ++ xs) (overwrite_agree n g (λ j. f (at + j)) (drop at new) h)
    ∙ ap (λ (xs : List ℕ). take at xs ++ overwrite n (λ j. f (at + j)) (drop at xs)) e
    ∙ overwrite_append at n f old
