-- Text that grows: one piece after another.
-- Assumes nothing.
use Prim.Native.Nat.{ℕ, ◌+◌, ◌≤◌, ◌<◌}
use native.Mathlib.Omega.{arith}
use native.Mathlib.Numerals.{add-one}
use mathlib.Core.Path.{◌≡◌, refl, sym, ap, subst, ◌∙◌}
use mathlib.Core.List.{List, [], ◌∷◌, ◌++◌, append-nil, append_assoc}
use lib.ListN.{length, take, set, get_or, length-set}
use lib.Seq.{take-suc, take-suc-set, get_or-set_other}
use Rattle.lines.specs.Text.{field, classes}
use Rattle.lines.specs.Appended.{Appended}

-- no piece
pub grown_none : (most : ℕ) (old : List ℕ) (at : ℕ) → Appended most old at [] old at
grown_none most old at =
    record { onward = omega arith; bound = omega arith; same = refl; text = sym (append-nil (take at old)); behind = λ i h. refl }

-- one byte
pub grown_byte : (old : List ℕ) (at v : ℕ) → at < length old → Appended 1 old at (v ∷ []) (set old at v) (at + 1)
grown_byte old at v h =
    record {
      onward = omega arith;
      bound = omega arith;
      same = length-set old at v;
      text = rw (add-one at, take-suc-set old at v h) refl;
      behind = λ i l. get_or-set_other old at i v 0 (λ q. omega arith);
    }

-- one piece and then another
pub grown_both : {k l at q r : ℕ} {old mid new p s : List ℕ} → Appended k old at p mid q → Appended l mid q s new r → Appended (k + l) old at (p ++ s) new r
grown_both {k} {l} {at} {q} {r} {old} {mid} {new} {p} {s} a b =
    record {
      onward = omega (arith, a.onward, b.onward);
      bound = omega (arith, a.bound, b.bound);
      same = b.same ∙ a.same;
      text = b.text ∙ ap (λ (x : List ℕ). x ++ s) a.text ∙ append_assoc (take at old) p s;
      behind = λ i h. b.behind i h ∙ a.behind i (omega (arith, b.onward));
    }

-- the room may be said to be more
pub grown_wider : {k at r : ℕ} (l : ℕ) {old new p : List ℕ} → k ≤ l → Appended k old at p new r → Appended l old at p new r
grown_wider l h a = record { onward = a.onward; bound = omega (arith, h, a.bound); same = a.same; text = a.text; behind = a.behind }

-- the same piece said otherwise
pub grown_as : {k at r : ℕ} {old new p q : List ℕ} → p ≡ q → Appended k old at p new r → Appended k old at q new r
grown_as {k} {at} {r} {old} {new} e a = subst (λ (x : List ℕ). Appended k old at x new r) e a

-- the classes of two lists, one after the other
pub classes_both : (xs ys : List ℕ) → classes (xs ++ ys) ≡ classes xs ++ classes ys
unfolding classes
classes_both [] ys = refl
classes_both (x ∷ xs) ys = ap (λ (l : List ℕ). field " " x ++ l) (classes_both xs ys) ∙ sym (append_assoc (field " " x) (classes xs) (classes ys))

pub classes_more : (xs : List ℕ) (i : ℕ) → i < length xs → classes (take i xs) ++ classes (get_or xs i 0 ∷ []) ≡ classes (take (i + 1) xs)
classes_more xs i h = sym (classes_both (take i xs) (get_or xs i 0 ∷ [])) ∙ ap classes (rw (add-one i) (sym (take-suc xs i 0 h)))
