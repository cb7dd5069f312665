-- The lowest concrete class under a class, and the tuple of these.
-- Assumes nothing.
use Prim.Native.Nat.{ℕ, ◌+◌, ◌≤◌, ◌<◌}
use native.Mathlib.Nat.{ne_of_lt}
use native.Mathlib.Omega.{arith}
use mathlib.Core.Path.{◌≡◌, refl, sym, ap, subst}
use mathlib.Core.Bool.{true, false}
use mathlib.Core.List.{List}
use mathlib.Core.Option.{Option, none, some}
use lib.ListN.{length, get_or, take, set}
use lib.Seq.{length-take-le, get_or-take, get_or-set_same, get_or-set_other}
use borrow.Author.Count.{below_more}
use Rattle.rules.specs.Bounded.{upto, first}
use Rattle.rules.specs.Model.{Model}
use Rattle.rules.specs.Subclass.{subclass, under}
use Rattle.rules.specs.Coverage.{concrete_class, candidate_class, Below}
use Rattle.rules.specs.Rough.{has_concrete}
use Rattle.rules.proofs.Lists.{and_left, and_right, any_none, every_places, matching_from, none_lowest, some_lowest, lowest_none, lowest_some, upto_below}
use Rattle.std.specs.Prelude as std
use Rattle.upper_classes.specs.Lowest.{option_of, lowest_under}

module _ (M : Model) (c : ℕ) where
  -- what a loop over the classes finds
  pub lowest_found : (k : ℕ) → k < M.classes → candidate_class M c k ≡ true → ((j : ℕ) → j < k → candidate_class M c j ≡ false) → std.Some k ≡ lowest_under M c
  unfolding lowest_under
  lowest_found k h e low = ap option_of (sym (some_lowest (candidate_class M c) M.classes k h e low))

  pub lowest_missing : ((j : ℕ) → j < M.classes → candidate_class M c j ≡ false) → std.None ≡ lowest_under M c
  unfolding lowest_under
  lowest_missing low = ap option_of (sym (none_lowest (candidate_class M c) M.classes low))

  -- what its answer says of the class
  pub lowest_is : (k : ℕ) → std.Some k ≡ lowest_under M c → (k < M.classes) × (candidate_class M c k ≡ true)
  unfolding lowest_under
  lowest_is k h = go (first (candidate_class M c) (upto M.classes)) refl h
    where
      go : (r : Option ℕ) → first (candidate_class M c) (upto M.classes) ≡ r → std.Some k ≡ option_of r → (k < M.classes) × (candidate_class M c k ≡ true)
      go none e l = absurd (cc)
      go (some j) e l = let same : k ≡ j = cc in let low = lowest_some (candidate_class M c) M.classes j e in rw same (low.0, low.1)

  pub lowest_none_under : std.None ≡ lowest_under M c → has_concrete M c ≡ false
  unfolding lowest_under has_concrete
  lowest_none_under h = go (first (candidate_class M c) (upto M.classes)) refl h
    where
      go : (r : Option ℕ) → first (candidate_class M c) (upto M.classes) ≡ r → std.None ≡ option_of r → has_concrete M c ≡ false
      go none e l = any_none (candidate_class M c) (upto M.classes) (λ k m. lowest_none (candidate_class M c) M.classes e k (upto_below M.classes m))
      go (some k) e l = absurd (cc)

-- Classes to try at the places of a tuple.
abbrev pub Candidates : Model → List ℕ → List ℕ → ℕ → Type 0
Candidates M upper t n = (i : ℕ) → i < n → candidate_class M (get_or upper i 0) (get_or t i 0) ≡ true

pub candidates_more : (M : Model) (upper t : List ℕ) (i k : ℕ) → i < length t → Candidates M upper t i → candidate_class M (get_or upper i 0) k ≡ true
    → Candidates M upper (set t i k) (i + 1)
candidates_more M upper t i k l h e =
    below_more (λ (j : ℕ). candidate_class M (get_or upper j 0) (get_or (set t i k) j 0) ≡ true) i
    (λ j b. subst (λ (x : ℕ). candidate_class M (get_or upper j 0) x ≡ true) (sym (get_or-set_other t i j k 0 (ne_of_lt b))) (h j b))
    (subst (λ (x : ℕ). candidate_class M (get_or upper i 0) x ≡ true) (sym (get_or-set_same t i k 0 l)) e)

-- one for each of the classes makes a tuple below
pub places_below : (M : Model) (upper least : List ℕ) → length upper ≤ length least → Candidates M upper least (length upper) → Below M upper (take (length upper) least)
unfolding under
places_below M upper least l h =
    let t = take (length upper) least in
    let long : length t ≡ length upper = length-take-le (length upper) least l in
    let met : (i : ℕ) → i < length upper → candidate_class M (get_or upper i 0) (get_or t i 0) ≡ true =
    λ i b. subst (λ (x : ℕ). candidate_class M (get_or upper i 0) x ≡ true) (sym (get_or-take (length upper) least i 0 b)) (h i b) in
    record {
      concrete = every_places (concrete_class M) t 0 (λ i b. and_left (concrete_class M (get_or t i 0)) (subclass M (get_or t i 0) (get_or upper i 0)) (met i (omega (arith, long))));
      covered = matching_from (subclass M) t upper 0 0 long (λ i b. and_right (concrete_class M (get_or t i 0)) (subclass M (get_or t i 0) (get_or upper i 0)) (met i (omega (arith, long))));
    }
