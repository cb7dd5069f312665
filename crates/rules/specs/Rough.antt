-- Arguments known only roughly (M 14): what a send finds where an upper class is known for each argument, and no more.
-- Assumes nothing.
use Rattle.std.specs.Prelude.{ℕ, ◌≡◌, Bool, true, false, ◌⊎◌, eqb}
use mathlib.Core.List.{List, Memᴰ}
use Rattle.std.proofs.Math.Option.{Option, none, some}
use Rattle.rules.specs.Numbers as numbers
use Rattle.rules.specs.Bounded.{upto, every, any, first}
use Rattle.rules.specs.Layout.{Answer, gives, require}
use Rattle.rules.specs.Model.{Model}
use Rattle.rules.specs.Subclass.{subclass}
use Rattle.rules.specs.Lookup.{Found, found, missing, ambiguous, lookup}
use Rattle.rules.specs.Coverage.{concrete_class, candidate_class, tuples, Below}
use Rattle.rules.specs.Calls.{with_scratch, send_rule, used}

-- One method, which every tuple below the upper classes finds; or some such tuple finds none or two; or each finds one, and not all of them the same (M 14.2).
pub data Rough : Type 0 where
  one : ℕ → Rough
  may_fail : Rough
  several : Rough

-- what lookup finds is method m
unfoldable pub is_method : ℕ → Found → Bool
is_method m (found n) = eqb n m
is_method m missing = false
is_method m (ambiguous n o) = false

-- it is none, or two
unfoldable pub is_failure : Found → Bool
is_failure (found m) = false
is_failure missing = true
is_failure (ambiguous m n) = true

-- the method that each tuple of a list finds
unfoldable pub shared_method : Model → ℕ → List (List ℕ) → Option ℕ
shared_method M f ts = first (λ m. every (λ t. is_method m (lookup M f t)) ts) (upto M.methods)

-- some tuple of a list finds none, or two
unfoldable pub some_fails : Model → ℕ → List (List ℕ) → Bool
some_fails M f ts = any (λ t. is_failure (lookup M f t)) ts

unfoldable pub rough_by : Option ℕ → Bool → Rough
rough_by (some m) fails = one m
rough_by none true = may_fail
rough_by none false = several

-- what the tuples of concrete classes below the upper classes find (M 14.1, M 14.2)
unfoldable pub rough : Model → ℕ → List ℕ → Rough
rough M f upper = rough_by (shared_method M f (tuples M upper)) (some_fails M f (tuples M upper))

-- some concrete class is under class c
unfoldable pub has_concrete : Model → ℕ → Bool
has_concrete M c = any (candidate_class M c) (upto M.classes)

-- 24 where an upper class has no concrete class under it (M 14.3)
unfoldable pub rough_of : Model → ℕ → List ℕ → Answer Rough
rough_of M f upper = require (every (has_concrete M) upper) numbers.no_concrete (gives (rough M f upper))

-- the rough call (M 14.3): 18 as for a lookup, then 24; unused places have no upper class
unfoldable pub rough_in : ℕ → List ℕ → Model → Answer Rough
rough_in f tuple M = require (send_rule M f tuple) numbers.absent (rough_of M f (used M f tuple))

unfoldable pub rough_call : List ℕ → ℕ → ℕ → List ℕ → Answer Rough
rough_call b scratch f tuple = with_scratch b scratch (rough_in f tuple)

-- two tuples below the upper classes find different methods
pub record Differing (M : Model) (f : ℕ) (upper : List ℕ) : Type 0 where
  pub left : List ℕ
  pub right : List ℕ
  pub left_below : Below M upper left
  pub right_below : Below M upper right
  pub left_method : ℕ
  pub right_method : ℕ
  pub left_found : lookup M f left ≡ found left_method
  pub right_found : lookup M f right ≡ found right_method
  pub apart : left_method ≡ right_method → ⊥

-- What an answer says of the tuples below (M 14.2).
abbrev pub Says : Model → ℕ → List ℕ → Rough → Type 0
Says M f upper (one m) = (t : List ℕ) → Below M upper t → lookup M f t ≡ found m
Says M f upper may_fail = (t : List ℕ) × Below M upper t × (is_failure (lookup M f t) ≡ true)
Says M f upper several = ((t : List ℕ) → Below M upper t → is_failure (lookup M f t) ≡ false) × Differing M f upper

-- What an answer may become where upper classes give way to classes under them (M 14.4).
abbrev pub NarrowsTo : Rough → Rough → Type 0
NarrowsTo (one m) r = r ≡ one m
NarrowsTo may_fail r = Unit {0}
NarrowsTo several r = (r ≡ several) ⊎ ((m : ℕ) × (r ≡ one m))

-- a concrete class with no other concrete class under it (M 14.4)
pub record Alone (M : Model) (c : ℕ) : Type 0 where
  pub concrete : concrete_class M c ≡ true
  pub itself : (k : ℕ) → concrete_class M k ≡ true → subclass M k c ≡ true → k ≡ c

abbrev pub AllAlone : Model → List ℕ → Type 0
AllAlone M upper = (c : ℕ) → Memᴰ c upper → Alone M c

-- lookup's answer as a rough one
unfoldable pub certain : Found → Rough
certain (found m) = one m
certain missing = may_fail
certain (ambiguous m n) = may_fail
