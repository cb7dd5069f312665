-- Sets of classes as words of bits, and a row of sets for all numbers of classes.
-- Assumes nothing.
use Rattle.std.specs.Prelude.{ℕ, ◌<◌, ◌≡◌, Bool, List, [], length, get_or}
use Rattle.rules.specs.Layout.{max_classes}
use Rattle.rules.specs.Bits.{in_set}
use Rattle.inheritance.specs.declared.class_set.ClassSet.{ClassSet}

-- the set has class c
abbrev pub has_class : ClassSet → ℕ → Bool
has_class s c = in_set s.words 0 c

abbrev pub no_class : ClassSet
no_class = record { words = [] }

-- row a has class c
abbrev pub rows_have : List ClassSet → ℕ → ℕ → Bool
rows_have rows a c = has_class (get_or rows a no_class) c

-- the rows of the classes below n say for which classes a test passes
pub record RowsOf (f : ℕ → ℕ → Bool) (n : ℕ) (rows : List ClassSet) : Type 0 where
  pub long : length rows ≡ max_classes
  pub told : (a c : ℕ) → a < n → c < max_classes → rows_have rows a c ≡ f a c
