-- The classes of a chart.
-- Assumes nothing.
use Prim.Native.Nat.{ℕ, ◌+◌, ◌*◌, ◌<◌, ◌≤◌}
use native.Mathlib.Omega.{arith}
use mathlib.Core.Path.{◌≡◌, refl, sym, ap}
use mathlib.Core.List.{List, [], ◌∷◌}
use lib.ListN.{length, get_or}
use borrow.Author.Tests.{lt-ltb}
use Rattle.rules.specs.Bounded.{upto, every}
use Rattle.rules.specs.Layout.{max_classes}
use Rattle.rules.specs.Model.{Model, Wellformed, present}
use Rattle.rules.specs.Coverage.{concrete_class}
use Rattle.rules.specs.Chart.{concretes, line_bytes}
use Rattle.rules.proofs.Lists.{get_d_mem, keep_mem, keep_length, upto_below, length_upto}
use Rattle.subclasses.specs.Places.{Arguments}
use Rattle.chart_line.specs.Charted.{Charted}

-- each is a class of the bundle
pub class_below : {M : Model} {f k : ℕ} {classes : List ℕ} → Charted M f classes k → (i : ℕ) → i < length classes → get_or classes i 0 < M.classes
unfolding concretes
class_below {M} g i h =
    let inside = ap (length {A = ℕ}) g.concrete in
    rw g.concrete (upto_below M.classes (keep_mem (concrete_class M) (upto M.classes) (get_d_mem (concretes M) i 0 (omega (arith, inside)))).0)

-- two of them are the arguments of a send
pub charted_arguments : {M : Model} {f k : ℕ} {classes : List ℕ} → Charted M f classes k → (i j : ℕ) → i < length classes → j < length classes
    → Arguments M f (get_or classes i 0 ∷ get_or classes j 0 ∷ [])
unfolding present every
charted_arguments g i j h l =
    record { function = g.function; arity = sym g.binary; classes = rw (lt-ltb _ _ (class_below g i h), lt-ltb _ _ (class_below g j l)) refl }

-- a class of the bundle is one of them where it is concrete
pub one_of : (M : Model) (k : ℕ) → k < M.classes → concrete_class M k ≡ M.concrete k
unfolding concrete_class
one_of M k h = rw (lt-ltb k M.classes h) refl

-- there are no more of them than classes
pub few_concretes : {M : Model} → Wellformed M → length (concretes M) ≤ max_classes
unfolding concretes
few_concretes {M} w = omega (arith, keep_length (concrete_class M) (upto M.classes), length_upto M.classes, w.classes_limit)

pub few_classes : {M : Model} {f k : ℕ} {classes : List ℕ} → Wellformed M → Charted M f classes k → length classes ≤ max_classes
few_classes w g = omega (arith, ap (length {A = ℕ}) g.concrete, few_concretes w)

-- a buffer that holds a line has room for a column of each
pub enough_room : {M : Model} {f k n : ℕ} {classes : List ℕ} → Charted M f classes k → line_bytes M ≤ n → 5 + 5 * length classes ≤ n
unfolding line_bytes
enough_room g h = omega (arith, ap (length {A = ℕ}) g.concrete, h)
