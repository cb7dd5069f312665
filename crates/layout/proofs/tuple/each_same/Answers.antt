use Rattle.std.proofs.Common.{◌≡◌, ℕ, List, [], ◌∷◌, refl, ap, ◌∙◌}
use mathlib.Core.Bool.{◌&&◌}
use lib.Dec.{eqb}
use lib.Pointwise.{pointwise}
use Rattle.rules.specs.Bounded.{matching}
use Rattle.layout.proofs.tuple.each_same.Goals as goal

-- std's comparison of slices is the rules' comparison place by place
pointwise_matching : (xs ys : List ℕ) → pointwise eqb xs ys ≡ matching eqb xs ys
unfolding matching
pointwise_matching [] [] = refl
pointwise_matching [] (y ∷ ys) = refl
pointwise_matching (x ∷ xs) [] = refl
pointwise_matching (x ∷ xs) (y ∷ ys) = ap (λ r. eqb x y && r) (pointwise_matching xs ys)

pub returns : goal.returns
returns c = c.eq.ensures ∙ pointwise_matching _ _
