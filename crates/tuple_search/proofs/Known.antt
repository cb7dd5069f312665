-- What a search goes by, from that it is known.
-- Assumes nothing.
use Prim.Native.Nat.{ℕ, ◌<◌}
use mathlib.Core.Path.{◌≡◌}
use mathlib.Core.Bool.{Bool, true}
use mathlib.Core.List.{List}
use mathlib.Core.Logic.{∥∥₁_elim, ∥∥₁_map}
use denote.Struct.Props.{props}
use lib.Dec.{eqb}
use borrow.Author.Tests.{eq-eqb, eqb-true}
use Rattle.rules.specs.Bounded.{upto, any}
use Rattle.rules.specs.Model.{Model}
use Rattle.rules.proofs.Lists.{any_mem, any_from, upto_below, below_upto}
use Rattle.method_sets.specs.Sets.{method_at, OrderedTo}
use Rattle.tuple_search.specs.declared.question.Question.{Question}
use Rattle.tuple_search.specs.declared.question.Question.TheVariants.{Rule, Finds, FindsOnly}
use Rattle.tuple_search.specs.Questions.{About}
use Rattle.tuple_search.specs.Search.{Tables, GoesBy}

-- that a number is one of the bundle's is known in one way
about-prop : (M : Model) (q : Question) → IsProp (About M q)
about-prop M (Rule s) = hlevel props
about-prop M (Finds f) = hlevel props
about-prop M (FindsOnly f m) = hlevel props

-- a position is found where it is known that there is one
position_of : (n m : ℕ) (order : List ℕ) → ∥ ((i : ℕ) × (i < n) × (method_at order i ≡ m)) ∥₁ → (i : ℕ) × (i < n) × (method_at order i ≡ m)
position_of n m order t =
    let p : ℕ → Bool = λ i. eqb (method_at order i) m in
    let some : any p (upto n) ≡ true = ∥∥₁_elim t (hlevel props) (λ (i, h, e). any_from p (upto n) (below_upto n i h) (eq-eqb _ _ e)) in
    let (i, v, e) = any_mem p (upto n) some in
    (i, upto_below n v, eqb-true _ _ e)

ordered_of : {M : Model} {n : ℕ} {order : List ℕ} → ∥ OrderedTo M n order ∥₁ → OrderedTo M n order
ordered_of {M} {n} {order} t =
    record {
      long = ∥∥₁_elim t (hlevel props) (λ o. o.long);
      methods = ∥∥₁_elim t (hlevel props) (λ o. o.methods);
      weights = ∥∥₁_elim t (hlevel props) (λ o. o.weights);
      positions = λ m h. position_of n m order (∥∥₁_map t (λ o. o.positions m h));
      falling = ∥∥₁_elim t (hlevel props) (λ o. o.falling);
      rest = ∥∥₁_elim t (hlevel props) (λ o. o.rest);
    }

-- the question is about the bundle
pub about_of : {M : Model} {q : Question} {order admits holds : List ℕ} → GoesBy M q order admits holds → About M q
about_of {M} {q} t = ∥∥₁_elim t (about-prop M q) (λ k. k.0)

pub tables_of : {M : Model} {q : Question} {order admits holds : List ℕ} → GoesBy M q order admits holds → Tables M q order admits holds
tables_of t =
    record {
      ordered = ordered_of (∥∥₁_map t (λ k. k.1.ordered));
      admitting = ∥∥₁_elim t (hlevel props) (λ k. k.1.admitting);
      holding = ∥∥₁_elim t (hlevel props) (λ k. k.1.holding);
    }
