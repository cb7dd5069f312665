-- The classes at the used places of an opened bundle's records, as parts of it.
-- Assumes nothing.
use Prim.Native.Nat.{ℕ, ◌≤◌, ◌<◌}
use native.Mathlib.Omega.{arith}
use mathlib.Core.Path.{◌≡◌, sym, ap, ◌∙◌}
use mathlib.Core.List.{List}
use lib.ListN.{take, drop}
use lib.Seq.{take-take}
use Rattle.rules.specs.Bytes.{part}
use Rattle.rules.specs.Layout.{places, sig_tuple_at, sig_tuple_of, specialiser_tuple_at, declared_tuple_at, specialiser_tuple_of, declared_tuple_of}
use Rattle.rules.specs.Model.{model_of}
use Rattle.layout.specs.Opened.{Opened}
use Rattle.layout.specs.Arity.{OfArity}
use Rattle.layout.specs.declared.bundle.Bundle.{Bundle}
use Rattle.layout.proofs.Opened.{wellformed_of, counts_of}

-- the used places of a tuple are its first bytes
used_part : (b : List ℕ) (at n : ℕ) → n ≤ places → part b at n ≡ take n (part b at places)
unfolding part
used_part b at n h = sym (take-take n places (drop at b) h)

module _ {b : List ℕ} {t : Bundle} (o : Opened b t) where
  -- a number below a count of the tables is one of the model's
  pub of_arity : {f n m : ℕ} → n ≡ (model_of b).arity f → m < t.methods → (model_of b).function m ≡ f → OfArity (model_of b) n m
  of_arity e h q = record { bound = omega (arith, (counts_of o).methods); arity = e ∙ sym (ap (model_of b).arity q) }

  -- a method has no more arguments than the layout has places, and its classes are the first of each of its tuples
  module _ {n m : ℕ} (h : OfArity (model_of b) n m) where
    pub method_below : m < t.methods
    method_below = omega (arith, (counts_of o).methods)

    pub method_places : n ≤ places
    method_places =
        let w = wellformed_of o in
        omega (arith, w.arity_limit ((model_of b).function m) (w.function_present m h.bound))

    pub specialisers_part : part b (specialiser_tuple_at b m) n ≡ (model_of b).specialisers m
    unfolding model_of specialiser_tuple_of
    specialisers_part = rw (← h.arity) (used_part b (specialiser_tuple_at b m) n method_places)

    pub declared_part : part b (declared_tuple_at b m) n ≡ (model_of b).declared m
    unfolding model_of declared_tuple_of
    declared_part = rw (← h.arity) (used_part b (declared_tuple_at b m) n method_places)

  -- so it is of a signature
  module _ {n s : ℕ} (h : s < t.signatures) (e : n ≡ (model_of b).arity ((model_of b).sig_function s)) where
    pub signature_places : n ≤ places
    signature_places =
        let w = wellformed_of o in
        omega (arith, w.arity_limit ((model_of b).sig_function s) (w.sig_function_lem s (omega (arith, (counts_of o).signatures))))

    pub signature_part : part b (sig_tuple_at b s) n ≡ (model_of b).sig_args s
    unfolding model_of sig_tuple_of
    signature_part = rw (← e) (used_part b (sig_tuple_at b s) n signature_places)
