-- What a check of coverage (M 6) need not try again: a class that no method tells from one that was tried, and a signature that a covered one implies.
-- Assumes nothing.
use Rattle.std.specs.Prelude.{ℕ, ◌≡◌, Bool, ◌&&◌, List, ◌++◌, eqb, get_or}
use Rattle.std.specs.Bool.{beq}
use Rattle.rules.specs.Bounded.{every, keep}
use Rattle.rules.specs.Model.{Model}
use Rattle.rules.specs.Subclass.{subclass, under}
use Rattle.rules.specs.Lookup.{applies, select, lookup}

-- class c is above both classes a and b, or above neither
unfoldable pub above_alike : Model → ℕ → ℕ → ℕ → Bool
above_alike M c a b = beq (subclass M a c) (subclass M b c)

-- Classes a and b are alike at a place by the classes that methods have for their places, specialisers or declared classes: no method of the list has one
-- there that is above only one of the two.
unfoldable pub alike_at : Model → (ℕ → List ℕ) → ℕ → List ℕ → ℕ → ℕ → Bool
alike_at M classes place ms a b = every (λ m. above_alike M (get_or (classes m) place 0) a b) ms

-- with the first places filled, the methods of the list decide what a send of function f finds, whatever completes the tuple
abbrev pub Decides : Model → ℕ → List ℕ → List ℕ → Type 0
Decides M f filled ms = (u : List ℕ) → lookup M f (filled ++ u) ≡ select M (keep (applies M (filled ++ u)) ms)

-- Signature r implies signature s: they are of one function, r covers what s covers, and its result class is under that of s.
unfoldable pub implies : Model → ℕ → ℕ → Bool
implies M r s =
    eqb (M.sig_function r) (M.sig_function s) && under M (M.sig_args s) (M.sig_args r) && subclass M (M.sig_result r) (M.sig_result s)
