-- The answers of the questions, case by case.
-- Assumes nothing.
use Prim.Native.Nat.{ℕ, ◌≤◌, ◌<◌}
use mathlib.Core.Path.{◌≡◌, refl, sym, ap, ◌∙◌}
use mathlib.Core.Bool.{Bool, true, false, false≢true, and-false}
use mathlib.Core.Logic.{◌⊎◌, inl, inr}
use mathlib.Core.List.{List, [], ◌∷◌, ◌++◌, append-nil}
use lib.ListN.{take}
use borrow.Author.Tests.{lt-ltb, le-ltb, le-leb, lt-leb}
use Rattle.rules.specs.Numbers as numbers
use Rattle.rules.specs.Layout.{gives, refuses, require}
use Rattle.rules.specs.Model.{Model, model_of}
use Rattle.rules.specs.Subclass.{Ancestry, ancestry}
use Rattle.rules.specs.Lookup.{Found, found, lookup, exact}
use Rattle.rules.specs.Types.{Static, send_type}
use Rattle.rules.specs.Calls.{row_bytes, send_rule, ancestry_in, found_answer, lookup_in, licensed, send_type_in}
use Rattle.layout.specs.Opened.{Opened}
use Rattle.layout.specs.declared.bundle.Bundle.{Bundle}
use Rattle.layout.proofs.Opened.{counts_of}
use Rattle.answers.specs.declared.failure.NotFound.{NotFound}
use Rattle.answers.specs.declared.failure.NotFound.TheVariants.{Missing, Ambiguous}
use Rattle.answers.specs.Failures.{not_found, not_found_number, not_found_methods}
use Rattle.typing.specs.Rows.{class_types}
use Rattle.typing.specs.Sends.{inhabited}
use Rattle.sends.specs.Send.{Passes}
use Rattle.questions.specs.Said.{blank}

-- The answers of the ancestry question.
module _ {b : List ℕ} {t : Bundle} (o : Opened b t) (a c : ℕ) where
  pub ancestry_absent : (t.classes ≤ a) ⊎ (t.classes ≤ c) → refuses numbers.absent [] ≡ ancestry_in a c (model_of b)
  unfolding ancestry_in require
  ancestry_absent (inl h) = rw (le-ltb a (model_of b).classes (rw (sym (counts_of o).classes) h))
  ancestry_absent (inr h) = rw (le-ltb c (model_of b).classes (rw (sym (counts_of o).classes) h), and-false)

  pub ancestry_answered : a < t.classes → c < t.classes → {r : Ancestry} → r ≡ ancestry (model_of b) a c → gives r ≡ ancestry_in a c (model_of b)
  unfolding ancestry_in require
  ancestry_answered h k q =
      rw (q, lt-ltb a (model_of b).classes (rw (sym (counts_of o).classes) h), lt-ltb c (model_of b).classes (rw (sym (counts_of o).classes) k))

-- The answers of a lookup.
module _ (M : Model) (f : ℕ) (tuple : List ℕ) where
  pub lookup_absent : send_rule M f tuple ≡ false → refuses numbers.absent [] ≡ lookup_in f tuple M
  unfolding lookup_in require
  lookup_absent e = rw e

  pub lookup_found : {n : ℕ} {classes : List ℕ} {r : Found} → send_rule M f tuple ≡ true → Passes M f tuple n classes → r ≡ lookup M f (take n classes)
      → found_answer M f tuple r ≡ lookup_in f tuple M
  unfolding lookup_in require
  lookup_found e p q = rw (e, q, p.same)

  pub lookup_method : {n m : ℕ} {classes : List ℕ} {t : Bool} → send_rule M f tuple ≡ true → Passes M f tuple n classes → found m ≡ lookup M f (take n classes)
      → t ≡ exact M (take n classes) m → gives (record { method = m; is_exact = t }) ≡ lookup_in f tuple M
  unfolding found_answer
  lookup_method e p q x = rw (x, p.same) (lookup_found e p q)

-- where lookup fails, the call does
pub lookup_not_found : (M : Model) (f : ℕ) (tuple : List ℕ) (x : NotFound) → refuses (not_found_number x) (f ∷ tuple ++ not_found_methods x) ≡ found_answer M f tuple (not_found x)
unfolding found_answer
lookup_not_found M f tuple Missing = ap (λ (vs : List ℕ). refuses numbers.no_method (f ∷ vs)) (append-nil tuple)
lookup_not_found M f tuple (Ambiguous m n) = refl

-- The answers of a send type call with a row of n bytes.
module _ (M : Model) (f : ℕ) (tuple : List ℕ) (row : ℕ) where
  pub type_short : row < row_bytes → send_type_in row f tuple M ≡ refuses numbers.short_buffer []
  unfolding send_type_in require
  type_short h = rw (lt-leb row_bytes row h)

  pub type_absent : row_bytes ≤ row → send_rule M f tuple ≡ false → send_type_in row f tuple M ≡ refuses numbers.absent []
  unfolding send_type_in require
  type_absent h e = rw (le-leb row_bytes row h, e)

  pub type_answered : {n : ℕ} {classes : List ℕ} → row_bytes ≤ row → send_rule M f tuple ≡ true → Passes M f tuple n classes
      → send_type_in row f tuple M ≡ licensed (send_type M f (class_types (take n classes)))
  unfolding send_type_in require class_types
  type_answered h e p = rw (le-leb row_bytes row h, e, p.same)

-- whether a type has a class says whether its send is licensed
pub licensed_blank : (t : Static) {r : Bool} → r ≡ inhabited t → (r ≡ true → gives tt ≡ blank (licensed t)) × (r ≡ false → refuses numbers.no_licence [] ≡ blank (licensed t))
unfolding inhabited licensed
licensed_blank [] q = (λ e. absurd (false≢true (sym q ∙ e)), λ e. refl)
licensed_blank (c ∷ cs) q = (λ e. refl, λ e. absurd (false≢true (sym e ∙ q)))
