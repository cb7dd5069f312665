-- What a rough answer says, in the words of the rules.
-- Assumes nothing.
use Rattle.std.specs.Prelude.{ℕ, ◌≡◌, true, List, [], Result, Ok, Err}
use Rattle.rules.specs.Numbers as numbers
use Rattle.rules.specs.Layout.{Answer, gives, refuses}
use Rattle.rules.specs.Model.{Model, model_of}
use Rattle.rules.specs.Subclass.{under}
use Rattle.rules.specs.Lookup.{found, lookup}
use Rattle.rules.specs.Coverage.{Below}
use Rattle.rules.specs.Calls.{used}
use Rattle.rules.specs.Rough.{Rough, one, may_fail, several, rough_call, NarrowsTo}
use Rattle.answers.specs.Refusals.{refusal_said}
use Rattle.upper_classes.specs.declared.answer.Rough as rough-type
use Rattle.upper_classes.specs.declared.answer.Rough.TheVariants.{One, MayFail, Several}
use Rattle.upper_classes.specs.declared.answer.RoughError as error-type
use Rattle.upper_classes.specs.declared.answer.RoughError.TheVariants.{NoConcrete, Refused}

-- what is found below the upper classes
abbrev pub found_below : rough-type.Rough → Rough
found_below (One m) = one m
found_below MayFail = may_fail
found_below Several = several

abbrev pub rough_said : Result rough-type.Rough error-type.RoughError → Answer Rough
rough_said (Ok x) = gives (found_below x)
rough_said (Err NoConcrete) = refuses numbers.no_concrete []
rough_said (Err (Refused r)) = refusal_said r

-- some tuple below the upper classes finds method m
pub record SomeFinds (M : Model) (f : ℕ) (upper : List ℕ) (m : ℕ) : Type 0 where
  pub tuple : List ℕ
  pub below : Below M upper tuple
  pub finds : lookup M f tuple ≡ found m

-- The claim about any two calls on the same bytes, each with a scratch of its own, that both answer: where each class at a used place of the second is under that
-- of the first, one method stays that method, and several becomes several or one.
abbrev pub CallsNarrow : Type 0
CallsNarrow =
    (b : List ℕ) (n k f : ℕ) (wide narrow : List ℕ) (x y : Result rough-type.Rough error-type.RoughError) (r q : Rough)
    → rough_said x ≡ rough_call b n f wide
    → rough_said y ≡ rough_call b k f narrow
    → under (model_of b) (used (model_of b) f narrow) (used (model_of b) f wide) ≡ true
    → rough_said x ≡ gives r
    → rough_said y ≡ gives q
    → NarrowsTo r q
