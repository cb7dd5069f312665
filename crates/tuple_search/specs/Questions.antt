-- What a search asks of tuples.
-- Assumes nothing.
use Rattle.std.specs.Prelude.{ℕ, ◌<◌, Bool, true, false, not, List}
use Rattle.rules.specs.Model.{Model}
use Rattle.rules.specs.Lookup.{lookup}
use Rattle.rules.specs.Coverage.{judge, failing}
use Rattle.rules.specs.Rough.{is_method, is_failure}
use Rattle.tuple_search.specs.declared.question.Question.{Question}
use Rattle.tuple_search.specs.declared.question.Question.TheVariants.{Rule, Finds, FindsOnly}

-- the signature, or the function, is there
abbrev pub About : Model → Question → Type 0
About M (Rule s) = s < M.signatures
About M (Finds f) = f < M.functions
About M (FindsOnly f m) = f < M.functions

-- the function whose sends are asked about
abbrev pub function_of : Model → Question → ℕ
function_of M (Rule s) = M.sig_function s
function_of M (Finds f) = f
function_of M (FindsOnly f m) = f

-- the answer is no for this tuple
unfoldable pub stops_at : Model → Question → List ℕ → Bool
stops_at M (Rule s) args = failing (judge M s args)
stops_at M (Finds f) args = is_failure (lookup M f args)
stops_at M (FindsOnly f m) args = not (is_method m (lookup M f args))

-- beside the specialisers of methods the answer depends on their declared classes
abbrev pub by_declared : Question → Bool
by_declared (Rule s) = true
by_declared (Finds f) = false
by_declared (FindsOnly f m) = false
