-- The signature that is asked about is one of the bundle.
-- Assumes nothing.
use native.Mathlib.Omega.{arith}
use mathlib.Core.Path.{subst}
use Rattle.layout.specs.Bundles.{model}
use Rattle.layout.proofs.Opened.{counts_of}
use Rattle.tuple_search.specs.Questions.{About}
use Rattle.tuple_search.proofs.question.Question.function.Goals as goal

pub sig_function-requires : goal.sig_function-requires
sig_function-requires c =
    let counts = counts_of c.args.bundle.now.opened in
    omega (arith, subst (About (model c.args.bundle.now)) c.in-Rule.is c.requires)
