-- The target is a method of m's function, and the row that goes on top is that of its result class.
use native.Mathlib.Omega.{arith}
use mathlib.Core.Path.{sym, ◌∙◌}
use Rattle.rules.proofs.Resend.{found_target}
use Rattle.layout.proofs.Opened.{counts_of}
use Rattle.layout.proofs.Tuples.{of_arity}
use Rattle.typing.proofs.Bodies.{applied_narrow, applied_target}
use Rattle.typing.proofs.resend.apply_target.Goals as goal

pub suits-requires-clause-of_arity : goal.suits-requires-clause-of_arity
suits-requires-clause-of_arity c = of_arity c.args.prepared.now.bundle.opened c.arity-n.ensures.0 c.requires.m_lt_methods (sym c.function.ensures.0)

pub suits-requires-clause-of_arity_2 : goal.suits-requires-clause-of_arity_2
suits-requires-clause-of_arity_2 c =
    let o = c.args.prepared.now.bundle.opened in
    let chosen = (found_target _ _ _ c.requires.m_value).chosen in
    of_arity o c.arity-n.ensures.0 (omega (arith, (counts_of o).methods, chosen.bound)) (chosen.of_function ∙ sym c.function.ensures.0)

pub returns-then-not-suits : goal.returns-then-not-suits
returns-then-not-suits c = applied_narrow _ _ _ _ c.requires.m_value (sym c.suits.ensures ∙ c.if-not-suits.true)

pub result-requires : goal.result-requires
result-requires c =
    omega (arith, (counts_of c.args.prepared.now.bundle.opened).methods, (found_target _ _ _ c.requires.m_value).chosen.bound)

pub returns : goal.returns
returns c =
    applied_target _ _ _ _ c.requires.m_value c.class_row.result _ c.push.ensures.items
    (sym c.suits.ensures ∙ c.if-not-suits.false) (rw c.result.ensures.0 at c.class_row.ensures)
