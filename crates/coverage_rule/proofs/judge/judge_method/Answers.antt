-- The declared classes are asked first, then the result class.
use Rattle.std.proofs.Common.{◌≡◌, sym, ◌∙◌}
use Rattle.rules.specs.Subclass.{subclass}
use Rattle.layout.specs.Bundles.{model}
use Rattle.layout.proofs.Tuples.{method_below}
use Rattle.coverage_rule.proofs.Judging.{judge_declared, judge_result, judge_both}
use Rattle.coverage_rule.proofs.judge.judge_method.Goals as goal
use Rattle.coverage_rule.proofs.judge.judge_method.Goals.{After-is_under}

pub returns-then-not-declared_hold : goal.returns-then-not-declared_hold
returns-then-not-declared_hold c = judge_declared _ _ _ _ (sym c.declared_hold.ensures ∙ c.if-not-declared_hold.true)

pub result-requires : goal.result-requires
result-requires c = method_below c.args.prepared.now.bundle.opened c.requires.of_arity

-- whether the result class is under the signature's
met : (c : After-is_under) → let a = c.args in let M = model a.prepared.now.bundle in c.is_under.result ≡ subclass M (M.result a.m) (M.sig_result a.s)
met c = rw (← c.result.ensures.0, ← c.sig_result.ensures.0) c.is_under.ensures

pub returns-then-not-is_under : goal.returns-then-not-is_under
returns-then-not-is_under c =
    judge_result _ _ _ _ (sym c.declared_hold.ensures ∙ c.if-not-declared_hold.false)
    (sym (met (goal.at.returns-then-not-is_under c).After-is_under) ∙ c.if-not-is_under.true)

pub returns : goal.returns
returns c =
    judge_both _ _ _ _ (sym c.declared_hold.ensures ∙ c.if-not-declared_hold.false)
    (sym (met (goal.at.returns c).After-is_under) ∙ c.if-not-is_under.false)
