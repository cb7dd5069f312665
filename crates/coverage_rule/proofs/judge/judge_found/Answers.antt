use Rattle.std.proofs.Common.{sym, ap, ◌∙◌}
use Rattle.layout.specs.Bundles.{model}
use Rattle.rules.proofs.Lookup.{lookup_leader}
use Rattle.dispatch.specs.Found.{found_of}
use Rattle.coverage_rule.proofs.Judging.{judge_by, judge_not_found}
use Rattle.coverage_rule.proofs.judge.judge_found.Goals as goal

pub judge_method-requires-clause-of_arity : goal.judge_method-requires-clause-of_arity
judge_method-requires-clause-of_arity c =
    let p = c.requires in
    let m = (lookup_leader _ _ _ _ (sym p.found_value ∙ ap found_of c.in-Ok.is)).candidate in
    record { bound = m.bound; arity = p.arguments.arity ∙ ap (model c.args.prepared.now.bundle).arity (sym m.of_function) }

pub returns-in-Ok : goal.returns-in-Ok
returns-in-Ok c = judge_by _ _ _ c.requires.found_value (rw c.in-Ok.is c.judge_method.ensures)

pub returns-in-Err : goal.returns-in-Err
returns-in-Err c = judge_by _ _ _ c.requires.found_value (rw c.in-Err.is (judge_not_found _ _ _ c.in-Err.failed))
