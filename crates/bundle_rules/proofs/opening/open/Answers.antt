-- The rules are tried in their order, and the first that is broken gives the answer.
use mathlib.Core.Path.{sym, ◌∙◌}
use Rattle.std.proofs.lemmas.Result.{err_from_is_err_and}
use Rattle.rules.specs.Layout.{chain_rule, whole_rule, require, opening}
use Rattle.rules.proofs.Lists.{and_left}
use Rattle.layout.proofs.Opened.{opened_with}
use Rattle.layout.proofs.Within.{long, within}
use Rattle.bundle_rules.proofs.Order.{tried_before}
use Rattle.bundle_rules.proofs.opening.open.Goals as goal

pub returns-then-not-size_holds-clause-opens : goal.returns-then-not-size_holds-clause-opens
unfolding opening require
returns-then-not-size_holds-clause-opens c = record { answer = rw (← c.size_holds.ensures, c.if-not-size_holds.true); tables = tt }

pub directory_holds-requires : goal.directory_holds-requires
directory_holds-requires c = long _ (sym c.size_holds.ensures ∙ c.if-not-size_holds.false)

pub returns-then-not-directory_holds-clause-opens : goal.returns-then-not-directory_holds-clause-opens
unfolding opening require
returns-then-not-directory_holds-clause-opens c =
    let size = sym c.size_holds.ensures ∙ c.if-not-size_holds.false in
    record { answer = rw (size, ← c.directory_holds.ensures, c.if-not-directory_holds.true); tables = tt }

pub of_directory-tables-requires : goal.of_directory-tables-requires
of_directory-tables-requires c = long _ (sym c.size_holds.ensures ∙ c.if-not-size_holds.false)

pub returns-then-not-within_limits-clause-opens : goal.returns-then-not-within_limits-clause-opens
unfolding opening require
returns-then-not-within_limits-clause-opens c =
    let size = sym c.size_holds.ensures ∙ c.if-not-size_holds.false in
    let directory = sym c.directory_holds.ensures ∙ c.if-not-directory_holds.false in
    record { answer = rw (size, directory, ← c.within_limits.ensures, c.if-not-within_limits.true); tables = tt }

pub invariant_of-records_opening : goal.invariant_of-records_opening
invariant_of-records_opening c =
    let b = c.args.bytes.now in
    let size = sym c.size_holds.ensures ∙ c.if-not-size_holds.false in
    let directory = sym c.directory_holds.ensures ∙ c.if-not-directory_holds.false in
    let limits = sym c.within_limits.ensures ∙ c.if-not-within_limits.false in
    record { placed = within b _ c.of_directory-tables.ensures size (and_left (chain_rule b) (whole_rule b) directory) limits }

pub returns-in_err-tables-clause-opens : goal.returns-in_err-tables-clause-opens
returns-in_err-tables-clause-opens c =
    let p = err_from_is_err_and c.from_residual.result c.from_residual.ensures.1 in
    let size = sym c.size_holds.ensures ∙ c.if-not-size_holds.false in
    let directory = sym c.directory_holds.ensures ∙ c.if-not-directory_holds.false in
    let limits = sym c.within_limits.ensures ∙ c.if-not-within_limits.false in
    rw (p.1, p.2) (record { answer = c.in_err-tables.ensures.0 ∙ tried_before _ size directory limits; tables = tt })

pub invariant_of-result : goal.invariant_of-result
invariant_of-result c =
    let size = sym c.size_holds.ensures ∙ c.if-not-size_holds.false in
    let directory = sym c.directory_holds.ensures ∙ c.if-not-directory_holds.false in
    let limits = sym c.within_limits.ensures ∙ c.if-not-within_limits.false in
    record { opened = opened_with _ (sym (c.in_ok-tables.ensures.0 ∙ tried_before _ size directory limits)) c.in_ok-tables.ensures.1 }

pub returns-clause-opens : goal.returns-clause-opens
returns-clause-opens c =
    let size = sym c.size_holds.ensures ∙ c.if-not-size_holds.false in
    let directory = sym c.directory_holds.ensures ∙ c.if-not-directory_holds.false in
    let limits = sym c.within_limits.ensures ∙ c.if-not-within_limits.false in
    record { answer = c.in_ok-tables.ensures.0 ∙ tried_before _ size directory limits; tables = c.in_ok-tables.ensures.1 }
