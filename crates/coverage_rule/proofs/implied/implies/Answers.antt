-- The functions are compared, then the argument classes, then the result classes.
use Rattle.std.proofs.Common.{◌≡◌, ◌<◌, ℕ, true, false, arith, sym, ap, ◌∙◌}
use borrow.Author.Tests.{eq-eqb, ne_eqb}
use Rattle.rules.specs.Model.{Model}
use Rattle.rules.specs.Subclass.{subclass, under}
use Rattle.rules.specs.Alike.{implies}
use Rattle.layout.specs.Bundles.{model}
use Rattle.layout.proofs.Opened.{wellformed_of, counts_of}
use Rattle.coverage_rule.proofs.implied.implies.Goals as goal
use Rattle.coverage_rule.proofs.implied.implies.Goals.{After-each_under}

-- what each test decides
module _ (M : Model) (e s : ℕ) where
  by_function : (M.sig_function e ≡ M.sig_function s → ⊥) → false ≡ implies M e s
  unfolding implies
  by_function d = rw (ne_eqb (M.sig_function e) (M.sig_function s) d)

  by_arguments : M.sig_function e ≡ M.sig_function s → under M (M.sig_args s) (M.sig_args e) ≡ false → false ≡ implies M e s
  unfolding implies
  by_arguments q u = rw (eq-eqb (M.sig_function e) (M.sig_function s) q, u)

  by_result : M.sig_function e ≡ M.sig_function s → under M (M.sig_args s) (M.sig_args e) ≡ true → subclass M (M.sig_result e) (M.sig_result s) ≡ implies M e s
  unfolding implies
  by_result q u = rw (eq-eqb (M.sig_function e) (M.sig_function s) q, u)

pub returns-then-sig_function-f : goal.returns-then-sig_function-f
returns-then-sig_function-f c =
    by_function _ _ _ (λ q. c.if-sig_function-f.true (c.sig_function.ensures.0 ∙ q ∙ sym c.sig_function-f.ensures.0))

pub each_under-requires : goal.each_under-requires
each_under-requires c =
    let a = c.args in
    let M = model a.prepared.now.bundle in
    let o = a.prepared.now.bundle.opened in
    let w = wellformed_of o in
    let counts = counts_of o in
    let below : a.s < M.signatures = omega arith in
    let earlier : a.e < M.signatures = omega arith in
    let own = c.signature_classes-own.ensures.result_value in
    let above = c.signature_classes-above.ensures.result_value in
    let one = sym c.sig_function.ensures.0 ∙ c.if-sig_function-f.false ∙ c.sig_function-f.ensures.0 in
    record {
      classes_present = rw own (w.sig_present a.s below);
      above_present = rw above (w.sig_present a.e earlier);
      as_long = rw (own, above) (w.sig_places a.s below ∙ ap M.arity (sym one) ∙ sym (w.sig_places a.e earlier));
    }

-- whether the earlier signature covers what the later one covers
met : (c : After-each_under)
    → let a = c.args in
    let M = model a.prepared.now.bundle in
    c.each_under.result ≡ under M (M.sig_args a.s) (M.sig_args a.e)
met c = rw (← c.signature_classes-own.ensures.result_value, ← c.signature_classes-above.ensures.result_value) c.each_under.ensures

pub returns-then-not-each_under : goal.returns-then-not-each_under
returns-then-not-each_under c =
    by_arguments _ _ _ (sym c.sig_function.ensures.0 ∙ c.if-sig_function-f.false ∙ c.sig_function-f.ensures.0)
    (sym (met (goal.at.returns-then-not-each_under c).After-each_under) ∙ c.if-not-each_under.true)

pub returns : goal.returns
returns c =
    rw (c.sig_result-lower.ensures.0, c.sig_result-upper.ensures.0) at c.is_under.ensures
    ∙ by_result _ _ _ (sym c.sig_function.ensures.0 ∙ c.if-sig_function-f.false ∙ c.sig_function-f.ensures.0)
    (sym (met (goal.at.returns c).After-each_under) ∙ c.if-not-each_under.false)
