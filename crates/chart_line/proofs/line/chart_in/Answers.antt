-- `chart_line::line::chart_in` meets its contract: the refusals are tried in the order of the rules.
-- Assumes nothing.
use Rattle.std.proofs.Common.{ℕ, ◌≡◌, ◌+◌, ◌*◌, length, arith, sym, ap, ◌∙◌}
use Rattle.rules.specs.Model.{model_of}
use Rattle.rules.proofs.Chart.{line_length_lem}
use Rattle.rules.specs.Chart.{line_bytes, chart_line}
use Rattle.layout.proofs.Opened.{counts_of}
use Rattle.chart_line.proofs.Answers.{answer_absent, answer_not_binary, answer_no_line, answer_short, answer_line, refused_both, written_both}
use Rattle.chart_line.proofs.line.chart_in.Goals as goal

pub returns-then-bundle-f : goal.returns-then-bundle-f
returns-then-bundle-f c =
    let counts = counts_of c.args.prepared.now.bundle.opened in
    let both = refused_both c.args.line.now (answer_absent (model_of c.args.prepared.now.bundle.bytes.now) (length c.args.line.now) c.args.f c.args.k (omega arith)) in
    record { result_value = both.0; line_after = both.1 }

pub returns-then-arity-ne2 : goal.returns-then-arity-ne2
returns-then-arity-ne2 c =
    let counts = counts_of c.args.prepared.now.bundle.opened in
    let both = refused_both c.args.line.now
    (answer_not_binary (model_of c.args.prepared.now.bundle.bytes.now) (length c.args.line.now) c.args.f c.args.k (omega arith) (λ e. c.if-arity-ne2.true (c.arity.ensures.0 ∙ e))) in
    record { result_value = both.0; line_after = both.1 }

pub returns-then-n-k : goal.returns-then-n-k
returns-then-n-k c =
    let counts = counts_of c.args.prepared.now.bundle.opened in
    let many = ap (length {A = ℕ}) (c.as_slice-classes.ensures.value ∙ c.concrete_classes-all.ensures) in
    let both = refused_both c.args.line.now
    (answer_no_line (model_of c.args.prepared.now.bundle.bytes.now) (length c.args.line.now) c.args.f c.args.k (omega arith) (sym c.arity.ensures.0 ∙ c.if-arity-ne2.false) (omega arith)) in
    record { result_value = both.0; line_after = both.1 }

pub returns-then-line-bytes : goal.returns-then-line-bytes
unfolding line_bytes
returns-then-line-bytes c =
    let counts = counts_of c.args.prepared.now.bundle.opened in
    let many = ap (length {A = ℕ}) (c.as_slice-classes.ensures.value ∙ c.concrete_classes-all.ensures) in
    let both = refused_both c.args.line.now
    (answer_short (model_of c.args.prepared.now.bundle.bytes.now) (length c.args.line.now) c.args.f c.args.k (omega arith) (sym c.arity.ensures.0 ∙ c.if-arity-ne2.false) (omega arith) (omega arith)) in
    record { result_value = both.0; line_after = both.1 }

pub put_line-requires-clause-charted : goal.put_line-requires-clause-charted
put_line-requires-clause-charted c =
    let counts = counts_of c.args.prepared.now.bundle.opened in
    record {
      function = omega arith;
      binary = sym c.arity.ensures.0 ∙ c.if-arity-ne2.false;
      concrete = c.as_slice-classes.ensures.value ∙ c.concrete_classes-all.ensures;
      line = omega arith;
    }

pub put_line-requires-clause-bundle_in_bounds : goal.put_line-requires-clause-bundle_in_bounds
unfolding line_bytes
put_line-requires-clause-bundle_in_bounds c =
    let many = ap (length {A = ℕ}) (c.as_slice-classes.ensures.value ∙ c.concrete_classes-all.ensures) in
    omega arith

pub returns : goal.returns
unfolding line_bytes
returns c =
    let counts = counts_of c.args.prepared.now.bundle.opened in
    let M = model_of c.args.prepared.now.bundle.bytes.now in
    let many = ap (length {A = ℕ}) (c.as_slice-classes.ensures.value ∙ c.concrete_classes-all.ensures) in
    let long : 5 + 5 * length c.as_slice-classes.result.now ≡ line_bytes M = omega arith in
    let both =
    written_both c.args.line.now (chart_line M c.args.f c.args.k) _ (5 + 5 * length c.as_slice-classes.result.now)
    (answer_line M (length c.args.line.now) c.args.f c.args.k (omega arith) (sym c.arity.ensures.0 ∙ c.if-arity-ne2.false) (omega arith) (omega arith))
    (long ∙ sym (line_length_lem M c.args.f c.args.k)) c.put_line.ensures in
    record { result_value = both.0; line_after = both.1 }
