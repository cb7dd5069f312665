-- `chart_line::concrete::concrete_classes` meets its contract.
-- Assumes nothing.
use Rattle.std.proofs.Common.{ℕ, ◌≡◌, ◌<◌, List, [], ◌∷◌, ◌++◌, length, arith, sym, ap, ◌∙◌}
use Rattle.rules.specs.Bounded.{upto, keep}
use Rattle.rules.specs.Model.{model_of}
use Rattle.rules.specs.Coverage.{concrete_class}
use Rattle.rules.specs.Chart.{concretes}
use Rattle.rules.proofs.Lists.{keep_upto_hit, keep_upto_miss, keep_upto_length}
use Rattle.layout.proofs.Opened.{placed_of, counts_of}
use Rattle.chart_line.proofs.Charted.{one_of}
use Rattle.chart_line.proofs.concrete.concrete_classes.Goals as goal
use Rattle.chart_line.proofs.concrete.concrete_classes.Goals.{then-is_concrete, else-is_concrete}

pub loop-k-init : goal.loop-k-init
unfolding keep upto
loop-k-init c = c.new-classes.ensures

pub overflow_cast-k : goal.overflow_cast-k
overflow_cast-k c = omega (arith, (placed_of c.args.bundle.now.opened).classes_limit)

pub push-requires : goal.push-requires
push-requires c =
    let p = concrete_class (model_of c.args.bundle.now.bytes.now) in
    let room : length c.loop-k.classes.items < 128 =
    omega (arith, ap (length {A = ℕ}) c.loop-k.invariant, keep_upto_length p c.loop-k.k, (placed_of c.args.bundle.now.opened).classes_limit) in
    (omega arith, room)

pub loop-k-preserved : goal.loop-k-preserved
loop-k-preserved c =
    let counts = counts_of c.args.bundle.now.opened in
    let M = model_of c.args.bundle.now.bytes.now in
    let p = concrete_class M in
    let k = c.loop-k.k in
    let below : k < M.classes = omega arith in
    let one = one_of M k below ∙ sym c.is_concrete.ensures in
    elim c.if-is_concrete.branch [
      | then-is_concrete w ↦
          rw w.classes-is (w.push.ensures.items ∙ ap (λ (xs : List ℕ). xs ++ (k ∷ [])) c.loop-k.invariant ∙ sym (keep_upto_hit p k (one ∙ w.if-is_concrete.true)))
      | else-is_concrete w ↦ rw w.classes-is (c.loop-k.invariant ∙ sym (keep_upto_miss p k (one ∙ w.if-is_concrete.false)))
    ]

pub returns : goal.returns
unfolding concretes
returns c =
    let counts = counts_of c.args.bundle.now.opened in
    let M = model_of c.args.bundle.now.bytes.now in
    let all : c.loop-k.k ≡ M.classes = omega arith in
    rw all at c.loop-k.invariant
