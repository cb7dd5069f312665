-- Each byte is joined by the entry of its class.
use native.Mathlib.Omega.{arith}
use mathlib.Core.Path.{ap, ◌∙◌}
use mathlib.Core.Bool.{Bool, cond}
use lib.ListN.{get_or}
use Rattle.layout.proofs.Opened.{counts_of}
use Rattle.subclasses.proofs.Asked.{entry_subclass}
use Rattle.subclasses.proofs.Entry.{classes_fit}
use Rattle.typing.specs.Rows.{joined}
use Rattle.typing.proofs.Rows.{joining_none, joining_more, joining_all}
use Rattle.typing.proofs.row.join.Goals as goal

pub loop-k-init : goal.loop-k-init
loop-k-init c = joining_none _ _ _

pub join_byte-requires-clause-c_lt_max_classes : goal.join_byte-requires-clause-c_lt_max_classes
join_byte-requires-clause-c_lt_max_classes c = omega (arith, classes_fit c.args.prepared.now.bundle.opened)

pub loop-k-preserved : goal.loop-k-preserved
unfolding joined
loop-k-preserved c =
    let k = c.loop-k.k in
    let class = (counts_of c.args.prepared.now.bundle.opened).classes in
    joining_more _ _ _ c.loop-k.row k _ (omega arith)
    (c.join_byte.ensures
    ∙ ap (λ (t : Bool). cond t 1 (get_or c.loop-k.row k 0)) (entry_subclass c.args.prepared.now.prepared c.args.c k (omega (arith, class)) (omega arith)))
    c.loop-k.invariant

pub returns : goal.returns
returns c = joining_all _ _ _ _ _ (omega arith) c.loop-k.invariant
