use Rattle.std.proofs.Common.{◌+◌, ◌-◌, ◌≡◌, arith, sym, subst}
use Rattle.layout.proofs.Opened.{wellformed_of, counts_of}
use Rattle.dispatch.specs.Index.{IndexedFrom}
use Rattle.dispatch.proofs.Indexed.{index_none, index_more}
use Rattle.dispatch.proofs.index.index_methods.Goals as goal

pub loop-m-init : goal.loop-m-init
loop-m-init c =
    let o = c.args.bundle.now.opened in
    let w = wellformed_of o in
    let counts = counts_of o in
    record {
      functions = omega (arith, w.functions_limit);
      methods = omega (arith, w.methods_limit);
      indexed = index_none _ _ counts.methods;
    }

pub loop-m-preserved : goal.loop-m-preserved
loop-m-preserved c =
    let l = c.loop-m in
    let i = l.invariant in
    let counts = counts_of c.args.bundle.now.opened in
    let one : l.m ≡ l.m - 1 + 1 = omega arith in
    record {
      functions = i.functions;
      methods = i.methods;
      indexed =
          index_more _ l.first l.next (l.m - 1) _ (subst (IndexedFrom _ l.first l.next) one i.indexed) (sym c.function-f.ensures.0) (omega arith) (omega arith)
          (omega arith);
    }
