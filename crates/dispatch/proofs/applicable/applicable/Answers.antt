use Rattle.std.proofs.Common.{None, arith, refl, sym, ap, get_or, ◌∙◌}
use Rattle.layout.specs.Bundles.{model}
use Rattle.layout.proofs.Opened.{wellformed_of, counts_of}
use Rattle.layout.proofs.Tuples.{of_arity}
use Rattle.dispatch.specs.Index.{number_or_count}
use Rattle.dispatch.proofs.Indexed.{indexed_of, walk_begins, walk_rises, walk_miss, walk_hit, walk_ends}
use Rattle.dispatch.proofs.applicable.applicable.Goals as goal
use Rattle.dispatch.proofs.applicable.applicable.Goals.{then-applies, else-applies}

pub bounds-indexed-f : goal.bounds-indexed-f
bounds-indexed-f c = omega (arith, c.requires.arguments.function, (wellformed_of c.args.indexed.now.prepared.bundle.opened).functions_limit)

pub offset_bounds-indexed-f : goal.offset_bounds-indexed-f
offset_bounds-indexed-f c = omega (arith, c.requires.arguments.function, (wellformed_of c.args.indexed.now.prepared.bundle.opened).functions_limit)

pub loop-next-init : goal.loop-next-init
loop-next-init c =
    let w = wellformed_of c.args.indexed.now.prepared.bundle.opened in
    record {
      few = w.methods_limit;
      walking = rw c.requires.empty (walk_begins _ _ _ _ (indexed_of c.args.indexed.now.indexed) (omega (arith, c.requires.arguments.function, w.functions_limit)));
    }

pub applies-requires-clause-of_arity : goal.applies-requires-clause-of_arity
applies-requires-clause-of_arity c =
    let o = c.args.indexed.now.prepared.bundle.opened in
    let counts = counts_of o in
    let found = c.loop-next.invariant.walking.found c.in-Some.m c.in-Some.is in
    rw c.from-k.ensures (of_arity o c.requires.arguments.arity (omega (arith, found.0)) found.1)

pub push-requires : goal.push-requires
push-requires c =
    let i = c.loop-next.invariant in
    let walking = rw c.in-Some.is at i.walking in
    (omega arith, omega (arith, i.few, walking.few, (walking.found c.in-Some.m refl).0))

pub bounds-indexed-k : goal.bounds-indexed-k
bounds-indexed-k c =
    let i = c.loop-next.invariant in
    rw c.from-k.ensures (omega (arith, i.few, (i.walking.found c.in-Some.m c.in-Some.is).0))

pub loop-next-smaller : goal.loop-next-smaller
loop-next-smaller c =
    let indexed = c.args.indexed.now in
    let M = model indexed.prepared.bundle in
    let i = c.loop-next.invariant in
    let walking = rw c.in-Some.is at i.walking in
    omega (
      arith,
      walk_rises _ _ _ _ (indexed_of indexed.indexed) walking i.few,
      (walking.found c.in-Some.m refl).0,
      ap (number_or_count M) c.in-Some.is,
      ap (λ k. number_or_count M (get_or indexed.next k None)) c.from-k.ensures,
    )

pub loop-next-preserved : goal.loop-next-preserved
loop-next-preserved c =
    let i = c.loop-next.invariant in
    let walking = rw c.in-Some.is at i.walking in
    record {
      few = i.few;
      walking = elim c.if-applies.branch [
        | then-applies w ↦
            rw (w.list-is, w.push.ensures.items, c.from-k.ensures)
            (walk_hit _ _ _ _ (indexed_of c.args.indexed.now.indexed) walking i.few (rw c.from-k.ensures at (sym c.applies.ensures ∙ w.if-applies.true)))
        | else-applies w ↦
            rw (w.list-is, c.from-k.ensures)
            (walk_miss _ _ _ _ (indexed_of c.args.indexed.now.indexed) walking i.few (rw c.from-k.ensures at (sym c.applies.ensures ∙ w.if-applies.false)))
      ];
    }

pub returns : goal.returns
returns c = walk_ends _ _ _ _ (rw c.in_default.is at c.loop-next.invariant.walking)
