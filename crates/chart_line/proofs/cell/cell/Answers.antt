-- `chart_line::cell::cell` meets its contract: line 0 has the classes, each other line what its class finds with them.
-- Assumes nothing.
use Rattle.std.proofs.Common.{◌-◌, List, [], ◌∷◌, get_or, arith, refl, sym, ap, ◌∙◌}
use Prim.Native.Nat.{ℕ}
use Rattle.rules.specs.Bytes.{byte}
use Rattle.rules.specs.Model.{model_of}
use Rattle.rules.specs.Lookup.{lookup}
use Rattle.rules.specs.Chart.{number, entry, cell}
use Rattle.chart_line.proofs.Lines.{cell_later}
use Rattle.chart_line.proofs.Charted.{charted_arguments}
use Rattle.chart_line.proofs.cell.cell.Goals as goal

pub returns-then-k-eq0 : goal.returns-then-k-eq0
unfolding byte cell
returns-then-k-eq0 c =
    c.number.ensures ∙ ap number c.byte_at.ensures.0 ∙ rw c.if-k-eq0.true refl

pub lookup-requires : goal.lookup-requires
lookup-requires c =
    let g = c.requires.charted in
    charted_arguments g (c.args.k - 1) c.args.i (omega (arith, g.line)) c.requires.i_in_bounds

pub returns-else-k-eq0 : goal.returns-else-k-eq0
returns-else-k-eq0 c =
    let a = c.args in
    let M = model_of a.indexed.now.prepared.bundle.bytes.now in
    c.entry.ensures
    ∙ ap entry c.lookup.ensures
    ∙ ap (λ (xs : List ℕ). entry (lookup M a.f (get_or xs (a.k - 1) 0 ∷ get_or a.classes.now a.i 0 ∷ []))) c.requires.charted.concrete
    ∙ sym (cell_later M a.f a.k (get_or a.classes.now a.i 0) (omega arith))
