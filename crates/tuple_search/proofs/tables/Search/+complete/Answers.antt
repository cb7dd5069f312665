-- What is asked and kept where the class at the next place is tried, passed over, or stops the search.
-- Assumes nothing.
use Prim.Native.Nat.{ℕ, ◌-◌}
use native.Mathlib.Omega.{arith}
use mathlib.Core.Path.{◌≡◌, sym, ap, ◌∙◌}
use lib.ListN.{length}
use lib.Seq.{take-length}
use Rattle.rules.specs.Bytes.{byte}
use Rattle.rules.specs.Coverage.{candidate_class}
use Rattle.layout.proofs.Opened.{placed_of, counts_of, wellformed_of}
use Rattle.subclasses.proofs.Asked.{class_below}
use Rattle.tuple_search.specs.Searches.{searched}
use Rattle.tuple_search.proofs.Known.{tables_of}
use Rattle.tuple_search.proofs.Leading.{lead_present, led_part}
use Rattle.tuple_search.proofs.Narrowing.{filling_places, filling_kept, filling_more}
use Rattle.tuple_search.proofs.Searching.{filled_ends, no_place, class_skipped, class_passed, class_stops, passed_through}
use Rattle.tuple_search.proofs.Trying.{behind_none, behind_kept, behind_over, behind_more, behind_all, next_filled, next_ended, alike_passed}
use Rattle.tuple_search.proofs.tables.Search.+complete.Goals as goal

pub returns-then-is_filled-clause-ends : goal.returns-then-is_filled-clause-ends
returns-then-is_filled-clause-ends t c =
    let a = c.args in
    let p = c.requires in
    let all : length a.chosen.now - a.unfilled ≡ length a.chosen.now = omega arith in
    let rest = no_place a.upper.now (length a.chosen.now) (p.arguments.arity ∙ sym p.filling.arity) in
    rw (all, take-length a.chosen.now, rest) (filled_ends _ _ _ _ c.stops_filled.ensures)

pub lead_of-led-requires-clause-n_le_places : goal.lead_of-led-requires-clause-n_le_places
lead_of-led-requires-clause-n_le_places t c = filling_places c.args.self.now.indexed.now.prepared.prepared.opened c.requires.filling

pub loop-class-init : goal.loop-class-init
loop-class-init t c = rw c.new-tried.ensures (behind_none _ (omega (arith, c.requires.arguments.arity, c.requires.filling.arity)))

pub is_candidate-requires-clause-c_lt_classes : goal.is_candidate-requires-clause-c_lt_classes
unfolding byte
is_candidate-requires-clause-c_lt_classes t c =
    let p = c.requires in
    let counts = counts_of c.args.self.now.indexed.now.prepared.prepared.opened in
    let place = length c.args.chosen.now - c.args.unfilled in
    omega (arith, c.byte_at-c.ensures.0, class_below _ _ p.arguments.classes place (omega (arith, p.arguments.arity, p.filling.arity)))

pub tried_alike-requires-clause-place_lt_places : goal.tried_alike-requires-clause-place_lt_places
tried_alike-requires-clause-place_lt_places t c = omega (arith, filling_places c.args.self.now.indexed.now.prepared.prepared.opened c.requires.filling)

pub tried_alike-requires-clause-k_lt_max_classes : goal.tried_alike-requires-clause-k_lt_max_classes
tried_alike-requires-clause-k_lt_max_classes t c = omega (arith, (placed_of c.args.self.now.indexed.now.prepared.prepared.opened).classes_limit)

pub overflow_cast-byte : goal.overflow_cast-byte
overflow_cast-byte t c = omega (arith, (placed_of c.args.self.now.indexed.now.prepared.prepared.opened).classes_limit)

pub row_at-requires-clause-place_lt_places : goal.row_at-requires-clause-place_lt_places
row_at-requires-clause-place_lt_places t c = omega (arith, filling_places c.args.self.now.indexed.now.prepared.prepared.opened c.requires.filling)

pub row_at-requires-clause-k_lt_max_classes : goal.row_at-requires-clause-k_lt_max_classes
row_at-requires-clause-k_lt_max_classes t c = omega (arith, (placed_of c.args.self.now.indexed.now.prepared.prepared.opened).classes_limit)

pub push-requires : goal.push-requires
push-requires t c = omega (arith, (placed_of c.args.self.now.indexed.now.prepared.prepared.opened).classes_limit, c.loop-class.invariant.few)

pub loop-class-preserved-then-not-is_candidate : goal.loop-class-preserved-then-not-is_candidate
unfolding byte
loop-class-preserved-then-not-is_candidate t c =
    let k = c.loop-class.class in
    let counts = counts_of c.args.self.now.indexed.now.prepared.prepared.opened in
    let met = c.is_candidate.ensures ∙ ap (λ (x : ℕ). candidate_class (searched c.args.self.now) x k) c.byte_at-c.ensures.0 in
    behind_over c.loop-class.invariant (class_skipped _ _ _ _ _ k (omega arith) (sym met ∙ c.if-not-is_candidate.true))

pub loop-class-preserved-then-tried_alike : goal.loop-class-preserved-then-tried_alike
unfolding byte
loop-class-preserved-then-tried_alike t c =
    let p = c.requires in
    let o = c.args.self.now.indexed.now.prepared.prepared.opened in
    let t = tables_of c.args.self.now.goes_by in
    let inv = c.loop-class.invariant in
    let k = c.loop-class.class in
    let counts = counts_of o in
    let met = c.is_candidate.ensures ∙ ap (λ (x : ℕ). candidate_class (searched c.args.self.now) x k) c.byte_at-c.ensures.0 in
    let none = alike_passed (wellformed_of o) t p.filling (omega (arith, filling_places o p.filling)) inv.passed k (omega arith) (rw c.as_slice.ensures.value at (c.tried_alike.ensures c.if-tried_alike.true)) in
    behind_over inv (class_passed _ _ _ _ _ k (omega arith) (sym met ∙ c.if-not-is_candidate.false) none)

pub lead_with-next-requires-clause-lead_present : goal.lead_with-next-requires-clause-lead_present
lead_with-next-requires-clause-lead_present t c =
    lead_present (searched c.args.self.now) _ _ _ _ _ (counts_of c.args.self.now.indexed.now.prepared.prepared.opened).methods c.lead_of-led.result c.lead_of-led.ensures

pub complete-requires : goal.complete-requires
complete-requires t c =
    let p = c.requires in
    let o = c.args.self.now.indexed.now.prepared.prepared.opened in
    let t = tables_of c.args.self.now.goes_by in
    let k = c.loop-class.class in
    let inv = c.loop-class.invariant in
    let counts = counts_of o in
    let few = filling_places o p.filling in
    let (same, less) = next_filled c.args.unfilled (omega arith) p.unfilled_in_bounds inv in
    let kept = behind_kept inv in
    let part = rw c.row_at.ensures.0 at c.both-left.ensures in
    let g = filling_kept o p.filling c.loop-class.chosen kept.0 kept.1 in
    let filling = filling_more o g t.ordered t.admitting k (omega (arith, kept.0)) (omega arith) part in
    let led = led_part (wellformed_of o) t.admitting _ _ _ _ _ _ _ (omega arith) (omega arith) c.lead_of-led.ensures c.lead_with-next.ensures part in
    (omega (arith, c.decreases), (p.arguments, (omega (arith, same, less), (rw less filling, rw same led))))

pub returns-then-complete-clause-ends : goal.returns-then-complete-clause-ends
unfolding byte
returns-then-complete-clause-ends t c =
    let k = c.loop-class.class in
    let inv = c.loop-class.invariant in
    let counts = counts_of c.args.self.now.indexed.now.prepared.prepared.opened in
    let met = c.is_candidate.ensures ∙ ap (λ (x : ℕ). candidate_class (searched c.args.self.now) x k) c.byte_at-c.ensures.0 in
    let ended = next_ended c.args.unfilled (omega arith) c.requires.unfilled_in_bounds inv _ c.complete.result c.complete.ensures.ends in
    class_stops _ _ _ _ _ k (omega arith) (sym met ∙ c.if-not-is_candidate.false) _ _ c.complete.result ended c.if-complete.true _ c.args.chosen.now inv.left

pub loop-class-preserved : goal.loop-class-preserved
unfolding byte
loop-class-preserved t c =
    let k = c.loop-class.class in
    let inv = c.loop-class.invariant in
    let counts = counts_of c.args.self.now.indexed.now.prepared.prepared.opened in
    let met = c.is_candidate.ensures ∙ ap (λ (x : ℕ). candidate_class (searched c.args.self.now) x k) c.byte_at-c.ensures.0 in
    let ended = next_ended c.args.unfilled (omega arith) c.requires.unfilled_in_bounds inv _ c.complete.result c.complete.ensures.ends in
    let (nothing, same) = passed_through _ _ _ _ _ _ c.complete.result ended c.if-complete.false in
    rw c.push.ensures.items (behind_more inv (omega arith) (sym met ∙ c.if-not-is_candidate.false) nothing same)

pub returns-clause-ends : goal.returns-clause-ends
returns-clause-ends t c =
    let counts = counts_of c.args.self.now.indexed.now.prepared.prepared.opened in
    behind_all c.loop-class.invariant (omega arith)
