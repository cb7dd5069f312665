-- The search starts with no place filled and all methods of the function, in an array with room for the places.
-- Assumes nothing.
use Prim.Native.Nat.{ℕ, ◌-◌, ◌≤◌}
use native.Mathlib.Omega.{arith}
use mathlib.Core.Path.{◌≡◌, sym, ap, ◌∙◌}
use mathlib.Core.List.{List, [], ◌∷◌, ◌++◌}
use lib.ListN.{length, take, drop}
use lib.Seq.{length-take-le}
use Rattle.rules.specs.Layout.{padded}
use Rattle.subclasses.proofs.Asked.{arguments_places}
use Rattle.subclasses.proofs.Tuples.{padded_put}
use Rattle.tuple_search.proofs.Known.{about_of, tables_of}
use Rattle.tuple_search.proofs.Narrowing.{filling_none}
use Rattle.tuple_search.proofs.Searching.{passed_through, stopped_at_lem}
use Rattle.tuple_search.proofs.tables.Search.first_stop.Goals as goal

abbrev zeros : List ℕ
zeros = 0 ∷ 0 ∷ 0 ∷ []

-- the first n of three places are n
long : (n : ℕ) → n ≤ 3 → length (take n zeros) ≡ n
long n h = length-take-le n zeros h

-- so none of them is filled
unfilled : (n : ℕ) → n ≤ 3 → length (take n zeros) - n ≡ 0
unfilled n h = omega (arith, long n h)

-- where the first n have a tuple, the places behind are zeros still
rest_zero : (new t : List ℕ) (n : ℕ) → new ≡ t → length t ≡ n → n ≤ 3 → new ++ drop n zeros ≡ padded t
rest_zero new t n g kept few =
    ap (λ l. l ++ drop n zeros) g ∙ ap (λ k. t ++ drop k zeros) (sym kept) ∙ padded_put t (omega (arith, kept, few))

pub slice_bounds-chosen-end : goal.slice_bounds-chosen-end
slice_bounds-chosen-end c = arguments_places c.args.self.now.indexed.now.prepared.prepared.opened c.requires

pub slice_bounds-complete-end : goal.slice_bounds-complete-end
slice_bounds-complete-end c = sym (long _ (arguments_places c.args.self.now.indexed.now.prepared.prepared.opened c.requires))

pub complete-requires-clause-unfilled_in_bounds : goal.complete-requires-clause-unfilled_in_bounds
complete-requires-clause-unfilled_in_bounds c =
    let few = arguments_places c.args.self.now.indexed.now.prepared.prepared.opened c.requires in
    omega (arith, long (length c.args.upper.now) few)

pub complete-requires-clause-filling : goal.complete-requires-clause-filling
complete-requires-clause-filling c =
    let o = c.args.self.now.indexed.now.prepared.prepared.opened in
    let few = arguments_places o c.requires in
    rw (unfilled (length c.args.upper.now) few) (filling_none o (about_of c.args.self.now.goes_by) c.function-f.ensures (long _ few ∙ c.requires.arity) c.methods_of-set.ensures)

pub returns-then-complete : goal.returns-then-complete
returns-then-complete c =
    let n = length c.args.upper.now in
    let few = arguments_places c.args.self.now.indexed.now.prepared.prepared.opened c.requires in
    let ends = rw (unfilled n few) at c.complete.ensures.ends in
    let (t, q, g) = stopped_at_lem _ _ _ _ _ _ c.complete.result ends c.if-complete.true in
    let kept : length t ≡ n = ap length (sym g) ∙ c.complete.ensures.chosen_len_unchanged ∙ long n few in
    (t, q, rest_zero _ t n g kept few)

pub returns : goal.returns
returns c =
    let few = arguments_places c.args.self.now.indexed.now.prepared.prepared.opened c.requires in
    let ends = rw (unfilled (length c.args.upper.now) few) at c.complete.ensures.ends in
    (passed_through _ _ _ _ _ _ c.complete.result ends c.if-complete.false).0

pub function-f-requires : goal.function-f-requires
function-f-requires c = about_of c.args.self.now.goes_by

pub methods_of-set-requires : goal.methods_of-set-requires
methods_of-set-requires c = (tables_of c.args.self.now.goes_by).ordered
