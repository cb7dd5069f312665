-- The stack of types as rows: pushing a type, taking a send's arguments off; an instruction's effect and the end of a body over it.
-- Assumes nothing.
use Prim.Native.Nat.{ℕ, suc, ◌+◌, ◌-◌, ◌≤◌, ◌<◌}
use native.Mathlib.Numerals.{add-one}
use native.Mathlib.Omega.{arith}
use mathlib.Core.Path.{◌≡◌, refl, sym, ap, ◌∙◌}
use mathlib.Core.Bool.{Bool, true, false, cond, false≢true}
use mathlib.Core.List.{List, [], ◌∷◌, ◌++◌, reverse, reverse_aux-eq, reverse-append}
use lib.ListN.{length, get_or, take, drop, take-append-drop, length-append, length-drop, length-reverse, drop_of_length-le}
use lib.Dec.{leb}
use lib.Seq.{length-take-le, drop-cons}
use borrow.Author.Tests.{le-leb, lt-leb}
use Rattle.rules.specs.Model.{Model, Instr, arg, new, send, resend}
use Rattle.rules.specs.Lookup.{Found, found, missing, ambiguous}
use Rattle.rules.specs.Resend.{resend_target}
use Rattle.rules.specs.Types.{Static, typed, breaks, Effect, leaves, breaks_by, arguments, arg_type, send_type, send_effect, suits, resend_effect, effect, after_effect, in_type, ending, type_from, type_body}
use Rattle.rules.specs.Calls.{row_bytes}
use Rattle.rules.specs.Bits.{bit}
use Rattle.answers.specs.Numbers.{code_of}
use Rattle.answers.specs.declared.number.Number.{Number}
use Rattle.answers.specs.declared.number.Number.TheVariants as number
use Rattle.answers.specs.Failures.{not_found, resend_number}
use Rattle.answers.specs.declared.failure.NotFound.{NotFound}
use Rattle.answers.specs.declared.failure.NotFound.TheVariants.{Missing, Ambiguous}
use Rattle.std.specs.Prelude.{Option, Some, None, Result, Ok, Err}
use Rattle.typing.specs.Rows.{type_byte, RowOf, Rows}
use Rattle.typing.specs.Sends.{Given, Sent}
use Rattle.typing.specs.Bodies.{Holds, Agrees, Applied, ended_at, Ended}
use Rattle.typing.proofs.Rows.{rows_none, rows_push, rows_first, rows_rest}
use Rattle.typing.proofs.Sends.{bit_zero, bit_other}

module _ (M : Model) (rows : List (List ℕ)) (stack : List Static) (g : Holds M rows stack) where
  -- a row goes on top
  pub stack_push : (t : Static) (row : List ℕ) (next : List (List ℕ)) → RowOf M t row → next ≡ rows ++ (row ∷ []) → Holds M next (t ∷ stack)
  stack_push t row next o e =
      record {
        height = rw (e, length-append) (omega (arith, g.height));
        held = rw (e, reverse_aux-eq stack (t ∷ [])) (rows_push M rows (reverse stack) t row g.held o);
      }

  -- the arguments of a send, and the stack below them
  module _ (n : ℕ) (l : n ≤ length rows) where
    below_length : length (reverse (drop n stack)) ≡ length rows - n
    below_length = length-reverse (drop n stack) ∙ length-drop n stack ∙ ap (λ (k : ℕ). k - n) g.height

    parted : reverse stack ≡ reverse (drop n stack) ++ reverse (take n stack)
    parted = ap reverse (sym (take-append-drop n stack)) ∙ reverse-append (take n stack) (drop n stack)

    pub arguments_length : length (arguments n stack) ≡ n
    unfolding arguments
    arguments_length = length-reverse (take n stack) ∙ length-take-le n stack (omega (arith, g.height))

    pub stack_arguments : (k : ℕ) → k ≡ n → Rows M (take k (drop (length rows - n) rows)) (arguments n stack)
    unfolding arguments
    stack_arguments k e = rw below_length at (rows_rest M rows (reverse (drop n stack)) (reverse (take n stack)) k (rw parted at g.held) (e ∙ sym arguments_length))

    pub stack_below : Holds M (take (length rows - n) rows) (drop n stack)
    stack_below =
        record {
          height = length-drop n stack ∙ ap (λ (k : ℕ). k - n) g.height ∙ sym (length-take-le (length rows - n) rows (omega arith));
          held = rows_first M rows (reverse (drop n stack)) (reverse (take n stack)) (length rows - n) (rw parted at g.held) (sym below_length);
        }

-- a send that is licensed, and one that is not
send_some : (M : Model) (t : Static) (row : List ℕ) (below : List Static) → Given M t (Some row) → (send_effect t below ≡ leaves (t ∷ below)) × RowOf M t row
unfolding Given send_effect
send_some M [] row below g = absurd g
send_some M (c ∷ t) row below g = (refl, g)

send_none : (M : Model) (t : Static) (below : List Static) → Given M t None → send_effect t below ≡ breaks_by 16
unfolding Given send_effect
send_none M [] below g = refl
send_none M (c ∷ t) below g = absurd g

-- The effect of each instruction, by what the code finds.
module _ (M : Model) (m : ℕ) (old : List (List ℕ)) where
  module _ (row : List ℕ) (after : List (List ℕ)) (p : after ≡ old ++ (row ∷ [])) where
    pub applied_arg : (i : ℕ) → RowOf M (arg_type M m i) row → Applied M m (arg i) old after (Ok tt)
    unfolding Agrees effect
    applied_arg i o = record { agrees = λ stack g. stack_push M old stack g (arg_type M m i) row after o p }

    pub applied_new : (c : ℕ) → M.concrete c ≡ true → RowOf M (c ∷ []) row → Applied M m (new c) old after (Ok tt)
    unfolding Agrees effect
    applied_new c e o = record { agrees = λ stack g. rw e (stack_push M old stack g (c ∷ []) row after o p) }

  pub applied_abstract : (c : ℕ) → M.concrete c ≡ false → Applied M m (new c) old old (Err number.AbstractNew)
  unfolding Agrees effect
  applied_abstract c e = record { agrees = λ stack g. rw e refl }

  pub applied_few : (f : ℕ) → length old < M.arity f → Applied M m (send f) old old (Err number.BadStack)
  unfolding Agrees effect
  applied_few f l = record { agrees = λ stack g. rw (lt-leb (M.arity f) (length stack) (omega (arith, g.height))) refl }

  -- with enough types on the stack the send's own type decides
  module _ (f n below : ℕ) (q : n ≡ M.arity f) (l : n ≤ length old) (e : below ≡ length old - n) where
    module _ (stack : List Static) (g : Holds M old stack) where
      enough : effect M m stack (send f) ≡ send_effect (send_type M f (arguments n stack)) (drop n stack)
      unfolding effect
      enough = rw (← q, le-leb n (length stack) (omega (arith, g.height)))

      given : (r : Option (List ℕ)) → Sent M (take (length old - below) (drop below old)) f r → Given M (send_type M f (arguments n stack)) r
      given r sent =
          sent.row (arguments n stack) (rw e (stack_arguments M old stack g n l (length old - (length old - n)) (omega arith))) (arguments_length M old stack g n l ∙ q)

    pub applied_none : Sent M (take (length old - below) (drop below old)) f None → Applied M m (send f) old old (Err number.NoLicence)
    unfolding Agrees
    applied_none sent =
        record { agrees = λ stack g. rw (enough stack g ∙ send_none M (send_type M f (arguments n stack)) (drop n stack) (given stack g None sent)) refl }

    pub applied_send : (row : List ℕ) (after : List (List ℕ)) → Sent M (take (length old - below) (drop below old)) f (Some row)
        → after ≡ take below old ++ (row ∷ []) → Applied M m (send f) old after (Ok tt)
    unfolding Agrees
    applied_send row after sent p =
        record {
          agrees = λ stack g.
              let t = send_type M f (arguments n stack) in
              let some = send_some M t row (drop n stack) (given stack g (Some row) sent) in
              rw (enough stack g ∙ some.0) (stack_push M (take (length old - n) old) (drop n stack) (stack_below M old stack g n l) t row after some.1 (rw e at p));
        }

  -- a resend without a target; with one, the target and what it declares decide
  pub applied_untargeted : (x : NotFound) (n : Number) → code_of n ≡ resend_number x → not_found x ≡ resend_target M m → Applied M m resend old old (Err n)
  unfolding Agrees effect resend_effect
  applied_untargeted Missing n q e = record { agrees = λ stack g. rw (← e) q }
  applied_untargeted (Ambiguous a b) n q e = record { agrees = λ stack g. rw (← e) q }

  module _ (n : ℕ) (e : resend_target M m ≡ found n) where
    pub applied_narrow : suits M m n ≡ false → Applied M m resend old old (Err number.NarrowTarget)
    unfolding Agrees effect resend_effect
    applied_narrow q = record { agrees = λ stack g. rw (e, q) refl }

    pub applied_target : (row : List ℕ) (after : List (List ℕ)) → after ≡ old ++ (row ∷ []) → suits M m n ≡ true → RowOf M (M.result n ∷ []) row → Applied M m resend old after (Ok tt)
    unfolding Agrees effect resend_effect
    applied_target row after p q o = record { agrees = λ stack g. rw (e, q) (stack_push M old stack g (M.result n ∷ []) row after o p) }

-- the end of a body (M 7.2): one type on the stack, with the result class in it
module _ (M : Model) (m : ℕ) (rows : List (List ℕ)) where
  pub ended_other : (length rows ≡ 1 → ⊥) → Ended M m rows (Err number.BadStack)
  unfolding ended_at ending
  ended_other z = record { says = λ at stack g. cases at stack (λ e. z (sym g.height ∙ e)) }
    where
      cases : (at : ℕ) (stack : List Static) → (length stack ≡ 1 → ⊥) → breaks 14 at ≡ ending M m at stack
      cases at [] e = refl
      cases at (t ∷ []) e = absurd (e refl)
      cases at (t ∷ u ∷ rest) e = refl

  module _ (c : ℕ) (one : length rows ≡ 1) (e : c ≡ M.result m) (l : c < row_bytes) where
    -- the one type's byte for the result class decides
    ended_by : (r : Result (Unit {0}) Number)
        → ((at : ℕ) (t : Static) → get_or (get_or rows 0 []) c 0 ≡ bit (in_type M t c) → ended_at at r ≡ cond (in_type M t c) typed (breaks 17 at))
        → Ended M m rows r
    unfolding ending type_byte
    ended_by r k = record { says = λ at stack g. cases at stack g }
      where
        cases : (at : ℕ) (stack : List Static) → Holds M rows stack → ended_at at r ≡ ending M m at stack
        cases at [] g = absurd (omega (arith, g.height))
        cases at (t ∷ []) g = rw (← e) (k at t ((g.held.holds 0 (omega arith)).byte c l))
        cases at (t ∷ u ∷ rest) g = absurd (omega (arith, g.height))

    pub ended_miss : get_or (get_or rows 0 []) c 0 ≡ 0 → Ended M m rows (Err number.LooseResult)
    unfolding ended_at
    ended_miss z = ended_by (Err number.LooseResult) (λ at t b. rw (bit_zero (in_type M t c) (sym b ∙ z)))

    pub ended_typed : (get_or (get_or rows 0 []) c 0 ≡ 0 → ⊥) → Ended M m rows (Ok tt)
    unfolding ended_at
    ended_typed z = ended_by (Ok tt) (λ at t b. rw (bit_other (in_type M t c) (λ q. z (b ∙ q))))

-- what an effect that agrees says of the rules' effect
agrees_leaves : (M : Model) (rows : List (List ℕ)) (u : Unit {0}) (e : Effect) → Agrees M rows (Ok u) e → (stack : List Static) × (e ≡ leaves stack) × Holds M rows stack
unfolding Agrees
agrees_leaves M rows u (leaves stack) a = (stack, refl, a)
agrees_leaves M rows u (breaks_by number) a = absurd a

agrees_breaks : (M : Model) (rows : List (List ℕ)) (n : Number) (e : Effect) → Agrees M rows (Err n) e → e ≡ breaks_by (code_of n)
unfolding Agrees
agrees_breaks M rows n (leaves stack) a = absurd a
agrees_breaks M rows n (breaks_by number) a = ap (λ (k : ℕ). breaks_by k) (sym a)

-- no instruction leaves more than one type above those it found
send_height : (t : Static) (below next : List Static) → send_effect t below ≡ leaves next → length next ≤ suc (length below)
unfolding send_effect
send_height [] below next e = absurd (false≢true (cc))
send_height (c ∷ t) below next e = let same : (c ∷ t) ∷ below ≡ next = cc in rw (sym same) (omega arith)

resend_height : (M : Model) (m : ℕ) (stack next : List Static) (r : Found) → resend_effect M m stack r ≡ leaves next → length next ≤ suc (length stack)
unfolding resend_effect
resend_height M m stack next missing e = absurd (false≢true (cc))
resend_height M m stack next (ambiguous a b) e = absurd (false≢true (cc))
resend_height M m stack next (found n) e = by (suits M m n) e
  where
    by : (t : Bool) → cond t (leaves ((M.result n ∷ []) ∷ stack)) (breaks_by 27) ≡ leaves next → length next ≤ suc (length stack)
    by true q = let same : (M.result n ∷ []) ∷ stack ≡ next = cc in rw (sym same) (omega arith)
    by false q = absurd (false≢true (cc))

effect_height : (M : Model) (m : ℕ) (stack next : List Static) (i : Instr) → effect M m stack i ≡ leaves next → length next ≤ suc (length stack)
unfolding effect
effect_height M m stack next (arg i) e = let same : arg_type M m i ∷ stack ≡ next = cc in rw (sym same) (omega arith)
effect_height M m stack next (new c) e = by (M.concrete c) e
  where
    by : (t : Bool) → cond t (leaves ((c ∷ []) ∷ stack)) (breaks_by 15) ≡ leaves next → length next ≤ suc (length stack)
    by true q = let same : (c ∷ []) ∷ stack ≡ next = cc in rw (sym same) (omega arith)
    by false q = absurd (false≢true (cc))
effect_height M m stack next (send f) e = by (leb (M.arity f) (length stack)) e
  where
    t : Static
    t = send_type M f (arguments (M.arity f) stack)

    by : (p : Bool) → cond p (send_effect t (drop (M.arity f) stack)) (breaks_by 14) ≡ leaves next → length next ≤ suc (length stack)
    by true q = let less = send_height t (drop (M.arity f) stack) next q in omega (arith, less, length-drop (M.arity f) stack)
    by false q = absurd (false≢true (cc))
effect_height M m stack next resend e = resend_height M m stack next (resend_target M m) e

-- the check has come to an instruction, with the stack that the rows hold, of no more types than instructions were
pub record Reached (M : Model) (m : ℕ) (rows : List (List ℕ)) (at : ℕ) : Type 0 where
  pub low : length rows ≤ at
  pub stack : List Static
  pub holds : Holds M rows stack
  pub rest : type_body M m ≡ type_from M m at stack (drop at (M.body m))

module _ (M : Model) (m : ℕ) where
  pub reached_none : Reached M m [] 0
  unfolding type_body
  reached_none = record { low = omega arith; stack = []; holds = record { height = refl; held = rows_none M }; rest = refl }

  module _ (rows : List (List ℕ)) (at : ℕ) (r : Reached M m rows at) where
    module _ (l : at < length (M.body m)) (after : List (List ℕ)) where
      -- the check goes on from the effect of the instruction there
      step : type_body M m
          ≡ after_effect (effect M m r.stack (get_or (M.body m) at (arg 0))) at (λ next. type_from M m (suc at) next (drop (suc at) (M.body m)))
      unfolding type_from
      step = rw (drop-cons (M.body m) at (arg 0) l) at r.rest

      pub reached_more : (u : Unit {0}) → Applied M m (get_or (M.body m) at (arg 0)) rows after (Ok u) → Reached M m after (at + 1)
      unfolding after_effect
      reached_more u a =
          let (next, e, g) = agrees_leaves M after u (effect M m r.stack (get_or (M.body m) at (arg 0))) (a.agrees r.stack r.holds) in
          let small = effect_height M m r.stack next (get_or (M.body m) at (arg 0)) e in
          record { low = omega (arith, small, g.height, r.holds.height, r.low); stack = next; holds = g; rest = rw (add-one at) (rw e at step) }

      pub reached_break : (n : Number) → Applied M m (get_or (M.body m) at (arg 0)) rows after (Err n) → breaks (code_of n) at ≡ type_body M m
      unfolding after_effect
      reached_break n a =
          let e = agrees_breaks M after n (effect M m r.stack (get_or (M.body m) at (arg 0))) (a.agrees r.stack r.holds) in
          sym (rw e at step)

    pub reached_end : (t : Result (Unit {0}) Number) → length (M.body m) ≤ at → Ended M m rows t → ended_at at t ≡ type_body M m
    unfolding type_from
    reached_end t l d =
        let none : drop at (M.body m) ≡ [] = drop_of_length-le (M.body m) l in
        d.says at r.stack r.holds ∙ sym (rw none at r.rest)
