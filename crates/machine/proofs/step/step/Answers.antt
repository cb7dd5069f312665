-- `machine::step::step`: the instruction read is the frame's next, and each kind has its function.
-- Assumes nothing.
use Rattle.std.proofs.Common.{◌≡◌, ℕ, List, true, get_or, ap, ap₂, subst, ◌∙◌, arith}
use borrow.Author.Tests.{ltb-true}
use Rattle.layout.specs.Bundles.{model}
use Rattle.rules.specs.Model.{Model, arg, operand_rule}
use Rattle.layout.specs.Instruction.{instr}
use Rattle.layout.specs.declared.instruction.Instruction.{Instruction}
use Rattle.layout.specs.declared.instruction.Instruction.TheVariants.{Arg, New, Send, Resend}
use Rattle.layout.proofs.Opened.{counts_of}
use Rattle.frames.specs.Arrays.{method_at, next_at}
use Rattle.machine.specs.Held.{next_of, turn_at}
use Rattle.machine.proofs.Stores.{numbers_of}
use Rattle.machine.proofs.Passes.{held_of}
use Rattle.machine.proofs.Steps.{steps_as}
use Rattle.machine.proofs.step.step.Goals as goal

pub instruction-requires-clause-m_lt_methods : goal.instruction-requires-clause-m_lt_methods
instruction-requires-clause-m_lt_methods c =
    let p = c.requires in
    omega (arith, c.method-m.ensures, (numbers_of (held_of p.going)).method_present, counts_of c.args.indexed.now.prepared.bundle.opened)

-- a fact about the operand of an instruction read from method m holds of the frame's method, which m is
module _ (M : Model) (fs : List ℕ) (k m : ℕ) (i : Instruction) (e : m ≡ method_at fs k) where
  operand : operand_rule M (M.arity (M.function m)) (instr i) ≡ true → operand_rule M (M.arity (M.function (method_at fs k))) (instr i) ≡ true
  operand h = subst (λ (x : ℕ). operand_rule M (M.arity (M.function x)) (instr i) ≡ true) e h

  -- the turn of the instruction read is that of the frame's next
  next_turn : (vs : List ℕ) (at : ℕ) → at ≡ next_at fs k → instr i ≡ get_or (M.body m) at (arg 0) → turn_at M fs vs k (instr i) ≡ turn_at M fs vs k (next_of M fs k)
  next_turn vs at q r = ap (turn_at M fs vs k) (r ∙ ap₂ (λ (x : ℕ) (y : ℕ). get_or (M.body x) y (arg 0)) e q)

pub arg-requires-clause-place_bound : goal.arg-requires-clause-place_bound
unfolding instr operand_rule
arg-requires-clause-place_bound c = ltb-true _ _ (operand (model c.args.indexed.now.prepared.bundle) c.args.frames.now.numbers c.args.top _ (Arg c.in-Arg.place) c.method-m.ensures c.in-Arg.ensures.result_value_2)

pub new-requires-clause-c_lt_classes : goal.new-requires-clause-c_lt_classes
unfolding instr operand_rule
new-requires-clause-c_lt_classes c =
    let below = ltb-true _ _ (operand (model c.args.indexed.now.prepared.bundle) c.args.frames.now.numbers c.args.top _ (New c.in-New.c) c.method-m.ensures c.in-New.ensures.result_value_2) in
    omega (arith, below, counts_of c.args.indexed.now.prepared.bundle.opened)

pub send-requires-clause-f_lt_functions : goal.send-requires-clause-f_lt_functions
unfolding instr operand_rule
send-requires-clause-f_lt_functions c =
    let below = ltb-true _ _ (operand (model c.args.indexed.now.prepared.bundle) c.args.frames.now.numbers c.args.top _ (Send c.in-Send.f) c.method-m.ensures c.in-Send.ensures.result_value_2) in
    omega (arith, below, counts_of c.args.indexed.now.prepared.bundle.opened)

pub returns-in-Arg : goal.returns-in-Arg
unfolding instr
returns-in-Arg c =
    let now = c.args.frames.now in
    steps_as c.arg.ensures (next_turn _ now.numbers c.args.top _ (Arg c.in-Arg.place) c.method-m.ensures now.values _ c.next-at.ensures c.in-Arg.ensures.result_value)

pub returns-in-New : goal.returns-in-New
unfolding instr
returns-in-New c =
    let now = c.args.frames.now in
    steps_as c.new.ensures (next_turn _ now.numbers c.args.top _ (New c.in-New.c) c.method-m.ensures now.values _ c.next-at.ensures c.in-New.ensures.result_value)

pub returns-in-Send : goal.returns-in-Send
unfolding instr
returns-in-Send c =
    let now = c.args.frames.now in
    steps_as c.send.ensures (next_turn _ now.numbers c.args.top _ (Send c.in-Send.f) c.method-m.ensures now.values _ c.next-at.ensures c.in-Send.ensures.result_value)

pub returns-in-Resend : goal.returns-in-Resend
unfolding instr
returns-in-Resend c =
    let now = c.args.frames.now in
    steps_as c.resend.ensures (next_turn _ now.numbers c.args.top _ Resend c.method-m.ensures now.values _ c.next-at.ensures c.in-Resend.ensures.result_value)
