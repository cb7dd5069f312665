-- The specialiser is asked first, then the declared class.
use Prim.Native.Nat.{ℕ}
use mathlib.Core.Path.{sym, ap, ◌∙◌}
use Rattle.rules.specs.Model.{model_of}
use Rattle.rules.specs.Subclass.{subclass}
use Rattle.overriding.proofs.Arguments.{by_specialiser, by_declared_lem}
use Rattle.overriding.proofs.suits.in_arg_type.Goals as goal

pub returns-then-is_under : goal.returns-then-is_under
returns-then-is_under c =
    let M = model_of c.args.prepared.now.bundle.bytes.now in
    let asked = c.is_under.ensures ∙ ap (λ (x : ℕ). subclass M x c.args.c) c.specialiser-special_class.ensures.0 in
    c.if-is_under.true ∙ sym (by_specialiser M _ _ _ (sym asked ∙ c.if-is_under.true))

pub returns-else-is_under : goal.returns-else-is_under
returns-else-is_under c =
    let M = model_of c.args.prepared.now.bundle.bytes.now in
    let asked = c.is_under.ensures ∙ ap (λ (x : ℕ). subclass M x c.args.c) c.specialiser-special_class.ensures.0 in
    c.is_under-else-is_under.ensures
    ∙ ap (λ (x : ℕ). subclass M x c.args.c) c.declared-declared_class.ensures.0
    ∙ sym (by_declared_lem M _ _ _ (sym asked ∙ c.if-is_under.false))
