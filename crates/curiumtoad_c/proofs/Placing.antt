-- Where a body lies: the reply of its span is that of the body view.
-- Assumes nothing.
use Prim.Native.Nat.{ℕ, ◌<◌}
use mathlib.Core.Path.{◌≡◌, sym}
use mathlib.Core.List.{List, [], ◌∷◌}
use Rattle.rules.specs.Layout.{code_of}
use Rattle.rules.proofs.Opening.{opened_rules}
use Rattle.rules.proofs.Places.{code_length}
use Rattle.layout.specs.declared.bundle.Bundle.{Bundle}
use Rattle.layout.specs.declared.field.Span.{Span}
use Rattle.std.specs.Prelude.{Ok}
use Rattle.answers.specs.Opening.{Opens}
use Rattle.layout.specs.Bodies.{BodySpan}
use Rattle.reply.specs.Replies.{numbered}
use Rattle.curiumtoad_c.specs.Exported.{placed}

module _ (b : List ℕ) (m : ℕ) where
  pub span_reply : {t : Bundle} → Opens b (Ok t) → m < t.methods → (s : Span) → BodySpan b m s
      → numbered 0 (s.at ∷ s.len ∷ []) ≡ numbered 0 (placed b m (code_of b m))
  span_reply o h s p =
      let size = code_length b (opened_rules b _ (sym o.answer)) m (rw (sym o.tables.methods) h) in
      cc (p.place, p.size, size)
