-- Where the body of a method lies within the bundle.
-- Assumes nothing.
use Rattle.std.specs.Prelude.{ℕ, ◌+◌, ◌≤◌, ◌≡◌, List, length}
use Rattle.rules.specs.Bytes.{part}
use Rattle.rules.specs.Layout.{body_length, code_at, code_of}
use Rattle.layout.specs.declared.field.Span.{Span}

-- the span is that of the body of method m
pub record BodySpan (b : List ℕ) (m : ℕ) (s : Span) : Type 0 where
  pub place : s.at ≡ code_at b m
  pub size : s.len ≡ body_length b m
  pub within : s.at + s.len ≤ length b
  pub code : part b s.at s.len ≡ code_of b m
