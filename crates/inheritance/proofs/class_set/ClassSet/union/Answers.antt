-- Each word has the bits of both.
use Rattle.std.proofs.Common.{ℕ, zero, suc, ◌+◌, ◌<◌, ◌≡◌, [], ◌∷◌, bit_or, get_or, refl, arith}
use Rattle.rules.proofs.Bits.{either_set}
use Rattle.inheritance.proofs.class_set.ClassSet.union.Goals as goal

pub returns : goal.returns
returns c i h = either_set c.args.self.words c.args.other.words _ 0 2 words i (omega arith)
  where
    words : (w : ℕ) → w < 2
        → get_or (bit_or (get_or c.args.self.words 0 0) (get_or c.args.other.words 0 0) ∷ bit_or (get_or c.args.self.words 1 0) (get_or c.args.other.words 1 0) ∷ []) w 0
        ≡ bit_or (get_or c.args.self.words w 0) (get_or c.args.other.words (0 + w) 0)
    words zero l = refl
    words (suc zero) l = refl
    words (suc (suc w)) l = absurd (omega arith)
