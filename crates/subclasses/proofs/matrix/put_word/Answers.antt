use Rattle.std.proofs.Common.{◌∙◌}
use Rattle.subclasses.proofs.Tuples.{word_put}
use Rattle.subclasses.proofs.matrix.put_word.Goals as goal

pub returns : goal.returns
returns c = rw (c.copy_from_slice.ensures.after ∙ c.to_le_bytes.ensures) (word_put c.args.word c.args.part.now)
