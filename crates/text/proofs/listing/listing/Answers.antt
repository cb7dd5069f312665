-- `text::listing::listing` meets its contract: the text is composed in an array of its own, and copied where it fits.
-- Assumes nothing.
use native.Mathlib.Omega.{arith}
use mathlib.Core.Path.{sym, ◌∙◌}
use lib.Seq.{length-take-le}
use Rattle.text.proofs.Composing.{listed_short, listed_written}
use Rattle.text.proofs.listing.listing.Goals as goal

pub returns-then-text-n : goal.returns-then-text-n
returns-then-text-n c =
    let composed = c.compose-n.ensures in
    record {
      told = λ h. omega (arith, h, c.if-text-n.true, composed.composed.fits, composed.text_len_unchanged);
      lists = listed_short c.args.bundle.now _ c.args.text.now _ composed.composed c.if-text-n.true;
    }

pub copy_from_slice-requires : goal.copy_from_slice-requires
copy_from_slice-requires c =
    length-take-le c.compose-n.result c.args.text.now c.if-text-n.false ∙ sym (length-take-le c.compose-n.result c.compose-n.new.text c.compose-n.ensures.composed.fits)

pub returns : goal.returns
returns c = record {
  told = λ h. tt;
  lists = listed_written c.args.bundle.now c.compose-n.new.text c.args.text.now _ _ c.compose-n.ensures.composed c.if-text-n.false cc;
}
