use Rattle.layout.proofs.Readings.{specialiser_read}
use Rattle.layout.proofs.open.OpenBundle.specialiser.Goals as goal

pub returns : goal.returns
returns c = rw (c.byte_at.ensures.0, c.specialiser_tuple_at.ensures.0, c.records.ensures.0) (specialiser_read c.args.self.now.opened c.args.m c.args.place c.requires.m_lt_methods c.requires.place_lt_places)
