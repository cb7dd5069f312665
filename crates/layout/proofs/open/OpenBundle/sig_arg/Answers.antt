use Rattle.layout.proofs.Readings.{sig_arg_read}
use Rattle.layout.proofs.open.OpenBundle.sig_arg.Goals as goal

pub returns : goal.returns
returns c = rw (c.byte_at.ensures.0, c.sig_tuple_at.ensures.0, c.records.ensures.0) (sig_arg_read c.args.self.now.opened c.args.s c.args.place c.requires.s_lt_signatures c.requires.place_lt_places)
