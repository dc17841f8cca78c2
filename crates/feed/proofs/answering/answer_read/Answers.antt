-- The reading, and its line.
use Rattle.feed.specs.Answering.{was_read}
use Rattle.feed.proofs.answering.answer_read.Goals as goal

pub returns : goal.returns
returns c fin = was_read c.args.key c.args.st c.read.ensures c.write_reading.ensures.wrote c.write_reading.ensures.ends
