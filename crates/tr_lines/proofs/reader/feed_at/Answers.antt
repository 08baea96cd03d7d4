use Rattle.tr_lines.proofs.LineLemmas.{first_feed}
use Rattle.tr_lines.proofs.reader.feed_at.Goals as goal

pub returns : goal.returns
returns c = first_feed c.args.bytes.now c.memchr.result c.memchr.ensures
