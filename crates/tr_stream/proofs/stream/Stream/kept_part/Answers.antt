use Rattle.std.proofs.Common.{◌∙◌, arith}
use Rattle.tr_stream.proofs.ForgetLemmas.{known-part}
use Rattle.tr_stream.proofs.stream.Stream.kept_part.Goals as goal

pub returns : goal.returns
returns g c = c.part.ensures.value ∙ known-part c.args.chunk c.args.self.now.parts (omega (arith, c.requires))
