use Rattle.std.proofs.Common.{◌∙◌, drop, map, take}
use Rattle.tr_describe.specs.Homes.{seen, text_of}
use Rattle.tr_describe.proofs.AnswerLemmas.{parts_of}
use Rattle.tr_survey.proofs.PrefixLemmas.{at_err}
use Rattle.tr_describe.proofs.describing.put_all.Goals as goal

pub returns-in_err-put_metadata-clause-err : goal.returns-in_err-put_metadata-clause-err
returns-in_err-put_metadata-clause-err g c =
    let i = c.loop-metadata.metadata-index in
    at_err c.from_residual.result (record {
      front = map (text_of c.args.events.now) (map seen (take i c.args.found.now));
      rest = map (text_of c.args.events.now) (map seen (drop i c.args.found.now));
      parts = parts_of seen (text_of c.args.events.now) i c.args.found.now;
      put = c.in_err-put_metadata.ensures.err ∙ c.loop-metadata.invariant.put;
    })
