use Rattle.std.proofs.Common.{◌≡◌, map, take}
use Rattle.tr_describe.specs.Homes.{seen, text_of}
use Rattle.tr_describe.specs.Put.{and_then_put}
use Rattle.tr_describe.proofs.describing.put_all.Given as goal

abbrev pub invariant-loop-metadata : goal.invariant-loop-metadata
invariant-loop-metadata g l = record {
  writes : g.T.Texts.failures l.texts ≡ g.T.Texts.failures l.initial.texts;
  put : g.T.Texts.written l.texts ≡ and_then_put (g.T.Texts.written l.initial.texts) (map (text_of l.events) (map seen (take l.metadata-index l.found)));
}
