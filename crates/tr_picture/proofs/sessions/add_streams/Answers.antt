use Rattle.std.proofs.Common.{◌+◌, ◌++◌, ◌∙◌, List, drop, map, ap, sym}
use Rattle.tr_picture.proofs.LineLemmas.{one_more}
use Rattle.tr_picture.specs.Offsets.{offset_of}
use Rattle.tr_picture.specs.Sessions.{line, line_of, seen}
use Rattle.tr_picture.specs.declared.sessions.Line as value
use Rattle.tr_survey.proofs.PrefixLemmas.{from_place}
use Rattle.tr_survey.specs.Listing.{key_of}
use Rattle.tr_survey.specs.Order.{Numbered}
use Rattle.tr_picture.proofs.sessions.add_streams.Goals as goal

pub loop-stream-preserved : goal.loop-stream-preserved
loop-stream-preserved g c =
    let i = c.loop-stream.stream-index in
    let streams = c.args.streams.now in
    record {
      room = c.in_ok-row.ensures.room ∙ c.loop-stream.invariant.room;
      tree = c.in_ok-row.ensures.tree ∙ c.loop-stream.invariant.tree;
      failures = c.in_ok-row.ensures.failures ∙ c.loop-stream.invariant.failures;
      found = λ t known.
          let f = line_of c.args.frame.now t c.args.session.now c.args.folder.now c.args.uuid.now (map key_of c.args.archives.now) in
          ap (λ (l : List value.Line). map seen l ++ map f (map key_of (drop (i + 1) streams))) c.in_ok-push.ensures.items
          ∙ one_more seen f c.loop-stream.found.items c.in_ok-made.made (key_of c.stream-item.result) (map key_of (drop (i + 1) streams))
          (c.in_ok-made.ensures
          ∙ ap (λ o. line c.args.session.now (key_of c.stream-item.result) o c.in_ok-row.row) c.offset_of-offset.ensures
          ∙ ap (line c.args.session.now (key_of c.stream-item.result) (offset_of (map key_of c.args.archives.now))) (c.in_ok-row.ensures.row t (c.loop-stream.invariant.tree ∙ known)))
          ∙ ap (λ (l : List Numbered). map seen c.loop-stream.found.items ++ map f l)
          (sym (from_place key_of streams i c.stream-item.result c.loop-stream-test.true c.stream-item.is))
          ∙ c.loop-stream.invariant.found t known;
    }
