use Rattle.std.proofs.Common.{◌≡◌, Some, drop, length, map}
use Rattle.tr_folders.specs.Tree.{Tree}
use Rattle.tr_describe.specs.Answers.{first_of, stream_wrong}
use Rattle.tr_survey.specs.Listing.{key_of}
use Rattle.tr_describe.proofs.archives.judge_streams.Given as goal

abbrev pub invariant-loop-stream : goal.invariant-loop-stream
invariant-loop-stream g l = record {
  room : length l.buffer ≡ length l.initial.buffer;
  tree : g.F.Folders.tree l.folders ≡ g.F.Folders.tree l.initial.folders;
  failures : g.F.Folders.failures l.folders ≡ g.F.Folders.failures l.initial.folders;
  wrong : (t : Tree) → g.F.Folders.tree l.initial.folders ≡ Some t
      → first_of (stream_wrong t l.place.session.now.events.now l.place.session.now.name.now l.place.session.now.folder.now
      (key_of l.place.archive.now) l.uuid) (map key_of l.streams)
      ≡ first_of (stream_wrong t l.place.session.now.events.now l.place.session.now.name.now l.place.session.now.folder.now
      (key_of l.place.archive.now) l.uuid) (map key_of (drop l.stream-index l.streams));
}
