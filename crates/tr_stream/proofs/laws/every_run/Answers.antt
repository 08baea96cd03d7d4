use Rattle.tr_stream.proofs.ChunkRuns.{chunk_between_cuts, counted_cuts, never-consumed, only-cleared}
use Rattle.tr_stream.proofs.ModelLemmas.{well_run, in_one_place, kept_rise, settled_below}
use Rattle.tr_stream.proofs.laws.every_run.Goals as goal

pub returns : goal.returns
returns g c = record {
  well_formed = well_run;
  one_place = in_one_place;
  kept = kept_rise;
  settled = settled_below;
  chunks = chunk_between_cuts;
  cuts = counted_cuts;
  uncleared = only-cleared;
  snapshot_session = never-consumed;
}
