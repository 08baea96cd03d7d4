use Rattle.tr_examples.proofs.Computed as computed
use Rattle.tr_examples.proofs.every_example.Goals as goal

pub returns : goal.returns
returns c = record {
  archives = computed.archives;
  empty = computed.empty;
  first_run = computed.first_run;
  gaps = computed.gaps;
  moments = computed.moments;
  nobody = computed.nobody;
  overwriting = computed.overwriting;
  pending = computed.pending;
  rotation = computed.rotation;
  schedule = computed.schedule;
  sizes = computed.sizes;
  snapshot = computed.snapshot;
  stopped = computed.stopped;
  tour = computed.tour;
}
