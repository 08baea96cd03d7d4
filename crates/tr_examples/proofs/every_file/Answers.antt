use Rattle.tr_examples.proofs.Computed as computed
use Rattle.tr_examples.proofs.every_file.Goals as goal

pub returns : goal.returns
returns c = record {
  packet = computed.file_packet;
  size = computed.file_size;
  archived = computed.file_archived;
  file = computed.file_file;
  audit = computed.file_audit;
  gaps = computed.file_gaps;
  nothing = computed.file_nothing;
  whole = computed.file_whole;
  second = computed.file_second;
  short = computed.file_short;
  magic = computed.file_magic;
  twice = computed.file_twice;
  west = computed.file_west;
  before = computed.file_before;
}
