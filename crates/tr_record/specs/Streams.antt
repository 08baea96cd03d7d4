-- The std streams of a source and a sink.
use Rattle.tr_record.specs.declared.streams.ReaderSource.{ReaderSource}
use Rattle.tr_record.specs.declared.streams.WriterSink.{WriterSink}

-- the reader that a source reads from
abbrev pub reader_of : {R : Type 0} → ReaderSource R → R
reader_of s = s.reader

-- the writer that a sink writes to
abbrev pub writer_of : {W : Type 0} → WriterSink W → W
writer_of s = s.writer
