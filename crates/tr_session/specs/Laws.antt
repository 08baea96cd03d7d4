-- What the laws about audits cite.
pub use Rattle.tr_chunk.specs.Audit.{AreAudited, all_of, audit_of, is_in_runs}
pub use Rattle.tr_ring.specs.ClosedBuffer.{ClosedBuffer}
pub use Rattle.tr_session.specs.Audits.{LastIs, NoneReleased, files_of, is_below_one, kept_above, left_below, left_of, packets_by_part, packets_in, was_removed}
pub use Rattle.tr_stream.specs.Chunks.{kept_of, packet_of}
pub use Rattle.tr_stream.specs.History.{History}
pub use Rattle.tr_stream.specs.Runs.{history_after_events}
pub use Rattle.tr_stream.specs.Sound.{IsSound, IsUsable}
pub use Rattle.tr_stream.specs.StandsFor.{StandsFor}
pub use Rattle.tr_stream.specs.State.{StreamState}
pub use Rattle.tr_stream.specs.Steps.{new_history}
pub use Rattle.tr_stream.specs.WellFormed.{IsWellFormed, chunks_below}
pub use Rattle.tr_stream.specs.declared.config.StreamConfig.{StreamConfig}
pub use Rattle.tr_stream.specs.declared.events.StreamEvent.{StreamEvent}
