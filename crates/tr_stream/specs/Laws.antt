-- What the laws about histories cite.
pub use Rattle.tr_stream.specs.Chunks.{chunk_of, cleared_of, kept_of}
pub use Rattle.tr_stream.specs.Consistent.{Rising}
pub use Rattle.tr_stream.specs.History.{Closed, is_kept, is_waiting, offered_of, times}
pub use Rattle.tr_stream.specs.Runs.{history_after_events, kept_after_cuts, clears_among, cuts_made}
pub use Rattle.tr_stream.specs.Sound.{IsUsable}
pub use Rattle.tr_stream.specs.Steps.{new_history}
pub use Rattle.tr_stream.specs.WellFormed.{IsWellFormed}
pub use Rattle.tr_stream.specs.declared.config.StreamConfig.{StreamConfig}
pub use Rattle.tr_stream.specs.declared.events.StreamEvent.{StreamEvent}
pub use Rattle.tr_terms.specs.declared.session_mode.SessionMode.TheVariants.{Snapshot}
