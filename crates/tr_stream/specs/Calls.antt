-- What the contracts of a stream's calls cite.
pub use Rattle.tr_book.specs.Parts.{known_from, part_at, part_known}
pub use Rattle.tr_ring.specs.Ring.{push_answer, ring_records}
pub use Rattle.tr_stream.specs.Chunks.{history_ring, part_in, part_known_in, ring_buffers, buffer_runs}
pub use Rattle.tr_stream.specs.Consistent.{IsConsistent}
pub use Rattle.tr_stream.specs.Fates.{all_parts, fate_in_parts, history_fate, state_fate, held_fate}
pub use Rattle.tr_stream.specs.History.{History}
pub use Rattle.tr_stream.specs.Kept.{IsKept}
pub use Rattle.tr_stream.specs.Sound.{IsSound}
pub use Rattle.tr_stream.specs.StandsFor.{StandsFor}
pub use Rattle.tr_stream.specs.State.{in_ring, in_parts}
pub use Rattle.tr_stream.specs.StateSteps.{new_state, overwrites, refusal_of, state_entry, state_with_offer, offered_as, state_offer_answer, state_after_offer, state_take_answer, state_after_take, cut_done, state_cut_answer, state_cut_ring, state_after_cut, state_cleared, state_clear_answer, state_clear_ring, state_after_clear, state_release_answer, state_after_release, are_parts_released, state_forget_refusal, state_forget_answer, state_after_forget, state_after_switch, state_snap, state_counts}
pub use Rattle.tr_stream.specs.Steps.{ClearsSome, ReleasesSome, new_history, history_offer_answer, history_after_offer, history_take_answer, history_after_take, history_cut_answer, history_after_cut, history_clear_answer, history_after_clear, history_release_answer, history_after_release, history_forget_answer, history_after_forget, history_after_switch, history_snap, history_counts}
