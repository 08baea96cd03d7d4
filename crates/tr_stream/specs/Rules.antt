-- What the layers above ask of a stream, by what it holds or by its history.
use Rattle.std.specs.Prelude.{◌≡◌, ℕ, Bool, List, Option, Result}
use Rattle.tr_book.specs.Parts.{PartState, part_at}
use Rattle.tr_book.specs.Snaps.{SnapState}
use Rattle.tr_book.specs.declared.counts.Counts.{Counts}
use Rattle.tr_stream.specs.Chunks.{part_in}
use Rattle.tr_stream.specs.Fates.{history_fate, state_fate}
use Rattle.tr_stream.specs.History.{History}
use Rattle.tr_stream.specs.Sound.{IsMade, LosesByMode}
use Rattle.tr_stream.specs.StandsFor.{StandsFor}
use Rattle.tr_stream.specs.State.{StreamState}
use Rattle.tr_stream.specs.StateSteps.{new_state, state_offer_answer, state_after_offer, state_take_answer, state_after_take, state_cut_answer, state_after_cut, state_clear_answer, state_after_clear, state_release_answer, state_after_release, state_after_switch, state_snap, state_counts}
use Rattle.tr_stream.specs.Steps.{new_history, history_offer_answer, history_after_offer, history_take_answer, history_after_take, history_cut_answer, history_after_cut, history_clear_answer, history_after_clear, history_release_answer, history_after_release, history_after_switch, history_snap, history_counts}
use Rattle.tr_stream.specs.declared.answers.ClearFault.{ClearFault}
use Rattle.tr_stream.specs.declared.answers.Cleared.{Cleared}
use Rattle.tr_stream.specs.declared.answers.CutDone.{CutDone}
use Rattle.tr_stream.specs.declared.answers.CutFault.{CutFault}
use Rattle.tr_stream.specs.declared.answers.OfferFault.{OfferFault}
use Rattle.tr_stream.specs.declared.answers.Offered.{Offered}
use Rattle.tr_stream.specs.declared.answers.ReleaseFault.{ReleaseFault}
use Rattle.tr_stream.specs.declared.answers.Released.{Released}
use Rattle.tr_stream.specs.declared.answers.TakeFault.{TakeFault}
use Rattle.tr_stream.specs.declared.answers.Taken.{Taken}
use Rattle.tr_stream.specs.declared.config.StreamConfig.{StreamConfig}
use Rattle.tr_stream.specs.declared.fate.Fate.{Fate}

pub record StreamRules (S : Type 0) : Type 0 where
  pub new : StreamConfig → S
  pub offer_answer : ℕ → ℕ → List ℕ → S → Result Offered OfferFault
  pub after_offer : ℕ → ℕ → List ℕ → S → S
  pub take_answer : S → Result Taken TakeFault
  pub after_take : S → S
  pub cut_answer : ℕ → S → Result CutDone CutFault
  pub after_cut : ℕ → S → S
  pub clear_answer : S → Result Cleared ClearFault
  pub after_clear : S → S
  pub release_answer : ℕ → S → Result Released ReleaseFault
  pub after_release : ℕ → S → S
  pub after_switch : Bool → S → S
  pub snap : ℕ → S → SnapState
  pub counts : S → Counts
  pub fate : ℕ → S → Option Fate
  pub part : ℕ → S → Option PartState

-- a history, and what its stream was made with
pub record Traced : Type 0 where
  pub config : StreamConfig
  pub history : History

-- by what a stream holds
abbrev pub by_state : StreamRules StreamState
by_state = record {
  new = new_state;
  offer_answer = state_offer_answer;
  after_offer = state_after_offer;
  take_answer = state_take_answer;
  after_take = state_after_take;
  cut_answer = state_cut_answer;
  after_cut = state_after_cut;
  clear_answer = state_clear_answer;
  after_clear = state_after_clear;
  release_answer = state_release_answer;
  after_release = state_after_release;
  after_switch = state_after_switch;
  snap = state_snap;
  counts = state_counts;
  fate = state_fate;
  part = λ k s. part_at k s.parts;
}

-- by its history
abbrev pub by_history : StreamRules Traced
by_history = record {
  new = λ c. record { config = c; history = new_history };
  offer_answer = λ moment id payload t. history_offer_answer t.config payload t.history;
  after_offer = λ moment id payload t. record t { history = history_after_offer t.config moment id payload t.history };
  take_answer = λ t. history_take_answer t.config t.history;
  after_take = λ t. record t { history = history_after_take t.config t.history };
  cut_answer = λ moment t. history_cut_answer t.config moment t.history;
  after_cut = λ moment t. record t { history = history_after_cut t.config moment t.history };
  clear_answer = λ t. history_clear_answer t.config t.history;
  after_clear = λ t. record t { history = history_after_clear t.config t.history };
  release_answer = λ k t. history_release_answer t.config k t.history;
  after_release = λ k t. record t { history = history_after_release k t.history };
  after_switch = λ active t. record t { history = history_after_switch active t.history };
  snap = λ moment t. history_snap t.config moment t.history;
  counts = λ t. history_counts t.config t.history;
  fate = λ n t. history_fate n t.history;
  part = λ k t. part_in t.config k t.history;
}

-- the stream was made as the history says, loses records as its mode says, and stands for it
pub record Agrees (s : StreamState) (t : Traced) : Type 0 where
  pub config : s.config ≡ t.config
  pub made : IsMade s.config s.ring
  pub losses : LosesByMode s
  pub stands : StandsFor s t.history
