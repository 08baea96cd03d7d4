-- What a line of a shell asks for, as C reads it.
use Rattle.std.specs.Option.{option_map_or}
use Rattle.std.specs.Prelude.{ℕ, Bool, false, List, ◌∷◌, codes, Option, Some, None, is_some, unwrap_or, if◌then◌else◌}
use Rattle.std.specs.Str.{bytes_eq}
use Rattle.tr_border.specs.declared.asks.AskedOut.{AskedOut}
use Rattle.tr_border.specs.declared.codes.TheConstants.{ASKS_ARCHIVES, ASKS_BADLY, ASKS_CLEAR, ASKS_FATE, ASKS_NOTHING, ASKS_OTHER, ASKS_RELEASE, ASKS_ROTATE, ASKS_SCHEDULE, ASKS_SNAPSHOT, ASKS_START, ASKS_STATUS, ASKS_STOP}
use Rattle.tr_command.specs.Asked.{Asked}
use Rattle.tr_command.specs.Asked as ask
use Rattle.tr_command.specs.Language.{asked_of}
use Rattle.tr_lines.specs.Lines.{text_of_line}
use Rattle.tr_lines.specs.Words.{is_skipped, words_of}

-- what asks for this without numbers
abbrev pub plain_asked : ℕ → Bool → AskedOut
plain_asked kind named = record {
  kind = kind;
  named = named;
  timer = false;
  by_size = false;
  moment = 0;
  stream = 0;
  serial = 0;
  archive = 0;
  every = 0;
  size = 0;
}

-- what words ask for of a session with this name: the command's kind, whether it names that session, and its numbers. None is a
-- bad line; commands that no live session answers are of one kind
abbrev pub asked_out : List ℕ → Option Asked → AskedOut
asked_out name None = plain_asked ASKS_BADLY false
asked_out name (Some (ask.Status session)) = plain_asked ASKS_STATUS (bytes_eq session name)
asked_out name (Some (ask.Archives session)) = plain_asked ASKS_ARCHIVES (bytes_eq session name)
asked_out name (Some (ask.Stop session)) = plain_asked ASKS_STOP (bytes_eq session name)
asked_out name (Some (ask.Clear session)) = plain_asked ASKS_CLEAR (bytes_eq session name)
asked_out name (Some (ask.Start session moment)) = record (plain_asked ASKS_START (bytes_eq session name)) { moment = moment }
asked_out name (Some (ask.Rotate session moment)) = record (plain_asked ASKS_ROTATE (bytes_eq session name)) { moment = moment }
asked_out name (Some (ask.Snapshot session moment)) =
    record (plain_asked ASKS_SNAPSHOT (bytes_eq session name)) { moment = moment }
asked_out name (Some (ask.Release session archive)) =
    record (plain_asked ASKS_RELEASE (bytes_eq session name)) { archive = archive }
asked_out name (Some (ask.Fate session stream serial)) =
    record (plain_asked ASKS_FATE (bytes_eq session name)) { stream = stream; serial = serial }
asked_out name (Some (ask.Schedule session every size)) =
    record (plain_asked ASKS_SCHEDULE (bytes_eq session name)) {
      timer = is_some every;
      by_size = is_some size;
      every = unwrap_or every 0;
      size = unwrap_or size 0;
    }
asked_out name (Some other) = plain_asked ASKS_OTHER false

-- what the words of a line ask for
abbrev pub words_asked : List ℕ → List (List ℕ) → AskedOut
words_asked name words =
    if is_skipped words then plain_asked ASKS_NOTHING false else asked_out name (asked_of (codes "tracerd" ∷ words))

-- what the bytes of a line ask for, as a script's
abbrev pub line_asked : List ℕ → List ℕ → AskedOut
line_asked name line =
    option_map_or (λ text. words_asked name (words_of text)) (text_of_line line) (plain_asked ASKS_BADLY false)
