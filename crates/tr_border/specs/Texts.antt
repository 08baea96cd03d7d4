-- Texts that are copied out.
use Rattle.std.specs.Prelude.{◌≡◌, ℕ, ◌-◌, ◌<◌, ◌≤◌, min, List, ◌++◌, take, drop, length, Option, Some, None, Result, Ok, Err}
use Rattle.tr_events.specs.Events.{Declarations}
use Rattle.tr_events.specs.Faults.{event_fault_code}
use Rattle.tr_events.specs.declared.faults.LineFault.{LineFault}
use Rattle.tr_packet.specs.Packets.{Contents}
use Rattle.tr_packet.specs.Texts.{packets_text}
use Rattle.tr_border.specs.Codes.{code_number}
use Rattle.tr_border.specs.declared.texts.Place.{Place}
use Rattle.tr_border.specs.declared.codes.TheConstants.{DONE, NO_ROOM}

-- how many bytes of a text go into a room, from byte `at` on
abbrev pub copied : ℕ → List ℕ → List ℕ → ℕ
copied at text room = min (length text - at) (length room)

-- and what the room has then
abbrev pub room_after : ℕ → List ℕ → List ℕ → List ℕ
room_after at text room = take (copied at text room) (drop at text) ++ drop (copied at text room) room

-- the bytes of packets from a place on
abbrev pub text_from : Place → List Contents → List ℕ
text_from place packets = drop place.at (packets_text (drop place.packet packets))

-- of the bytes from a place on as many were copied as there are and as fit, and the place moved behind these
pub record CopiesOn (packets : List Contents) (place place' : Place) (count : ℕ) (room room' : List ℕ) : Type 0 where
  pub counts : count ≡ copied 0 (text_from place packets) room
  pub copies : room' ≡ room_after 0 (text_from place packets) room
  pub moves : text_from place' packets ≡ drop count (text_from place packets)

-- a call that answers this code copied the whole text, and says its length; or the room is too small, and nothing was done
abbrev pub CopiesWhole : List ℕ → ℕ → List ℕ → List ℕ → ℕ → ℕ → Type 0
CopiesWhole text code room room' count count' =
    (length text ≤ length room
    → (code ≡ DONE) × (room' ≡ text ++ drop (length text) room) × (count' ≡ length text))
    × (length room < length text → (code ≡ NO_ROOM) × (room' ≡ room) × (count' ≡ count))

-- a call that answers this code holds the events that a text declares; or it says which line declares none, and holds nothing
abbrev pub HoldsDeclared : Result Declarations LineFault → ℕ → Option Declarations → ℕ → ℕ → Type 0
HoldsDeclared (Ok events) code held line line' = (code ≡ DONE) × (held ≡ Some events) × (line' ≡ line)
HoldsDeclared (Err at) code held line line' = (code ≡ code_number (event_fault_code at.fault)) × (held ≡ None) × (line' ≡ at.line)
