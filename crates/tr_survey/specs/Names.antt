-- The names of archives' folders and of streams' files.
use Rattle.std.specs.Prelude.{ℕ, Bool, ◌&&◌, ◌||◌, ◌==◌, nat_le, List, codes, length, take, drop, Option, None, if◌then◌else◌}
use Rattle.std.specs.List.{after_last, before_last, list_all, zip}
use Rattle.std.specs.Option.{option_map}
use Rattle.tr_events.specs.Numbers.{is_digit, number_of}
use Rattle.tr_survey.specs.Order.{Numbered}
use Rattle.tr_terms.specs.Names.{is_name}

-- the form of an archive's name before its number: 0 is any digit, and + a sign
abbrev pub form_of_stamps : List ℕ
form_of_stamps = codes "00000000T000000+0000-00000000T000000+0000-"

abbrev pub fits : ℕ → ℕ → Bool
fits form b = if form == 48 then is_digit b else if form == 43 then b == 43 || b == 45 else b == form

-- the number that ends an archive's name; none: it is no such name
abbrev pub archive_number : List ℕ → Option ℕ
archive_number name =
    if nat_le 42 (length name) && list_all (λ (p : ℕ × ℕ). fits p.0 p.1) (zip form_of_stamps (take 42 name))
    then number_of (drop 42 name) else None

abbrev pub is_underscore : ℕ → Bool
is_underscore b = b == 95

-- the stream of a channel and a number
abbrev pub of_parts : List ℕ → ℕ → Numbered
of_parts channel number = record { number = number; name = channel }

-- what is before the last underscore, and after it, as a channel's name and a number; none: it isn't so
abbrev pub stream_of : List ℕ → List ℕ → Option Numbered
stream_of channel digits = if is_name channel then option_map (of_parts channel) (number_of digits) else None

-- the stream whose file has this name: a channel's name, an underscore and a number; none: it is no such name
abbrev pub stream_named : List ℕ → Option Numbered
stream_named name = stream_of (before_last is_underscore name) (after_last is_underscore name)

-- when an archive began and when it ended, as its name says it: two stamps of 20 bytes
abbrev pub begin_stamp : List ℕ → List ℕ
begin_stamp name = take 20 name

abbrev pub end_stamp : List ℕ → List ℕ
end_stamp name = take 20 (drop 21 name)
