-- What all rows of a picture have in common: which moments it shows, and in how many columns.
use Rattle.std.specs.Prelude.{ℕ, ◌+◌, ◌-◌, ◌*◌, ◌/◌, nat_le, nat_lt, if◌then◌else◌}
use Rattle.tr_chunk.specs.Audit.{capped_count}
use Rattle.tr_packet.specs.Packets.{Contents, packet_size}
use Rattle.tr_picture.specs.declared.frame.Extent.{Extent}
use Rattle.tr_picture.specs.declared.frame.Frame.{Frame}

abbrev pub lesser : ℕ → ℕ → ℕ
lesser a b = if nat_lt b a then b else a

abbrev pub greater : ℕ → ℕ → ℕ
greater a b = if nat_lt a b then b else a

-- ---- the extent of packets

-- that of none
abbrev pub no_extent : Extent
no_extent = record { least = 18446744073709551615; greatest = 0; largest = 0 }

-- with one packet more
abbrev pub with_packet : Extent → Contents → Extent
with_packet x p = record {
  least = lesser x.least p.head.begin;
  greatest = greater x.greatest p.head.end;
  largest = greater x.largest (packet_size p);
}

abbrev pub both : Extent → Extent → Extent
both x y = record {
  least = lesser x.least y.least;
  greatest = greater x.greatest y.greatest;
  largest = greater x.largest y.largest;
}

-- ---- columns

-- one column, for all moments
abbrev pub rough : Frame
rough = record { least = 0; span = 1; columns = 0; largest = 0 }

-- how many columns a row has: as many as there are pixels, if so many marks can't be too many; or else so few that all rows
-- together have few bars
abbrev pub columns_for : ℕ → ℕ → ℕ
columns_for marks rows = if nat_le marks 10000 then 800 else lesser 800 (greater 1 (6000 / greater 1 rows))

-- the frame of packets of this extent in rows, and of so many marks
abbrev pub frame_of : Extent → ℕ → ℕ → Frame
frame_of x marks rows = record {
  least = x.least;
  span = capped_count ((x.greatest - x.least) + 1);
  columns = columns_for marks rows;
  largest = x.largest;
}

-- a moment's column: its part of the span, rounded down
abbrev pub column_of : Frame → ℕ → ℕ
column_of f moment = lesser f.columns ((moment - f.least) * f.columns / greater 1 f.span)

-- how many pixels a column is from the left: its part of the row, rounded down
abbrev pub pixel_of : Frame → ℕ → ℕ
pixel_of f column = lesser 800 (capped_count (column * 800) / greater 1 f.columns)

-- the last moment of the span
abbrev pub last_moment : Frame → ℕ
last_moment f = capped_count (f.least + f.span) - 1
