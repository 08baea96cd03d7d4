-- How many numbers are absent, or records were discarded, in digits below their marks.
use Rattle.std.specs.Prelude.{ℕ, Bool, ◌&&◌, ◌+◌, nat_eq, nat_le, nat_lt, List, [], ◌∷◌, ◌++◌, codes, if◌then◌else◌}
use Rattle.std.specs.Fmt.{decimal}
use Rattle.tr_picture.specs.Frame.{pixel_of}
use Rattle.tr_picture.specs.declared.bars.Bar.{Bar}
use Rattle.tr_picture.specs.declared.counts.Counted.{Counted}
use Rattle.tr_picture.specs.declared.counts.Counted.TheVariants.{Absent, Discarded}
use Rattle.tr_picture.specs.declared.frame.Frame.{Frame}

abbrev pub count_in : Counted → Bar → ℕ
count_in Absent b = b.absent
count_in Discarded b = b.lost

-- the class of its colour
abbrev pub colour_of : Counted → List ℕ
colour_of Absent = codes "tr"
colour_of Discarded = codes "to"

-- how far below the row's top it is: those that are absent are in a line above the others
abbrev pub depth_of : Counted → ℕ
depth_of Absent = 23
depth_of Discarded = 29

abbrev pub count_text : Counted → Frame → Bar → List ℕ
count_text what f b =
    codes "<text class=\"n " ++ (colour_of what ++ (codes "\" x=\"" ++ (decimal (pixel_of f b.from)
    ++ (codes "\" y=\"" ++ (decimal (depth_of what) ++ (codes "\">" ++ (decimal (count_in what b) ++ codes "</text>")))))))

-- a count is shown, if there is one, where each column is a pixel and there is room from this pixel on
abbrev pub is_counted : Counted → Frame → ℕ → Bar → Bool
is_counted what f room b = nat_eq f.columns 800 && (nat_lt 0 (count_in what b) && nat_le room (pixel_of f b.from))

abbrev pub count_after : Counted → Frame → ℕ → Bar → List ℕ
count_after what f room b = if is_counted what f room b then count_text what f b else []

-- where the next one has room: after some ten digits
abbrev pub room_past : Counted → Frame → ℕ → Bar → ℕ
room_past what f room b = if is_counted what f room b then pixel_of f b.from + 48 else room

abbrev pub counts_text : Counted → Frame → ℕ → List Bar → List ℕ
counts_text what f room [] = []
counts_text what f room (b ∷ bars) = count_after what f room b ++ counts_text what f (room_past what f room b) bars
