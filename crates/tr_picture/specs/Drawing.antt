-- The text of a picture, from its rows: an SVG, 1,280 pixels wide.
use Rattle.std.specs.Prelude.{ℕ, ℤ, Bool, true, not, ◌&&◌, ◌+◌, ◌*◌, ◌/◌, ◌-◌, ◌%◌, nat_eq, nat_le, nat_lt, List, [], ◌∷◌, ◌++◌, codes, length, Option, Some, None, if◌then◌else◌}
use Rattle.std.specs.Fmt.{decimal}
use Rattle.tr_chunk.specs.ArchiveName.{archive_name_text}
use Rattle.tr_chunk.specs.Audit.{capped_count}
use Rattle.tr_picture.specs.Counts.{counts_text}
use Rattle.tr_picture.specs.Escape.{escaped}
use Rattle.tr_picture.specs.Frame.{greater, last_moment, lesser, pixel_of}
use Rattle.tr_picture.specs.Lanes.{bars_of}
use Rattle.tr_picture.specs.Sessions.{Line, faults_in, first_offset}
use Rattle.tr_picture.specs.Threads.{threads_text}
use Rattle.tr_picture.specs.declared.bars.Bar.{Bar}
use Rattle.tr_picture.specs.declared.counts.Counted.TheVariants.{Absent, Discarded}
use Rattle.tr_picture.specs.declared.frame.Frame.{Frame}
use Rattle.tr_picture.specs.declared.rows.Row.{Row}
use Rattle.tr_survey.specs.Names.{begin_stamp}
use Rattle.tr_survey.specs.Streams.{lost_by}
use Rattle.tr_survey.specs.declared.tally.Tally.{Tally}
use Rattle.tr_terms.specs.declared.limits.TheConstants.{LAST_MOMENT}

-- ---- a bar

-- of which archives it is, and between which moments it lies
abbrev pub place_text : Bar → List ℕ
place_text b =
    codes "; archives " ++ (decimal b.archive ++ (codes "-" ++ (decimal b.until
    ++ (codes "; " ++ (decimal b.begin ++ (codes "-" ++ decimal b.end))))))

-- what a pointer shows of packets and absent numbers
abbrev pub packets_title : Bar → List ℕ
packets_title b =
    codes "<title>" ++ (decimal b.first ++ (codes "-" ++ (decimal b.last ++ (codes ": " ++ (decimal b.packets
    ++ (codes " packets, " ++ (decimal b.records ++ (codes " records, " ++ (decimal b.absent ++ codes " absent")))))))))

-- what it shows of discarded records and faults
abbrev pub losses_title : Bar → List ℕ
losses_title b = codes "<title>" ++ (decimal b.lost ++ (codes " discarded, " ++ (decimal b.faults ++ codes " faults")))

-- how high packets are drawn, from 2 to 12 pixels: by the bytes of their mean, as part of the largest packet of all
abbrev pub height_of : Frame → Bar → ℕ
height_of f b = 2 + lesser 10 (b.bytes / greater 1 b.packets / capped_count (f.largest / 10 + 1))

-- how many pixels wide a bar is
abbrev pub width_of : Frame → Bar → ℕ
width_of f b = pixel_of f b.to - pixel_of f b.from

-- packets, in the colour of the first archive
abbrev pub packets_path : Frame → Bar → List ℕ
packets_path f b =
    if nat_eq b.packets 0 then []
    else codes "<path class=\"a" ++ (decimal (b.archive % 4) ++ (codes "\" d=\"M" ++ (decimal (pixel_of f b.from) ++ (codes " 12v-" ++ (decimal (height_of f b)
    ++ (codes "h" ++ (decimal (width_of f b) ++ (codes "v" ++ (decimal (height_of f b) ++ codes "z\"/>")))))))))

-- absent numbers: as high as a full packet, or above the packets that share their columns
abbrev pub absent_path : Frame → Bar → List ℕ
absent_path f b =
    if nat_eq b.absent 0 then []
    else codes "<path class=\"r\" d=\"M" ++ (decimal (pixel_of f b.from) ++ (codes " 0h" ++ (decimal (width_of f b)
    ++ (codes "v" ++ (decimal (if nat_eq b.packets 0 then 12 else 4) ++ (codes "h-" ++ (decimal (width_of f b) ++ codes "z\"/>")))))))

-- discarded records, below packets
abbrev pub lost_path : Frame → Bar → List ℕ
lost_path f b =
    if nat_eq b.lost 0 then []
    else codes "<path class=\"o\" d=\"M" ++ (decimal (pixel_of f b.from) ++ (codes " 13h" ++ (decimal (width_of f b)
    ++ (codes "v4h-" ++ (decimal (width_of f b) ++ codes "z\"/>")))))

-- a fault: a line through the row
abbrev pub fault_path : Frame → Bar → List ℕ
fault_path f b = if nat_eq b.faults 0 then [] else codes "<path class=\"f\" d=\"M" ++ (decimal (pixel_of f b.from) ++ codes " 0v17\"/>")

abbrev pub bar_text : Frame → Bar → List ℕ
bar_text f b =
    codes "<g>" ++ (packets_title b ++ (place_text b ++ (codes "</title>" ++ (packets_path f b ++ (absent_path f b ++ codes "</g>")))))

abbrev pub loss_text : Frame → Bar → List ℕ
loss_text f b =
    codes "<g>" ++ (losses_title b ++ (place_text b ++ (codes "</title>" ++ (lost_path f b ++ (fault_path f b ++ codes "</g>")))))

-- a line where an archive begins
abbrev pub border_text : Frame → Bar → List ℕ
border_text f b =
    codes "<path class=\"b\" d=\"M" ++ (decimal (pixel_of f b.from) ++ (codes " -2v20\"><title>archive " ++ (decimal b.archive ++ codes "</title></path>")))

-- the same, unless the bar before is of that archive too
abbrev pub border_after : Frame → Option ℕ → Bar → List ℕ
border_after f None b = border_text f b
border_after f (Some archive) b = if nat_eq archive b.archive then [] else border_text f b

-- bars, after one of an archive
abbrev pub bars_text : Frame → Option ℕ → List Bar → List ℕ
bars_text f before [] = []
bars_text f before (b ∷ bars) = border_after f before b ++ (bar_text f b ++ bars_text f (Some b.until) bars)

abbrev pub losses_text : Frame → List Bar → List ℕ
losses_text f [] = []
losses_text f (b ∷ bars) = loss_text f b ++ losses_text f bars

-- ---- a row

-- what begins a row at this height
abbrev pub row_front : ℕ → List ℕ
row_front y = codes "<g transform=\"translate(0 " ++ (decimal y ++ codes ")\"><path class=\"l\" d=\"M0 12h800\"/>")

-- the packets and losses of a row, and how much is lost
abbrev pub row_text : Frame → ℕ → Row → List ℕ
row_text f y row =
    row_front y ++ (bars_text f None (bars_of row.packets) ++ (losses_text f (bars_of row.losses) ++ (counts_text Absent f 0 (bars_of row.packets)
    ++ (counts_text Discarded f 0 (bars_of row.losses) ++ codes "</g>\n"))))

-- the names of a stream: its channel, its number, its session, and its first thread
abbrev pub names_text : Line → List ℕ
names_text l =
    escaped l.stream.name ++ (codes " " ++ (decimal l.stream.number ++ (codes " " ++ (escaped l.session ++ threads_text l.row.threads))))

abbrev pub label_text : ℕ → Line → List ℕ
label_text y l =
    codes "<text x=\"4\" y=\"" ++ (decimal y ++ (codes "\"><title>" ++ (names_text l ++ (codes "</title>" ++ (names_text l ++ codes "</text>\n")))))

-- a count that is marked in its colour, if there is one
abbrev pub counted_text : List ℕ → ℕ → List ℕ → List ℕ
counted_text colour count what =
    if nat_eq count 0 then []
    else codes "<tspan class=\"" ++ (colour ++ (codes "\">, " ++ (decimal count ++ (codes " " ++ (what ++ codes "</tspan>")))))

-- what begins a stream's totals
abbrev pub totals_front : ℕ → ℕ → ℕ → List ℕ
totals_front y packets records =
    codes "<text x=\"6\" y=\"" ++ (decimal y ++ (codes "\">" ++ (decimal packets ++ (codes " packets, " ++ (decimal records ++ codes " records")))))

abbrev pub totals_text : ℕ → Tally → List ℕ
totals_text y s =
    totals_front y s.packets s.records
    ++ (counted_text (codes "tr") s.absent (codes "absent") ++ (counted_text (codes "to") (lost_by s.last) (codes "lost") ++ codes "</text>\n"))

-- 32 pixels below
abbrev pub next_row : ℕ → ℕ
next_row y = capped_count (y + 32)

abbrev pub rows_text : Frame → ℕ → List Line → List ℕ
rows_text f y [] = []
rows_text f y (l ∷ lines) = row_text f y l.row ++ rows_text f (next_row y) lines

abbrev pub labels_text : ℕ → List Line → List ℕ
labels_text y [] = []
labels_text y (l ∷ lines) = label_text y l ++ labels_text (next_row y) lines

abbrev pub all_totals_text : ℕ → List Line → List ℕ
all_totals_text y [] = []
all_totals_text y (l ∷ lines) = totals_text y l.row.tally ++ all_totals_text (next_row y) lines

-- ---- time

-- the civil time at an offset, as archives' names have it
abbrev pub civil_text : ℤ → ℕ → List ℕ
civil_text offset moment = if nat_le moment LAST_MOMENT then begin_stamp (archive_name_text moment moment offset 0) else []

-- a number of nanoseconds in the unit that suits a span, rounded down
abbrev pub elapsed_text : ℕ → ℕ → List ℕ
elapsed_text span n =
    if nat_lt span 100_000 then decimal n ++ codes " ns"
    else if nat_lt span 100_000_000 then decimal (n / 1_000) ++ codes " us"
    else if nat_lt span 100_000_000_000 then decimal (n / 1_000_000) ++ codes " ms"
    else decimal (n / 1_000_000_000) ++ codes " s"

-- a mark of the scale at this pixel, before and after its text
abbrev pub mark_front : ℕ → List ℕ
mark_front x = codes "<text text-anchor=\"middle\" x=\"" ++ (decimal x ++ codes "\" y=\"28\">+")

abbrev pub mark_end : ℕ → List ℕ
mark_end x = codes "</text><path class=\"t\" d=\"M" ++ (decimal x ++ codes " 32v6\"/>\n")

-- a mark after this many quarters of the span
abbrev pub mark_text : ℕ → ℕ → List ℕ
mark_text span quarters =
    mark_front (160 + 200 * quarters) ++ (elapsed_text span (span / 4 * quarters) ++ mark_end (160 + 200 * quarters))

-- ---- the numbers of archives

-- an archive begins with a bar
abbrev pub begins : Option ℕ → Bar → Bool
begins None b = true
begins (Some archive) b = not (nat_eq archive b.archive)

-- its number is shown, if there is room from this pixel on
abbrev pub is_shown : Frame → ℕ → Option ℕ → Bar → Bool
is_shown f room before b = begins before b && nat_le room (pixel_of f b.from)

abbrev pub number_text : Frame → Bar → List ℕ
number_text f b =
    codes "<text x=\"" ++ (decimal (160 + pixel_of f b.from) ++ (codes "\" y=\"48\">archive " ++ (decimal b.archive ++ codes "</text>\n")))

abbrev pub number_after : Frame → ℕ → Option ℕ → Bar → List ℕ
number_after f room before b = if is_shown f room before b then number_text f b else []

-- where the next one has room
abbrev pub room_after : Frame → ℕ → Option ℕ → Bar → ℕ
room_after f room before b = if is_shown f room before b then pixel_of f b.from + 90 else room

abbrev pub numbers_text : Frame → ℕ → Option ℕ → List Bar → List ℕ
numbers_text f room before [] = []
numbers_text f room before (b ∷ bars) = number_after f room before b ++ numbers_text f (room_after f room before b) (Some b.until) bars

-- those of the first row
abbrev pub first_numbers : Frame → List Line → List ℕ
first_numbers f [] = []
first_numbers f (l ∷ lines) = numbers_text f 0 None (bars_of l.row.packets)

-- ---- all of it

abbrev pub style_text : List ℕ
style_text = codes "<style>svg{font:10px monospace}.w{fill:#fff}text{fill:#222}.n{font-size:7px}.a0{fill:#47a}.a1{fill:#7ac}.a2{fill:#586}.a3{fill:#9b7}.r{fill:#d22;stroke:#d22}.o{fill:#e80;stroke:#e80}.f{stroke:#000;stroke-width:3}.b{stroke:#666;stroke-width:1}.l,.t{stroke:#bbb;stroke-width:1}.tr{fill:#b00}.to{fill:#a50}@media(prefers-color-scheme:dark){.w{fill:#161616}text{fill:#ddd}.l,.t{stroke:#555}.b{stroke:#aaa}.f{stroke:#fff}.tr{fill:#f77}.to{fill:#fa4}}</style>"

abbrev pub legend_text : List ℕ
legend_text = codes "<path class=\"a0\" d=\"M0 0h8v12h-8z\"/><path class=\"a1\" d=\"M8 0h8v12h-8z\"/><path class=\"a2\" d=\"M16 0h8v12h-8z\"/><path class=\"a3\" d=\"M24 0h8v12h-8z\"/><text x=\"40\" y=\"10\">packets, a colour for each archive, as high as their bytes</text><path class=\"r\" d=\"M410 0h16v12h-16z\"/><text x=\"434\" y=\"10\">numbers absent</text><path class=\"o\" d=\"M544 5h16v4h-16z\"/><text x=\"568\" y=\"10\">records discarded</text><path class=\"f\" d=\"M694 -3v17\"/><text x=\"704\" y=\"10\">fault</text><path class=\"b\" d=\"M754 -4v20\"/><text x=\"764\" y=\"10\">archive begins</text></g></svg>\n"

-- the pixels of so many rows
abbrev pub rows_height : ℕ → ℕ
rows_height rows = capped_count (32 * rows)

-- with what is above and below the rows
abbrev pub full_height : ℕ → ℕ
full_height rows = capped_count (rows_height rows + 92)

-- what begins a picture of this height, before its style and after it
abbrev pub front_text : ℕ → List ℕ
front_text height =
    codes "<svg xmlns=\"http://www.w3.org/2000/svg\" width=\"1280\" height=\"" ++ (decimal height
    ++ (codes "\" viewBox=\"0 0 1280 " ++ (decimal height ++ codes "\"><title>what archives hold and what is lost</title>")))

-- what follows the name of so many things
abbrev pub plural : ℕ → List ℕ
plural n = if nat_eq n 1 then [] else codes "s"

-- so many faults, of which so many are of streams
abbrev pub faults_text : ℕ → ℕ → List ℕ
faults_text faults placed =
    if nat_le faults placed then decimal faults ++ (codes " fault" ++ plural faults)
    else decimal faults ++ (codes " fault" ++ (plural faults ++ (codes ", " ++ (decimal (faults - placed) ++ codes " of no stream"))))

abbrev pub back_text : ℕ → ℕ → List ℕ
back_text height rows =
    codes "<rect class=\"w\" width=\"1280\" height=\"" ++ (decimal height
    ++ (codes "\"/>\n<text x=\"4\" y=\"14\">" ++ (decimal rows ++ (codes " stream" ++ (plural rows ++ codes "</text><text x=\"972\" y=\"14\">")))))

-- what begins the picture of so many rows and faults, of which so many are of streams
abbrev pub head_text : ℕ → ℕ → ℕ → List ℕ
head_text rows faults placed =
    front_text (full_height rows) ++ (style_text ++ (back_text (full_height rows) rows ++ (faults_text faults placed ++ codes "</text>\n")))

-- the scale: when the first packet begins and when the last one ends, by a clock at an offset, and the time from the first on
abbrev pub scale_text : ℤ → Frame → List ℕ
scale_text offset f =
    codes "<text x=\"160\" y=\"14\">" ++ (civil_text offset f.least ++ (codes "</text><text text-anchor=\"end\" x=\"960\" y=\"14\">"
    ++ (civil_text offset (last_moment f) ++ (codes "</text>\n" ++ (mark_text f.span 0 ++ (mark_text f.span 1 ++ (mark_text f.span 2
    ++ (mark_text f.span 3 ++ mark_text f.span 4))))))))

-- a part of the picture, whose text doesn't leave it
abbrev pub part_text : ℕ → ℕ → ℕ → List ℕ
part_text x width height =
    codes "<svg x=\"" ++ (decimal x ++ (codes "\" y=\"52\" width=\"" ++ (decimal width ++ (codes "\" height=\"" ++ (decimal height ++ codes "\">\n")))))

-- where the legend begins, below so many rows
abbrev pub legend_height : ℕ → ℕ
legend_height rows = capped_count (rows_height rows + 68)

abbrev pub legend_front : ℕ → List ℕ
legend_front y = codes "<g transform=\"translate(160 " ++ (decimal y ++ codes ")\">")

abbrev pub legend_part : ℕ → List ℕ
legend_part rows = legend_front (legend_height rows) ++ legend_text

-- the three parts that have a row for each line
abbrev pub labels_part : List Line → List ℕ
labels_part lines = part_text 0 156 (rows_height (length lines)) ++ (labels_text 11 lines ++ codes "</svg>")

abbrev pub plot_part : Frame → List Line → List ℕ
plot_part f lines = part_text 160 800 (rows_height (length lines)) ++ (rows_text f 2 lines ++ codes "</svg>")

abbrev pub totals_part : List Line → List ℕ
totals_part lines = part_text 966 314 (rows_height (length lines)) ++ (all_totals_text 11 lines ++ codes "</svg>")

-- lines in a frame, with so many faults
abbrev pub drawing : Frame → ℕ → List Line → List ℕ
drawing f faults lines =
    head_text (length lines) faults (faults_in lines)
    ++ (scale_text (first_offset lines) f
    ++ (first_numbers f lines ++ (labels_part lines ++ (plot_part f lines ++ (totals_part lines ++ legend_part (length lines))))))
