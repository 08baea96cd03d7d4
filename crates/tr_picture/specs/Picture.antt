-- The picture of what is below a folder.
use Rattle.std.specs.Prelude.{ℕ, false, List, [], length}
use Rattle.tr_folders.specs.Tree.{Tree}
use Rattle.tr_picture.specs.Drawing.{drawing}
use Rattle.tr_picture.specs.Frame.{frame_of, rough}
use Rattle.tr_picture.specs.Sessions.{Line, extent_of, lines_of, marks_of}
use Rattle.tr_picture.specs.declared.frame.Frame.{Frame}
use Rattle.tr_survey.specs.Sessions.{survey_of}
use Rattle.tr_survey.specs.Told.{Told, told}
use Rattle.tr_survey.specs.declared.faults.Surveyed.{Surveyed}
use Rattle.tr_survey.specs.declared.faults.Surveyed.TheVariants.{Unlisted, NoSession, Faults}

-- the frame of rows, by what they are in one column
abbrev pub frame_by : List Line → Frame
frame_by lines = frame_of (extent_of lines) (marks_of lines) (length lines)

-- the rows below a folder, in their frame
abbrev pub drawn : Tree → List ℕ → ℕ → List ℕ
drawn t dir faults = drawing (frame_by (lines_of rough t dir)) faults (lines_of (frame_by (lines_of rough t dir)) t dir)

-- the picture, if there are sessions; what is said is what the survey says
abbrev pub pictured : Tree → List ℕ → Surveyed → Told Surveyed
pictured t dir Unlisted = told [] Unlisted
pictured t dir NoSession = told [] NoSession
pictured t dir (Faults n) = told (drawn t dir n) (Faults n)

abbrev pub picture_of : Tree → List ℕ → Told Surveyed
picture_of t dir = pictured t dir (survey_of false t dir).state
