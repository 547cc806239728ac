-- Extracts that are followed by a board.
use Rattle.std.specs.Prelude.{◌≡◌, Bool}
use Rattle.timetable.specs.Timetables.{Meaning}
use Rattle.board.specs.declared.display.Board.{Board}
use Rattle.board.specs.Boards.{shown_of, lines_of}
use Rattle.board.specs.Lines.{LinesFor}
use Rattle.controller.specs.declared.controller.Controller.{Controller}
use Rattle.controller.specs.Shown.{store_of, progress_in}
use Rattle.extract.specs.Stages.{is_idle as is_idle_stage, is_complete as is_complete_stage}
use Rattle.controller_tasks.specs.declared.follow.Followed.{Followed}

-- whether no extract is open
abbrev pub is_idle : {S : Type 0} → Controller S → Bool
is_idle c = is_idle_stage (progress_in c).stage

-- whether the open extract is complete
abbrev pub is_complete : {S : Type 0} → Controller S → Bool
is_complete c = is_complete_stage (progress_in c).stage

-- its controller
abbrev pub controller_of : {S : Type 0} → Followed S → Controller S
controller_of f = f.controller

-- its board
abbrev pub board_of : {S : Type 0} → Followed S → Board
board_of f = f.board

-- the board has the lines that the store's map gives for its station and day, none without a
-- station
abbrev pub Follows : {S : Type 0} → (S → Meaning) → Followed S → Type 0
Follows meaning f =
    LinesFor (meaning (store_of (controller_of f))).map (shown_of (board_of f))
    (lines_of (board_of f))

-- the store and the board are the same
pub record SameStoreAndBoard {S : Type 0} (before after : Followed S) : Type 0 where
  pub store : store_of (controller_of after) ≡ store_of (controller_of before)
  pub board : board_of after ≡ board_of before
