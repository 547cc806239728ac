-- What slots hold before anything is put into them.
use Rattle.std.specs.Prelude.{codes}
use Rattle.board.specs.declared.line.Line.{Line}

-- a line of minute 0 that names no train and has blanks for every text
abbrev pub blank_line : Line
blank_line =
    record {
      key = record { minute = 0; uid = 0; place = 0 };
      platform = codes "   ";
      destination = codes "       ";
      train = codes "    ";
      operator = codes "  ";
    }
