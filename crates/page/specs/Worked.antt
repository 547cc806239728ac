-- Worked cases of pages.
use Rattle.std.specs.Prelude.{◌≡◌, [], ◌∷◌, ◌++◌, Some, None, codes, replicate}
use Rattle.running.specs.Worked.{Worked as TrainCases}
use Rattle.board.specs.declared.line.Line.{Line}
use Rattle.page.specs.Headings.{heading_of}
use Rattle.page.specs.Rows.{row_of, line_fields}
use Rattle.page.specs.Pages.{first_ten, page_for}

-- the line of 09:05 to HALTA, platform 4, operator ZZ, identity 1A23
abbrev pub example_line : Line
example_line =
    record {
      key = record { minute = 545; uid = 212345; place = 0 };
      platform = codes "4  ";
      destination = codes "HALTA  ";
      train = codes "1A23";
      operator = codes "ZZ";
    }

-- the table of worked cases: those of trains, with those of fields and rows in them, and those of pages
pub record Worked : Type 0 where
  pub trains : TrainCases
  pub row : row_of (line_fields example_line) ≡ codes "0905 HALTA   4   ZZ 1A23"
  pub name : heading_of (codes "  Halta Road ") (codes "HALTA  ") ≡ codes "Halta Road"
  pub blank_name : heading_of (codes "   ") (codes "HALTA  ") ≡ codes "HALTA"
  pub no_name : heading_of (codes "") (codes "HALTA  ") ≡ codes "HALTA"
  pub no_station : heading_of (codes " ") (codes "       ") ≡ codes ""
  pub at_its_minute : first_ten 545 (example_line ∷ []) ≡ example_line ∷ []
  pub past_its_minute : first_ten 546 (example_line ∷ []) ≡ []
  pub ten : first_ten 0 (replicate 12 example_line) ≡ replicate 10 example_line
  pub page : page_for (Some (record { station = codes "HALTA  "; day = 23439 })) (example_line ∷ []) (codes " ") 545
      ≡ codes "HALTA                   0905 HALTA   4   ZZ 1A23" ++ replicate 216 32
  pub cut : page_for None [] (codes "Twenty-five characters, x") 0 ≡ codes "Twenty-five characters, " ++ replicate 240 32
