use Rattle.std.proofs.Common.{◌≡◌, sym, subst, rules}
use Rattle.board.specs.Boards.{shown_of, lines_of}
use Rattle.page.specs.Headings.{heading_of}
use Rattle.page.specs.Pages.{first_ten, tiploc_of, page_for}
use Rattle.page.specs.Laws.{LaidOut}
use Rattle.page.proofs.Blanks.{heading_from}
use Rattle.page.proofs.Shown.{first_ten_shown}
use Rattle.page.proofs.Laid.{laid_out}
use Rattle.page.proofs.page.write_page.Goals as goal

pub returns-in_err-check-clause-heading : goal.returns-in_err-check-clause-heading
returns-in_err-check-clause-heading c = heading_from c.args.name.now (tiploc_of (shown_of c.args.board.now))

pub returns-in_err-check-clause-shown : goal.returns-in_err-check-clause-shown
returns-in_err-check-clause-shown c = first_ten_shown c.args.minute (lines_of c.args.board.now) (search rules)

pub returns-clause-places : goal.returns-clause-places
returns-clause-places c =
    let page : c.write_rows.new.page ≡ page_for (shown_of c.args.board.now) (lines_of c.args.board.now) c.args.name.now c.args.minute = search rules in
    subst (LaidOut (heading_of c.args.name.now (tiploc_of (shown_of c.args.board.now))) (first_ten c.args.minute (lines_of c.args.board.now)))
    (sym page) (laid_out (heading_of c.args.name.now (tiploc_of (shown_of c.args.board.now))) (first_ten c.args.minute (lines_of c.args.board.now)))

pub returns-clause-heading : goal.returns-clause-heading
returns-clause-heading c = heading_from c.args.name.now (tiploc_of (shown_of c.args.board.now))

pub returns-clause-shown : goal.returns-clause-shown
returns-clause-shown c = first_ten_shown c.args.minute (lines_of c.args.board.now) (search rules)
