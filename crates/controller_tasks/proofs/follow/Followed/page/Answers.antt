use Rattle.std.proofs.Common.{List, ℕ, ap, ◌∙◌}
use Rattle.board.specs.Boards.{shown_of, lines_of}
use Rattle.page.specs.Pages.{page_for}
use Rattle.controller_tasks.specs.Following.{board_of}
use Rattle.controller_tasks.proofs.follow.Followed.page.Goals as goal

pub returns-clause-page : goal.returns-clause-page
returns-clause-page g c =
    let b = board_of c.args.self.now in
    c.in_ok-page.ensures.page ∙ ap (λ (name : List ℕ). page_for (shown_of b) (lines_of b) name c.args.wanted.now.minute) c.as_bytes.ensures.value
