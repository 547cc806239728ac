use Rattle.std.proofs.Common.{◌≡◌, ◌+◌, map}
use Rattle.std.specs.Iterator.Adapters.{enumerate_source, enumerate_count}
use Rattle.scripts.specs.Histories.{history_of, lines_of, histories_after_all, histories_in}
use Rattle.scripts.proofs.reading.histories_in.Given as goal

abbrev pub invariant-loop-place : goal.invariant-loop-place
invariant-loop-place l =
    histories_after_all (enumerate_count l.place-iterator + 1) (map history_of l.histories.items) (lines_of (enumerate_source l.place-iterator).rest.now) ≡ histories_in l.script
