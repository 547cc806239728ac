use Rattle.std.proofs.Common.{rules, ℕ, List, Bor, refl, sym, subst}
use Rattle.controller.specs.declared.answer.Answer.{Answer}
use Rattle.controller.specs.Ledger.{is_accepted, Writes}
use Rattle.controller.specs.Keeping.{Obeys}
use Rattle.controller.specs.Shown.{standing_in, count_of}
use Rattle.controller.specs.Calls.{Call, Page}
use Rattle.runs.specs.Calls.{stands, call_within, room_of, LeavesIn}
use Rattle.runs.specs.declared.memory.Memory.{Memory}
use Rattle.runs.proofs.Installations.{nothing_written, untouched, untouched_page}
use Rattle.runs.proofs.installation.Installation.call.Goals as goal

-- the call page, within a memory
abbrev page_asked : Bor (List ℕ) → ℕ → ℕ → Memory → Call
page_asked name minute bytes m = call_within (room_of m) (Page name.now minute bytes)

pub returns-in-Open-clause-memory : goal.returns-in-Open-clause-memory
returns-in-Open-clause-memory g c = nothing_written g.S.Timetable.meaning c.args.self.now c.args.memory.now c.args.call.now _ c.from.result c.in-Open.is (λ ℓ. refl)

pub returns-in-Row-clause-memory : goal.returns-in-Row-clause-memory
returns-in-Row-clause-memory g c = nothing_written g.S.Timetable.meaning c.args.self.now c.args.memory.now c.args.call.now _ c.from-in-Row.result c.in-Row.is (λ ℓ. refl)

pub returns-in-Confirm-clause-memory : goal.returns-in-Confirm-clause-memory
returns-in-Confirm-clause-memory g c = nothing_written g.S.Timetable.meaning c.args.self.now c.args.memory.now c.args.call.now _ c.from-in-Confirm.result c.in-Confirm.is (λ ℓ. refl)

pub returns-in-Abandon-clause-memory : goal.returns-in-Abandon-clause-memory
returns-in-Abandon-clause-memory g c = nothing_written g.S.Timetable.meaning c.args.self.now c.args.memory.now c.args.call.now _ c.from-in-Abandon.result c.in-Abandon.is (λ ℓ. refl)

pub returns-in-Turn-clause-memory : goal.returns-in-Turn-clause-memory
returns-in-Turn-clause-memory g c = nothing_written g.S.Timetable.meaning c.args.self.now c.args.memory.now c.args.call.now _ c.from-in-Turn.result c.in-Turn.is (λ ℓ. refl)

pub returns-in-Page-clause-does : goal.returns-in-Page-clause-does
returns-in-Page-clause-does g c =
    let self = c.args.self.now in
    let here = stands g.S.Timetable.meaning self in
    let e = c.in-Page.is in
    rw e (record {
      obeys = subst (λ (a : Answer). Obeys here here (page_asked c.in-Page.name c.in-Page.minute c.in-Page.length c.args.memory.now) a) (sym c.from-in-Page.ensures)
          (c.write_within.ensures.obeys (standing_in g.S.Timetable.meaning self.controller) (count_of self.controller));
      unchanged = untouched (is_accepted c.from-in-Page.result) self;
      asks = λ h. refl {a = self};
      store = search rules;
      store_stays = λ h. refl {a = self.controller.overlay.store};
      rest = record { rest = refl; slots = refl; lender = refl };
    })

pub returns-in-Page-clause-memory : goal.returns-in-Page-clause-memory
returns-in-Page-clause-memory g c =
    let self = c.args.self.now in
    let e = c.in-Page.is in
    rw e (record {
      leaves = λ ℓ k. record {
        bytes = subst (λ (a : Answer). LeavesIn (Writes ℓ (page_asked c.in-Page.name c.in-Page.minute c.in-Page.length c.args.memory.now)) (is_accepted a) c.args.memory.now.bytes.now c.write_within.new.memory) (sym c.from-in-Page.ensures)
            (c.write_within.ensures.leaves (standing_in g.S.Timetable.meaning self.controller) (count_of self.controller) ℓ k);
        lender = refl;
      };
      untouched = untouched_page c.write_within.result c.from-in-Page.result c.args.memory.now c.write_within.new.memory c.from-in-Page.ensures c.write_within.ensures.unchanged;
      behind = c.write_within.ensures.behind;
    })
