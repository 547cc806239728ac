-- What a BS row that was read holds, field by field.
use Rattle.std.proofs.Common.{◌≡◌, ℕ, Bool, true, cond, List, Some, None, Ok, Err, Option, sym, refl, ◌∙◌, subst, ⊎_elim}
use Rattle.std.proofs.lemmas.Bool.{cases_Bool, cond-true, cond-false}
use Rattle.forms.specs.declared.end.End.{End}
use Rattle.forms.specs.declared.letters.Stp.{Stp}
use Rattle.forms.specs.declared.letters.TransactionType.{TransactionType}
use Rattle.forms.specs.declared.letters.TransactionType.TheVariants.{New as AsNew, Revise as AsRevised, Delete as AsDeleted}
use Rattle.cif.specs.declared.content.BasicSchedule.{BasicSchedule}
use Rattle.cif.specs.declared.content.Action.{Action}
use Rattle.cif.specs.declared.content.Action.TheVariants.{New, Revise, Delete}
use Rattle.cif.specs.declared.refusal.Refusal.TheVariants.{EndsBeforeStart}
use Rattle.cif.specs.Refusals.{fault_at}
use Rattle.cif.specs.Fields.{transaction_of, uid_of, from_of, days_of, train_of, stp_of, runs_on, schedule_by}
use Rattle.cif.proofs.Results.{ok_is, err_ok}
use Rattle.cif.proofs.Tables.{nested}

-- what is done with the schedule has the end that was read, unless it is a deletion
abbrev pub HasEnd : Option End → Action → Type 0
HasEnd to (New r) = to ≡ Some r.to
HasEnd to (Revise r) = to ≡ Some r.to
HasEnd to Delete = Unit {0}

-- a BS holds what its fields are, and lasts to its first day
pub record Held (uid : Option ℕ) (from : Option (ℕ × ℕ)) (to : Option End) (b : BasicSchedule) : Type 0 where
  pub number : uid ≡ Some b.uid
  pub first : from ≡ Some b.from
  pub end : HasEnd to b.action
  pub on : runs_on b.from b.action ≡ true

-- it holds them where it lasts so long, and else it was not read
on_then_held : (u : ℕ) (f : ℕ × ℕ) (to : Option End) (s : Stp) (c : Action) (b : BasicSchedule) → HasEnd to c
    → cond (runs_on f c) (Ok (record { uid = u; from = f; stp = s; action = c })) (Err (fault_at EndsBeforeStart 16)) ≡ Ok b → Held (Some u) (Some f) to b
on_then_held u f to s c b end h =
    ⊎_elim
    (λ on. subst (λ (x : BasicSchedule). Held (Some u) (Some f) to x) (ok_is _ _ b refl (sym (cond-true _ _ _ on) ∙ h)) (record { number = refl; first = refl; end = end; on = on }))
    (λ off. err_ok _ b _ refl (sym (cond-false _ _ _ off) ∙ h))
    (cases_Bool (runs_on f c))

nested_held : (tr : Option TransactionType) (ui : Option ℕ) (fr : Option (ℕ × ℕ)) (to : Option End) (da : Option (List Bool)) (tn : Option (List ℕ)) (st : Option Stp) (b : BasicSchedule)
    → nested ui fr to da tn st tr ≡ Ok b → Held ui fr to b
nested_held None ui fr to da tn st b h = err_ok _ b _ refl h
nested_held (Some t) None fr to da tn st b h = err_ok _ b _ refl h
nested_held (Some t) (Some u) None to da tn st b h = err_ok _ b _ refl h
nested_held (Some AsDeleted) (Some u) (Some f) to da tn None b h = err_ok _ b _ refl h
nested_held (Some AsDeleted) (Some u) (Some f) to da tn (Some s) b h = on_then_held u f to s Delete b tt h
nested_held (Some AsNew) (Some u) (Some f) None da tn st b h = err_ok _ b _ refl h
nested_held (Some AsNew) (Some u) (Some f) (Some t) None tn st b h = err_ok _ b _ refl h
nested_held (Some AsNew) (Some u) (Some f) (Some t) (Some d) None st b h = err_ok _ b _ refl h
nested_held (Some AsNew) (Some u) (Some f) (Some t) (Some d) (Some i) None b h = err_ok _ b _ refl h
nested_held (Some AsNew) (Some u) (Some f) (Some t) (Some d) (Some i) (Some s) b h =
    on_then_held u f (Some t) s (New (record { to = t; days = d; train = i })) b refl h
nested_held (Some AsRevised) (Some u) (Some f) None da tn st b h = err_ok _ b _ refl h
nested_held (Some AsRevised) (Some u) (Some f) (Some t) None tn st b h = err_ok _ b _ refl h
nested_held (Some AsRevised) (Some u) (Some f) (Some t) (Some d) None st b h = err_ok _ b _ refl h
nested_held (Some AsRevised) (Some u) (Some f) (Some t) (Some d) (Some i) None b h = err_ok _ b _ refl h
nested_held (Some AsRevised) (Some u) (Some f) (Some t) (Some d) (Some i) (Some s) b h =
    on_then_held u f (Some t) s (Revise (record { to = t; days = d; train = i })) b refl h

pub held : (to : Option End) (row : List ℕ) (b : BasicSchedule) → schedule_by to row ≡ Ok b → Held (uid_of row) (from_of row) to b
held to row b h = nested_held (transaction_of row) (uid_of row) (from_of row) to (days_of row) (train_of row) (stp_of row) b h
