-- What a line adds to the histories before it.
use Rattle.std.proofs.Common.{◌≡◌, ℕ, List, [], ◌∷◌, length, get_or, map, Some, None, Option, refl, ap, sym, ◌∙◌, suc, zero, true, false, Vec, Global, arith}
use Rattle.std.proofs.Math.ListN.{set, get_or-map}
use Rattle.std.proofs.lemmas.List.{length-map, map-set}
use Rattle.std.specs.Option.{option_map}
use Rattle.scripts.specs.declared.history.History.{History}
use Rattle.scripts.specs.declared.step.Step.{Step}
use Rattle.std.specs.Option.{is_some}
use Rattle.scripts.specs.Steps.{call_of}
use Rattle.scripts.specs.Histories.{ScriptHistory, history_of, on_last, first_other, with_other}

-- the last of some histories is the one at the last place
pub last_at : (change : ScriptHistory → Option ScriptHistory) (hs : List ScriptHistory) (n : ℕ) (d : ScriptHistory) → length hs ≡ suc n → on_last change hs ≡ option_map (λ x. set hs n x) (change (get_or hs n d))
last_at change [] n d h = cc
last_at change (h ∷ []) zero d e = refl
last_at change (h ∷ []) (suc n) d e = absurd (omega arith)
last_at change (h ∷ g ∷ hs) zero d e = absurd (omega arith)
last_at change (h ∷ g ∷ hs) (suc n) d e =
    let more = last_at change (g ∷ hs) n d (omega arith) in
    elim (change (get_or (g ∷ hs) n d)) as (λ (o : Option ScriptHistory). on_last change (g ∷ hs) ≡ option_map (λ x. set (g ∷ hs) n x) o → option_map (λ changed. h ∷ changed) (on_last change (g ∷ hs)) ≡ option_map (λ x. set (h ∷ g ∷ hs) (suc n) x) o) [
      | Some x ↦ λ k. ap (option_map (λ changed. h ∷ changed)) k
      | None ↦ λ k. ap (option_map (λ changed. h ∷ changed)) k
    ]
    more

-- a change of the last history, seen in the values that hold them
pub changed_last : (change : ScriptHistory → Option ScriptHistory) (hs : List History) (n : ℕ) (h new : History) → length hs ≡ suc n → get_or hs n h ≡ h → change (history_of h) ≡ Some (history_of new) → on_last change (map history_of hs) ≡ Some (map history_of (set hs n new))
changed_last change hs n h new l e k =
    last_at change (map history_of hs) n (history_of h) (simp length-map l)
    ∙ ap (λ (t : ScriptHistory). option_map (λ x. set (map history_of hs) n x) (change t)) (get_or-map history_of hs n h ∙ ap history_of e)
    ∙ ap (option_map (λ x. set (map history_of hs) n x)) k
    ∙ ap (λ (ts : List ScriptHistory). Some ts) (sym (map-set history_of hs n new))

pub no_change : (change : ScriptHistory → Option ScriptHistory) (hs : List History) (n : ℕ) (h : History) → length hs ≡ suc n → get_or hs n h ≡ h → change (history_of h) ≡ None → on_last change (map history_of hs) ≡ None
no_change change hs n h l e k =
    last_at change (map history_of hs) n (history_of h) (simp length-map l)
    ∙ ap (λ (t : ScriptHistory). option_map (λ x. set (map history_of hs) n x) (change t)) (get_or-map history_of hs n h ∙ ap history_of e)
    ∙ ap (option_map (λ x. set (map history_of hs) n x)) k

-- the calls of the bag's controller begin where it has none of its own, and nowhere else
first_of : (o : Option (Vec Step Global)) → is_some o ≡ false → first_other (option_map (λ v. map call_of v.items) o) ≡ Some []
first_of (Some v) h = cc
first_of None h = refl

not_again : (o : Option (Vec Step Global)) → is_some o ≡ true → first_other (option_map (λ v. map call_of v.items) o) ≡ None
not_again (Some v) h = refl
not_again None h = cc

pub begins_other : (h : History) (v : Vec Step Global) → is_some h.other ≡ false → v.items ≡ [] → with_other (history_of h) ≡ Some (history_of (record { capacity = h.capacity; slots = h.slots; calls = h.calls; other = Some v }))
begins_other h v none empty =
    let calls = map call_of h.calls.items in
    let whole : List Step → ScriptHistory = λ (xs : List Step). record { capacity = h.capacity; slots = h.slots; calls = calls; other = Some (map call_of xs) } in
    ap (option_map (λ other. record { capacity = h.capacity; slots = h.slots; calls = calls; other = Some other })) (first_of h.other none) ∙ ap (λ (xs : List Step). Some (whole xs)) (sym empty)

pub other_stands : (h : History) → is_some h.other ≡ true → with_other (history_of h) ≡ None
other_stands h some = ap (option_map (λ other. record { capacity = h.capacity; slots = h.slots; calls = map call_of h.calls.items; other = Some other })) (not_again h.other some)
