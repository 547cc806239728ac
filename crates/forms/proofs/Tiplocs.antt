-- A TIPLOC place by place: the names that lead it, and the blanks after them.
use Rattle.std.proofs.Common.{◌≡◌, ℕ, ◌+◌, ◌-◌, ◌<◌, ◌≤◌, true, eqb, List, [], ◌∷◌, length, get_or, drop, sym, refl, ap, ◌∙◌, arith}
use Rattle.std.specs.List.{list_all, prefix_len}
use Rattle.std.proofs.lemmas.Bool.{true≢false, and_parts, eqb-true}
use Rattle.std.proofs.lemmas.List.{get_or-drop, length-drop}
use Rattle.std.proofs.lemmas.List.Elements.{All-get_or, All-from_get_or}
use Rattle.std.proofs.lemmas.List.Sums.{prefix_len-le-length, prefix_len_passes, prefix_len_is, AllPass-from_list_all, list_all-from_AllPass}
use Rattle.forms.specs.Bytes.{is_name, is_blank}
use Rattle.forms.specs.Forms.{is_tiploc}
use Rattle.forms.specs.Laws.{HasNamesThenBlanks, TiplocByPlaces}

-- bytes that are blank from a place on
blank_after : (cs : List ℕ) (n k : ℕ) → list_all is_blank (drop n cs) ≡ true → n ≤ k → k < length cs → get_or cs k 0 ≡ 32
blank_after cs n k h m l =
    let there : n + (k - n) ≡ k = omega arith in
    let at : is_blank (get_or (drop n cs) (k - n) 0) ≡ true = All-get_or (λ c. is_blank c ≡ true) (drop n cs) (k - n) 0 (omega (arith, length-drop n cs)) (AllPass-from_list_all is_blank (drop n cs) h) in
    ap (λ j. get_or cs j 0) (sym there) ∙ (sym (get_or-drop n cs (k - n) 0) ∙ eqb-true _ 32 at)

blanks_after : (cs : List ℕ) (n : ℕ) → ((k : ℕ) → n ≤ k → k < length cs → get_or cs k 0 ≡ 32) → list_all is_blank (drop n cs) ≡ true
blanks_after cs n h =
    list_all-from_AllPass is_blank (drop n cs)
    (All-from_get_or (λ c. is_blank c ≡ true) (drop n cs) 0 (λ i l. ap is_blank (get_or-drop n cs i 0 ∙ h (n + i) (omega arith) (omega (arith, length-drop n cs)))))

pub by_places : TiplocByPlaces
by_places = record { has = has; suffices = suffices }
  where
    some : (cs : List ℕ) → is_name (get_or cs 0 0) ≡ true → 1 ≤ prefix_len is_name cs
    some [] h = absurd (true≢false (sym h))
    some (c ∷ cs) h = rw h (omega arith)

    has : (cs : List ℕ) → is_tiploc cs ≡ true → (n : ℕ) × HasNamesThenBlanks cs n
    has cs h =
        let a = and_parts (eqb (length cs) 7) _ h in
        let b = and_parts (is_name (get_or cs 0 0)) _ a.1 in
        let seven = eqb-true (length cs) 7 a.0 in
        let lead = prefix_len is_name cs in (
          lead,
          record {
            seven = seven;
            some = some cs b.0;
            within = omega (arith, prefix_len-le-length is_name cs);
            names = λ k l. prefix_len_passes is_name cs k 0 l;
            blanks = λ k m l. blank_after cs lead k b.1 m (omega arith);
          },
        )

    suffices : (cs : List ℕ) (n : ℕ) → HasNamesThenBlanks cs n → is_tiploc cs ≡ true
    suffices cs n d =
        let seven = d.seven in
        let long : eqb (length cs) 7 ≡ true = ap (λ (m : ℕ). eqb m 7) seven in
        let lead : prefix_len is_name cs ≡ n = prefix_len_is is_name cs n 0 (let w = d.within in omega arith) d.names (λ l. ap is_name (d.blanks n (omega arith) (omega arith))) in
        let blanks : list_all is_blank (drop n cs) ≡ true = blanks_after cs n (λ k m l. d.blanks k m (omega arith)) in
        rw (long, d.names 0 d.some, lead, blanks) refl
