-- Why the numbers of the days are the calendar's.
use Rattle.std.proofs.Common.{◌≡◌, ℕ, ◌+◌, ◌*◌, ◌/◌, ◌%◌, ◌<◌, ◌≤◌, Bool, true, false, eqb, ltb, leb, sym, refl, ap, ◌∙◌, subst, arith}
use Rattle.std.proofs.lemmas.Bool.{and_parts, leb-true, ltb-true, ltb-false, cond_both}
use Rattle.std.proofs.lemmas.Bool.Decides.{nat_tests}
use Rattle.calendar.specs.Calendar.{is_leap_year, days_in, exists, month_start, day_number, weekday}
use Rattle.calendar.specs.Laws.{Date, IsDate, number_of, tomorrow, NumbersTheDays, TellsDatesApart}

-- in these years the calendar's rule is the short one
same_leap : (k : ℕ) → k < 100 → is_leap_year (1960 + k) ≡ eqb (k % 4) 0
same_leap k h = grind (arith, nat_tests)

-- the parts of a date that exists, by the short rule
pub record Parts (k m d : ℕ) : Type 0 where
  pub years : k < 100
  pub first_month : 1 ≤ m
  pub last_month : m ≤ 12
  pub first_day : 1 ≤ d
  pub last_day : d ≤ days_in (eqb (k % 4) 0) m

parts : (k m d : ℕ) → exists k m d ≡ true → Parts k m d
parts k m d there =
    let a = and_parts (ltb k 100) _ there in
    let b = and_parts (leb 1 m) _ a.1 in
    let c = and_parts (leb m 12) _ b.1 in
    let e = and_parts (leb 1 d) _ c.1 in
    let short = ltb-true k 100 a.0 in
    record {
      years = short;
      first_month = leb-true 1 m b.0;
      last_month = leb-true m 12 c.0;
      first_day = leb-true 1 d e.0;
      last_day = rw (ap (λ (leap : Bool). days_in leap m) (same_leap k short)) at (leb-true d (days_in (is_leap_year (1960 + k)) m) e.1);
    }

-- a month starts where the one before it ends
month_more : (k m : ℕ) → 1 ≤ m → m < 12 → month_start k (m + 1) ≡ month_start k m + days_in (eqb (k % 4) 0) m
month_more k m l h = grind (arith, nat_tests)

-- later months start later
month_later : (k m n : ℕ) → 1 ≤ m → m ≤ n → n ≤ 12 → month_start k m ≤ month_start k n
month_later k m n l h t = grind (arith, nat_tests)

-- New Year's Day follows the last of December
year_more : (k : ℕ) → day_number (k + 1) 1 1 ≡ day_number k 12 31 + 1
year_more k = grind (arith, nat_tests)

module _ (x : Date) (p : Parts x.year x.month x.day) where
  -- the next day of the month
  in_month : day_number x.year x.month (x.day + 1) ≡ number_of x + 1
  in_month = let h = p.first_day in omega arith

  -- the first of the next month, after the last day of one
  in_year : x.day ≡ days_in (eqb (x.year % 4) 0) x.month → x.month < 12 → day_number x.year (x.month + 1) 1 ≡ number_of x + 1
  in_year e l = let h = p.first_day in omega (arith, month_more x.year x.month p.first_month l)

  -- New Year's Day
  in_next : x.day ≡ days_in (eqb (x.year % 4) 0) x.month → x.month ≡ 12 → day_number (x.year + 1) 1 1 ≡ number_of x + 1
  in_next e l = grind (arith, nat_tests, year_more x.year)

  -- the day is the month's last
  all_days : ltb x.day (days_in (is_leap_year (1960 + x.year)) x.month) ≡ false → x.day ≡ days_in (eqb (x.year % 4) 0) x.month
  all_days full =
      let e = ap (λ (leap : Bool). days_in leap x.month) (same_leap x.year p.years) in
      let h = p.last_day in
      omega (arith, e, ltb-false x.day (days_in (is_leap_year (1960 + x.year)) x.month) full)

next_number : (x : Date) → IsDate x → number_of (tomorrow x) ≡ number_of x + 1
next_number x there =
    let p = parts x.year x.month x.day there in
    cond_both (ltb x.day (days_in (is_leap_year (1960 + x.year)) x.month)) _ _ (λ (y : Date). number_of y ≡ number_of x + 1) (λ _. in_month x p)
    (λ full. cond_both (ltb x.month 12) _ _ (λ (y : Date). number_of y ≡ number_of x + 1)
    (λ l. in_year x p (all_days x p full) (ltb-true x.month 12 l))
    (λ l. in_next x p (all_days x p full) (let g = p.last_month in let h = ltb-false x.month 12 l in omega arith)))

next_weekday : (n m : ℕ) → m ≡ n + 1 → weekday m ≡ (weekday n + 1) % 7
next_weekday n m e = omega arith

pub numbers_the_days : NumbersTheDays
numbers_the_days =
    record {
      begins = refl;
      follows = next_number;
      turns = λ x there. next_weekday (number_of x) (number_of (tomorrow x)) (next_number x there);
    }

-- the days before a year
abbrev year_start : ℕ → ℕ
year_start k = 365 * k + (k + 3) / 4

-- a date's number lies within its month, and its month within its year
in_its_month : (k m d : ℕ) → Parts k m d → (year_start k + month_start k m ≤ day_number k m d) × (day_number k m d < year_start k + month_start k m + days_in (eqb (k % 4) 0) m)
in_its_month k m d p = let a = p.first_day in let b = p.last_day in (omega arith, omega arith)

month_within : (k m : ℕ) → 1 ≤ m → m ≤ 12 → year_start k + month_start k m + days_in (eqb (k % 4) 0) m ≤ year_start (k + 1)
month_within k m l h = grind (arith, nat_tests)

year_later : (k j : ℕ) → k < j → year_start (k + 1) ≤ year_start j
year_later k j h = omega arith

-- an earlier year has smaller numbers
earlier_year : (k m d j n e : ℕ) → Parts k m d → Parts j n e → k < j → day_number k m d < day_number j n e
earlier_year k m d j n e p q h =
    omega (arith, in_its_month k m d p, in_its_month j n e q, month_within k m p.first_month p.last_month, year_later k j h)

-- and so has an earlier month of one year
earlier_month : (k m d n e : ℕ) → Parts k m d → Parts k n e → m < n → day_number k m d < day_number k n e
earlier_month k m d n e p q h =
    omega (
      arith,
      in_its_month k m d p,
      in_its_month k n e q,
      month_more k m p.first_month (let t = q.last_month in omega arith),
      month_later k (m + 1) n (omega arith) (omega arith) q.last_month,
    )

-- neither comes first, so they are the same
neither : (a b : ℕ) → (a < b → ⊥) → (b < a → ⊥) → a ≡ b
neither a b f g = omega arith

same_year : (k m d j n e : ℕ) → Parts k m d → Parts j n e → day_number k m d ≡ day_number j n e → k ≡ j
same_year k m d j n e p q same =
    neither k j (λ h. omega (arith, earlier_year k m d j n e p q h)) (λ h. omega (arith, earlier_year j n e k m d q p h))

same_month : (k m d n e : ℕ) → Parts k m d → Parts k n e → day_number k m d ≡ day_number k n e → m ≡ n
same_month k m d n e p q same =
    neither m n (λ h. omega (arith, earlier_month k m d n e p q h)) (λ h. omega (arith, earlier_month k n e m d q p h))

same_day : (k m d e : ℕ) → Parts k m d → Parts k m e → day_number k m d ≡ day_number k m e → d ≡ e
same_day k m d e p q same = let a = p.first_day in let b = q.first_day in omega arith

pub tells_dates_apart : TellsDatesApart
tells_dates_apart x y there here same =
    let p = parts x.year x.month x.day there in
    let q = parts y.year y.month y.day here in
    let year : x.year ≡ y.year = same_year x.year x.month x.day y.year y.month y.day p q same in
    let q2 : Parts x.year y.month y.day = subst (λ (k : ℕ). Parts k y.month y.day) (sym year) q in
    let same2 : day_number x.year x.month x.day ≡ day_number x.year y.month y.day = same ∙ ap (λ (k : ℕ). day_number k y.month y.day) (sym year) in
    let month : x.month ≡ y.month = same_month x.year x.month x.day y.month y.day p q2 same2 in
    let q3 : Parts x.year x.month y.day = subst (λ (m : ℕ). Parts x.year m y.day) (sym month) q2 in
    let same3 : day_number x.year x.month x.day ≡ day_number x.year x.month y.day = same2 ∙ ap (λ (m : ℕ). day_number x.year m y.day) (sym month) in
    let day : x.day ≡ y.day = same_day x.year x.month x.day y.day p q3 same3 in
    alike x.year x.month x.day y.year y.month y.day year month day
  where
    alike : (k m d j n e : ℕ) → k ≡ j → m ≡ n → d ≡ e → ◌≡◌ {A = Date} (record { year = k; month = m; day = d }) (record { year = j; month = n; day = e })
    alike k m d j n e a b c = cc
