-- The walk over years and months arrives at the civil date with that day number.
use Rattle.std.proofs.Common.{◌≡◌, ℕ, zero, suc, ◌+◌, ◌-◌, ◌<◌, ◌≤◌, ℤ, pos, negsuc, ◌≤ℤ◌, ◌<ℤ◌, unsigned_abs, true, false, refl, sym, ap, ◌∙◌, arith}
use Rattle.std.specs.Prelude.{nat_lt}
use Rattle.std.proofs.lemmas.Bool.Decides.{nat_tests}
use Rattle.std.proofs.lemmas.Int.{by_lt_z}
use Rattle.jiff_core.specs.declared.civil.date.Date.{Date}
use Rattle.jiff_core.specs.Date.{epoch_day, IsYmd}
use Rattle.jiff_core.specs.Calendar.{IsCivilDate, day_count, days_of_months, days_from_civil}
use Rattle.jiff_core.proofs.SignedLemmas.{signed_arith}
use Rattle.jiff_core.proofs.CalendarLemmas.{day_count-epoch, days_from_civil-day_count, day_count-next_year, day_count-lt_year, day_count-day_of_year, day_of_year_bound, days_of_months-zero, days_of_months_more}
use Rattle.jiff_core.proofs.DateLemmas.{civil}
use Rattle.jiff_core.proofs.StandardFacts.{known_days}
use Rattle.mq_heads.specs.Stamps.{days_in_year, days_in_month, reached, year_of, month_of, date_digits, date_in}

-- so many days stand before each place
abbrev Steps : (ℕ → ℕ) → (ℕ → ℕ) → ℕ → Type 0
Steps days_in before start = (n : ℕ) → start ≤ n → before (suc n) ≡ before n + days_in n

rises : (days_in before : ℕ → ℕ) (start : ℕ) → Steps days_in before start → (k place : ℕ) → start ≤ place → before place ≤ before (place + k)
rises days_in before start steps zero place le = let e : place + 0 ≡ place = omega arith in rw e (omega arith)
rises days_in before start steps (suc k) place le =
    let e : place + suc k ≡ suc (place + k) = omega arith in
    let more = rises days_in before start steps k place le in
    let step = steps (place + k) (omega arith) in
    rw e (omega arith)

here : (days_in : ℕ → ℕ) (most place days : ℕ) → days < days_in place → reached days_in most place days ≡ record { place = place; passed = days }
unfolding reached
here days_in zero place days lt = refl
here days_in (suc most) place days lt = let small : nat_lt days (days_in place) ≡ true = grind (arith, nat_tests) in rw small refl

further : (days_in : ℕ → ℕ) (most place days : ℕ) → days_in place ≤ days → reached days_in (suc most) place days ≡ reached days_in most (suc place) (days - days_in place)
unfolding reached
further days_in most place days le = let big : nat_lt days (days_in place) ≡ false = grind (arith, nat_tests) in rw big refl

-- the walk ends at the place in which the day stands
arrives : (days_in before : ℕ → ℕ) (start : ℕ) → Steps days_in before start → (k most place days passed : ℕ) → start ≤ place → k ≤ most → days + before place ≡ before (place + k) + passed → passed < days_in (place + k) → reached days_in most place days ≡ record { place = place + k; passed = passed }
arrives days_in before start steps zero most place days passed le few e lt =
    let same : place + 0 ≡ place = omega arith in
    let e' : days + before place ≡ before place + passed = rw same at e in
    let lt' : passed < days_in place = rw same at lt in
    let all : days ≡ passed = omega arith in
    rw (same, all) (here days_in most place passed lt')
arrives days_in before start steps (suc k) zero place days passed le few e lt = absurd (omega arith)
arrives days_in before start steps (suc k) (suc most) place days passed le few e lt =
    let same : place + suc k ≡ suc place + k = omega arith in
    let step = steps place le in
    let more = rises days_in before start steps k (suc place) (omega arith) in
    let e' : days + before place ≡ before (suc place + k) + passed = rw same at e in
    let lt' : passed < days_in (suc place + k) = rw same at lt in
    let rest : days - days_in place + before (suc place) ≡ before (suc place + k) + passed = omega arith in
    rw same (further days_in most place days (omega arith) ∙ arrives days_in before start steps k most (suc place) (days - days_in place) passed (omega arith) (omega arith) rest lt')

year_steps : Steps days_in_year (λ n. day_count (pos n) 1 1) 0
year_steps n le = day_count-next_year (pos n) (pos (suc n)) (omega (arith, signed_arith)) (omega (arith, signed_arith))

month_steps : (y : ℕ) → Steps (days_in_month y) (λ m. days_of_months (pos y) (m - 1)) 1
month_steps y m le = let next : suc m - 1 ≡ m = omega arith in ap (days_of_months (pos y)) next ∙ days_of_months_more (pos y) m le

-- 1970-01-01 is day 0
pub first_day : (d : Date) → IsYmd (pos 1970) (pos 1) (pos 1) d → epoch_day d ≡ pos 0
first_day d h =
    let m : d.month ≡ 1 = cc in
    let day : d.day ≡ 1 = cc in
    rw (h.0, m, day) known_days.0

-- a day from 1970 on stands in a year from 1970 on
pub year_after : (d : Date) (days : ℕ) → epoch_day d ≡ pos days → pos 1970 ≤ℤ d.year
year_after d days h =
    by_lt_z d.year (pos 1970) (λ lt. absurd (earlier lt)) (λ le. le)
  where
    earlier : d.year <ℤ pos 1970 → ⊥
    earlier lt =
        let before = day_count-lt_year d.year d.month d.day (pos 1970) 1 1 (civil d) (omega arith) lt in
        let count = days_from_civil-day_count d.year d.month d.day in
        omega (arith, signed_arith, day_count-epoch)

-- the year, and the days of it that have passed
year_found : (d : Date) (y days : ℕ) → d.year ≡ pos y → 1970 ≤ y → y ≤ 9999 → epoch_day d ≡ pos days → year_of days ≡ record { place = y; passed = days_of_months (pos y) (d.month - 1) + d.day - 1 }
year_found d y days e low high h =
    let valid : IsCivilDate (pos y) d.month d.day = rw e at (civil d) in
    let day : days_from_civil (pos y) d.month d.day ≡ pos days = rw e at h in
    let count = days_from_civil-day_count (pos y) d.month d.day in
    let in_year = day_count-day_of_year (pos y) d.month d.day (omega arith) in
    let bound = day_of_year_bound (pos y) d.month d.day valid in
    let same : 1970 + (y - 1970) ≡ y = omega arith in
    let passed : ℕ = days_of_months (pos y) (d.month - 1) + d.day - 1 in
    let sum : days + day_count (pos 1970) 1 1 ≡ day_count (pos (1970 + (y - 1970))) 1 1 + passed = rw same (omega (arith, signed_arith, day_count-epoch)) in
    let within : passed < days_in_year (1970 + (y - 1970)) = rw same (omega arith) in
    rw same at (arrives days_in_year (λ n. day_count (pos n) 1 1) 0 year_steps (y - 1970) 8029 1970 days passed (omega arith) (omega arith) sum within)

-- the month, and the days of it that have passed
month_found : (y m d : ℕ) → 1 ≤ m → m ≤ 12 → 1 ≤ d → d ≤ days_in_month y m → month_of (record { place = y; passed = days_of_months (pos y) (m - 1) + d - 1 }) ≡ record { place = m; passed = d - 1 }
month_found y m d low high first last =
    let same : 1 + (m - 1) ≡ m = omega arith in
    let none : days_of_months (pos y) (1 - 1) ≡ 0 = days_of_months-zero (pos y) in
    let passed : ℕ = days_of_months (pos y) (m - 1) + d - 1 in
    let sum : passed + days_of_months (pos y) (1 - 1) ≡ days_of_months (pos y) (1 + (m - 1) - 1) + (d - 1) = rw same (omega arith) in
    let within : d - 1 < days_in_month y (1 + (m - 1)) = rw same (omega arith) in
    rw same at (arrives (days_in_month y) (λ n. days_of_months (pos y) (n - 1)) 1 (month_steps y) (m - 1) 11 1 passed (d - 1) (omega arith) (omega arith) sum within)

-- the walk finds the date with that day number
pub date_found : (d : Date) (y days : ℕ) → d.year ≡ pos y → 1970 ≤ y → y ≤ 9999 → epoch_day d ≡ pos days → date_in (year_of days) ≡ date_digits y (record { place = d.month; passed = d.day - 1 })
date_found d y days e low high h =
    let valid : IsCivilDate (pos y) d.month d.day = rw e at (civil d) in
    let year = year_found d y days e low high h in
    let month = month_found y d.month d.day (omega arith) (omega arith) (omega arith) (omega arith) in
    ap date_in year ∙ ap (date_digits y) month

natural : (z : ℤ) → pos 1970 ≤ℤ z → z ≤ℤ pos 9999 → (z ≡ pos (unsigned_abs z)) × (1970 ≤ unsigned_abs z) × (unsigned_abs z ≤ 9999)
natural (pos n) low high = (refl, omega (arith, signed_arith), omega (arith, signed_arith))
natural (negsuc n) low high = absurd (omega (arith, signed_arith))

-- the date's digits are those of the day
pub date_digits_found : (d : Date) (days : ℕ) → epoch_day d ≡ pos days → date_digits (unsigned_abs d.year) (record { place = d.month; passed = d.day - 1 }) ≡ date_in (year_of days)
date_digits_found d days h =
    let y = natural d.year (year_after d days h) d.year_in.1 in
    sym (date_found d (unsigned_abs d.year) days y.0 y.1 y.2 h)
