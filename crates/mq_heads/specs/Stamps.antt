-- The put date and the put time of a moment, which is counted in milliseconds from 1970-01-01 00:00, in GMT.
use Rattle.std.specs.Prelude.{ℕ, zero, suc, ◌+◌, ◌-◌, ◌/◌, ◌%◌, ◌==◌, nat_lt, Bool, not, ◌&&◌, ◌||◌, List, [], ◌∷◌, ◌++◌, if◌then◌else◌}

-- every fourth year, but of the centuries only every fourth
abbrev pub is_leap_year : ℕ → Bool
is_leap_year y = (y % 4 == 0) && (not (y % 100 == 0) || (y % 400 == 0))

abbrev pub days_in_year : ℕ → ℕ
days_in_year y = if is_leap_year y then 366 else 365

-- thirty days have September, April, June and November
abbrev pub days_in_month : ℕ → ℕ → ℕ
days_in_month y m = if m == 2 then (if is_leap_year y then 29 else 28) else (if (m == 4) || (m == 6) || (m == 9) || (m == 11) then 30 else 31)

-- a year, or a month of a year, and how many whole days of it have passed
pub record Reached : Type 0 where
  pub place : ℕ
  pub passed : ℕ

-- the days are taken off whole years (or months) from a place on, while they reach; no more than so many are taken
unfoldable pub reached : (ℕ → ℕ) → ℕ → ℕ → ℕ → Reached
reached days_in zero place days = record { place = place; passed = days }
reached days_in (suc most) place days = if nat_lt days (days_in place) then record { place = place; passed = days } else reached days_in most (suc place) (days - days_in place)

-- the year in which the day stands that is so many whole days after 1970-01-01, up to the year 9999
abbrev pub year_of : ℕ → Reached
year_of days = reached days_in_year 8029 1970 days

-- the month of that year
abbrev pub month_of : Reached → Reached
month_of year = reached (days_in_month year.place) 11 1 year.passed

-- decimal digits, so many
abbrev pub digits : ℕ → ℕ → List ℕ
digits zero n = []
digits (suc width) n = digits width (n / 10) ++ (48 + n % 10) ∷ []

abbrev pub date_digits : ℕ → Reached → List ℕ
date_digits year month = digits 4 year ++ digits 2 month.place ++ digits 2 (month.passed + 1)

abbrev pub date_in : Reached → List ℕ
date_in year = date_digits year.place (month_of year)

-- YYYYMMDD
unfoldable pub put_date : ℕ → List ℕ
put_date moment = date_in (year_of (moment / 86400000))

-- HHMMSSTH: hours, minutes, seconds, and hundredths of a second
unfoldable pub put_time : ℕ → List ℕ
put_time moment =
    digits 2 (moment / 3600000 % 24) ++ digits 2 (moment / 60000 % 60) ++ digits 2 (moment / 1000 % 60) ++ digits 2 (moment / 10 % 100)
