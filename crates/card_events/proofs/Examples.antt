-- Dates of the definitions, computed.
use Rattle.std.proofs.Common.{◌≡◌, ℕ, true, false, [], ◌∷◌, refl}
use Rattle.card_events.specs.declared.anchor.Anchor.{Anchor}
use Rattle.card_events.specs.Civil.{days_before_year, days_of_months, day_at, year_of, date_in, date_of, first_day}
use Rattle.card_events.specs.Billing.{closing, due_after, due, closings_among, cycle_of}
use Rattle.card_events.specs.Business.{is_holiday, is_business, next_business, is_due, due_before, mail_day, credit_day}
use Rattle.card_events.specs.Later.{clipped_day_at, six_months_on, six_months_after, year_on, year_after}

abbrev anchor : ℕ → ℕ → ℕ → ℕ → Anchor
anchor y m d c = record { opened = day_at y m d; close_day = c }

-- a cycle that closes on 2023-02-28 is due on 2023-03-24
february : (closing (anchor 2023 1 29 28) 1 ≡ day_at 2023 2 28) × (due (anchor 2023 1 29 28) 1 ≡ day_at 2023 3 24)
unfolding days_before_year days_of_months day_at year_of date_in date_of first_day closing due_after
february = (refl, refl)

-- one that closes on 2024-02-05 is due on 2024-03-01
leap : (closing (anchor 2024 1 10 5) 1 ≡ day_at 2024 2 5) × (due (anchor 2024 1 10 5) 1 ≡ day_at 2024 3 1)
unfolding days_before_year days_of_months day_at year_of date_in date_of first_day closing due_after
leap = (refl, refl)

-- close days up to 4 are due in the month of the closing
fourth : due (anchor 2024 1 10 4) 12 ≡ day_at 2025 1 28
unfolding days_before_year days_of_months day_at year_of date_in date_of first_day closing due_after
fourth = refl

third_cycle : (cycle_of (anchor 2024 1 10 5) (day_at 2024 4 5) ≡ 3) × (cycle_of (anchor 2024 1 10 5) (day_at 2024 4 6) ≡ 4)
unfolding days_before_year days_of_months day_at year_of date_in date_of closings_among cycle_of
third_cycle = (refl, refl)

-- due on Sunday 2024-11-24
sunday : (credit_day (anchor 2024 1 1 28) [] (day_at 2024 11 24) 1020 false ≡ day_at 2024 11 24) × (credit_day (anchor 2024 1 1 28) [] (day_at 2024 11 24) 1021 false ≡ day_at 2024 11 25) × (credit_day (anchor 2024 1 1 28) [] (day_at 2024 11 25) 1020 true ≡ day_at 2024 11 24) × (credit_day (anchor 2024 1 1 28) (day_at 2024 11 25 ∷ []) (day_at 2024 11 25) 600 true ≡ day_at 2024 11 25) × (credit_day (anchor 2024 1 1 28) (day_at 2024 11 25 ∷ []) (day_at 2024 11 26) 600 true ≡ day_at 2024 11 24)
unfolding days_before_year days_of_months day_at year_of date_in date_of first_day closing is_holiday is_business is_due due_before mail_day credit_day
sunday = (refl, refl, refl, refl, refl)

next_days : (next_business [] (day_at 2024 11 22) ≡ day_at 2024 11 25) × (next_business (day_at 2024 11 25 ∷ []) (day_at 2024 11 22) ≡ day_at 2024 11 26)
unfolding days_before_year days_of_months day_at year_of date_in date_of first_day is_holiday is_business next_business
next_days = (refl, refl)

later_days : (six_months_after (day_at 2024 8 31) ≡ day_at 2025 2 28) × (six_months_after (day_at 2024 3 15) ≡ day_at 2024 9 15) × (year_after (day_at 2024 2 29) ≡ day_at 2025 3 1) × (year_after (day_at 2024 3 1) ≡ day_at 2025 3 1)
unfolding days_before_year days_of_months day_at year_of date_in date_of clipped_day_at six_months_on year_on
later_days = (refl, refl, refl, refl)
