-- All definitions of the ledger that a computed example unfolds: `unfolding everything` opens them.
use Rattle.std.specs.Prelude.{⊤}
use Rattle.card_events.specs.Money.{daily, interest, portion, money_text}
use Rattle.card_events.specs.Civil.{days_before_year, days_of_months, day_at, year_of, date_in, date_of, date_text, first_day}
use Rattle.card_events.specs.Billing.{closing, due_after, closings_among, cycle_of}
use Rattle.card_events.specs.Business.{is_holiday, is_business, next_business, is_due, due_before, mail_day, credit_day, with_holiday}
use Rattle.card_events.specs.Later.{clipped_day_at, six_months_on, year_on}
use Rattle.card_events.specs.History.{last_amend, confirmed, cents_of, effective_day, corrected_post, corrected_from}
use Rattle.card_events.specs.Keys.{key_from}
use Rattle.card_events.specs.Same.{is_same_post}
use Rattle.card_events.specs.SharedRows.{with_index}
use Rattle.card_model.specs.Entries.{debit}
use Rattle.card_model.specs.Segments.{segments}
use Rattle.card_model.specs.Rates.{lowerings, capped, starts, rate_on}
use Rattle.card_model.specs.Allocation.{best, paid_at, pay}
use Rattle.card_model.specs.Payments.{counted, credited, is_met, is_paid, sixty_days_late}
use Rattle.card_model.specs.Fees.{fee_by}
use Rattle.card_model.specs.Caps.{row_for}
use Rattle.card_model.specs.DueDates.{on_due}
use Rattle.card_model.specs.Effects.{payment_parts, credit_parts, effect, after_posts}
use Rattle.card_model.specs.Interest.{row, interest_sum, average_balance, accrual}
use Rattle.card_model.specs.Closing.{post_interest, closing_interest, minimum_payment, grace_amount, close}
use Rattle.card_model.specs.Folds.{day_after, book_after, book}
use Rattle.card_model.specs.Deadlines.{last_notice_day, resolve_by, business_day_after, credit_on, credit_run, credit_since, increases, review_by, with_task, by_day, open_tasks}
use Rattle.card_model.specs.Breaks.{is_break}
use Rattle.card_model.specs.Refusals.{book_today, number_from, is_out_of_range, unknown_plan, outside_plan, plan_end_not_closing, plan_too_short, wrong_entry, already_returned, first_year, notice_pending, not_delinquent, dispute_late, dispute_known, no_open_dispute, not_closed, refund_too_large, nothing_to_review, no_index, reason_against, reason_to_open}
use Rattle.card_model.specs.Machine.{lists_of, with_lists, accepted, outcome, shared_reason, step, run_from, replies_from, is_new, accepted_from}
use Rattle.card_model.specs.Work.{account_tasks, is_name_before, with_work, in_work_order, work}

-- opens each of them
unfoldable pub everything : ⊤
unfolding daily interest portion money_text days_before_year days_of_months day_at year_of date_in date_of date_text first_day closing due_after closings_among cycle_of is_holiday is_business next_business is_due due_before mail_day credit_day with_holiday clipped_day_at six_months_on year_on last_amend confirmed cents_of effective_day corrected_post corrected_from key_from is_same_post with_index debit segments lowerings capped starts rate_on best paid_at pay counted credited is_met is_paid sixty_days_late fee_by row_for on_due payment_parts credit_parts effect after_posts row interest_sum average_balance accrual post_interest closing_interest minimum_payment grace_amount close day_after book_after book last_notice_day resolve_by business_day_after credit_on credit_run credit_since increases review_by with_task by_day open_tasks is_break book_today number_from is_out_of_range unknown_plan outside_plan plan_end_not_closing plan_too_short wrong_entry already_returned first_year notice_pending not_delinquent dispute_late dispute_known no_open_dispute not_closed refund_too_large nothing_to_review no_index reason_against reason_to_open lists_of with_lists accepted outcome shared_reason step run_from replies_from is_new accepted_from account_tasks is_name_before with_work in_work_order work
everything = tt
