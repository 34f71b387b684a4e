-- One account is judged alike under what all accounts share, wherever that gives one corrected list and one book.
use Rattle.std.proofs.Common.{◌≡◌, ℕ, false, List, length, [], ◌∷◌, Option, refl, ap, sym, ◌∙◌}
use Rattle.std.specs.Prelude.{not, nat_lt, nat_le, pos}
use Rattle.std.specs.List.{filter}
use Rattle.std.specs.Option.{option_or}
use Rattle.card_events.specs.History.{CorrectedPost, anchor_of, corrected, is_folded}
use Rattle.card_events.specs.SharedRows.{FeeRow, IndexRow, SharedRows}
use Rattle.card_events.specs.declared.post.Finding.{Finding}
use Rattle.card_events.specs.declared.post.Post.{Post}
use Rattle.card_events.specs.declared.post.Post.TheVariants as post
use Rattle.card_events.specs.declared.reply.Refusal.{Refusal}
use Rattle.card_events.specs.declared.reply.Refusal.TheVariants as refusal
use Rattle.card_model.specs.Books.{Book}
use Rattle.card_model.specs.Cycles.{Seen}
use Rattle.card_model.specs.Deadlines.{increases}
use Rattle.card_model.specs.Entries.{credit_balance}
use Rattle.card_model.specs.Payments.{sixty_days_late}
use Rattle.card_model.specs.Refusals
use Rattle.card_model.specs.Refusals.{Lists, Present, account_full, book_today, first_reason, is_empty, is_no_amount, reason_against, seen_today, where_true}
use Rattle.card_reasons.proofs.ReasonLemmas.{dispute_reasons, review_reasons}
use Rattle.card_reasons.specs.Reasons.{claim_reason, early_reason, full_reason}

-- what is judged of an account today
abbrev pub present : ℕ → SharedRows → Lists → Present
present today shared l = record { today = today; shared = shared; lists = l }

-- what all accounts share gives the account one corrected list, one book and one view of the fold
pub record AreAlike (today : ℕ) (l : Lists) (a b : SharedRows) : Type 0 where
  pub posts : corrected (anchor_of l.posts) a.holidays l.posts ≡ corrected (anchor_of l.posts) b.holidays l.posts
  pub books : book_today (present today a l) ≡ book_today (present today b l)
  pub fees : a.fees ≡ b.fees
  pub index : a.index ≡ b.index

-- ---- the reasons that read them
seen_same : (today : ℕ) (l : Lists) (a b : SharedRows) → AreAlike today l a b → seen_today (present today a l) ≡ seen_today (present today b l)
seen_same today l a b alike =
    let seen : List CorrectedPost → List FeeRow → List IndexRow → Seen = λ posts fees index. record {
      day = today;
      posts = filter (λ p. nat_le p.day today) (filter (λ p. is_folded p.post) posts);
      fees = filter (λ r. nat_le r.day today) fees;
      index = filter (λ r. nat_le r.day today) index;
      issued = filter (λ r. nat_lt r.day today) l.issued;
    } in
    ap (λ (posts : List CorrectedPost). seen posts a.fees a.index) alike.posts
    ∙ (ap (λ (fees : List FeeRow). seen (corrected (anchor_of l.posts) b.holidays l.posts) fees a.index) alike.fees
    ∙ ap (λ (index : List IndexRow). seen (corrected (anchor_of l.posts) b.holidays l.posts) b.fees index) alike.index)

late_same : (today : ℕ) (l : Lists) (a b : SharedRows) (d t c : ℕ) → AreAlike today l a b → Refusals.dispute_late (present today a l) (post.Dispute d t c) ≡ Refusals.dispute_late (present today b l) (post.Dispute d t c)
unfolding Refusals.dispute_late
late_same today l a b d t c alike = rw alike.posts refl

claim_same : (today : ℕ) (l : Lists) (a b : SharedRows) (d t c : ℕ) → AreAlike today l a b → claim_reason (present today a l) (post.Dispute d t c) ≡ claim_reason (present today b l) (post.Dispute d t c)
unfolding claim_reason Refusals.wrong_entry Refusals.dispute_known
claim_same today l a b d t c alike =
    let q = post.Dispute d t c in
    ap (λ (r : Option Refusal). first_reason (Refusals.wrong_entry (present today a l) q ∷ r ∷ Refusals.dispute_known (present today a l) q ∷ [])) (late_same today l a b d t c alike)

dispute_same : (today : ℕ) (l : Lists) (a b : SharedRows) (d t c : ℕ) → AreAlike today l a b → reason_against (present today a l) (post.Dispute d t c) ≡ reason_against (present today b l) (post.Dispute d t c)
dispute_same today l a b d t c alike =
    sym (dispute_reasons (present today a l) d t c)
    ∙ ap (λ (r : Option Refusal). option_or (early_reason (is_no_amount c) today (anchor_of l.posts).opened d) (option_or r (full_reason (length l.posts)))) (claim_same today l a b d t c alike)
    ∙ dispute_reasons (present today b l) d t c

review_same : (today : ℕ) (l : Lists) (a b : SharedRows) (d : ℕ) (f : Finding) → AreAlike today l a b → reason_against (present today a l) (post.Review d f) ≡ reason_against (present today b l) (post.Review d f)
unfolding Refusals.nothing_to_review
review_same today l a b d f alike =
    sym (review_reasons (present today a l) d f)
    ∙ ap (λ (posts : List CorrectedPost). option_or (early_reason false today (anchor_of l.posts).opened d) (option_or (where_true (is_empty (increases posts d)) refusal.NothingToReview) (full_reason (length l.posts)))) alike.posts
    ∙ review_reasons (present today b l) d f

penalty_same : (today : ℕ) (l : Lists) (a b : SharedRows) → AreAlike today l a b → reason_against (present today a l) post.Penalty ≡ reason_against (present today b l) post.Penalty
unfolding reason_against Refusals.is_out_of_range Refusals.unknown_plan Refusals.outside_plan Refusals.plan_end_not_closing Refusals.plan_too_short Refusals.wrong_entry Refusals.already_returned Refusals.first_year Refusals.notice_pending Refusals.not_delinquent Refusals.dispute_late Refusals.dispute_known Refusals.no_open_dispute Refusals.not_closed Refusals.refund_too_large Refusals.nothing_to_review
penalty_same today l a b alike =
    ap (λ (seen : Seen). first_reason (where_true (not (sixty_days_late seen (book_today (present today a l)).cycles)) refusal.NotDelinquent ∷ account_full (present today a l) ∷ [])) (seen_same today l a b alike)
    ∙ ap (λ (x : Book). first_reason (where_true (not (sixty_days_late (seen_today (present today b l)) x.cycles)) refusal.NotDelinquent ∷ account_full (present today a l) ∷ [])) alike.books

refund_same : (today : ℕ) (l : Lists) (a b : SharedRows) (c : ℕ) → AreAlike today l a b → reason_against (present today a l) (post.Refund c) ≡ reason_against (present today b l) (post.Refund c)
unfolding reason_against Refusals.is_out_of_range Refusals.unknown_plan Refusals.outside_plan Refusals.plan_end_not_closing Refusals.plan_too_short Refusals.wrong_entry Refusals.already_returned Refusals.first_year Refusals.notice_pending Refusals.not_delinquent Refusals.dispute_late Refusals.dispute_known Refusals.no_open_dispute Refusals.not_closed Refusals.refund_too_large Refusals.nothing_to_review
refund_same today l a b c alike =
    ap (λ (x : Book). first_reason (where_true (is_no_amount c) refusal.AmountRange ∷ where_true (nat_lt (credit_balance x.entries) c) (refusal.RefundTooLarge (pos (credit_balance x.entries))) ∷ account_full (present today a l) ∷ [])) alike.books

-- ---- all kinds
pub same_reason : (today : ℕ) (l : Lists) (a b : SharedRows) (p : Post) → AreAlike today l a b → reason_against (present today a l) p ≡ reason_against (present today b l) p
unfolding reason_against Refusals.is_out_of_range Refusals.unknown_plan Refusals.outside_plan Refusals.plan_end_not_closing Refusals.plan_too_short Refusals.wrong_entry Refusals.already_returned Refusals.first_year Refusals.notice_pending Refusals.not_delinquent Refusals.dispute_late Refusals.dispute_known Refusals.no_open_dispute Refusals.not_closed Refusals.refund_too_large Refusals.nothing_to_review
same_reason today l a b (post.Open d t) alike = refl
same_reason today l a b (post.OpenVariable d t) alike = refl
same_reason today l a b (post.Charge d p c) alike = refl
same_reason today l a b (post.Credit d p c) alike = refl
same_reason today l a b (post.Payment d m by c) alike = refl
same_reason today l a b (post.Bill c) alike = refl
same_reason today l a b (post.Amend t d c) alike = refl
same_reason today l a b (post.Return d t) alike = refl
same_reason today l a b (post.Plan d v r w f) alike = refl
same_reason today l a b (post.Notice d y r w) alike = refl
same_reason today l a b (post.Lower d y r) alike = refl
same_reason today l a b (post.Ack d t) alike = refl
same_reason today l a b (post.Resolve d t c) alike = refl
same_reason today l a b (post.AskRefund d) alike = refl
same_reason today l a b post.Penalty alike = penalty_same today l a b alike
same_reason today l a b (post.Review d f) alike = review_same today l a b d f alike
same_reason today l a b (post.Dispute d t c) alike = dispute_same today l a b d t c alike
same_reason today l a b (post.Refund c) alike = refund_same today l a b c alike
