use Rattle.card_account.proofs.account.Account.open.Goals as goal

pub returns-clause-account : goal.returns-clause-account
returns-clause-account c = record { replay = c.in_ok-start.ensures.replay; reach = c.in_ok-start.ensures.reach }
