use Rattle.card_rules.proofs.TimelyMail.{mail_of_the_next_business_day_is_timely as law}
use Rattle.card_rules.proofs.laws.mail_of_the_next_business_day_is_timely.Goals as goal

pub returns : goal.returns
returns c = law
