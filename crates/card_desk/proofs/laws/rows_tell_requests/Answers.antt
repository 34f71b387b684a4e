use Rattle.card_desk.proofs.LawLemmas.{one_list}
use Rattle.card_desk.proofs.laws.rows_tell_requests.Goals as goal

pub returns : goal.returns
returns c = one_list
