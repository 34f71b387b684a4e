use Rattle.std.proofs.Common.{sym, ap}
use Rattle.std.specs.Fmt.{digits}
use Rattle.card_http.specs.Answers.{status_code}
use Rattle.card_commands.specs.Attended.{status_line}
use Rattle.card_commands.proofs.serve.status_line.Goals as goal

pub returns-in-Done : goal.returns-in-Done
unfolding digits status_code status_line
returns-in-Done c = ap status_line (sym c.in-Done.is)

pub returns-in-BadRequest : goal.returns-in-BadRequest
unfolding digits status_code status_line
returns-in-BadRequest c = ap status_line (sym c.in-BadRequest.is)

pub returns-in-NotFound : goal.returns-in-NotFound
unfolding digits status_code status_line
returns-in-NotFound c = ap status_line (sym c.in-NotFound.is)

pub returns-in-BadMethod : goal.returns-in-BadMethod
unfolding digits status_code status_line
returns-in-BadMethod c = ap status_line (sym c.in-BadMethod.is)

pub returns-in-Conflict : goal.returns-in-Conflict
unfolding digits status_code status_line
returns-in-Conflict c = ap status_line (sym c.in-Conflict.is)

pub returns-in-TooLarge : goal.returns-in-TooLarge
unfolding digits status_code status_line
returns-in-TooLarge c = ap status_line (sym c.in-TooLarge.is)

pub returns-in-NoRequest : goal.returns-in-NoRequest
unfolding digits status_code status_line
returns-in-NoRequest c = ap status_line (sym c.in-NoRequest.is)

pub returns-in-LongHead : goal.returns-in-LongHead
unfolding digits status_code status_line
returns-in-LongHead c = ap status_line (sym c.in-LongHead.is)

pub returns-in-Unavailable : goal.returns-in-Unavailable
unfolding digits status_code status_line
returns-in-Unavailable c = ap status_line (sym c.in-Unavailable.is)

pub returns-in-NoStorage : goal.returns-in-NoStorage
unfolding digits status_code status_line
returns-in-NoStorage c = ap status_line (sym c.in-NoStorage.is)
