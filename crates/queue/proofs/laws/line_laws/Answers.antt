use Rattle.queue.proofs.Landing.{landing_law, held_law, holds_none, look_law}
use Rattle.queue.proofs.Joining.{store_law, bar_law}
use Rattle.queue.proofs.Quiet.{nothing_view}
use Rattle.queue.proofs.laws.line_laws.Goals as goal

pub returns : goal.returns
returns c = record { landing = landing_law; store_joins = store_law; bar_joins = bar_law; held_back = held_law; gone_holds = holds_none; looks = look_law; drained = nothing_view }
