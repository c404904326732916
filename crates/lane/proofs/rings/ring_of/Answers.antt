use Rattle.std.proofs.Common.{sym, arith}
use Rattle.std.proofs.lemmas.Int.{ints}
use Rattle.lane.proofs.rings.ring_of.Goals as goal

pub returns-in-Err : goal.returns-in-Err
returns-in-Err c = λ n l e. c.in-Err.ensures.1 (record { number = n; in_range = grind (arith, ints) }) (sym e)
