use Rattle.memory.specs.Loose.{loose_meaning}
use Rattle.memory.proofs.Looses.{lands_oldest, oldest_fewer}
use Rattle.memory.proofs.loose.Loose.land_oldest.Goals as goal

pub returns : goal.returns
returns c =
    let o = lands_oldest c.args.side c.args.self.now (loose_meaning c.land_one.new.self) c.requires c.land_one.ensures.means in
    record { lands = record { means = o; owner = c.land_one.ensures.owner }; fewer = oldest_fewer c.args.side (loose_meaning c.args.self.now) (loose_meaning c.land_one.new.self) o }
