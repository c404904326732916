use Rattle.std.proofs.Common.{arith}
use Rattle.std.proofs.lemmas.Nat.{mul-add-lt}
use Rattle.lane.proofs.sides.Places.cell.Goals as goal

pub returns-in-Own-clause-inside : goal.returns-in-Own-clause-inside
returns-in-Own-clause-inside c = omega (arith, mul-add-lt c.args.self.now.ring c.args.shape.cells _ c.args.shape.rings c.requires.0 (c.requires.2 c.args.self.now.ring))
