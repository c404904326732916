-- One thing for each side.
use Rattle.std.specs.Borrow.{Lends, MutBor, Fml, RattleType}
use Rattle.memory.specs.declared.Side.{Side}
use Rattle.memory.specs.declared.Side.TheVariants.{Feeder, Drawer}
use Rattle.memory.specs.declared.sides.Sides.{Sides}
use Rattle.memory.specs.contracts.sides.Sides.{the_row}

abbrev pub by_side : {A : Type 0} → Side → A → A → A
by_side Feeder f d = f
by_side Drawer f d = d

-- what is the side's own
abbrev pub own_of : {A : Type 0} → Side → Sides A → A
own_of s x = by_side s x.feeder x.drawer

-- a in place of what was the side's own
abbrev pub with_own : {A : Type 0} → Side → Sides A → A → Sides A
with_own Feeder x a = record { feeder = a; drawer = x.drawer }
with_own Drawer x a = record { feeder = x.feeder; drawer = a }

-- once the borrow r ends, what r shows last is the side's own
abbrev pub lends_own : (T : RattleType) → Side → MutBor (Sides T.Denot) → MutBor T.Denot → Fml
lends_own T s x r = Lends (the_row T) T x r (with_own s x.now)
