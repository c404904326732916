-- What a move's byte asks for.
use Rattle.std.specs.Prelude.{◌≡◌, ℕ, ◌-◌, Bool, cond, ◌&&◌, Some, None, Option, ◌==◌, nat_le}
use Rattle.memory.specs.declared.Side.TheVariants.{Feeder, Drawer}
use Rattle.run.specs.declared.orders.Order.{Order}
use Rattle.run.specs.declared.orders.Order.TheVariants.{Feed, Draw, Drain, Land}

abbrev pub from_to : ℕ → ℕ → ℕ → Bool
from_to low high b = nat_le low b && nat_le b high

-- a landing has its pick in the low six bits; any byte that is not listed asks for nothing
abbrev pub order : ℕ → Option Order
order b =
    cond (b == 0x00) (Some Feed)
    (cond (b == 0x01) (Some Draw)
    (cond (b == 0x02) (Some Drain)
    (cond (from_to 0x40 0x7F b) (Some (Land Feeder (b - 0x40)))
    (cond (from_to 0x80 0xBF b) (Some (Land Drawer (b - 0x80)))
    None))))

abbrev pub Asks : ℕ → Order → Type 0
Asks byte o = order byte ≡ Some o

abbrev pub Unknown : ℕ → Type 0
Unknown byte = order byte ≡ None
