-- The number of each refusal, as a baker sees it.
use Rattle.std.specs.Prelude.{ℕ}
use Rattle.words.specs.declared.faults.ItemFault.{ItemFault}
use Rattle.words.specs.declared.faults.ItemFault.TheVariants.{OutOfRange, NoItem}

abbrev pub refusal : ItemFault → ℕ
refusal (OutOfRange p) = 1
refusal (NoItem w) = 2
