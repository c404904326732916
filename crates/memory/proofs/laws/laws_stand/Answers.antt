use Rattle.memory.proofs.Addresses.{no_store_lost}
use Rattle.memory.proofs.Picks.{loose_picks}
use Rattle.memory.proofs.laws.laws_stand.Goals as goal

pub returns : goal.returns
returns c = record { lost = no_store_lost; picks = loose_picks }
