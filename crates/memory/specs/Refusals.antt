-- The numbers by which a baker knows the refusals of a memory.
use Rattle.std.specs.Prelude.{ℕ}

pub data Refusal : Type 0 where
  depth_out_of_range : Refusal
  no_such_address : Refusal

abbrev pub number_of : Refusal → ℕ
number_of depth_out_of_range = 3
number_of no_such_address = 6
