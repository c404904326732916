-- The numbers of refusals, as a baker sees them.
use Rattle.std.specs.Prelude.{ℕ, Some, None, Option}
use Rattle.lane.specs.declared.refusals.OpenRefusal.{OpenRefusal}
use Rattle.lane.specs.declared.refusals.OpenRefusal.TheVariants.{OutOfRange, TooSmall}
use Rattle.lane.specs.declared.refusals.Refusal.{Refusal}
use Rattle.lane.specs.declared.refusals.Refusal.TheVariants.{WrongEnd}
use Rattle.lane.specs.declared.answers.PutAnswer.{PutAnswer}
use Rattle.lane.specs.declared.answers.PutAnswer.TheVariants as put
use Rattle.lane.specs.declared.answers.TakeAnswer.{TakeAnswer}
use Rattle.lane.specs.declared.answers.TakeAnswer.TheVariants as take

abbrev pub open_number : OpenRefusal → ℕ
open_number OutOfRange = 3
open_number TooSmall = 4

abbrev pub step_number : Refusal → ℕ
step_number WrongEnd = 5

module _ {K : Type 0} where
  -- none for an item accepted, or taken
  abbrev pub put_number : PutAnswer K → Option ℕ
  put_number put.Accepted = None
  put_number (put.NoRing i) = Some 7
  put_number put.Damaged = Some 9

  abbrev pub take_number : TakeAnswer K → Option ℕ
  take_number (take.Taken i) = None
  take_number take.Empty = Some 8
  take_number take.Damaged = Some 9
