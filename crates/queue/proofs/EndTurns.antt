-- What a step through an end says, and the end that it leaves.
use Rattle.std.proofs.Common.{◌≡◌, ℕ, Bool, not, Some, None, Option, is_some, sym, refl, ap, ◌∙◌}
use Rattle.lane.specs.declared.answers.Ended.{Ended}
use Rattle.lane.specs.declared.ends.Busy.{Busy}
use Rattle.lane.specs.declared.ends.End.{End}
use Rattle.lane.specs.declared.ends.Stepped.{Stepped}
use Rattle.lane.specs.declared.ends.Stepped.TheVariants as stepped
use Rattle.lane.specs.Ends.{lane_of, end_of, answer_of}
use Rattle.queue.specs.declared.moves.Said.{Said}
use Rattle.queue.specs.declared.moves.Said.TheVariants.{Nothing}
use Rattle.queue.specs.Busy.{is_busy}
use Rattle.queue.specs.InPlay.{SaidBy}

-- where say tells of an answer as said does, so does the step
pub said_as : {A K : Type 0} (say : Ended A → Said K → Type 0) (said : Option (Ended A) → Said K) → Nothing ≡ said None → ((a : Ended A) (s : Said K) → say a s → s ≡ said (Some a)) → (a : Option (Ended A)) (s : Said K) → SaidBy say a s → s ≡ said a
said_as say said nothing all None s h = h ∙ nothing
said_as say said nothing all (Some a) s h = all a s h

busy_after : {S A : Type 0} (s : Stepped S A) → is_busy (end_of s) ≡ not (is_some (answer_of s))
busy_after (stepped.Going e) = refl
busy_after (stepped.Over e a) = refl

-- the end goes on fitting: k and l are the lane's number before and after the step, and busy tells whether the call is then under way
pub end_fits : {S A : Type 0} (s : Stepped S A) {e : End S} {b : Busy S} {k l : ℕ} {busy : Bool} → e ≡ end_of s → lane_of (end_of s) ≡ b.lane → b.lane ≡ k → l ≡ k → busy ≡ not (is_some (answer_of s)) → (lane_of e ≡ l) × (is_busy e ≡ busy)
end_fits s e l b n g = (ap lane_of e ∙ l ∙ b ∙ sym n, ap is_busy e ∙ busy_after s ∙ sym g)
