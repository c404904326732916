-- A lane's sides read as plain numbers: positions as functions, items as words.
use Rattle.std.proofs.Common.{◌≡◌, ℕ, get_or}
use Rattle.words.specs.declared.kinds.Kind as kind
use Rattle.lane.specs.declared.sides.Places as their
use Rattle.lane.specs.declared.sides.Put.{Put}
use Rattle.lane.specs.declared.sides.Put.TheVariants as put
use Rattle.lane.specs.declared.sides.Take.{Take}
use Rattle.lane.specs.declared.sides.Take.TheVariants as take
use Rattle.queue.proofs.Steps.{Places, Putting, Taking}
use Rattle.queue.proofs.Steps as Lane

-- a side's places, as the queue has them
abbrev pub positions : their.Places → Places
positions p = record { own = p.ring; at = λ r. get_or p.at r 0; next = p.next; free = p.free }

abbrev pub Item : {K : Type 0} → kind.Ghosts K → ℕ → Type 0
Item {K} κ x = (i : K) × (κ.word i ≡ x)

abbrev pub put_stage : {K : Type 0} → kind.Ghosts K → Put K → Putting
put_stage κ put.Idle = Lane.Putting.idle
put_stage κ (put.P1 i) = Lane.Putting.p1 (κ.word i)
put_stage κ (put.P2 i) = Lane.Putting.p2 (κ.word i)
put_stage κ (put.P3 i n) = Lane.Putting.p3 (κ.word i) n
put_stage κ (put.P4 i n) = Lane.Putting.p4 (κ.word i) n
put_stage κ (put.P5 i n) = Lane.Putting.p5 (κ.word i) n
put_stage κ (put.P6 i n) = Lane.Putting.p6 (κ.word i) n
put_stage κ (put.P7 i) = Lane.Putting.p7 (κ.word i)
put_stage κ (put.P8 i) = Lane.Putting.p8 (κ.word i)

abbrev pub take_stage : {K : Type 0} → kind.Ghosts K → Take K → Taking
take_stage κ take.Idle = Lane.Taking.idle
take_stage κ take.T1 = Lane.Taking.t1
take_stage κ take.T2 = Lane.Taking.t2
take_stage κ take.T3 = Lane.Taking.t3
take_stage κ take.T4 = Lane.Taking.t4
take_stage κ (take.T5 n) = Lane.Taking.t5 n
take_stage κ (take.T6 n) = Lane.Taking.t6 n
take_stage κ (take.T7 n) = Lane.Taking.t7 n
take_stage κ take.T8 = Lane.Taking.t8
take_stage κ (take.T9 i) = Lane.Taking.t9 (κ.word i)
