-- Opening a lane leaves the words of an opened lane, and its rows keep eight positions a side.
use Rattle.std.proofs.Common.{◌≡◌, ℕ, zero, suc, ◌+◌, ◌*◌, ◌<◌, ◌≤◌, [], length, get_or, replicate, Option, sym, refl, ap, subst, add-one, arith, length-set}
use Rattle.memory.specs.declared.Memory as memory
use Rattle.memory.specs.declared.Side.TheVariants.{Feeder, Drawer}
use Rattle.memory.specs.Meaning.{Meaning, line, Landings}
use Rattle.queue.specs.Waiting.{size, NothingWaits}
use Rattle.lane.proofs.Sizes.{extent_landings}
use Rattle.words.specs.declared.kinds.Kind as kind
use Rattle.lane.specs.Hands as hands
use Rattle.lane.specs.declared.answers.Ended.{Ended}
use Rattle.lane.specs.declared.answers.PutAnswer.{PutAnswer}
use Rattle.lane.specs.declared.answers.TakeAnswer.{TakeAnswer}
use Rattle.lane.specs.Layout.{words_of}
use Rattle.lane.specs.PutTable.{PutRow}
use Rattle.lane.specs.PutTable as puts
use Rattle.lane.specs.TakeTable.{TakeRow}
use Rattle.lane.specs.TakeTable as takes
use Rattle.lane.specs.Openings.{Opens, first_word}
use Rattle.lane.specs.Openings as Opening
use Rattle.queue.proofs.Runs.{OpenedLane, Filling, Filling.unfilled, Filling.one_more}
use Rattle.queue.proofs.Filling.{opening_law}

module _ {X K : Type 0} (G : memory.Ghosts X) (κ : kind.Ghosts K) (R N : ℕ) where
  pub put_eight : {f : hands.Feeder K} {x : X} {e : hands.Feeder K} {y : X} {a : Option (Ended (PutAnswer K))} → PutRow G κ R N f x e y a → length e.places.at ≡ length f.places.at
  put_eight (puts.p1_bare i e h) = refl
  put_eight (puts.p1_full i w e h n) = refl
  put_eight (puts.p2_bare i e h) = refl
  put_eight (puts.p2_ring i n e h l) = refl
  put_eight (puts.p2_odd i w e h n l) = refl
  put_eight (puts.p3 i n e h) = refl
  put_eight (puts.p4 i n e h) = refl
  put_eight (puts.p5 i n e h) = refl
  put_eight (puts.p6 i n e h) = refl
  put_eight (puts.p7 i e h) = refl
  put_eight (puts.p8 i e h) = simp length-set

  pub take_eight : {d : hands.Drawer K} {x : X} {e : hands.Drawer K} {y : X} {a : Option (Ended (TakeAnswer K))} → TakeRow G κ R N d x e y a → length e.places.at ≡ length d.places.at
  take_eight (takes.t1_bare e h) = refl
  take_eight (takes.t1_item i e h) = refl
  take_eight (takes.t1_odd w e h n) = refl
  take_eight (takes.t2_own e h) = refl
  take_eight (takes.t2_other n e h l o) = refl
  take_eight (takes.t2_odd w e h l) = refl
  take_eight (takes.t3_bare e h) = refl
  take_eight (takes.t3_item i e h) = refl
  take_eight (takes.t3_odd w e h n) = refl
  take_eight (takes.t4_bare e h) = refl
  take_eight (takes.t4_ring n e h l) = refl
  take_eight (takes.t4_odd w e h n l) = refl
  take_eight (takes.t5 n e h) = refl
  take_eight (takes.t6 n e h) = refl
  take_eight (takes.t7 n e h) = refl
  take_eight (takes.t8_bare e h) = refl
  take_eight (takes.t8_item i e h) = refl
  take_eight (takes.t8_odd w e h n) = refl
  take_eight (takes.t9 i e h) = simp length-set

pub zeros : (n r : ℕ) → ◌≡◌ {A = ℕ} (get_or (replicate n 0) r 0) 0
zeros zero r = refl
zeros (suc n) zero = refl
zeros (suc n) (suc r) = zeros n r

module _ {X : Type 0} (G : memory.Ghosts X) (R N : ℕ) where
  -- opening's stores are a filling
  filling : (x : X) {k : ℕ} {y : X} → Opening.Filled G R N x k y → Filling (first_word R N) (G.meaning x) k (G.meaning y)
  filling x Opening.Filled.bare_start = unfilled
  filling x (Opening.Filled.one_more {a = a} {y = y} {z = z} r h) = subst (λ (k : ℕ). Filling (first_word R N) (G.meaning x) k (G.meaning z)) (sym (add-one a)) (one_more (filling x r) h.rule.1)

  pub opens_lane : 2 ≤ R → (x y : X) → Opens G R N x y → OpenedLane R N (G.meaning y)
  unfolding NothingWaits size
  opens_lane R2 x y o = opening_law R N R2 (G.meaning o.drained) (G.meaning o.filled) (G.meaning y) (d.1, d.2) big (subst (λ (k : ℕ). Filling (first_word R N) (G.meaning o.drained) k (G.meaning o.filled)) count (filling o.drained o.stores)) e.0 (e.1, e.2)
    where
      d : Landings (G.meaning o.sized) (G.meaning o.drained) × (line Feeder (G.meaning o.drained) ≡ []) × (line Drawer (G.meaning o.drained) ≡ [])
      d = o.first_drain.rule

      e : Landings (G.meaning o.filled) (G.meaning y) × (line Feeder (G.meaning y) ≡ []) × (line Drawer (G.meaning y) ≡ [])
      e = o.second_drain.rule

      z : (o.size ≡ length (G.meaning x).landed) × (G.meaning o.sized ≡ G.meaning x)
      z = o.asked.rule

      big : R * N + R + R < length (G.meaning o.drained).landed
      big = let a = extent_landings d.0 in let b = ap (λ (m : Meaning). length m.landed) z.1 in omega (arith, o.enough, z.0)

      count : words_of R N ≡ suc (R * N + R + R)
      count = omega arith
