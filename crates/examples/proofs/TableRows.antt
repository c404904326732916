-- What the rows of the tables that a short hand-over comes to give, read by where a call stands.
use Rattle.std.proofs.Common.{◌≡◌, ℕ, ◌⊎◌, None, Option, sym, refl, subst, inl, inr, arith}
use Rattle.memory.specs.declared.Side.TheVariants.{Feeder, Drawer}
use Rattle.memory.specs.declared.loose.Loose.{Loose}
use Rattle.memory.specs.Meaning.{Look, Store, Bar}
use Rattle.words.specs.declared.edits.Edit.{Edit}
use Rattle.words.specs.Words.{edit_word}
use Rattle.lane.specs.declared.answers.Ended.{Ended}
use Rattle.lane.specs.declared.answers.PutAnswer.{PutAnswer}
use Rattle.lane.specs.declared.answers.PutAnswer.TheVariants.{Accepted}
use Rattle.lane.specs.declared.answers.TakeAnswer.{TakeAnswer}
use Rattle.lane.specs.declared.answers.TakeAnswer.TheVariants.{Empty, Taken}
use Rattle.lane.specs.declared.sides.Put.{Put}
use Rattle.lane.specs.declared.sides.Put.TheVariants as put
use Rattle.lane.specs.declared.sides.Take.{Take}
use Rattle.lane.specs.declared.sides.Take.TheVariants as take
use Rattle.lane.specs.Calls.{Makes}
use Rattle.lane.specs.Layout.{own_cell, mark_cell, own_on, ring_word, NamesNoRing}
use Rattle.lane.specs.PutTable as puts
use Rattle.lane.specs.PutTable.{PutRow}
use Rattle.lane.specs.TakeTable as takes
use Rattle.lane.specs.TakeTable.{TakeRow, NamesNoItem}
use Rattle.lane.specs.Hands as hands
use Rattle.examples.specs.LooseHandOver.{loose, edits}

module _ (f : hands.Feeder Edit) (x : Loose) (e : hands.Feeder Edit) (y : Loose) (a : Option (Ended (PutAnswer Edit))) where
  abbrev pub PutGives : Put Edit → Type 0
  PutGives put.Idle = ⊥
  PutGives (put.P1 i) =
      (w : ℕ) × Makes loose (Look Feeder (own_cell 2 f.places) w) x y
      × (((w ≡ 0) × (e ≡ hands.hand_to f (put.P7 i) f.places) × (a ≡ None)) ⊎ (w ≡ 0 → ⊥))
  PutGives (put.P2 i) = Unit {0}
  PutGives (put.P3 i n) = Unit {0}
  PutGives (put.P4 i n) = Unit {0}
  PutGives (put.P5 i n) = Unit {0}
  PutGives (put.P6 i n) = Unit {0}
  PutGives (put.P7 i) =
      Makes loose (Bar Feeder) x y × (e ≡ hands.hand_to f (put.P8 i) f.places) × (a ≡ None)
  PutGives (put.P8 i) =
      Makes loose (Store Feeder (own_cell 2 f.places) (edit_word i)) x y
      × (e ≡ hands.hand_done put.Idle (own_on 2 f.places)) × (a ≡ hands.over f Accepted)

pub put_gives : (f : hands.Feeder Edit) (x : Loose) {e : hands.Feeder Edit} {y : Loose} {a : Option (Ended (PutAnswer Edit))} → PutRow loose edits 2 2 f x e y a → PutGives f x e y a f.stage
put_gives f x {e} {y} {a} (puts.PutRow.p1_bare i q l) = subst (PutGives f x e y a) (sym q) (0, l, inl (refl, refl, refl))
put_gives f x {e} {y} {a} (puts.PutRow.p1_full i w q l n) = subst (PutGives f x e y a) (sym q) (w, l, inr n)
put_gives f x {e} {y} {a} (puts.PutRow.p2_bare i q l) = subst (PutGives f x e y a) (sym q) tt
put_gives f x {e} {y} {a} (puts.PutRow.p2_ring i n q l r) = subst (PutGives f x e y a) (sym q) tt
put_gives f x {e} {y} {a} (puts.PutRow.p2_odd i w q l n r) = subst (PutGives f x e y a) (sym q) tt
put_gives f x {e} {y} {a} (puts.PutRow.p3 i n q l) = subst (PutGives f x e y a) (sym q) tt
put_gives f x {e} {y} {a} (puts.PutRow.p4 i n q l) = subst (PutGives f x e y a) (sym q) tt
put_gives f x {e} {y} {a} (puts.PutRow.p5 i n q l) = subst (PutGives f x e y a) (sym q) tt
put_gives f x {e} {y} {a} (puts.PutRow.p6 i n q l) = subst (PutGives f x e y a) (sym q) tt
put_gives f x {e} {y} {a} (puts.PutRow.p7 i q l) = subst (PutGives f x e y a) (sym q) (l, refl, refl)
put_gives f x {e} {y} {a} (puts.PutRow.p8 i q l) = subst (PutGives f x e y a) (sym q) (l, refl, refl)

module _ (d : hands.Drawer Edit) (x : Loose) (e : hands.Drawer Edit) (y : Loose) (a : Option (Ended (TakeAnswer Edit))) where
  -- a look at the own cell: bare, an item, or neither
  abbrev FoundAtFirst : Type 0
  FoundAtFirst =
      (w : ℕ) × Makes loose (Look Drawer (own_cell 2 d.places) w) x y
      × (((w ≡ 0) × (e ≡ hands.hand_to d take.T2 d.places) × (a ≡ None))
      ⊎ (((i : Edit) × (w ≡ edit_word i) × (e ≡ hands.hand_to d (take.T9 i) d.places) × (a ≡ None)) ⊎ NamesNoItem edits w))

  -- a look at the mark: the own ring, or a word that does not name it
  abbrev FoundAtMark : Type 0
  FoundAtMark =
      (w : ℕ) × Makes loose (Look Drawer (mark_cell 2 2) w) x y
      × (((e ≡ hands.hand_done take.Idle d.places) × (a ≡ hands.over d Empty)) ⊎ ((w ≡ ring_word d.places.ring → ⊥) ⊎ NamesNoRing 2 w))

  abbrev pub TakeGives : Take Edit → Type 0
  TakeGives take.Idle = ⊥
  TakeGives take.T1 = FoundAtFirst
  TakeGives take.T2 = FoundAtMark
  TakeGives take.T3 = Unit {0}
  TakeGives take.T4 = Unit {0}
  TakeGives (take.T5 n) = Unit {0}
  TakeGives (take.T6 n) = Unit {0}
  TakeGives (take.T7 n) = Unit {0}
  TakeGives take.T8 = Unit {0}
  TakeGives (take.T9 i) =
      Makes loose (Store Drawer (own_cell 2 d.places) 0) x y
      × (e ≡ hands.hand_done take.Idle (own_on 2 d.places)) × (a ≡ hands.over d (Taken i))

pub take_gives : (d : hands.Drawer Edit) (x : Loose) {e : hands.Drawer Edit} {y : Loose} {a : Option (Ended (TakeAnswer Edit))} → TakeRow loose edits 2 2 d x e y a → TakeGives d x e y a d.stage
take_gives d x {e} {y} {a} (takes.TakeRow.t1_bare q l) = subst (TakeGives d x e y a) (sym q) (0, l, inl (refl, refl, refl))
take_gives d x {e} {y} {a} (takes.TakeRow.t1_item i q l) = subst (TakeGives d x e y a) (sym q) (edit_word i, l, inr (inl (i, refl, refl, refl)))
take_gives d x {e} {y} {a} (takes.TakeRow.t1_odd w q l n) = subst (TakeGives d x e y a) (sym q) (w, l, inr (inr n))
take_gives d x {e} {y} {a} (takes.TakeRow.t2_own q l) = subst (TakeGives d x e y a) (sym q) (ring_word d.places.ring, l, inl (refl, refl))
take_gives d x {e} {y} {a} (takes.TakeRow.t2_other n q l r u) = subst (TakeGives d x e y a) (sym q) (ring_word n, l, inr (inl (λ h. u (omega arith))))
take_gives d x {e} {y} {a} (takes.TakeRow.t2_odd w q l n) = subst (TakeGives d x e y a) (sym q) (w, l, inr (inr n))
take_gives d x {e} {y} {a} (takes.TakeRow.t3_bare q l) = subst (TakeGives d x e y a) (sym q) tt
take_gives d x {e} {y} {a} (takes.TakeRow.t3_item i q l) = subst (TakeGives d x e y a) (sym q) tt
take_gives d x {e} {y} {a} (takes.TakeRow.t3_odd w q l n) = subst (TakeGives d x e y a) (sym q) tt
take_gives d x {e} {y} {a} (takes.TakeRow.t4_bare q l) = subst (TakeGives d x e y a) (sym q) tt
take_gives d x {e} {y} {a} (takes.TakeRow.t4_ring n q l r) = subst (TakeGives d x e y a) (sym q) tt
take_gives d x {e} {y} {a} (takes.TakeRow.t4_odd w q l n r) = subst (TakeGives d x e y a) (sym q) tt
take_gives d x {e} {y} {a} (takes.TakeRow.t5 n q l) = subst (TakeGives d x e y a) (sym q) tt
take_gives d x {e} {y} {a} (takes.TakeRow.t6 n q l) = subst (TakeGives d x e y a) (sym q) tt
take_gives d x {e} {y} {a} (takes.TakeRow.t7 n q l) = subst (TakeGives d x e y a) (sym q) tt
take_gives d x {e} {y} {a} (takes.TakeRow.t8_bare q l) = subst (TakeGives d x e y a) (sym q) tt
take_gives d x {e} {y} {a} (takes.TakeRow.t8_item i q l) = subst (TakeGives d x e y a) (sym q) tt
take_gives d x {e} {y} {a} (takes.TakeRow.t8_odd w q l n) = subst (TakeGives d x e y a) (sym q) tt
take_gives d x {e} {y} {a} (takes.TakeRow.t9 i q l) = subst (TakeGives d x e y a) (sym q) (l, refl, refl)
