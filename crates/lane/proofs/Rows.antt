-- From what the code knows at a row to the step of the table.
use Rattle.std.proofs.Common.{◌≡◌, ℕ, Option, sym, refl, subst₂}
use Rattle.memory.specs.declared.Memory as memory
use Rattle.memory.specs.declared.Side.TheVariants as side
use Rattle.words.specs.declared.kinds.Kind as kind
use Rattle.lane.specs.Hands.{Feeder, Drawer}
use Rattle.lane.specs.declared.answers.Ended.{Ended}
use Rattle.lane.specs.declared.answers.PutAnswer.{PutAnswer}
use Rattle.lane.specs.Layout.{own_cell}
use Rattle.lane.specs.declared.answers.TakeAnswer.{TakeAnswer}
use Rattle.lane.specs.PutTable.{PutRow}
use Rattle.lane.specs.TakeTable.{TakeRow, Found, an_item, no_item, t1_item, t1_odd, t3_item, t3_odd, t8_item, t8_odd}
use Rattle.lane.specs.Calls.{Makes}
use Rattle.memory.specs.Meaning.{Look}
use Rattle.lane.specs.declared.sides.Take.TheVariants as take
use Rattle.lane.specs.Moments.{Moment, fed, drawn, PutStep, TakeStep}

module _ {K X : Type 0} (G : memory.Ghosts X) (κ : kind.Ghosts K) where
  pub stepped : {m : Moment K X} {y : X} {f f' : Feeder K} {a a' : Option (Ended (PutAnswer K))} → PutRow G κ m.rings m.cells m.feeder m.memory f' y a' → f ≡ f' → a ≡ a' → PutStep G κ m (fed m y f) a
  stepped {m} {y} {f} {f'} {a} {a'} r e q = record {
    row = subst₂ (λ (h : Feeder K) (b : Option (Ended (PutAnswer K))). PutRow G κ m.rings m.cells m.feeder m.memory h y b) (sym e) (sym q) r;
    after = refl;
  }

  pub taken : {m : Moment K X} {y : X} {f f' : Drawer K} {a a' : Option (Ended (TakeAnswer K))} → TakeRow G κ m.rings m.cells m.drawer m.memory f' y a' → f ≡ f' → a ≡ a' → TakeStep G κ m (drawn m y f) a
  taken {m} {y} {f} {f'} {a} {a'} r e q = record {
    row = subst₂ (λ (h : Drawer K) (b : Option (Ended (TakeAnswer K))). TakeRow G κ m.rings m.cells m.drawer m.memory h y b) (sym e) (sym q) r;
    after = refl;
  }

pub found_as : {K : Type 0} (κ : kind.Ghosts K) {d : Drawer K} {w : ℕ} {f f' : Drawer K} {a a' : Option (Ended (TakeAnswer K))} → Found κ d w f' a' → f ≡ f' → a ≡ a' → Found κ d w f a
found_as {K} κ {d} {w} r e q = subst₂ (λ (h : Drawer K) (b : Option (Ended (TakeAnswer K))). Found κ d w h b) (sym e) (sym q) r

-- a word seen in the own cell: an item, or none
module _ {K X : Type 0} (G : memory.Ghosts X) (κ : kind.Ghosts K) (R N : ℕ) where
  pub t1_found : {d e : Drawer K} {x y : X} {a : Option (Ended (TakeAnswer K))} (w : ℕ) → Makes G (Look side.Drawer (own_cell N d.places) w) x y → (w ≡ 0 → ⊥) → d.stage ≡ take.T1 → Found κ d w e a → TakeRow G κ R N d x e y a
  t1_found w h ne s (an_item i q) = t1_item i s (rw (← q) at h)
  t1_found w h ne s (no_item q) = t1_odd w s h (ne, q)

  pub t3_found : {d e : Drawer K} {x y : X} {a : Option (Ended (TakeAnswer K))} (w : ℕ) → Makes G (Look side.Drawer (own_cell N d.places) w) x y → (w ≡ 0 → ⊥) → d.stage ≡ take.T3 → Found κ d w e a → TakeRow G κ R N d x e y a
  t3_found w h ne s (an_item i q) = t3_item i s (rw (← q) at h)
  t3_found w h ne s (no_item q) = t3_odd w s h (ne, q)

  pub t8_found : {d e : Drawer K} {x y : X} {a : Option (Ended (TakeAnswer K))} (w : ℕ) → Makes G (Look side.Drawer (own_cell N d.places) w) x y → (w ≡ 0 → ⊥) → d.stage ≡ take.T8 → Found κ d w e a → TakeRow G κ R N d x e y a
  t8_found w h ne s (an_item i q) = t8_item i s (rw (← q) at h)
  t8_found w h ne s (no_item q) = t8_odd w s h (ne, q)
