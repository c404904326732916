-- A side's own among what both sides have.
use Rattle.std.proofs.Common.{◌≡◌, ℕ, List, [], ◌∷◌, ◌++◌, ap}
use Rattle.arrayvec.specs.ArrayVec.{ArrayVec}
use Rattle.memory.specs.declared.Side.{Side}
use Rattle.memory.specs.declared.Side.TheVariants.{Feeder, Drawer}
use Rattle.memory.specs.declared.entry.Entry.{Entry as Kept}
use Rattle.memory.specs.declared.line.Line.{Line}
use Rattle.memory.specs.declared.sides.Sides.{Sides}
use Rattle.memory.specs.Meaning.{Entry, Meaning, tidy, joined}
use Rattle.memory.specs.Line.{line_in}
use Rattle.memory.specs.Buffer.{Parts, mine, with_mine}
use Rattle.memory.specs.Sides.{own_of, with_own}

abbrev pub lines_mean : List ℕ → Sides Line → Meaning
lines_mean v l = record { landed = v; feeder = line_in l.feeder; drawer = line_in l.drawer }

-- what joins a side's own line joins its line
pub line_joined : (s : Side) (v : List ℕ) (l : Sides Line) (k : Line) (e : Entry) → line_in k ≡ tidy (line_in (own_of s l) ++ (e ∷ [])) → lines_mean v (with_own s l k) ≡ joined s e (lines_mean v l)
line_joined Feeder v l k e h = ap (λ z. record { landed = v; feeder = z; drawer = line_in l.drawer }) h
line_joined Drawer v l k e h = ap (λ z. record { landed = v; feeder = line_in l.feeder; drawer = z }) h

abbrev pub parts_of : {X : Type 0} → X → ℕ → Sides (ArrayVec Kept) → Parts X
parts_of b d k = record { below = b; depth = d; feeder = k.feeder.items; drawer = k.drawer.items }

-- an entry that joins a side's own joins the end of its entries
pub entry_joined : {X : Type 0} (s : Side) (b : X) (d : ℕ) (k : Sides (ArrayVec Kept)) (v : ArrayVec Kept) (q : Kept) → v.items ≡ (own_of s k).items ++ (q ∷ []) → parts_of b d (with_own s k v) ≡ with_mine s (mine s (parts_of b d k) ++ (q ∷ [])) (parts_of b d k)
entry_joined Feeder b d k v q h = ap (λ z. record { below = b; depth = d; feeder = z; drawer = k.drawer.items }) h
entry_joined Drawer b d k v q h = ap (λ z. record { below = b; depth = d; feeder = k.feeder.items; drawer = z }) h
