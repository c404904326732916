-- No memory call changes how many addresses there are.
use Rattle.std.proofs.Common.{◌≡◌, ℕ, ◌≤◌, length, refl, ap, ◌∙◌, length-set}
use Rattle.memory.specs.declared.Memory as memory
use Rattle.memory.specs.declared.Side.{Side}
use Rattle.memory.specs.declared.Side.TheVariants.{Feeder, Drawer}
use Rattle.memory.specs.Meaning.{Meaning, Entry, store, bar, Lands, Landings, none, next, with_line, joined, Call, Size, Look, Count, Store, Bar, Land, Drain, Rule}
use Rattle.lane.specs.Layout.{words_of}
use Rattle.lane.specs.Calls.{Makes}
use Rattle.lane.specs.Openings.{Opens, Filled, bare_start, one_more}

abbrev pub extent : Meaning → ℕ
extent m = length m.landed

extent_line : (s : Side) (l : _) (m : Meaning) → extent (with_line s l m) ≡ extent m
extent_line Feeder l m = refl
extent_line Drawer l m = refl

extent_lands : {s : Side} {a w : ℕ} {m n : Meaning} → Lands s a w m n → extent n ≡ extent m
extent_lands {s} {a} {w} {m} {n} h = ap extent h.after ∙ (extent_line s _ _ ∙ length-set m.landed a w)

pub extent_landings : {m n : Meaning} → Landings m n → extent n ≡ extent m
extent_landings none = refl
extent_landings (next s a w h r) = extent_landings r ∙ extent_lands h

extent_joined : (s : Side) (e : Entry) (m : Meaning) → extent (joined s e m) ≡ extent m
extent_joined s e m = extent_line s _ m

pub extent_kept : (k : Call) (m o : Meaning) → Rule k m o → extent o ≡ extent m
extent_kept (Size n) m o h = ap extent h.1
extent_kept (Look s a w) m o h = ap extent h.2
extent_kept (Count s n) m o h = ap extent h.1
extent_kept (Store s a w) m o h = extent_landings h.1 ∙ extent_joined s (store a w) m
extent_kept (Bar s) m o h = extent_landings h ∙ extent_joined s bar m
extent_kept (Land s p) m o h = extent_landings h.0
extent_kept Drain m o h = extent_landings h.0

pub made_extent : {X : Type 0} (G : memory.Ghosts X) {k : Call} {x y : X} → Makes G k x y → extent (G.meaning y) ≡ extent (G.meaning x)
made_extent G {k} {x} {y} h = extent_kept k (G.meaning x) (G.meaning y) h.rule

module _ {X : Type 0} (G : memory.Ghosts X) (R N : ℕ) where
  filled_size : {x : X} {a : ℕ} {y : X} → Filled G R N x a y → extent (G.meaning y) ≡ extent (G.meaning x)
  filled_size bare_start = refl
  filled_size (one_more r h) = made_extent G h ∙ filled_size r

  -- an opened lane has room for its words
  pub opens_room : {x y : X} → Opens G R N x y → words_of R N ≤ extent (G.meaning y)
  opens_room {x} {y} o =
      let e = made_extent G o.second_drain ∙ (filled_size o.stores ∙ (made_extent G o.first_drain ∙ made_extent G o.asked)) in
      rw (e, ← o.asked.rule.0) o.enough
