-- Which memory call a request makes, and what its answer says.
use Rattle.std.specs.Prelude.{◌≡◌, Result, MatchResult}
use Rattle.waiting.specs.declared.request.Request.{Request}
use Rattle.waiting.specs.declared.request.Request.TheVariants as Ask
use Rattle.waiting.specs.declared.request.Answer.{Answer}
use Rattle.waiting.specs.declared.request.Answer.TheVariants as Told
use Rattle.memory.specs.declared.Memory.{Ghosts}
use Rattle.memory.specs.declared.NoAddress.{NoAddress}
use Rattle.memory.specs.Meaning.{Made, NoPlace, Call, Size, Look, Count, Store, Bar, Land, Drain}

module _ {X : Type 0} (G : Ghosts X) where
  abbrev pub Makes : Call → X → X → Type 0
  Makes k x y = Made G.meaning G.calls k x y

  -- exactly the call asked for was made, with this answer
  abbrev pub Tells : Request → Answer → X → X → Type 0
  Tells Ask.Size (Told.Number n) x y = Makes (Size n) x y
  Tells Ask.Size (Told.Word w) x y = ⊥
  Tells Ask.Size Told.Done x y = ⊥
  Tells (Ask.Look s a) (Told.Number n) x y = ⊥
  Tells (Ask.Look s a) (Told.Word w) x y = Makes (Look s a w) x y
  Tells (Ask.Look s a) Told.Done x y = ⊥
  Tells (Ask.Count s) (Told.Number n) x y = Makes (Count s n) x y
  Tells (Ask.Count s) (Told.Word w) x y = ⊥
  Tells (Ask.Count s) Told.Done x y = ⊥
  Tells (Ask.Store s a w) t x y = (t ≡ Told.Done) × Makes (Store s a w) x y
  Tells (Ask.Bar s) t x y = (t ≡ Told.Done) × Makes (Bar s) x y
  Tells (Ask.Land s k) t x y = (t ≡ Told.Done) × Makes (Land s k) x y
  Tells Ask.Drain t x y = (t ≡ Told.Done) × Makes Drain x y

  -- a call that names an address was refused for want of it, with nothing changed
  abbrev pub Refuses : Request → NoAddress → X → X → Type 0
  Refuses (Ask.Look s a) e x y = NoPlace G.meaning a e.address x y
  Refuses (Ask.Store s a w) e x y = NoPlace G.meaning a e.address x y
  Refuses Ask.Size e x y = ⊥
  Refuses (Ask.Count s) e x y = ⊥
  Refuses (Ask.Bar s) e x y = ⊥
  Refuses (Ask.Land s k) e x y = ⊥
  Refuses Ask.Drain e x y = ⊥

  -- exactly the call asked for was made, with this answer; a refusal names the address and changes nothing
  abbrev pub Answered : Request → Result Answer NoAddress → X → X → Type 0
  Answered q r x y = MatchResult r (λ t. Tells q t x y) (λ e. Refuses q e x y)
