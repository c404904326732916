-- What the prompt memory does: each store lands in the call that makes it, so nothing ever waits.
use Rattle.std.specs.Prelude.{◌≡◌, ℕ, ◌<◌, List, [], length, slice_index, slice_set}
use Rattle.memory.specs.Meaning.{Meaning, Call, Size, Look, Count, Store, Bar, Land, Drain}

-- these words have landed, and nothing waits
abbrev pub quiet : List ℕ → Meaning
quiet v = record { landed = v; feeder = []; drawer = [] }

-- exactly this call, from the words v to the words w
abbrev pub PromptCall : Call → List ℕ → List ℕ → Type 0
PromptCall (Size n) v w = (n ≡ length v) × (w ≡ v)
PromptCall (Look s a x) v w = (a < length v) × (x ≡ slice_index v a) × (w ≡ v)
PromptCall (Count s n) v w = (n ≡ 0) × (w ≡ v)
PromptCall (Store s a x) v w = (a < length v) × (w ≡ slice_set v a x)
PromptCall (Bar s) v w = w ≡ v
PromptCall (Land s k) v w = w ≡ v
PromptCall Drain v w = w ≡ v
