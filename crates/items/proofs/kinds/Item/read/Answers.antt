use Rattle.std.proofs.Common.{◌≡◌, ℕ, Result, Ok, Err, arith, rules}
use Rattle.std.specs.Result.{MatchResult, IsOkAnd}
use Rattle.words.specs.declared.rings.RingNumber.{RingNumber}
use Rattle.words.specs.Words.{ring_word}
use Rattle.items.specs.Items.{NoItemOf}
use Rattle.items.specs.declared.kinds.Item.TheVariants as item
use Rattle.items.specs.declared.kinds.KindName.TheVariants as kind
use Rattle.items.proofs.kinds.Item.read.Goals as goal

no_ring : (w : ℕ) → ((n : RingNumber) → ring_word n ≡ w → ⊥) → NoItemOf kind.Ring w
no_ring w h (item.Edit e) k = grind arith
no_ring w h (item.Reading r) k = grind arith
no_ring w h (item.Ring n) k = h n

mapped :
    {A B E : Type 0} {Read : A → Type 0} {Kept : B → Type 0} {Refused Gone : E → Type 0} {Told : A → B → Type 0}
    (read : Result A E) (got : Result B E) →
    MatchResult read Read Refused →
    MatchResult read (λ x. IsOkAnd got (Told x)) (λ e. got ≡ Err e) →
    ((x : A) (y : B) → Read x → Told x y → Kept y) →
    ((e : E) → Refused e → Gone e) →
    MatchResult got Kept Gone
mapped (Ok x) (Ok y) r t k g = k x y r t
mapped (Ok x) (Err e) r t k g = absurd t
mapped (Err e) got r t k g = rw t (g e r)

pub returns-in-Ring : goal.returns-in-Ring
returns-in-Ring c = mapped c.read-in-Ring.result c.map-in-Ring.result c.read-in-Ring.ensures c.map-in-Ring.ensures.cases (λ x y r t. search rules) (λ e r. rw c.in-Ring.is (r.0, no_ring c.args.word r.1))
