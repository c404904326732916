-- The promise: what institutes may rely on, of every history of an opened lane.
use Rattle.std.specs.Prelude.{◌≡◌, ℕ, ◌+◌, ◌-◌, ◌*◌, ◌<◌, ◌≤◌, true, ◌⊎◌, List, [], ◌∷◌, ◌++◌, length, take as first, Some, None, Option}
use Rattle.memory.specs.declared.Memory as memory
use Rattle.words.specs.declared.kinds.Kind as kind
use Rattle.lane.specs.declared.answers.Ended.{Ended}
use Rattle.lane.specs.declared.answers.PutAnswer.{PutAnswer}
use Rattle.lane.specs.declared.answers.PutAnswer.TheVariants as put
use Rattle.lane.specs.declared.answers.PutAnswer.TheVariants.{NoRing}
use Rattle.lane.specs.declared.answers.TakeAnswer.{TakeAnswer}
use Rattle.lane.specs.declared.answers.TakeAnswer.TheVariants as take
use Rattle.lane.specs.declared.answers.TakeAnswer.TheVariants.{Taken, Empty}
use Rattle.lane.specs.Layout.{Shaped}
use Rattle.lane.specs.Moments.{Moment}
use Rattle.lane.specs.Openings.{Opens, opened}
use Rattle.queue.specs.Waiting.{waiting}
use Rattle.queue.specs.History.{Event, begins_put, steps_put, begins_take, steps_take, lands, drains, refuses, Leads}
use Rattle.queue.specs.Calls.{Sight, PutCall, Account, ended, arrived, waiting_for_cells, sight, noted, nothing_yet, puts, takes, accepted, taken}

abbrev pub All : {A : Type 0} → (A → Type 0) → List A → Type 0
All P [] = Unit {0}
All P (x ∷ xs) = P x × All P xs

abbrev pub SomeOf : {A : Type 0} → (A → Type 0) → List A → Type 0
SomeOf P [] = ⊥
SomeOf P (x ∷ xs) = P x ⊎ SomeOf P xs

-- a call under way has made fewer than n steps; one that is over made at most n, and its answer tells how many
abbrev pub Within : {A : Type 0} → ℕ → Option (Ended A) → ℕ → Type 0
Within n None k = k < n
Within n (Some e) k = (k ≤ n) × (e.steps ≡ k)

-- each event, after those before it
abbrev pub Throughout : {K : Type 0} → (Account K → Event K → Type 0) → Account K → List (Event K) → Type 0
Throughout P b [] = Unit {0}
Throughout P b (e ∷ h) = P b e × Throughout P (noted b e) h

module _ {K : Type 0} (R N : ℕ) where
  -- neither the list of untaken items nor the number of them that have arrived has changed
  abbrev pub SameLine : Sight K → Sight K → Type 0
  SameLine s t = (t.untaken ≡ s.untaken) × (arrived R N t ≡ arrived R N s)

  -- accepting appends the item of the put under way; a refusal changes nothing
  abbrev pub PutMovesLine : Option (PutCall K) → Sight K → Sight K → Option (Ended (PutAnswer K)) → Type 0
  PutMovesLine p s t None = t.untaken ≡ s.untaken
  PutMovesLine p s t (Some e) = elim e.answer [ put.Accepted ↦ (c : PutCall K) → p ≡ Some c → t.untaken ≡ s.untaken ++ (c.item ∷ []) | put.NoRing i ↦ SameLine s t | put.Damaged ↦ SameLine s t ]

  -- taking removes the first item, which has arrived; a refusal changes nothing
  abbrev pub TakeMovesLine : Sight K → Sight K → Option (Ended (TakeAnswer K)) → Type 0
  TakeMovesLine s t None = t.untaken ≡ s.untaken
  TakeMovesLine s t (Some e) = elim e.answer [ take.Taken i ↦ (s.untaken ≡ i ∷ t.untaken) × (0 < arrived R N s) | take.Empty ↦ SameLine s t | take.Damaged ↦ SameLine s t ]

  -- what an event makes of the line
  abbrev pub MovesLine : Account K → Event K → Type 0
  MovesLine b (begins_put i) = Unit {0}
  MovesLine b (steps_put x y a) = PutMovesLine b.putting (sight b x) (sight (noted b (steps_put x y a)) y) a
  MovesLine b begins_take = Unit {0}
  MovesLine b (steps_take x y a) = TakeMovesLine (sight b x) (sight (noted b (steps_take x y a)) y) a
  MovesLine b (lands s p) = Unit {0}
  MovesLine b drains = Unit {0}
  MovesLine b refuses = Unit {0}

  pub record Promise (h : List (Event K)) : Type 0 where
    -- the items taken are the first of those accepted, in their order
    pub taken_in_order : taken h ≡ first (length (taken h)) (accepted h)
    -- a take is empty only if one of its own steps met no arrived item that was untaken
    pub empty_is_honest : All
        (λ c. (n : ℕ) → c.answer ≡ ended Empty n → SomeOf (λ s. arrived R N s ≡ 0) c.met)
        (takes h)
    -- a take begun right after a drain with both sides idle answers, once over, the oldest item that was untaken when it began
    pub nothing_missed_after_drain : All
        (λ c. (i : K) (us : List K) (e : Ended (TakeAnswer K)) → c.after_drain ≡ true → c.began ≡ i ∷ us → c.answer ≡ Some e → e.answer ≡ Taken i)
        (takes h)
    -- a put is over within 8 own steps, a take within 9, and the answer tells their number
    pub put_within_8 : All (λ c. Within 8 c.answer (length c.met)) (puts h)
    pub take_within_9 : All (λ c. Within 9 c.answer (length c.met)) (takes h)
    -- a put whose first step met no waiting store lacks a ring only if at least (R - 1) × N items were untaken at that step
    pub sure_room : All
        (λ c. (i : K) (n : ℕ) (s : Sight K) (later : List (Sight K)) → c.answer ≡ ended (NoRing i) n → c.met ≡ s ∷ later → waiting s.memory ≡ 0 → (R - 1) * N ≤ length s.untaken)
        (puts h)
    -- the item that a put gives back is the one that it offered
    pub item_given_back : All (λ c. (i : K) (n : ℕ) → c.answer ≡ ended (NoRing i) n → i ≡ c.item) (puts h)
    -- accepting appends, taking removes the first, which has arrived, and a refusal changes neither list nor number
    pub line_moves : Throughout MovesLine nothing_yet h
    -- each untaken item has arrived, or its store waits for a cell
    pub arrived_or_waiting : All
        (λ c. All (λ s. arrived R N s + waiting_for_cells R N s ≡ length s.untaken) c.met)
        (takes h)

-- every history of every opened lane keeps the promise
abbrev pub PromiseKept : {K X : Type 0} → memory.Ghosts X → kind.Ghosts K → Type 0
PromiseKept {K} {X} G κ = (number R N : ℕ) (x y : X) (h : List (Event K)) (end : Moment K X) → Shaped R N → Opens G R N x y → Leads G κ (opened number R N y) h end → Promise R N h
