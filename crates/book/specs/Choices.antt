-- The run that the settings ask for: the kind of its items, its memory, and the buffer above.
use Rattle.std.specs.Prelude.{◌≡◌, ℕ, zero, suc, List, [], length, take as first, replicate, Ok, Err, Result}
use Rattle.words.specs.declared.kinds.Kind as kind
use Rattle.words.specs.declared.edits.Edit.{Edit}
use Rattle.words.specs.declared.readings.Reading.{Reading}
use Rattle.words.specs.contracts.items.EditKind.TheImpl as EditKind
use Rattle.words.specs.contracts.items.ReadingKind.TheImpl as ReadingKind
use Rattle.memory.specs.declared.Memory as memory
use Rattle.memory.specs.declared.prompt.Prompt.{Prompt}
use Rattle.memory.specs.declared.loose.Loose.{Loose}
use Rattle.memory.specs.declared.buffer.Buffer.{Buffer}
use Rattle.memory.specs.contracts.prompt.PromptMemory.TheImpl as PromptMemory
use Rattle.memory.specs.contracts.loose.LooseMemory.TheImpl as LooseMemory
use Rattle.memory.specs.Buffer.{Opened, parts, above, BufferCall}
use Rattle.memory.specs.Prompt.{quiet}
use Rattle.run.specs.Promised.{RanAsPromised, Unbegun}
use Rattle.run.specs.declared.faults.RunFault.{RunFault}
use Rattle.run.specs.declared.records.Record.{Record}
use Rattle.run.specs.declared.tallies.Tally.{Tally}
use Rattle.book.specs.declared.codes.ItemKind.{ItemKind}
use Rattle.book.specs.declared.codes.ItemKind.TheVariants as item
use Rattle.book.specs.declared.codes.MemoryKind.{MemoryKind}
use Rattle.book.specs.declared.codes.MemoryKind.TheVariants as memory_kind
use Rattle.book.specs.declared.settings.Settings.{Settings}
use Rattle.book.specs.Settings.{entries_of}

-- kinds and memories as the code has them
abbrev pub edits : kind.Ghosts Edit
edits = EditKind.ghosts

abbrev pub readings : kind.Ghosts Reading
readings = ReadingKind.ghosts

abbrev pub prompt : memory.Ghosts Prompt
prompt = PromptMemory.ghosts

abbrev pub loose : memory.Ghosts Loose
loose = LooseMemory.ghosts

abbrev pub buffered : {X : Type 0} → memory.Ghosts X → memory.Ghosts (Buffer X)
buffered G = record { meaning = λ b. above G (parts b); calls = λ k x y. BufferCall G k (parts x) (parts y) }

-- 529 bare words, in which nothing waits
abbrev pub Bare : {X : Type 0} → memory.Ghosts X → X → Type 0
Bare G x = G.meaning x ≡ quiet (replicate 529 0)

-- a buffer of this depth that keeps nothing, above such words
pub record BareBuffer {X : Type 0} (G : memory.Ghosts X) (depth : ℕ) (b : Buffer X) : Type 0 where
  pub below : X
  pub bare : Bare G below
  pub opened : Opened below depth b

module _ {K X : Type 0} (G : memory.Ghosts X) (κ : kind.Ghosts K) (Start : X → Type 0) (R N : ℕ) (words moves : List ℕ) where
  -- a run from such a memory, with a log of 1,024 places, and the records that it leaves there
  pub record Begun (t : Tally) (records : List Record) : Type 0 where
    pub start : X
    pub end : X
    pub before : List Record
    pub after : List Record
    pub starts : Start start
    pub places : (length before ≡ 1024) × (length after ≡ 1024)
    pub ran : RanAsPromised G κ R N words moves start before after t end
    pub recorded : records ≡ first t.calls after

  -- a run that does not begin leaves none
  pub record NotBegun (why : RunFault) (records : List Record) : Type 0 where
    pub start : X
    pub end : X
    pub starts : Start start
    pub unbegun : Unbegun G κ R N words why start end
    pub recorded : records ≡ []

  abbrev pub ComesTo : Result Tally RunFault → List Record → Type 0
  ComesTo (Ok t) records = Begun t records
  ComesTo (Err why) records = NotBegun why records

-- on the memory itself, or on a buffer of this depth above it
abbrev pub WithDepth : {K X : Type 0} → memory.Ghosts X → kind.Ghosts K → ℕ → ℕ → ℕ → List ℕ → List ℕ → Result Tally RunFault → List Record → Type 0
WithDepth G κ zero = ComesTo G κ (Bare G)
WithDepth G κ (suc d) = ComesTo (buffered G) κ (BareBuffer G (suc d))

abbrev pub WithMemory : {K : Type 0} → kind.Ghosts K → MemoryKind → ℕ → ℕ → ℕ → List ℕ → List ℕ → Result Tally RunFault → List Record → Type 0
WithMemory κ memory_kind.Prompt = WithDepth prompt κ
WithMemory κ memory_kind.Loose = WithDepth loose κ

abbrev pub WithKind : ItemKind → MemoryKind → ℕ → ℕ → ℕ → List ℕ → List ℕ → Result Tally RunFault → List Record → Type 0
WithKind item.Edit = WithMemory edits
WithKind item.Reading = WithMemory readings

-- a run of these words and moves by the settings, and the records of its log
abbrev pub RunBy : Settings → List ℕ → List ℕ → Result Tally RunFault → List Record → Type 0
RunBy s words moves r records = WithKind s.kind s.memory (entries_of s.depth) s.rings s.cells words moves r records

-- the records that a run leaves at the start of its log
abbrev pub records_in : Result Tally RunFault → List Record → List Record
records_in (Ok t) log = first t.calls log
records_in (Err why) log = []
